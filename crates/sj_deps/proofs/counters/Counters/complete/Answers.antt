use Rattle.std.proofs.Common.{◌≡◌, ◌+◌, ◌<◌, ◌≤◌, ap, refl, sym, subst, arith, rules, length, ◌∙◌, count_by, cond, ℕ, List, Bool, true}
use Rattle.std.specs.Prelude.{All}
use Rattle.std.proofs.lemmas.Grind.{common_steps}
use Rattle.std.proofs.lemmas.List.{length-set}
use Rattle.std.proofs.lemmas.List.Sorted.{sum_by-IsPermutation}
use Rattle.sj_base.specs.declared.ids.Task.{Task}
use Rattle.sj_deps.specs.Chains.{is_party, left_of, waits_of}
use Rattle.sj_deps.specs.Counts.{CountsFit, Frees, is_task, owed, parties_at, tasks_at}
use Rattle.sj_deps.proofs.Completing.{opened_known, owed_is, owed_enough}
use Rattle.sj_deps.proofs.counters.Counters.complete.Goals as goal

pub free_all-requires-clause-parties : goal.free_all-requires-clause-parties
free_all-requires-clause-parties c =
    let known = opened_known c.args.self.now c.requires.ledger c.leave_all.new.waits.items c.clear.new.self.items c.leave_all.new.opened.items c.clear.ensures.items c.leave_all.ensures.answers in
    subst (λ (ns : List ℕ). All (λ n. n < length c.deref-2.result.now) ns) (sym c.deref-3.ensures.value) (subst (λ (ts : List (List Task)). All (λ n. n < length ts) c.leave_all.new.opened.items) (sym c.deref-2.ensures.value) known)

pub free_all-requires-clause-enough : goal.free_all-requires-clause-enough
free_all-requires-clause-enough c =
    let enough = owed_enough c.args.self.now c.requires.ledger c.leave_all.new.waits.items c.clear.new.self.items c.leave_all.new.opened.items c.clear.ensures.items c.leave_all.ensures.answers in
    λ t. subst (λ (ns : List ℕ). owed c.deref-2.result.now ns t ≤ waits_of c.args.self.now.held.items t) (sym c.deref-3.ensures.value) (subst (λ (ts : List (List Task)). owed ts c.leave_all.new.opened.items t ≤ waits_of c.args.self.now.held.items t) (sym c.deref-2.ensures.value) (enough t))

pub returns : goal.returns
returns c =
    let old = c.args.self.now in
    let ledger = c.requires.ledger in
    let row : c.items.result.now ≡ parties_at old.parties.items c.args.t.0 = first_of (search rules, grind (arith, common_steps)) in
    let answers = c.leave_all.ensures.answers in
    let owes = owed_is old ledger c.leave_all.new.waits.items c.clear.new.self.items c.leave_all.new.opened.items c.clear.ensures.items answers in
    let frees : Frees old.held.items c.free_all.new.held.items c.clear-2.new.self.items c.free_all.new.ready.items (owed old.tasks.items c.leave_all.new.opened.items) = subst (λ (ts : List (List Task)). Frees old.held.items c.free_all.new.held.items c.clear-2.new.self.items c.free_all.new.ready.items (owed ts c.leave_all.new.opened.items)) c.deref-2.ensures.value (subst (λ (ns : List ℕ). Frees old.held.items c.free_all.new.held.items c.clear-2.new.self.items c.free_all.new.ready.items (owed c.deref-2.result.now ns)) c.deref-3.ensures.value c.free_all.ensures.frees) in
    record {
      order = grind (arith, common_steps);
      flags = refl {A = List Bool};
      cells = refl {A = List (List ℕ)};
      tasks = refl {A = List (List Task)};
      parties = refl {A = List (List ℕ)};
      chains = c.leave_all.ensures.chains;
      ledger = record {
        fits = subst (λ (rows : List (List ℕ)). CountsFit c.leave_all.new.left.items c.leave_all.new.chains.items rows c.leave_all.new.waits.items) c.deref.ensures.value c.leave_all.ensures.fits;
        matching = ledger.matching;
        held = λ u. let a = frees.held u in let b = owes u in omega arith;
        tasks = λ n. subst (λ k. All (λ (x : Task). x.0 < k) (tasks_at old.tasks.items n)) (sym frees.len) (ledger.tasks n);
        parties = ledger.parties;
        every_row = ledger.every_row;
        every_wait = answers.len ∙ ledger.every_wait;
        every_left = c.leave_all.ensures.len ∙ ledger.every_left;
        every_list = ledger.every_list ∙ sym frees.len;
        every_flag = length-set old.is_done.items c.args.t.0 true ∙ ledger.every_flag ∙ sym frees.len;
        room_opened = let a = c.leave_all.ensures.capacity in let b = c.clear.ensures.capacity in let d = ledger.room_opened in omega arith;
        room_ready = let a = c.free_all.ensures.capacity in let b = c.clear-2.ensures.capacity in let d = ledger.room_ready in let e = c.sort.ensures.capacity in let f = frees.len in omega arith;
      };
      left = λ n. subst (λ (ns : List ℕ). left_of c.leave_all.new.left.items n + count_by (is_party n) ns ≡ left_of old.left.items n) row (c.leave_all.ensures.left n);
      len = frees.len;
      answers = λ u.
          let same = sum_by-IsPermutation (λ x. cond {A = ℕ} (is_task u x) 1 0) _ _ c.sort.ensures.permutation in
          let law = frees.ready u in
          let start : count_by (is_task u) c.clear-2.new.self.items ≡ 0 = ap (count_by (is_task u)) c.clear-2.ensures.items in
          omega arith;
      sorted = c.sort.ensures.sorted;
      room_done = c.push.ensures.capacity;
    }
