-- Before anything is entered, when all is, and the counters that start there.
use Rattle.std.proofs.Common.{◌≡◌, ℕ, ◌+◌, ◌<◌, ◌≤◌, Bool, false, not, cond, List, [], ◌∷◌, length, map, replicate, sym, ap, refl, ◌∙◌, subst, arith, ⊎_elim, slice_index_or, nat_eq}
use Rattle.std.specs.Prelude.{Contains, All, None, slice_get, vec_capacity}
use Rattle.std.specs.List.{count_by, range_with_len}
use Rattle.std.proofs.lemmas.List.{get_or_default, get_or_past, get_or-map, get_or-replicate, length-map, length-replicate}
use Rattle.std.proofs.lemmas.List.FromFn.{length-map-range_with_len, get_or-map-range_with_len}
use Rattle.std.proofs.lemmas.List.Sums.{sum_by-cons, count_by-le-length}
use Rattle.std.proofs.lemmas.List.Elements.{Contains-push, All-from_get_or}
use Rattle.std.proofs.lemmas.Option.{slice_get_past}
use Rattle.std.proofs.lemmas.Bool.{cases_lt, both_ways, ne_eqb}
use Rattle.sj_base.specs.declared.ids.Task.{Task}
use Rattle.sj_base.specs.declared.program.Program.{Program}
use Rattle.sj_base.specs.Ids.{task}
use Rattle.sj_base.proofs.Lists.{get_or-replicate_same}
use Rattle.sj_deps.specs.declared.manner.Manner.{Manner}
use Rattle.sj_deps.specs.Conflict.{Uses, HasDependencies, usages}
use Rattle.sj_deps.specs.declared.chain.Chain.{Chain}
use Rattle.sj_deps.specs.declared.chain.Member.{Member}
use Rattle.sj_deps.specs.declared.counters.Counters.{Counters}
use Rattle.sj_deps.specs.declared.entry.Entered.{Entered}
use Rattle.sj_deps.specs.Chains.{no_chain, no_member, chain_at, members_at, is_of, left_of, waits_of, wanted, CountsChain}
use Rattle.sj_deps.specs.Counts.{Begun, Built, Entering, HoldsAccesses, HoldsAll, In, Mutual, Present, blocked, cells_at, is_task, parties_at, tasks_at, undone_among}
use Rattle.sj_deps.specs.Progress.{KeepsCounts}
use Rattle.sj_deps.proofs.Counting.{below_cases}
use Rattle.sj_deps.proofs.Entering.{single_is}
use Rattle.sj_deps.proofs.Keeping.{party_counted}
use Rattle.sj_deps.proofs.Leaving.{CountsChain-agree}
use Rattle.sj_deps.proofs.Places.{wanted_none}
use Rattle.sj_deps.proofs.Readiness.{flag_at}

-- the next task, when all accesses of one are entered
pub Entering-next : (P : Program) (t : ℕ) (e : Entered) → Entering P t (usages P t) e → Entering P (t + 1) [] e
Entering-next P t e at_end = record {
  holds = at_end.holds;
  before = λ u c m below uses. ⊎_elim (λ lower. at_end.before u c m lower uses) (λ last. subst (λ n. Present e.chains.items e.tasks.items n c m) (sym last) (at_end.current c m (subst (λ n. Uses P n c m) last uses))) (below_cases u t (omega arith));
  current = λ c m h. absurd (let some = h.1 in omega arith);
  upto = λ c p u h by. let most = at_end.upto c p u h by in omega arith;
}

no_tracks : CountsChain [] no_chain 0
no_tracks = record {
  within = omega arith;
  counted = refl;
  later = λ p late within. refl;
  earlier = λ p q inner cut below. absurd (omega arith);
  boundary = λ p edge within. absurd (omega arith);
  waiting = λ within. absurd (omega arith);
}

usages_none : (P : Program) (t : ℕ) → slice_get P.tasks t ≡ None → usages P t ≡ []
usages_none P t gone = rw (gone, usages) refl

-- only a task of the program accesses a cell
pub Uses-task : (P : Program) (t c : ℕ) (m : Manner) → Uses P t c m → t < length P.tasks
Uses-task P t c m uses =
    ⊎_elim (λ inside. inside) (λ past.
    let gone : slice_get P.tasks t ≡ None = slice_get_past P.tasks t past in
    let none : length (usages P t) ≡ 0 = ap length (usages_none P t gone) in
    let some = uses.1 in
    absurd (omega arith)) (cases_lt t (length P.tasks))

abbrev singles : ℕ → List (List Task)
singles n = map (λ t. task t ∷ []) (range_with_len 0 n)

single_at : (n t : ℕ) → t < n → tasks_at (singles n) t ≡ task t ∷ []
single_at n t h = get_or-map-range_with_len (λ t. task t ∷ []) 0 n t t [] h (omega arith)

single_in : (n t : ℕ) → t < n → In (singles n) t t
single_in n t h = subst (λ (ts : List Task). Contains ts (task t)) (sym (single_at n t h)) (Contains-push [] (task t))

single_only : (n k t : ℕ) → In (singles n) k t → t < n
single_only n k t by =
    ⊎_elim (λ inside. let same = single_is k t (subst (λ (ts : List Task). Contains ts (task t)) (single_at n k inside) by) in omega arith) (λ past.
    let long = length-map-range_with_len (λ (t : ℕ). task t ∷ []) 0 n in
    let none : length (tasks_at (singles n) k) ≡ 0 = ap (λ (ts : List Task). length ts) (get_or_past (singles n) k [] (omega arith)) in
    let some = by.1 in
    absurd (omega arith)) (cases_lt k n)

-- nothing is entered yet
module _ (P : Program) (e : Entered) (chains_are : e.chains.items ≡ replicate (length P.cells) no_chain) (cells_are : e.cells.items ≡ replicate (length P.tasks) []) (tasks_are : e.tasks.items ≡ singles (length P.tasks)) (waits_are : e.waits.items ≡ replicate (length P.tasks) 0) (flags_are : length e.is_closed.items ≡ length P.tasks) where
  empty : (c : ℕ) → chain_at e.chains.items c ≡ no_chain
  empty c = ap (λ (cs : List Chain). chain_at cs c) chains_are ∙ ⊎_elim (λ inside. get_or-replicate (length P.cells) c no_chain no_chain inside) (λ past. get_or_past (replicate (length P.cells) no_chain) c no_chain (rw length-replicate past)) (cases_lt c (length P.cells))

  none : (c : ℕ) → length (members_at e.chains.items c) ≡ 0
  none c = ap (λ (ch : Chain). length ch.members) (empty c)

  no_cells : (n : ℕ) → cells_at e.cells.items n ≡ []
  no_cells n = ap (λ (cs : List (List ℕ)). cells_at cs n) cells_are ∙ ⊎_elim (λ inside. get_or-replicate (length P.tasks) n [] [] inside) (λ past. get_or_past (replicate (length P.tasks) []) n [] (rw length-replicate past)) (cases_lt n (length P.tasks))

  no_waits : (n : ℕ) → waits_of e.waits.items n ≡ 0
  no_waits n = ap (λ w. waits_of w n) waits_are ∙ ⊎_elim (λ inside. get_or-replicate (length P.tasks) n 0 0 inside) (λ past. get_or_past (replicate (length P.tasks) 0) n 0 (rw length-replicate past)) (cases_lt n (length P.tasks))

  tasks_len : length e.tasks.items ≡ length P.tasks
  tasks_len = ap length tasks_are ∙ length-map-range_with_len (λ (t : ℕ). task t ∷ []) 0 (length P.tasks)

  pub Begun-none : Begun e
  Begun-none = record {
    tracks = λ c. subst (λ (ch : Chain). CountsChain [] ch 0) (sym (empty c)) no_tracks;
    waits = λ n. no_waits n ∙ sym (wanted_none e.chains.items n (λ c q inside late within same. let z = none c in omega arith));
    closed = λ c p h. absurd (let z = none c in omega arith);
    every_wait = ap length waits_are ∙ length-replicate (length P.tasks) 0 ∙ sym tasks_len;
    every_flag = flags_are ∙ sym tasks_len;
    parties = λ c p h. absurd (let z = none c in omega arith);
  }

  pub Entering-none : Entering P 0 [] e
  Entering-none = record {
    holds = record {
      every_cell = ap length chains_are ∙ length-replicate (length P.cells) no_chain;
      every_party = ap length cells_are ∙ length-replicate (length P.tasks) [] ∙ sym tasks_len;
      every_task = let len = tasks_len in omega arith;
      itself = λ t h. ap (λ (ts : List (List Task)). tasks_at ts t) tasks_are ∙ single_at (length P.tasks) t h;
      some = λ n h. let len = tasks_len in (n, omega arith, subst (λ (ts : List (List Task)). In ts n n) (sym tasks_are) (single_in (length P.tasks) n (omega arith)));
      inside = λ n t by. single_only (length P.tasks) n t (subst (λ (ts : List (List Task)). In ts n t) tasks_are by);
      known = λ c p h. absurd (let z = none c in omega arith);
      sound = λ c p t h by. absurd (let z = none c in omega arith);
      ordered = λ c i j u t order h a b. absurd (let z = none c in omega arith);
      own = λ c p t h by. absurd (let z = none c in omega arith);
      once = λ c i j t order h a b. absurd (let z = none c in omega arith);
      phases = λ c p h yes. absurd (let z = none c in omega arith);
      listed = λ n c. ap (count_by (λ d. nat_eq d c)) (no_cells n) ∙ sym (ap (λ (ch : Chain). count_by (is_of n) ch.members) (empty c));
    };
    before = λ u c m below uses. absurd (omega arith);
    current = λ c m h. absurd (let some = h.1 in omega arith);
    upto = λ c p u h by. absurd (let z = none c in omega arith);
  }

-- all tasks are entered
pub Built-all : (P : Program) (e : Entered) → Begun e → Entering P (length P.tasks) [] e → Built P e
Built-all P e begun at_end = record {
  holds = at_end.holds;
  all = record { complete = λ t c m uses. at_end.before t c m (Uses-task P t c m uses) uses };
  begun = begun;
}

undone_all : (flags : List Bool) → ((t : ℕ) → flag_at flags t ≡ false) → (ts : List Task) → undone_among flags ts ≡ length ts
undone_all flags idle [] = refl
undone_all flags idle (x ∷ ts) =
    let a = sum_by-cons (λ (y : Task). cond {A = ℕ} (not (flag_at flags y.0)) 1 0) x ts in
    let one : cond {A = ℕ} (not (flag_at flags x.0)) 1 0 ≡ 1 = ap (λ b. cond {A = ℕ} (not b) 1 0) (idle x.0) in
    let rest = undone_all flags idle ts in
    omega arith

-- the parties of a task, and the tasks of a party, are among all
pub party_below : (parties : List (List ℕ)) (tasks : List (List Task)) → Mutual parties tasks → (t i d : ℕ) → i < length (parties_at parties t) → slice_index_or (parties_at parties t) i d < length tasks
party_below parties tasks matching t i d h =
    let ns = parties_at parties t in
    let same : slice_index_or ns i d ≡ slice_index_or ns i 0 = get_or_default ns i d 0 h in
    let n : ℕ = slice_index_or ns i 0 in
    let some = party_counted ns i h in
    let e = matching t n in
    ⊎_elim (λ here. omega arith) (λ past.
    let gone : count_by (is_task t) (tasks_at tasks n) ≡ 0 = ap (count_by (is_task t)) (get_or_past tasks n [] past) in
    absurd (omega arith)) (cases_lt n (length tasks))

pub built_tasks : (P : Program) (e : Entered) → Built P e → (n : ℕ) → All (λ (x : Task). x.0 < length P.tasks) (tasks_at e.tasks.items n)
built_tasks P e built n = λ i d h.
    let ts = tasks_at e.tasks.items n in
    let x : Task = slice_index_or ts i d in
    built.holds.inside n x.0 (i, h, get_or_default ts i (task x.0) d h)

pub built_parties : (P : Program) (e : Entered) → Built P e → (parties : List (List ℕ)) → Mutual parties e.tasks.items → All (All (λ n. n < length e.waits.items)) parties
built_parties P e built parties matching = All-from_get_or (All (λ n. n < length e.waits.items)) parties [] (λ t h i d inner. let below = party_below parties e.tasks.items matching t i d inner in let every = built.begun.every_wait in omega arith)

module _ (P : Program) (c : Counters) (deps : HasDependencies P) (holds : HoldsAccesses P c.chains.items c.cells.items c.tasks.items) (all : HoldsAll P c.chains.items c.tasks.items) (tracks : (d : ℕ) → CountsChain [] (chain_at c.chains.items d) 0) (waits : (n : ℕ) → waits_of c.waits.items n ≡ wanted c.chains.items n) (every_wait : length c.waits.items ≡ length c.tasks.items) (left_are : c.left.items ≡ map (λ ts. length ts) c.tasks.items) (parties_len : length c.parties.items ≡ length P.tasks) (matching : Mutual c.parties.items c.tasks.items) (held_are : c.held.items ≡ map (blocked c.waits.items) c.parties.items) (unmarked : c.is_done.items ≡ replicate (length P.tasks) false) (none : c.order.items ≡ []) (room_done : length P.tasks ≤ vec_capacity c.order) (room_opened : length c.tasks.items ≤ vec_capacity c.opened) (room_ready : length P.tasks ≤ vec_capacity c.ready) where
  flag_none : (t : ℕ) → flag_at c.is_done.items t ≡ false
  flag_none t = ap (λ fs. flag_at fs t) unmarked ∙ get_or-replicate_same (length P.tasks) t false

  left_is : (n : ℕ) → n < length c.tasks.items → left_of c.left.items n ≡ length (tasks_at c.tasks.items n)
  left_is n h = ap (λ l. left_of l n) left_are ∙ get_or-map (λ (ts : List Task). length ts) c.tasks.items n [] 1 h

  left_len : length c.left.items ≡ length c.tasks.items
  left_len = ap length left_are ∙ length-map c.tasks.items (λ (ts : List Task). length ts)

  left_some : (n : ℕ) → 0 < left_of c.left.items n
  left_some n =
      ⊎_elim (λ here.
      let is = left_is n here in
      let s = holds.some n here in
      let within = s.2.1 in
      omega arith) (λ past.
      let len = left_len in
      let one = get_or_past c.left.items n 1 (omega arith) in
      omega arith) (cases_lt n (length c.tasks.items))

  held_len : length c.held.items ≡ length P.tasks
  held_len = ap length held_are ∙ length-map c.parties.items (blocked c.waits.items) ∙ parties_len

  held_is : (t : ℕ) → waits_of c.held.items t ≡ blocked c.waits.items (parties_at c.parties.items t)
  held_is t =
      ⊎_elim (λ here. ap (λ h. waits_of h t) held_are ∙ get_or-map (blocked c.waits.items) c.parties.items t [] 0 here) (λ past.
      let len = held_len in
      let one : waits_of c.held.items t ≡ 0 = get_or_past c.held.items t 0 (omega arith) in
      let other : blocked c.waits.items (parties_at c.parties.items t) ≡ 0 = ap (blocked c.waits.items) (get_or_past c.parties.items t [] past) in
      omega arith) (cases_lt t (length c.parties.items))

  task_inside : (n i : ℕ) (d : Task) → i < length (tasks_at c.tasks.items n) → (slice_index_or (tasks_at c.tasks.items n) i d).0 < length c.held.items
  task_inside n i d h =
      let ts = tasks_at c.tasks.items n in
      let x : Task = slice_index_or ts i d in
      let len = held_len in
      let inside = holds.inside n x.0 (i, h, get_or_default ts i (task x.0) d h) in
      omega arith

  pub Keeps-start : KeepsCounts P c
  Keeps-start =
      let flags_len : length c.is_done.items ≡ length P.tasks = ap length unmarked ∙ length-replicate (length P.tasks) false in
      let few = count_by-le-length not c.is_done.items in
      let short : length c.order.items ≡ 0 = ap length none in
      let len = held_len in
      record {
        program = deps;
        holds = holds;
        all = all;
        ledger = record {
          fits = record {
            tracks = λ d. CountsChain-agree [] c.left.items (λ m. ne_eqb _ _ (λ e. let some = left_some m.party in omega arith)) (chain_at c.chains.items d) 0 (tracks d);
            waits = waits;
            listed = holds.listed;
            parties = λ d p m h. let known = holds.known d p h in subst (λ (y : Member). y.party < length c.waits.items) (get_or_default (members_at c.chains.items d) p no_member m h) (omega arith);
          };
          matching = matching;
          held = held_is;
          tasks = task_inside;
          parties = party_below c.parties.items c.tasks.items matching;
          every_row = holds.every_party;
          every_wait = every_wait;
          every_left = left_len;
          every_list = parties_len ∙ sym held_len;
          every_flag = flags_len ∙ sym held_len;
          room_opened = room_opened;
          room_ready = omega arith;
        };
        left = λ n h. left_is n h ∙ sym (undone_all c.is_done.items flag_none (tasks_at c.tasks.items n));
        flags = record {
          flagged = λ t h. absurd (let some = h.1 in let z = short in omega arith);
          listed = λ t h. absurd (both_ways _ (flag_none t) h);
        };
        free = λ t h. absurd (both_ways _ (flag_none t) h);
        every_task = held_len;
        room_done = omega arith;
      }
