-- A task is ready exactly where it isn't done and none of its parties waits.
use Rattle.std.proofs.Common.{◌≡◌, ℕ, ◌+◌, ◌-◌, ◌<◌, ◌≤◌, Bool, true, false, not, cond, List, length, sym, ap, refl, ◌∙◌, subst, arith, ⊎_elim, slice_index_or, inr}
use Rattle.std.specs.Prelude.{◌⊎◌}
use Rattle.std.proofs.lemmas.List.{get_or_default}
use Rattle.std.proofs.lemmas.List.Sums.{get_or-le-sum_by}
use Rattle.std.proofs.lemmas.Bool.{cases_lt, cases_Bool, eq-eqb, eqb-true, both_ways, true_from_ne_false}
use Rattle.sj_base.specs.declared.ids.Task.{Task}
use Rattle.sj_base.specs.declared.program.Program.{Program}
use Rattle.sj_base.specs.Ids.{task}
use Rattle.sj_deps.specs.declared.manner.Manner.TheVariants.{Read, Contribute}
use Rattle.sj_deps.specs.Conflict.{Uses, IsShared, Conflict, Ready, HasDependencies}
use Rattle.sj_deps.specs.declared.chain.Chain.{Chain}
use Rattle.sj_deps.specs.declared.chain.Member.{Member}
use Rattle.sj_deps.specs.Chains.{joins, joined, no_member, member_at, party_at, manner_at, chain_at, members_at, is_member_done, left_of, waits_of, CountsChain}
use Rattle.sj_deps.specs.Counts.{HoldsAccesses, HoldsAll, Flags, CountsFit, In, tasks_at, undone_among}
use Rattle.sj_deps.proofs.Counting.{some_fails, some_counted}
use Rattle.sj_deps.proofs.Places.{inside_of, wanted_some, wanted_none}
use Rattle.sj_deps.proofs.Runs.{joins_cases, joins_shared, all_joined, same_manner, run_before}

-- an access before an unreleased one that isn't joined to it and isn't done
hindrance : (left : List ℕ) (ch : Chain) (q : ℕ) → CountsChain left ch 0 → ch.released ≤ q → q < length ch.members → (x : ℕ) × (x < q) × (is_member_done left (member_at ch.members x) ≡ false) × (joins (manner_at ch.members x) (manner_at ch.members q) ≡ false)
hindrance left ch q tracks late within =
    let unreleased : ch.released < length ch.members = omega arith in
    let some : ch.finished < ch.released = tracks.waiting unreleased in
    let counted = tracks.counted in
    let idle = some_fails (is_member_done left) ch.members no_member ch.released tracks.within (omega arith) in
    let e : ℕ = ch.released - 1 in
    let edge : joined ch.members e ≡ false = tracks.boundary e (omega arith) unreleased in
    let run = run_before ch.members e (q - (e + 1)) edge in
    let y : ℕ = run.0 in
    let y_before : y < q = omega arith in
    let same : manner_at ch.members q ≡ manner_at ch.members (y + 1) = ap (manner_at ch.members) (omega arith) ∙ same_manner ch.members (y + 1) (q - (y + 1)) (λ x from below. run.4 x (omega arith) (omega arith)) in
    let cut : joins (manner_at ch.members y) (manner_at ch.members q) ≡ false = ap (joins (manner_at ch.members y)) same ∙ run.3 in
    ⊎_elim (λ early.
    let last : y ≡ e = omega arith in
    let one_run : manner_at ch.members y ≡ manner_at ch.members idle.0 = ap (manner_at ch.members) (omega arith) ∙ same_manner ch.members idle.0 (e - idle.0) (λ z from below. true_from_ne_false _ (λ broken. both_ways _ idle.2 (tracks.earlier z idle.0 (omega arith) broken from))) in
    (idle.0, omega arith, idle.2, ap (λ m. joins m (manner_at ch.members q)) (sym one_run) ∙ cut)) (λ after. (y, y_before, tracks.later y after (omega arith), cut)) (cases_lt y ch.released)

-- the flag of a task
abbrev pub flag_at : List Bool → ℕ → Bool
flag_at flags t = slice_index_or flags t false

abbrev is_undone : List Bool → Task → Bool
is_undone flags x = not (flag_at flags x.0)

-- a party has a task that isn't done, or none of its tasks is left
pub undone_some : (flags : List Bool) (tasks : List (List Task)) (n : ℕ) → 0 < undone_among flags (tasks_at tasks n) → (t : ℕ) × In tasks n t × (flag_at flags t ≡ false)
undone_some flags tasks n h =
    let found = some_counted (is_undone flags) (task 0) (tasks_at tasks n) h in
    let x : Task = slice_index_or (tasks_at tasks n) found.0 (task 0) in
    let no : not (flag_at flags x.0) ≡ true = found.2 in
    (x.0, (found.0, found.1, get_or_default (tasks_at tasks n) found.0 (task x.0) (task 0) found.1), ⊎_elim (λ yes. absurd (both_ways _ (ap not yes) no)) (λ none. none) (cases_Bool (flag_at flags x.0)))

pub undone_none : (flags : List Bool) (tasks : List (List Task)) (n t : ℕ) → undone_among flags (tasks_at tasks n) ≡ 0 → In tasks n t → flag_at flags t ≡ true
undone_none flags tasks n t none here =
    true_from_ne_false _ (λ idle.
    let part = get_or-le-sum_by (λ x. cond {A = ℕ} (is_undone flags x) 1 0) (tasks_at tasks n) here.0 (task t) here.1 in
    let one : cond {A = ℕ} (is_undone flags (slice_index_or (tasks_at tasks n) here.0 (task t))) 1 0 ≡ 1 = ap (λ (x : Task). cond {A = ℕ} (is_undone flags x) 1 0) here.2 ∙ ap (λ b. cond {A = ℕ} (not b) 1 0) idle in
    absurd (omega arith))

module _ (P : Program) (deps : HasDependencies P) (chains : List Chain) (cells : List (List ℕ)) (tasks : List (List Task)) (holds : HoldsAccesses P chains cells tasks) where
  abbrev ms_of : ℕ → List Member
  ms_of c = members_at chains c

  -- accesses of one cell that the chain doesn't join conflict
  apart : (c p q u t : ℕ) → p < length (ms_of c) → q < length (ms_of c) → In tasks (party_at (ms_of c) p) u → In tasks (party_at (ms_of c) q) t → joins (manner_at (ms_of c) p) (manner_at (ms_of c) q) ≡ false → Conflict P u t
  apart c p q u t in_p in_q by_u by_t cut = record {
    cell = c;
    manner_of_t = manner_at (ms_of c) p;
    manner_of_u = manner_at (ms_of c) q;
    first = holds.sound c p u in_p by_u;
    second = holds.sound c q t in_q by_t;
    written = λ both. both_ways _ cut (rw (both.0, both.1) refl);
    apart = λ m group.
        let a : m ≡ manner_at (ms_of c) p = deps.manners _ c m _ group.first (holds.sound c p u in_p by_u) in
        let b : m ≡ manner_at (ms_of c) q = deps.manners _ c m _ group.second (holds.sound c q t in_q by_t) in
        both_ways _ cut (rw (← a, ← b) (joins_shared m group.shared));
  }

  -- and their tasks stand in order
  in_order : (c p q u t : ℕ) → p < q → q < length (ms_of c) → In tasks (party_at (ms_of c) p) u → In tasks (party_at (ms_of c) q) t → joins (manner_at (ms_of c) p) (manner_at (ms_of c) q) ≡ false → u < t
  in_order c p q u t order within by_u by_t cut =
      let most = holds.ordered c p q u t order within by_u by_t in
      ⊎_elim (λ lower. lower) (λ above.
      let same : t ≡ u = omega arith in
      let by : In tasks (party_at (ms_of c) q) u = subst (In tasks (party_at (ms_of c) q)) same by_t in
      let first : manner_at (ms_of c) p ≡ Contribute = holds.once c p q u order within by_u by in
      let second : manner_at (ms_of c) q ≡ manner_at (ms_of c) p = deps.manners u c _ _ (holds.sound c q u within by) (holds.sound c p u (omega arith) by_u) in
      absurd (both_ways _ cut (rw (second, first) refl))) (cases_lt u t)

  -- places of one cell whose tasks are in order
  before : (c p q u t : ℕ) → p < length (ms_of c) → In tasks (party_at (ms_of c) p) u → In tasks (party_at (ms_of c) q) t → u < t → p ≤ q
  before c p q u t in_p by_u by_t below =
      ⊎_elim (λ higher. absurd (let e = holds.ordered c q p t u higher in_p by_t by_u in omega arith)) (λ lower. lower) (cases_lt q p)

  -- tasks whose accesses to a cell are in one manner throughout don't conflict for it
  together : HoldsAll P chains tasks → (t u : ℕ) → u < t → (conflict : Conflict P u t) → (p q : ℕ) → p ≤ q → q < length (ms_of conflict.cell) → In tasks (party_at (ms_of conflict.cell) p) u → In tasks (party_at (ms_of conflict.cell) q) t → manner_at (ms_of conflict.cell) p ≡ conflict.manner_of_t → manner_at (ms_of conflict.cell) q ≡ conflict.manner_of_u → ((x : ℕ) → p ≤ x → x ≤ q → manner_at (ms_of conflict.cell) x ≡ manner_at (ms_of conflict.cell) p) → (manner_at (ms_of conflict.cell) p ≡ Read) ⊎ IsShared (manner_at (ms_of conflict.cell) p) → ⊥
  together all t u below conflict p q order within by_u by_t manner_p manner_q alike cases =
      let c = conflict.cell in
      let same : conflict.manner_of_u ≡ conflict.manner_of_t = sym manner_q ∙ alike q order (omega arith) ∙ manner_p in
      ⊎_elim (λ reads. conflict.written (sym manner_p ∙ reads, same ∙ sym manner_p ∙ reads)) (λ shared. conflict.apart conflict.manner_of_t (record {
        shared = subst IsShared manner_p shared;
        first = conflict.first;
        second = subst (Uses P t c) same conflict.second;
        alike = λ v n between uses. ⊎_elim (λ inner.
            let x = all.complete v c n uses in
            let after_p : p ≤ x.place = before c p x.place u v (omega arith) by_u x.by inner.0 in
            let before_q : x.place ≤ q = before c x.place q v t x.within x.by by_t inner.1 in
            sym x.manner ∙ alike x.place after_p before_q ∙ manner_p) (λ outer. absurd (omega arith)) between;
      })) cases

  module _ (flags : List Bool) (done : List ℕ) (marks : Flags flags done) (left : List ℕ) (counts : (n : ℕ) → n < length tasks → left_of left n ≡ undone_among flags (tasks_at tasks n)) (w : List ℕ) (fits : CountsFit left chains cells w) where
    pub ready-waits : (t n : ℕ) → In tasks n t → Ready P done t → waits_of w n ≡ 0
    ready-waits t n by ready =
        fits.waits n ∙ wanted_none chains n (λ c q inside late within same.
        let x = hindrance left (chain_at chains c) q (fits.tracks c) late within in
        let by_q : In tasks (party_at (ms_of c) q) t = subst (λ k. In tasks k t) (sym same) by in
        let party = party_at (ms_of c) x.0 in
        let here : party < length tasks = holds.known c x.0 (omega arith) in
        let few = counts party here in
        ⊎_elim (λ some.
        let u = undone_some flags tasks party some in
        let earlier : u.0 < t = in_order c x.0 q u.0 t x.1 within u.1 by_q x.3 in
        both_ways _ u.2 (marks.flagged _ (ready.earlier _ earlier (apart c x.0 q u.0 t (omega arith) within u.1 by_q x.3)))) (λ none. both_ways _ x.2 (eq-eqb _ _ (omega arith))) (cases_lt 0 (undone_among flags (tasks_at tasks party))))

    pub waits-ready : (t : ℕ) → HoldsAll P chains tasks → t < length P.tasks → flag_at flags t ≡ false → ((n : ℕ) → In tasks n t → waits_of w n ≡ 0) → Ready P done t
    waits-ready t all inside idle none = record {
      task = inside;
      waiting = λ listed. both_ways _ idle (marks.flagged t listed);
      earlier = λ u below conflict.
          let c = conflict.cell in
          let ms = ms_of c in
          let a = all.complete u c conflict.manner_of_t conflict.first in
          let b = all.complete t c conflict.manner_of_u conflict.second in
          let order : a.place ≤ b.place = before c a.place b.place u t a.within a.by b.by below in
          let early : b.place < (chain_at chains c).released = ⊎_elim (λ early. early) (λ late. absurd (let some = wanted_some chains c b.place (party_at ms b.place) (inside_of chains c b.place b.within) late b.within refl in let e = fits.waits (party_at ms b.place) in let z = none (party_at ms b.place) b.by in omega arith)) (cases_lt b.place (chain_at chains c).released) in
          ⊎_elim (λ lower.
          ⊎_elim (λ run. absurd (together all t u below conflict a.place b.place order b.within a.by b.by a.manner b.manner (λ x from to. ap (manner_at ms) (omega arith) ∙ same_manner ms a.place (x - a.place) (λ y after until. run y after (omega arith))) (joins_cases _ _ (run a.place (omega arith) (omega arith))))) (λ break.
          let finished : left_of left (party_at ms a.place) ≡ 0 = eqb-true _ _ ((fits.tracks c).earlier break.0 a.place (omega arith) break.3 break.1) in
          let few = counts (party_at ms a.place) (holds.known c a.place a.within) in
          marks.listed u (undone_none flags tasks (party_at ms a.place) u (omega arith) a.by)) (all_joined ms a.place (b.place - a.place))) (λ upper.
          let at_one : b.place ≡ a.place = omega arith in
          let by_t : In tasks (party_at ms a.place) t = subst (λ p. In tasks (party_at ms p) t) at_one b.by in
          let contributes : manner_at ms a.place ≡ Contribute = ⊎_elim (λ yes. yes) (λ own. ⊎_elim (λ yes. yes) (λ own'. absurd (omega arith)) (holds.own c a.place t a.within by_t)) (holds.own c a.place u a.within a.by) in
          absurd (together all t u below conflict a.place b.place order b.within a.by b.by a.manner b.manner (λ x from to. ap (manner_at ms) (omega arith)) (inr (subst IsShared (sym contributes) tt)))) (cases_lt a.place b.place);
    }
