-- A task is counted as done: the parties that open, and the tasks that they free.
use Rattle.std.proofs.Common.{◌≡◌, ℕ, ◌+◌, ◌<◌, ◌≤◌, List, [], length, sym, ap, ◌∙◌, arith, ⊎_elim, slice_index_or, min}
use Rattle.std.specs.Prelude.{All}
use Rattle.std.specs.List.{count_by}
use Rattle.std.proofs.lemmas.List.{get_or_default, get_or_past}
use Rattle.std.proofs.lemmas.Bool.{cases_lt}
use Rattle.sj_deps.specs.declared.counters.Counters.{Counters}
use Rattle.sj_deps.specs.Chains.{is_party, waits_of}
use Rattle.sj_deps.specs.Counts.{ListsReady, blocked, owed, parties_at}
use Rattle.sj_deps.specs.Progress.{Ledger}
use Rattle.sj_deps.proofs.Freeing.{owed_law}
use Rattle.sj_deps.proofs.Keeping.{party_counted}

module _ (c : Counters) (ledger : Ledger c) where
  module _ (w' r₀ opened : List ℕ) (fresh : r₀ ≡ []) (answers : ListsReady c.waits.items w' r₀ opened) where
    law : (n : ℕ) → count_by (is_party n) opened + min 1 (waits_of w' n) ≡ min 1 (waits_of c.waits.items n)
    law n =
        let e = answers.opened n in
        let none : count_by (is_party n) r₀ ≡ 0 = ap (count_by (is_party n)) fresh in
        omega arith

    pub opened_known : All (λ n. n < length c.tasks.items) opened
    opened_known = λ i d h.
        let same : slice_index_or opened i d ≡ slice_index_or opened i 0 = get_or_default opened i d 0 h in
        let n : ℕ = slice_index_or opened i 0 in
        let some = party_counted opened i h in
        let e = law n in
        let every = ledger.every_wait in
        ⊎_elim (λ here. omega arith) (λ past. let none = get_or_past c.waits.items n 0 (omega arith) in absurd (omega arith)) (cases_lt n (length c.tasks.items))

    pub owed_is : (t : ℕ) → owed c.tasks.items opened t + blocked w' (parties_at c.parties.items t) ≡ waits_of c.held.items t
    owed_is t = owed_law c.tasks.items c.parties.items ledger.matching c.waits.items w' opened law t ∙ sym (ledger.held t)

    pub owed_enough : (t : ℕ) → owed c.tasks.items opened t ≤ waits_of c.held.items t
    owed_enough t = let e = owed_is t in omega arith
