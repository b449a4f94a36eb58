-- The parties of each task, from the tasks of each party.
use Rattle.std.proofs.Common.{◌≡◌, ℕ, ◌+◌, ◌≤◌, cond, List, [], length, ap, ◌∙◌, arith, ⊎_elim, nat_eq, nat_lt}
use Rattle.std.specs.List.{count_by}
use Rattle.std.proofs.lemmas.List.{get_or_past}
use Rattle.std.proofs.lemmas.Bool.{cases_lt, cases_eq, eq-eqb, ne_eqb, cond-true, cond-false, lt-ltb, false_from_ne_true, ltb-true}
use Rattle.sj_base.specs.declared.ids.Task.{Task}
use Rattle.sj_deps.specs.Counts.{is_task, tasks_at}

-- one party more is listed with its tasks
pub listed_next : (tasks : List (List Task)) (n t k x y : ℕ) → x ≡ cond (nat_lt k n) (count_by (is_task t) (tasks_at tasks k)) 0 → y ≡ x + cond (nat_eq n k) (count_by (is_task t) (tasks_at tasks n)) 0 → y ≡ cond (nat_lt k (n + 1)) (count_by (is_task t) (tasks_at tasks k)) 0
listed_next tasks n t k x y was now =
    ⊎_elim (λ same.
    let old : cond (nat_lt k n) (count_by (is_task t) (tasks_at tasks k)) 0 ≡ 0 = cond-false _ (count_by (is_task t) (tasks_at tasks k)) 0 (false_from_ne_true _ (λ less. absurd (let e = ltb-true _ _ less in omega arith))) in
    let this : cond (nat_eq n k) (count_by (is_task t) (tasks_at tasks n)) 0 ≡ count_by (is_task t) (tasks_at tasks n) = cond-true _ (count_by (is_task t) (tasks_at tasks n)) 0 (eq-eqb _ _ same) in
    let new : cond (nat_lt k (n + 1)) (count_by (is_task t) (tasks_at tasks k)) 0 ≡ count_by (is_task t) (tasks_at tasks k) = cond-true _ (count_by (is_task t) (tasks_at tasks k)) 0 (lt-ltb _ _ (omega arith)) in
    let both : count_by (is_task t) (tasks_at tasks n) ≡ count_by (is_task t) (tasks_at tasks k) = ap (λ m. count_by (is_task t) (tasks_at tasks m)) same in
    omega arith) (λ other.
    let this : cond (nat_eq n k) (count_by (is_task t) (tasks_at tasks n)) 0 ≡ 0 = cond-false _ (count_by (is_task t) (tasks_at tasks n)) 0 (ne_eqb _ _ other) in
    ⊎_elim (λ less.
    let old : cond (nat_lt k n) (count_by (is_task t) (tasks_at tasks k)) 0 ≡ count_by (is_task t) (tasks_at tasks k) = cond-true _ (count_by (is_task t) (tasks_at tasks k)) 0 (lt-ltb _ _ less) in
    let new : cond (nat_lt k (n + 1)) (count_by (is_task t) (tasks_at tasks k)) 0 ≡ count_by (is_task t) (tasks_at tasks k) = cond-true _ (count_by (is_task t) (tasks_at tasks k)) 0 (lt-ltb _ _ (omega arith)) in
    omega arith) (λ more.
    let old : cond (nat_lt k n) (count_by (is_task t) (tasks_at tasks k)) 0 ≡ 0 = cond-false _ (count_by (is_task t) (tasks_at tasks k)) 0 (false_from_ne_true _ (λ less. absurd (let e = ltb-true _ _ less in omega arith))) in
    let new : cond (nat_lt k (n + 1)) (count_by (is_task t) (tasks_at tasks k)) 0 ≡ 0 = cond-false _ (count_by (is_task t) (tasks_at tasks k)) 0 (false_from_ne_true _ (λ less. absurd (let e = ltb-true _ _ less in other (omega arith)))) in
    omega arith) (cases_lt k n)) (cases_eq n k)

-- all parties are listed
pub listed_all : (tasks : List (List Task)) (n t k x : ℕ) → length tasks ≤ n → x ≡ cond (nat_lt k n) (count_by (is_task t) (tasks_at tasks k)) 0 → x ≡ count_by (is_task t) (tasks_at tasks k)
listed_all tasks n t k x all law =
    ⊎_elim (λ less. law ∙ cond-true _ (count_by (is_task t) (tasks_at tasks k)) 0 (lt-ltb _ _ less)) (λ past.
    let none : count_by (is_task t) (tasks_at tasks k) ≡ 0 = ap (count_by (is_task t)) (get_or_past tasks k [] (omega arith)) in
    let old : cond (nat_lt k n) (count_by (is_task t) (tasks_at tasks k)) 0 ≡ 0 = cond-false _ (count_by (is_task t) (tasks_at tasks k)) 0 (false_from_ne_true _ (λ less. absurd (let e = ltb-true _ _ less in omega arith))) in
    omega arith) (cases_lt k n)
