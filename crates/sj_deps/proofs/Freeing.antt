-- Parties open: their tasks wait for one party fewer.
use Rattle.std.proofs.Common.{◌≡◌, ℕ, ◌+◌, ◌-◌, ◌<◌, ◌≤◌, cond, List, [], ◌∷◌, length, take, sym, ap, refl, ◌∙◌, arith, ⊎_elim, slice_index_or, slice_set, nat_eq, nat_lt, min}
use Rattle.std.specs.List.{count_by, sum_by}
use Rattle.std.proofs.lemmas.List.{get_or-set_same, get_or-set_other, length-set}
use Rattle.std.proofs.lemmas.List.Sums.{sum_by-cons, sum_by_more, sum_by-take-le}
use Rattle.std.proofs.lemmas.Bool.{cases_lt, cases_eq, eq-eqb, ne_eqb, cond-true, cond-false, lt-ltb, false_from_ne_true, ltb-true}
use Rattle.sj_base.specs.declared.ids.Task.{Task}
use Rattle.sj_base.specs.Ids.{task}
use Rattle.sj_base.proofs.Lists.{sum_by-agree}
use Rattle.sj_deps.specs.Chains.{is_party, waits_of}
use Rattle.sj_deps.specs.Counts.{Frees, Mutual, blocked, is_task, owed, parties_at, tasks_at}

module _ (ts : List Task) (i : ℕ) (h : i < length ts) (h₀ w : List ℕ) (r₀ r : List Task) (so : Frees h₀ w r₀ r (λ t. count_by (is_task t) (take i ts))) where
  abbrev nth : ℕ
  nth = (slice_index_or ts i (task 0)).0

  taken_more : (t : ℕ) → count_by (is_task t) (take (i + 1) ts) ≡ count_by (is_task t) (take i ts) + cond {A = ℕ} (nat_eq nth t) 1 0
  taken_more t = sum_by_more (λ x. cond {A = ℕ} (is_task t x) 1 0) ts i (task 0) h

  one_here : cond {A = ℕ} (nat_eq nth nth) 1 0 ≡ 1
  one_here = cond-true _ 1 0 (eq-eqb nth nth refl)

  pub free_waiting : ((t : ℕ) → count_by (is_task t) ts ≤ waits_of h₀ t) → 0 < waits_of w nth
  free_waiting enough =
      let all = enough nth in
      let more = taken_more nth in
      let one = one_here in
      let part = sum_by-take-le (λ x. cond {A = ℕ} (is_task nth x) 1 0) ts (i + 1) in
      let e = so.held nth in
      omega arith

  pub Frees-more : nth < length w → 0 < waits_of w nth → (w' : List ℕ) (r' : List Task) → w' ≡ slice_set w nth (waits_of w nth - 1) → ((t : ℕ) → count_by (is_task t) r' + min 1 (waits_of w' t) ≡ count_by (is_task t) r + min 1 (waits_of w t)) → length r' + count_by (nat_lt 0) w' ≡ length r + count_by (nat_lt 0) w → Frees h₀ w' r₀ r' (λ t. count_by (is_task t) (take (i + 1) ts))
  Frees-more known some w' r' e each all = record {
    held = λ t.
        let more = taken_more t in
        let law = so.held t in
        ⊎_elim (λ same.
        let one : cond {A = ℕ} (nat_eq nth t) 1 0 ≡ 1 = cond-true _ 1 0 (eq-eqb _ _ same) in
        let now : waits_of w' nth ≡ waits_of w nth - 1 = ap (λ v. waits_of v nth) e ∙ get_or-set_same w nth (waits_of w nth - 1) 0 known in
        let at_t : waits_of w' nth ≡ waits_of w' t = ap (waits_of w') same in
        let was : waits_of w nth ≡ waits_of w t = ap (waits_of w) same in
        omega arith) (λ other.
        let none : cond {A = ℕ} (nat_eq nth t) 1 0 ≡ 0 = cond-false _ 1 0 (ne_eqb _ _ other) in
        let now : waits_of w' t ≡ waits_of w t = ap (λ v. waits_of v t) e ∙ get_or-set_other w nth t (waits_of w nth - 1) 0 (λ q. other (sym q)) in
        omega arith) (cases_eq nth t);
    len = ap length e ∙ length-set w nth (waits_of w nth - 1) ∙ so.len;
    ready = λ t. each t ∙ so.ready t;
    total = all ∙ so.total;
  }

module _ (tasks : List (List Task)) (ns : List ℕ) (i : ℕ) (h : i < length ns) (h₀ w : List ℕ) (r₀ r : List Task) (so : Frees h₀ w r₀ r (owed tasks (take i ns))) where
  owed_more : (t : ℕ) → owed tasks (take (i + 1) ns) t ≡ owed tasks (take i ns) t + count_by (is_task t) (tasks_at tasks (slice_index_or ns i 0))
  owed_more t = sum_by_more (λ n. count_by (is_task t) (tasks_at tasks n)) ns i 0 h

  pub party_enough : ((t : ℕ) → owed tasks ns t ≤ waits_of h₀ t) → (t : ℕ) → count_by (is_task t) (tasks_at tasks (slice_index_or ns i 0)) ≤ waits_of w t
  party_enough enough t =
      let all = enough t in
      let more = owed_more t in
      let part = sum_by-take-le (λ n. count_by (is_task t) (tasks_at tasks n)) ns (i + 1) in
      let e = so.held t in
      omega arith

-- sums of sums
sum_plus : {X : Type 0} (f g : X → ℕ) (xs : List X) → sum_by (λ x. f x + g x) xs ≡ sum_by f xs + sum_by g xs
sum_plus f g [] = refl
sum_plus f g (x ∷ xs) =
    let a = sum_by-cons (λ x. f x + g x) x xs in
    let b = sum_by-cons f x xs in
    let d = sum_by-cons g x xs in
    let rest = sum_plus f g xs in
    omega arith

sum_zero : {X : Type 0} (xs : List X) → sum_by (λ (x : X). 0) xs ≡ 0
sum_zero [] = refl
sum_zero (x ∷ xs) =
    let a = sum_by-cons (λ x. 0) x xs in
    let rest = sum_zero xs in
    omega arith

eq_turned : (a b : ℕ) → cond {A = ℕ} (nat_eq a b) 1 0 ≡ cond {A = ℕ} (nat_eq b a) 1 0
eq_turned a b =
    ⊎_elim (λ same. cond-true _ 1 0 (eq-eqb _ _ same) ∙ sym (cond-true (nat_eq b a) 1 0 (eq-eqb _ _ (sym same)))) (λ other. cond-false _ 1 0 (ne_eqb _ _ other) ∙ sym (cond-false (nat_eq b a) 1 0 (ne_eqb _ _ (λ e. other (sym e))))) (cases_eq a b)

one_of : (x : ℕ) → cond {A = ℕ} (nat_lt 0 x) 1 0 ≡ min 1 x
one_of x =
    ⊎_elim (λ some. let one : cond {A = ℕ} (nat_lt 0 x) 1 0 ≡ 1 = cond-true _ 1 0 (lt-ltb _ _ some) in omega arith) (λ none.
    let zero' : cond {A = ℕ} (nat_lt 0 x) 1 0 ≡ 0 = cond-false _ 1 0 (false_from_ne_true _ (λ more. absurd (let e = ltb-true _ _ more in omega arith))) in
    omega arith) (cases_lt 0 x)

-- the parties of a list that open, counted by those that open
opened_of : (w w' opened : List ℕ) → ((n : ℕ) → count_by (is_party n) opened + min 1 (waits_of w' n) ≡ min 1 (waits_of w n)) → (ys : List ℕ) → sum_by (λ m. count_by (is_party m) ys) opened + blocked w' ys ≡ blocked w ys
opened_of w w' opened law [] =
    let none : sum_by (λ m. count_by (is_party m) []) opened ≡ 0 = sum_zero opened in
    omega arith
opened_of w w' opened law (y ∷ ys) =
    let split : sum_by (λ m. count_by (is_party m) (y ∷ ys)) opened ≡ sum_by (λ m. cond {A = ℕ} (is_party m y) 1 0 + count_by (is_party m) ys) opened = sum_by-agree (λ m. count_by (is_party m) (y ∷ ys)) (λ m. cond {A = ℕ} (is_party m y) 1 0 + count_by (is_party m) ys) (λ m. sum_by-cons (λ x. cond {A = ℕ} (is_party m x) 1 0) y ys) opened in
    let plus = sum_plus (λ m. cond {A = ℕ} (is_party m y) 1 0) (λ m. count_by (is_party m) ys) opened in
    let turned : sum_by (λ m. cond {A = ℕ} (is_party m y) 1 0) opened ≡ count_by (is_party y) opened = sum_by-agree (λ m. cond {A = ℕ} (nat_eq y m) 1 0) (λ m. cond {A = ℕ} (nat_eq m y) 1 0) (λ m. eq_turned y m) opened in
    let a = sum_by-cons (λ n. cond {A = ℕ} (nat_lt 0 (waits_of w n)) 1 0) y ys in
    let b = sum_by-cons (λ n. cond {A = ℕ} (nat_lt 0 (waits_of w' n)) 1 0) y ys in
    let one = one_of (waits_of w y) in
    let one' = one_of (waits_of w' y) in
    let e = law y in
    let rest = opened_of w w' opened law ys in
    omega arith

-- what the parties that open owe to a task is what it waits for no more
pub owed_law : (tasks : List (List Task)) (parties : List (List ℕ)) → Mutual parties tasks → (w w' opened : List ℕ) → ((n : ℕ) → count_by (is_party n) opened + min 1 (waits_of w' n) ≡ min 1 (waits_of w n)) → (t : ℕ) → owed tasks opened t + blocked w' (parties_at parties t) ≡ blocked w (parties_at parties t)
owed_law tasks parties matching w w' opened law t =
    let same : owed tasks opened t ≡ sum_by (λ m. count_by (is_party m) (parties_at parties t)) opened = sum_by-agree (λ n. count_by (is_task t) (tasks_at tasks n)) (λ m. count_by (is_party m) (parties_at parties t)) (λ n. sym (matching t n)) opened in
    let e = opened_of w w' opened law (parties_at parties t) in
    omega arith
