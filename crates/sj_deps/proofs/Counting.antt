-- How many items pass a test, and which.
use Rattle.std.proofs.Common.{◌≡◌, ℕ, zero, suc, ◌+◌, ◌-◌, ◌<◌, ◌≤◌, Bool, true, false, cond, List, [], ◌∷◌, length, drop, take, ap, refl, ◌∙◌, arith, slice_index_or, ⊎_elim, inl, inr}
use Rattle.std.specs.Prelude.{◌⊎◌}
use Rattle.std.specs.List.{count_by}
use Rattle.std.proofs.lemmas.List.{get_or-drop, get_or-take, get_or_default, length-drop, length-take-le}
use Rattle.std.proofs.lemmas.List.Sums.{sum_by-cons, sum_by-le, sum_by-take-le, sum_by-take-drop, get_or-le-sum_by, count_by_more_yes, count_by_more_no}
use Rattle.std.proofs.lemmas.Bool.{cases_Bool, cases_lt}
use Rattle.sj_base.proofs.Numbers.{suc-add}

pub below_cases : (p k : ℕ) → p < suc k → (p < k) ⊎ (p ≡ k)
below_cases p k h = ⊎_elim (λ lower. inl lower) (λ above. inr (omega arith)) (cases_lt p k)

module _ {X : Type 0} (f : X → Bool) (xs : List X) (d : X) where
  pub taken_yes : (k : ℕ) → k < length xs → f (slice_index_or xs k d) ≡ true → count_by f (take (suc k) xs) ≡ count_by f (take k xs) + 1
  taken_yes k h e = ap (λ n. count_by f (take n xs)) (suc-add k) ∙ count_by_more_yes f xs k d h e

  pub taken_no : (k : ℕ) → k < length xs → f (slice_index_or xs k d) ≡ false → count_by f (take (suc k) xs) ≡ count_by f (take k xs)
  taken_no k h e = ap (λ n. count_by f (take n xs)) (suc-add k) ∙ count_by_more_no f xs k d h e

  pub count_taken-le : (k : ℕ) → k ≤ length xs → count_by f (take k xs) ≤ k
  count_taken-le zero h = omega arith
  count_taken-le (suc k) h =
      let rest = count_taken-le k (omega arith) in
      ⊎_elim (λ e. let one = taken_yes k (omega arith) e in omega arith) (λ e. let one = taken_no k (omega arith) e in omega arith) (cases_Bool (f (slice_index_or xs k d)))

  -- all below k pass where as many do
  pub all_counted : (k : ℕ) → k ≤ length xs → count_by f (take k xs) ≡ k → (p : ℕ) → p < k → f (slice_index_or xs p d) ≡ true
  all_counted zero h e p below = absurd (omega arith)
  all_counted (suc k) h e p below =
      let most = count_taken-le k (omega arith) in
      ⊎_elim (λ yes. let one = taken_yes k (omega arith) yes in
      ⊎_elim (λ lower. all_counted k (omega arith) (omega arith) p lower) (λ same. ap (λ n. f (slice_index_or xs n d)) same ∙ yes) (below_cases p k below)) (λ no. let one = taken_no k (omega arith) no in absurd (omega arith)) (cases_Bool (f (slice_index_or xs k d)))

  -- k pass where all below k do
  pub counted_all : (k : ℕ) → k ≤ length xs → ((p : ℕ) → p < k → f (slice_index_or xs p d) ≡ true) → count_by f (take k xs) ≡ k
  counted_all zero h all = refl
  counted_all (suc k) h all =
      let rest = counted_all k (omega arith) (λ p below. all p (omega arith)) in
      let one = taken_yes k (omega arith) (all k (omega arith)) in
      omega arith

  -- each of the first k passes, or one does not
  pub all_or_some : (k : ℕ) → ((p : ℕ) → p < k → f (slice_index_or xs p d) ≡ true) ⊎ ((p : ℕ) × (p < k) × (f (slice_index_or xs p d) ≡ false))
  all_or_some zero = inl (λ p below. absurd (omega arith))
  all_or_some (suc k) =
      ⊎_elim (λ all. ⊎_elim (λ yes. inl (λ p below. ⊎_elim (λ lower. all p lower) (λ same. ap (λ n. f (slice_index_or xs n d)) same ∙ yes) (below_cases p k below))) (λ no. inr (k, omega arith, no)) (cases_Bool (f (slice_index_or xs k d)))) (λ some. inr (some.0, omega arith, some.2)) (all_or_some k)

  -- fewer than k pass, so one of the first k does not
  pub some_fails : (k : ℕ) → k ≤ length xs → count_by f xs < k → (p : ℕ) × (p < k) × (f (slice_index_or xs p d) ≡ false)
  some_fails k h few =
      ⊎_elim (λ all.
      let full = counted_all k h all in
      let part = sum_by-take-le (λ x. cond (f x) 1 0) xs k in
      absurd (omega arith)) (λ some. some) (all_or_some k)

  -- none from place k on passes
  pub none_dropped : (k : ℕ) → ((p : ℕ) → k ≤ p → p < length xs → f (slice_index_or xs p d) ≡ false) → count_by f (drop k xs) ≡ 0
  none_dropped k none =
      let bound = sum_by-le (λ x. cond {A = ℕ} (f x) 1 0) 0 (drop k xs) (λ j e h.
      let long = length-drop k xs in
      let at_j : slice_index_or (drop k xs) j e ≡ slice_index_or xs (k + j) d = get_or-drop k xs j e ∙ get_or_default xs (k + j) e d (omega arith) in
      let fails : f (slice_index_or (drop k xs) j e) ≡ false = ap f at_j ∙ none (k + j) (omega arith) (omega arith) in
      let zero_of : cond {A = ℕ} (f (slice_index_or (drop k xs) j e)) 1 0 ≡ 0 = ap (λ (b : Bool). cond {A = ℕ} b 1 0) fails in
      omega arith) in
      omega arith

  -- k pass and none from k on does, so all below k do
  pub all_before : (k : ℕ) → k ≤ length xs → ((p : ℕ) → k ≤ p → p < length xs → f (slice_index_or xs p d) ≡ false) → count_by f xs ≡ k → (p : ℕ) → p < k → f (slice_index_or xs p d) ≡ true
  all_before k h none e =
      let rest = none_dropped k none in
      let whole = sum_by-take-drop (λ x. cond (f x) 1 0) xs k in
      all_counted k h (omega arith)

  -- one from place k on passes
  pub some_dropped : (k p : ℕ) → k ≤ p → p < length xs → f (slice_index_or xs p d) ≡ true → 0 < count_by f (drop k xs)
  some_dropped k p h below passes =
      let long = length-drop k xs in
      let at_p : slice_index_or (drop k xs) (p - k) d ≡ slice_index_or xs p d = get_or-drop k xs (p - k) d ∙ ap (λ n. slice_index_or xs n d) (omega arith) in
      let part = get_or-le-sum_by (λ x. cond {A = ℕ} (f x) 1 0) (drop k xs) (p - k) d (omega arith) in
      let one : cond {A = ℕ} (f (slice_index_or (drop k xs) (p - k) d)) 1 0 ≡ 1 = ap (λ (b : Bool). cond {A = ℕ} b 1 0) (ap f at_p ∙ passes) in
      omega arith

-- where some pass, one does
pub some_counted : {X : Type 0} (f : X → Bool) (d : X) (xs : List X) → 0 < count_by f xs → (p : ℕ) × (p < length xs) × (f (slice_index_or xs p d) ≡ true)
some_counted f d [] h = absurd (omega arith)
some_counted f d (x ∷ xs) h =
    ⊎_elim (λ passes. (0, omega arith, passes)) (λ fails.
    let more = sum_by-cons (λ y. cond {A = ℕ} (f y) 1 0) x xs in
    let none : cond {A = ℕ} (f x) 1 0 ≡ 0 = ap (λ (b : Bool). cond {A = ℕ} b 1 0) fails in
    let rest = some_counted f d xs (omega arith) in
    (suc rest.0, omega arith, rest.2)) (cases_Bool (f x))

-- two that pass count twice
pub two_counted : {X : Type 0} (f : X → Bool) (d : X) (xs : List X) (i j : ℕ) → i < j → j < length xs → f (slice_index_or xs i d) ≡ true → f (slice_index_or xs j d) ≡ true → 1 < count_by f xs
two_counted f d xs i j order within at_i at_j =
    let whole = sum_by-take-drop (λ y. cond {A = ℕ} (f y) 1 0) xs j in
    let late = some_dropped f xs d j j (omega arith) within at_j in
    let long = length-take-le j xs (omega arith) in
    let same : slice_index_or (take j xs) i d ≡ slice_index_or xs i d = get_or-take j xs i d order in
    let part = get_or-le-sum_by (λ y. cond {A = ℕ} (f y) 1 0) (take j xs) i d (omega arith) in
    let one : cond {A = ℕ} (f (slice_index_or (take j xs) i d)) 1 0 ≡ 1 = ap (λ (b : Bool). cond {A = ℕ} b 1 0) (ap f same ∙ at_i) in
    omega arith
