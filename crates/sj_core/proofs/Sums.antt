-- Sums over lists whose terms balance, or bound one another, element by element.
use Rattle.sj_core.proofs.Words.{[], ap, arith, Bool, cond, count_by, false, filter, inl, inr, List, list_any, map, nat_eq, nat_le, nat_lt, not, range_with_len, refl, suc, sum_by, sym, true, zero, ℕ, ◌&&◌, ◌*◌, ◌+◌, ◌<◌, ◌∙◌, ◌∷◌, ◌≡◌, ◌≤◌}
use Rattle.std.proofs.lemmas.{Bool.and_from, Bool.and_left, Bool.and_parts, Bool.cases_eq, Bool.eq-eqb, Bool.false_from_ne_true, Bool.le-leb, Bool.leb-true, Bool.lt-leb, Bool.lt-ltb, Bool.ltb-true, Bool.ne_eqb, List.Filters.sum_by-filter_both, List.Folds.Any-from_list_any, List.Sums.get_or-le-sum_by, List.Sums.sum_by-cons, List.Sums.sum_by-le-sum_by}
pub use Rattle.sj_base.proofs.Lists.{sum_by-agree as sum-agree}
pub use Rattle.sj_base.proofs.Bools.{tally}
pub use Rattle.sj_base.proofs.Bools.{same_test}

-- two sums that balance two others
pub sum-balanced : {X : Type 0} (f g h k : X → ℕ) → ((x : X) → f x + g x ≡ h x + k x) → (xs : List X) → sum_by f xs + sum_by g xs ≡ sum_by h xs + sum_by k xs
sum-balanced f g h k same [] = refl
sum-balanced f g h k same (x ∷ xs) =
    omega (arith, sum-balanced f g h k same xs, same x, sum_by-cons f x xs, sum_by-cons g x xs, sum_by-cons h x xs, sum_by-cons k x xs)

-- two sums within a third
pub sum-within : {X : Type 0} (f g h : X → ℕ) → ((x : X) → f x + g x ≤ h x) → (xs : List X) → sum_by f xs + sum_by g xs ≤ sum_by h xs
sum-within f g h within [] = omega arith
sum-within f g h within (x ∷ xs) =
    omega (arith, sum-within f g h within xs, within x, sum_by-cons f x xs, sum_by-cons g x xs, sum_by-cons h x xs)

-- the sum over what a filter keeps, as a sum over all
pub sum-filter : {X : Type 0} (f : X → ℕ) (test : X → Bool) (xs : List X) → sum_by f (filter test xs) ≡ sum_by (λ x. cond (test x) (f x) 0) xs
sum-filter f test [] = refl
sum-filter f test (x ∷ xs) = by_cases (test x) refl (sum-filter f test xs)
  where
    by_cases : (b : Bool) → test x ≡ b → sum_by f (filter test xs) ≡ sum_by (λ y. cond (test y) (f y) 0) xs → sum_by f (cond b (x ∷ filter test xs) (filter test xs)) ≡ sum_by (λ y. cond (test y) (f y) 0) (x ∷ xs)
    by_cases true e rest = sum_by-cons f x (filter test xs) ∙ ap (λ n. f x + n) rest ∙ ap (λ b. cond b (f x) 0 + sum_by (λ y. cond (test y) (f y) 0) xs) (sym e) ∙ sym (sum_by-cons (λ y. cond (test y) (f y) 0) x xs)
    by_cases false e rest = search (arith, sum_by-cons)

-- where the terms that a filter keeps are no larger, its sum isn't
pub sum-filter-le : {X : Type 0} (f g : X → ℕ) (test : X → Bool) → ((x : X) → test x ≡ true → f x ≤ g x) → (xs : List X) → sum_by f (filter test xs) ≤ sum_by g (filter test xs)
sum-filter-le f g test le [] = omega arith
sum-filter-le f g test le (x ∷ xs) = search (arith, sum_by-cons, sum-filter-le f g test le xs)

pub filter-sum-le : {X : Type 0} (f : X → ℕ) (test : X → Bool) (xs : List X) → sum_by f (filter test xs) ≤ sum_by f xs
filter-sum-le f test xs = let both = sum_by-filter_both test (λ x. not (test x)) (λ x. refl) f xs in omega arith

-- a sum of nothing
pub sum-nothing : {X : Type 0} (f : X → ℕ) → ((x : X) → f x ≡ 0) → (xs : List X) → sum_by f xs ≡ 0
sum-nothing f none [] = refl
sum-nothing f none (x ∷ xs) = omega (arith, sum_by-cons f x xs, none x, sum-nothing f none xs)

-- and what is there is counted
pub counted-has : {X : Type 0} (test : X → Bool) (xs : List X) → list_any test xs ≡ true → 0 < count_by test xs
counted-has test xs h = search (arith, Any-from_list_any, get_or-le-sum_by)

-- a sum of two terms each
pub sum-plus : {X : Type 0} (h f g : X → ℕ) → ((x : X) → h x ≡ f x + g x) → (xs : List X) → sum_by h xs ≡ sum_by f xs + sum_by g xs
sum-plus h f g same xs =
    let all = sum-balanced h (λ x. 0) f g (λ x. (let here = same x in omega arith)) xs in
    omega (arith, sum-nothing (λ x. 0) (λ x. refl) xs)

-- so much for each element that passes
pub sum-each : {X : Type 0} (test : X → Bool) (more : ℕ) (xs : List X) → sum_by (λ x. cond (test x) more 0) xs ≡ more * count_by test xs
sum-each test more [] = omega arith
sum-each test more (x ∷ xs) =
    sum_by-cons (λ y. cond (test y) more 0) x xs ∙ ap (λ n. cond (test x) more 0 + n) (sum-each test more xs)
    ∙ first (test x) (count_by test xs) ∙ ap (λ n. more * n) (sym (sum_by-cons (λ y. tally (test y)) x xs))
  where
    first : (b : Bool) (n : ℕ) → cond b more 0 + more * n ≡ more * (tally b + n)
    first b n = search arith

-- where at most one element passes the test, whose term grows by so much, and no other's does
pub sum-one_more : {X : Type 0} (f g : X → ℕ) (test : X → Bool) (more : ℕ) → ((x : X) → f x ≤ g x + cond (test x) more 0) → (xs : List X) → count_by test xs ≤ 1 → sum_by f xs ≤ sum_by g xs + more
sum-one_more f g test more le xs once =
    let all = sum-plus (λ x. g x + cond (test x) more 0) g (λ x. cond (test x) more 0) (λ x. refl) xs in
    let both = sum_by-le-sum_by f (λ x. g x + cond (test x) more 0) xs le in
    omega (arith, at_most (count_by test xs) once (sum-each test more xs))
  where
    at_most : (n : ℕ) → n ≤ 1 → sum_by (λ x. cond (test x) more 0) xs ≡ more * n → sum_by (λ x. cond (test x) more 0) xs ≤ more
    at_most n h e = search arith

-- of numbered elements the test passes that of one number
pub count-numbered : {X : Type 0} (number : ℕ → X) (test : X → Bool) (k : ℕ) → ((i : ℕ) → test (number i) ≡ nat_eq i k) → (a n : ℕ) → count_by test (map number (range_with_len a n)) ≡ tally (nat_le a k && nat_lt k (a + n))
count-numbered number test k is a zero = ap tally (sym (false_from_ne_true (nat_le a k && nat_lt k (a + 0)) (λ h. (let both = and_parts (nat_le a k) (nat_lt k (a + 0)) h in let low = leb-true a k both.0 in let high = ltb-true k (a + 0) both.1 in omega arith))))
count-numbered number test k is a (suc n) =
    let first = sum_by-cons (λ x. tally (test x)) (number a) (map number (range_with_len (a + 1) n)) in
    let later = count-numbered number test k is (a + 1) n in
    elim (cases_eq a k) [
      | inl e ↦ (search (arith, eq-eqb, and_left, lt-leb, and_from, le-leb, lt-ltb))
      | inr d ↦ (search (arith, ne_eqb, same_test))
    ]
