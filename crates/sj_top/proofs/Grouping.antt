-- Items in ascending order of a number: those of one number stand together.
use Rattle.std.proofs.Common.{◌≡◌, ℕ, suc, ◌+◌, ◌<◌, ◌≤◌, true, false, List, [], ◌∷◌, take, drop, refl, sym, ap, ◌∙◌, arith, inl, inr, nat_eq, nat_le}
use Rattle.std.specs.Prelude.{All, AllPairs, Contains, filter}
use Rattle.std.specs.List.{prefix_len}
use Rattle.std.proofs.lemmas.Bool.{cases_lt, cases_eq}
use Rattle.std.proofs.lemmas.List.Elements.{All-weaker, All-contains_itself}
use Rattle.sj_core.proofs.Readiness.{Contains-from_filter}
use Rattle.std.proofs.lemmas.Bool.Decides.{nat_tests}

module _ {X : Type 0} (f : X → ℕ) where
  abbrev pub from : ℕ → List X → List X
  from k xs = filter (λ x. nat_le k (f x)) xs

  abbrev pub of : ℕ → List X → List X
  of k xs = filter (λ x. nat_eq (f x) k) xs

  abbrev pub Ascending : List X → Type 0
  Ascending xs = AllPairs (λ x y. f x ≤ f y) xs

  rest-ascending : (x : X) (xs : List X) → Ascending (x ∷ xs) → Ascending xs
  rest-ascending x xs asc i j d lt l = asc (suc i) (suc j) d (omega arith) (omega arith)

  first-least : (x : X) (xs : List X) → Ascending (x ∷ xs) → All (λ y. f x ≤ f y) xs
  first-least x xs asc i d l = asc 0 (suc i) d (omega arith) (omega arith)

  all-above : (k : ℕ) (xs : List X) → All (λ x. k < f x) xs → (of k xs ≡ []) × (from k xs ≡ from (k + 1) xs)
  all-above k [] above = (refl, refl)
  all-above k (x ∷ xs) above =
      let lt : k < f x = above 0 x (omega arith) in
      let here : nat_le k (f x) ≡ true = grind (arith, nat_tests) in
      let next : nat_le (k + 1) (f x) ≡ true = grind (arith, nat_tests) in
      let other : nat_eq (f x) k ≡ false = grind (arith, nat_tests) in
      let rest = all-above k xs (λ i d l. above (suc i) d (omega arith)) in
      rw (here, next, other) (rest.0, ap (λ ys. x ∷ ys) rest.1)

  abbrev these : ℕ → List X → ℕ
  these k xs = prefix_len (λ x. nat_eq (f x) k) xs

  -- of the items from number k on the first are those of number k, and the others those of higher numbers
  pub first-of : (k : ℕ) (xs : List X) → Ascending xs → (take (these k (from k xs)) (from k xs) ≡ of k xs) × (drop (these k (from k xs)) (from k xs) ≡ from (k + 1) xs)
  first-of k [] asc = (refl, refl)
  first-of k (x ∷ xs) asc = elim (cases_lt (f x) k) [
    | inl below ↦
        let here : nat_le k (f x) ≡ false = grind (arith, nat_tests) in
        let next : nat_le (k + 1) (f x) ≡ false = grind (arith, nat_tests) in
        let same : nat_eq (f x) k ≡ false = grind (arith, nat_tests) in
        rw (here, next, same) (first-of k xs (rest-ascending x xs asc))
    | inr up ↦ elim (cases_eq (f x) k) [
      | inl e ↦
          let here : nat_le k (f x) ≡ true = grind (arith, nat_tests) in
          let next : nat_le (k + 1) (f x) ≡ false = grind (arith, nat_tests) in
          let same : nat_eq (f x) k ≡ true = grind (arith, nat_tests) in
          let rest = first-of k xs (rest-ascending x xs asc) in
          let n = these k (from k xs) in
          let one : 1 + n ≡ suc n = omega arith in
          rw (here, next, same) (ap (λ m. take m (x ∷ from k xs)) one ∙ ap (λ ys. x ∷ ys) rest.0, ap (λ m. drop m (x ∷ from k xs)) one ∙ rest.1)
      | inr other ↦
          let here : nat_le k (f x) ≡ true = grind (arith, nat_tests) in
          let next : nat_le (k + 1) (f x) ≡ true = grind (arith, nat_tests) in
          let same : nat_eq (f x) k ≡ false = grind (arith, nat_tests) in
          let least = first-least x xs asc in
          let above = all-above k xs (λ i d l. let h = least i d l in omega (arith, h, up, other)) in
          rw (here, next, same) (sym above.0, ap (λ ys. x ∷ ys) above.1)
    ]
  ]

  -- cut in two where the items of number k end
  pub cut : (k n : ℕ) (xs rest front back : List X) → Ascending xs → rest ≡ from k xs → n ≡ these k rest → front ≡ take n rest → back ≡ drop n rest → (front ≡ of k xs) × (back ≡ from (k + 1) xs)
  cut k n xs rest front back asc e count at_front at_back =
      let both = first-of k xs asc in
      let first = count ∙ ap (these k) e in
      (at_front ∙ (λ i. take (first i) (e i)) ∙ both.0, at_back ∙ (λ i. drop (first i) (e i)) ∙ both.1)

  -- the items of number k are among all
  pub of-among : (k : ℕ) (xs : List X) → All (Contains xs) (of k xs)
  of-among k xs = All-weaker (Contains (of k xs)) (Contains xs) (λ x h. Contains-from_filter (λ y. nat_eq (f y) k) xs x h) (of k xs) (All-contains_itself (of k xs))

  -- all items are from number 0 on
  pub from-zero : (xs : List X) → from 0 xs ≡ xs
  from-zero [] = refl
  from-zero (x ∷ xs) =
      let e : nat_le 0 (f x) ≡ true = grind (arith, nat_tests) in
      rw e (ap (λ ys. x ∷ ys) (from-zero xs))
