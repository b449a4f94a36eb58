-- Lists of rows and of views.
use Rattle.std.proofs.Common.{◌≡◌, ℕ, zero, suc, ◌+◌, ◌-◌, ◌<◌, ◌≤◌, ◌≢◌, ◌⊎◌, List, [], ◌∷◌, ◌++◌, length, set, sym, refl, ap, inl, inr, ⊎_elim, subst, arith, Contains}
use Rattle.std.specs.List.{AllByRecursion}
use Rattle.std.proofs.lemmas.List.Elements.{All-from_recursion, All-contains}
use mathlib.Core.Option.{some, some-injective, some-ne-none}
use lib.ListN.{get_elem?}
use Rattle.atomic_table.proofs.Lists.{at_set}
use Rattle.sj_desk.specs.Views.{opening_rows}

module _ {A : Type 0} where
  pub within : (l : List A) (i : ℕ) (a : A) → get_elem? l i ≡ some a → i < length l
  within [] i a e = absurd (some-ne-none a (sym e))
  within (x ∷ xs) zero a e = omega arith
  within (x ∷ xs) (suc i) a e = let h : i < length xs = within xs i a e in omega arith

  pub only : (w v : A) (i : ℕ) → get_elem? (w ∷ []) i ≡ some v → w ≡ v
  only w v zero e = some-injective w v e
  only w v (suc i) e = absurd (some-ne-none v (sym e))

  pub only_place : (w v : A) (i : ℕ) → get_elem? (w ∷ []) i ≡ some v → i ≡ 0
  only_place w v zero e = refl
  only_place w v (suc i) e = absurd (some-ne-none v (sym e))

  pub at_end : (l : List A) (a b : A) (j : ℕ) → get_elem? (l ++ a ∷ []) j ≡ some b → (get_elem? l j ≡ some b) ⊎ ((j ≡ length l) × (a ≡ b))
  at_end [] a b zero e = inr (refl, some-injective a b e)
  at_end [] a b (suc j) e = absurd (some-ne-none b (sym e))
  at_end (x ∷ xs) a b zero e = inl e
  at_end (x ∷ xs) a b (suc j) e = ⊎_elim inl (λ t. inr (ap suc t.0, t.1)) (at_end xs a b j e)

  -- what holds of each place holds of each after a change of one
  pub after_set : (F : ℕ → A → Type 0) (l : List A) (i : ℕ) (w : A) → F i w → ((j : ℕ) (u : A) → j ≢ i → get_elem? l j ≡ some u → F j u)
      → (j : ℕ) (u : A) → get_elem? (set l i w) j ≡ some u → F j u
  after_set F l i w mine others j u e = ⊎_elim
      (λ (x : (j ≡ i) × (w ≡ u)). subst (λ (y : ℕ × A). F y.0 y.1) (λ p. (sym x.0 p, x.1 p)) mine)
      (λ (x : (j ≢ i) × (get_elem? l j ≡ some u)). others j u x.0 x.1)
      (at_set l i j w u e)

  pub each_at : (P : A → Type 0) (xs : List A) (x : A) → AllByRecursion P xs → Contains xs x → P x
  each_at P xs x h c = All-contains P xs x (All-from_recursion P xs h) c

module _ {T : Type 0} (value : T) where
  pub opening_each : (P : ℕ × T → Type 0) (n a : ℕ) → ((i : ℕ) → a ≤ i → i < a + n → P (i, value)) → AllByRecursion P (opening_rows value a n)
  opening_each P zero a f = tt
  opening_each P (suc n) a f = (f a (omega arith) (omega arith), opening_each P n (a + 1) (λ i low high. f i (omega arith) (omega arith)))

  pub opening_weaker : (P Q : ℕ × T → Type 0) (n a : ℕ) → ((i : ℕ) → a ≤ i → P (i, value) → Q (i, value)) → AllByRecursion P (opening_rows value a n) → AllByRecursion Q (opening_rows value a n)
  opening_weaker P Q zero a f h = tt
  opening_weaker P Q (suc n) a f h = (f a (omega arith) h.0, opening_weaker P Q n (a + 1) (λ i low. f i (omega arith)) h.1)

  pub opening_next : (a m : ℕ) → a < m → opening_rows value a (m - a) ≡ (a, value) ∷ opening_rows value (a + 1) (m - (a + 1))
  opening_next a m less = let e : m - a ≡ suc (m - (a + 1)) = omega arith in ap (opening_rows value a) e
