-- Turns one after another over a list.
use Rattle.std.proofs.Common.{◌≡◌, ℕ, zero, suc, ◌+◌, List, ℤ, ◌∙◌, sym, ap, refl, add-one}
use Rattle.sj_base.specs.Array.{Array, array}
use Rattle.sj_codelet.specs.Equations.{after_turns, matrix}

-- a turn keeps the dimensions
abbrev pub KeepsDims : (ℕ → Array → Array) → Type 0
KeepsDims turn = (k : ℕ) (x : Array) → (turn k x).dims ≡ x.dims

pub dims-after_turns : (turn : ℕ → Array → Array) → KeepsDims turn → (k : ℕ) (x : Array) → (after_turns k turn x).dims ≡ x.dims
dims-after_turns turn keeps zero x = refl
dims-after_turns turn keeps (suc k) x = keeps k (after_turns k turn x) ∙ dims-after_turns turn keeps k x

pub turn_more : (turn : ℕ → Array → Array) → KeepsDims turn → (k m n : ℕ) (old xs ys : List ℤ) → xs ≡ (after_turns k turn (matrix m n old)).elements → ys ≡ (turn k (matrix m n xs)).elements → ys ≡ (after_turns (k + 1) turn (matrix m n old)).elements
turn_more turn keeps k m n old xs ys e h =
    let x = after_turns k turn (matrix m n old) in
    let same : matrix m n xs ≡ x = ap (λ d. array d xs) (sym (dims-after_turns turn keeps k (matrix m n old))) ∙ ap (array x.dims) e in
    h
    ∙ ap (λ y. (turn k y).elements) same
    ∙ ap (λ q. (after_turns q turn (matrix m n old)).elements) (sym (add-one k))
