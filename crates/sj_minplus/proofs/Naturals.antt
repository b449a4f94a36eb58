-- Arrays without a negative element, and turns that keep them so.
use Rattle.std.proofs.Common.{◌≡◌, ℕ, zero, suc, ◌/◌, ◌%◌, List, ℤ, pos, refl, arith, ⊎_elim, length}
use Rattle.std.specs.Int.{int_min}
use Rattle.std.specs.List.{All}
use Rattle.std.proofs.lemmas.Int.{ints, clamps}
use Rattle.std.proofs.lemmas.List.{get_or_past}
use Rattle.std.proofs.lemmas.Bool.{cases_lt}
use Rattle.sj_base.specs.declared.tile.Dims.{Dims}
use Rattle.sj_base.specs.Array.{Array, at, area, each, element}
use Rattle.sj_codelet.specs.MinPlus.{plus}
use Rattle.sj_codelet.specs.Equations.{after_turns, matrix}
use Rattle.sj_codelet.proofs.Elements.{at-each, length-each}
use Rattle.sj_minplus.specs.Short.{NotNegative}
use Rattle.sj_minplus.specs.Turns.{diagonal_turn, row_turn, column_turn}
use Rattle.sj_minplus.proofs.Rows.{all_from}

-- also past the end, where 0 is read
abbrev AreNatural : List ℤ → Type 0
AreNatural xs = (p : ℕ) → NotNegative (at xs p)

natural_from : (xs : List ℤ) → All NotNegative xs → AreNatural xs
natural_from xs h p =
    ⊎_elim (λ l. h p (pos 0) l) (λ g. rw (get_or_past xs p (pos 0) g) (omega (arith, ints))) (cases_lt p (length xs))

natural_least : (x a b : ℤ) → NotNegative x → NotNegative a → NotNegative b → NotNegative (int_min x (plus a b))
natural_least x a b h k l = grind (arith, ints, clamps)

natural_each : (d : Dims) (f : ℕ → ℤ) → ((p : ℕ) → NotNegative (f p)) → AreNatural (each d f).elements
natural_each d f h p =
    ⊎_elim (λ l. rw (at-each d f p l) (h p)) (λ g.
    let past = length-each d f in
    rw (get_or_past (each d f).elements p (pos 0) (omega arith)) (omega (arith, ints))) (cases_lt p (area d))

-- a turn makes no negative element
abbrev KeepsNatural : (ℕ → Array → Array) → Type 0
KeepsNatural turn = (k : ℕ) (x : Array) → AreNatural x.elements → AreNatural (turn k x).elements

after_natural : (turn : ℕ → Array → Array) → KeepsNatural turn → (k : ℕ) (x : Array) → AreNatural x.elements → AreNatural (after_turns k turn x).elements
after_natural turn keeps zero x h = h
after_natural turn keeps (suc k) x h = keeps k (after_turns k turn x) (after_natural turn keeps k x h)

after_turns_natural : (turn : ℕ → Array → Array) → KeepsNatural turn → (k m n : ℕ) (old xs : List ℤ) → xs ≡ (after_turns k turn (matrix m n old)).elements → All NotNegative old → All NotNegative xs
after_turns_natural turn keeps k m n old xs e h =
    all_from NotNegative xs (λ p l. rw e (after_natural turn keeps k (matrix m n old) (natural_from old h) p))

keeps_by : (turn : ℕ → Array → Array) (u v : ℕ → Array → ℕ → ℤ) → ((k : ℕ) (x : Array) → turn k x ≡ each x.dims (λ p. int_min (element x (p / x.dims.cols) (p % x.dims.cols)) (plus (u k x p) (v k x p)))) → ((k : ℕ) (x : Array) (p : ℕ) → AreNatural x.elements → NotNegative (u k x p)) → ((k : ℕ) (x : Array) (p : ℕ) → AreNatural x.elements → NotNegative (v k x p)) → KeepsNatural turn
keeps_by turn u v e h g k x natural p =
    rw (e k x) (natural_each x.dims (λ q. int_min (element x (q / x.dims.cols) (q % x.dims.cols)) (plus (u k x q) (v k x q))) (λ q. natural_least (element x (q / x.dims.cols) (q % x.dims.cols)) (u k x q) (v k x q) (natural _) (h k x q natural) (g k x q natural)) p)

pub diagonal_natural : (k m n : ℕ) (old xs : List ℤ) → xs ≡ (after_turns k diagonal_turn (matrix m n old)).elements → All NotNegative old → All NotNegative xs
diagonal_natural =
    after_turns_natural diagonal_turn (keeps_by diagonal_turn (λ k x p. element x (p / x.dims.cols) k) (λ k x p. element x k (p % x.dims.cols)) (λ k x. refl) (λ k x p h. h _) (λ k x p h. h _))

pub row_natural : (d : Array) → All NotNegative d.elements → (k m n : ℕ) (old xs : List ℤ) → xs ≡ (after_turns k (row_turn d) (matrix m n old)).elements → All NotNegative old → All NotNegative xs
row_natural d whole =
    after_turns_natural (row_turn d) (keeps_by (row_turn d) (λ k x p. element d (p / x.dims.cols) k) (λ k x p. element x k (p % x.dims.cols)) (λ k x. refl) (λ k x p h. natural_from d.elements whole _) (λ k x p h. h _))

pub column_natural : (d : Array) → All NotNegative d.elements → (k m n : ℕ) (old xs : List ℤ) → xs ≡ (after_turns k (column_turn d) (matrix m n old)).elements → All NotNegative old → All NotNegative xs
column_natural d whole =
    after_turns_natural (column_turn d) (keeps_by (column_turn d) (λ k x p. element x (p / x.dims.cols) k) (λ k x p. element d k (p % x.dims.cols)) (λ k x. refl) (λ k x p h. h _) (λ k x p h. natural_from d.elements whole _))
