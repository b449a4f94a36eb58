-- Arrays that are given element by element.
use Rattle.std.proofs.Common.{◌≡◌, ℕ, ◌+◌, ◌*◌, ◌/◌, ◌%◌, ◌<◌, ℤ, pos, List, length, ap, ◌∙◌, arith}
use Rattle.std.proofs.lemmas.List.{get_or-replicate}
use Rattle.std.proofs.lemmas.List.FromFn.{length-map-range_with_len, get_or-map-range_with_len}
use Rattle.std.proofs.lemmas.Nat.{div_below, mod_below, mul-add-lt}
use Rattle.sj_base.specs.declared.tile.Dims.{Dims}
use Rattle.sj_base.specs.Array.{array, each, grid, at, element, area, zeros}
use Rattle.sj_codelet.specs.Listing.{listing}
use Rattle.sj_codelet.proofs.Filling.{same_listing}
use Rattle.sj_codelet.proofs.Rows.{grid_at}

pub at-each : (d : Dims) (f : ℕ → ℤ) (p : ℕ) → p < area d → at (each d f).elements p ≡ f p
at-each d f p h = get_or-map-range_with_len f 0 (area d) p p (pos 0) h (omega arith)

pub length-each : (d : Dims) (f : ℕ → ℤ) → length (each d f).elements ≡ area d
length-each d f = length-map-range_with_len f 0 (area d)

pub same_each : (d : Dims) (f g : ℕ → ℤ) → ((p : ℕ) → p < area d → f p ≡ g p) → each d f ≡ each d g
unfolding listing
same_each d f g h = ap (λ (xs : List ℤ). array d xs) (same_listing (area d) f g h)

pub same_grid : (d : Dims) (f g : ℕ → ℕ → ℤ) → ((i j : ℕ) → i < d.rows → j < d.cols → f i j ≡ g i j) → grid d f ≡ grid d g
same_grid d f g h =
    same_each d (λ p. f (p / d.cols) (p % d.cols)) (λ p. g (p / d.cols) (p % d.cols)) (λ p l.
    let some : 0 < d.cols = grind arith in
    h (p / d.cols) (p % d.cols) (div_below p d.cols d.rows some l) (mod_below p d.cols some))

pub element-grid : (d : Dims) (f : ℕ → ℕ → ℤ) (i j : ℕ) → i < d.rows → j < d.cols → element (grid d f) i j ≡ f i j
element-grid d f i j hi hj =
    at-each d (λ p. f (p / d.cols) (p % d.cols)) (i * d.cols + j) (omega (arith, mul-add-lt i d.cols j d.rows hi hj)) ∙ grid_at d.cols f i j hj

pub element-zeros : (d : Dims) (p : ℕ) → p < area d → at (zeros d).elements p ≡ pos 0
element-zeros d p h = get_or-replicate (area d) p (pos 0) (pos 0) h
