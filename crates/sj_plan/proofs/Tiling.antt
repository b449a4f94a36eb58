-- The parts tile the interval, so the children tile the array.
use Rattle.std.proofs.Common.{◌≡◌, map, List, ℕ, zero, suc, ◌+◌, ◌<◌, Bool, cond, ◌&&◌, ltb, leb, sym, ap, ◌∙◌, arith, inl, inr}
use Rattle.std.specs.List.{range_with_len, count_by, flat_map}
use Rattle.std.proofs.lemmas.Bool.{lt-ltb, le-ltb}
use Rattle.std.proofs.lemmas.Bool.Decides.{nat_tests}
use Rattle.std.proofs.lemmas.List.Elements.{All-from_recursion, All-map}
use Rattle.std.proofs.lemmas.List.Sums.{sum_by_push}
use Rattle.sj_base.specs.declared.tile.Dims.{Dims}
use Rattle.sj_base.proofs.Numbers.{suc-add, one_by_one}
use Rattle.sj_plan.specs.declared.parts.Parts.{Parts}
use Rattle.sj_plan.specs.declared.rect.Rect.{Rect}
use Rattle.sj_plan.specs.Interval.{part_first, part_len}
use Rattle.sj_plan.specs.Parts.{Fits, places}
use Rattle.sj_plan.specs.Pieces.{IsTiling, AreInOrder, Precedes}
use Rattle.sj_plan.specs.Rect.{child, children_of, holds, Within}
use Rattle.sj_plan.proofs.Lists.{grid_row, range_more, count_by-map, count_grid, each-places, ordered-map, ordered-places, pairs-from_ordered}
use Rattle.sj_plan.proofs.Splitting.{ends_before, part_end, part_first-closed}

-- part k of n items in p parts holds x, as a test
abbrev pub part_holds : ℕ → ℕ → ℕ → ℕ → Bool
part_holds n p x k = leb (part_first n p k) x && ltb x (part_first n p k + part_len n p k)

one_part : (x first len : ℕ) → cond (ltb x first) 1 0 + cond (leb first x && ltb x (first + len)) 1 0 ≡ cond (ltb x (first + len)) 1 0
one_part x first len = grind (arith, nat_tests)

-- of the first k parts one holds x, if x lies before part k
first_parts : (n p x k : ℕ) → count_by (part_holds n p x) (range_with_len 0 k) ≡ cond (ltb x (part_first n p k)) 1 0
first_parts n p x zero = sym (ap (λ t. cond t 1 0) (le-ltb x 0 (omega arith)))
first_parts n p x (suc k) =
    let here = sum_by_push (λ j. cond (part_holds n p x j) 1 0) (range_with_len 0 k) k in
    ap (count_by (part_holds n p x)) (ap (range_with_len 0) (suc-add k) ∙ range_more k) ∙ here ∙ ap (λ m. m + cond (part_holds n p x k) 1 0) (first_parts n p x k) ∙ one_part x (part_first n p k) (part_len n p k)

pub part_first-all : (n p : ℕ) → 0 < p → part_first n p p ≡ n
part_first-all n p some = let first = part_first-closed n p p in omega arith

pub part_holds-once : (n p x : ℕ) → 0 < p → x < n → count_by (part_holds n p x) (range_with_len 0 p) ≡ 1
part_holds-once n p x some here =
    first_parts n p x p ∙ ap (λ m. cond (ltb x m) 1 0) (part_first-all n p some) ∙ ap (λ t. cond t 1 0) (lt-ltb x n here)

pub children_of-tile : (d : Dims) (p : Parts) (row col : ℕ) → Fits p d → row < d.rows → col < d.cols → count_by (λ r. holds r row col) (children_of d p) ≡ 1
children_of-tile d p row col fits in_rows in_cols =
    count_by-map (λ r. holds r row col) (child d p) (places p) ∙ count_grid (part_holds d.rows p.r row) (part_holds d.cols p.c col) p.c (range_with_len 0 p.r) ∙ one_by_one (part_holds-once d.rows p.r row fits.some_rows in_rows) (part_holds-once d.cols p.c col fits.some_cols in_cols)

pub children_of-tiling : (d : Dims) (p : Parts) → Fits p d → IsTiling d (children_of d p)
children_of-tiling d p fits = record {
  within = All-map (λ r. Within r d) (child d p) (places p) (All-from_recursion (λ place. Within (child d p place) d) (places p) (each-places (λ place. Within (child d p place) d) p (λ place inside. (part_end d.rows p.r place.0 inside.0, part_end d.cols p.c place.1 inside.1))));
  once = λ row col in_rows in_cols. children_of-tile d p row col fits in_rows in_cols;
}

-- the children stand in order
pub children_of-order : (d : Dims) (p : Parts) → AreInOrder (children_of d p)
children_of-order d p =
    let R = λ (x y : ℕ × ℕ). Precedes (child d p x) (child d p y) in
    pairs-from_ordered Precedes (children_of d p) (ordered-map Precedes (child d p) (places p) (ordered-places R (λ i k j l h. inl (ends_before d.rows p.r i k h)) (λ i j l h. inr (ends_before d.cols p.c j l h)) p))

-- the children of all row parts are all children
pub all_children : (d : Dims) (p : Parts) (made rects : List Rect) (i : ℕ) → made ≡ rects → rects ≡ map (child d p) (flat_map (grid_row p.c) (range_with_len 0 i)) → i ≡ p.r → children_of d p ≡ made
all_children d p made rects i e f last = sym (e ∙ f ∙ ap (λ n. map (child d p) (flat_map (grid_row p.c) (range_with_len 0 n))) last)
