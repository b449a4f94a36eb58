-- Rectangles that tile an array, with their windows of it put in place in any order, make the array again.
use Rattle.std.proofs.Common.{◌≡◌, ℕ, ◌+◌, ◌-◌, ◌<◌, cond, List, [], ◌∷◌, map, sym, ap, refl, ◌∙◌, arith}
use Rattle.std.specs.List.{AllByRecursion, list_any}
use Rattle.std.proofs.lemmas.Bool.{cond-true}
use Rattle.std.proofs.lemmas.List.Elements.{recursion_from_All}
use Rattle.std.proofs.lemmas.List.Sorted.{sum_by-IsPermutation}
use Rattle.sj_base.specs.declared.tile.Dims.{Dims}
use Rattle.sj_base.specs.Array.{Array, element}
use Rattle.sj_base.proofs.Lists.{list_any-map, counted_some}
use Rattle.sj_plan.specs.declared.rect.Rect.{Rect}
use Rattle.sj_plan.specs.Pieces.{IsTiling}
use Rattle.sj_plan.specs.Rect.{holds}
use Rattle.sj_plan.specs.Window.{window, with_window, gathered, IsWhole, Reassemble}
use Rattle.sj_plan.proofs.Windows.{cond_same, cond_twice, element-with_window, element-window, HasElement-from_true, IsWhole-with_window, same_arrays}

abbrev IsPart : Array → Rect × Array → Type 0
IsPart a part = part.1 ≡ window a part.0

element-put_back : (a b : Array) (part : Rect × Array) (i j : ℕ) → IsPart a part → i < b.dims.rows → j < b.dims.cols → element (with_window b part.0 part.1) i j ≡ cond (holds part.0 i j) (element a i j) (element b i j)
element-put_back a b part i j is in_rows in_cols =
    let r = part.0 in
    element-with_window b r part.1 i j in_rows in_cols ∙ cond_same (holds r i j) _ (element a i j) (element b i j) (λ t.
    let h = HasElement-from_true r i j t in
    ap (λ (x : Array). element x (0 + (i - r.row)) (0 + (j - r.col))) is ∙ ap (λ n. element (window a r) n (0 + (j - r.col))) (omega arith) ∙ ap (λ n. element (window a r) (i - r.row) n) (omega arith)
    ∙ element-window a r (i - r.row) (j - r.col) (omega (arith, h.0.0, h.0.1)) (omega (arith, h.1.0, h.1.1)) ∙ ap (λ n. element a n (r.col + (j - r.col))) (omega (arith, h.0.0)) ∙ ap (λ n. element a i n) (omega (arith, h.1.0)))

dims-gathered : (parts : List (Rect × Array)) (b : Array) → (gathered b parts).dims ≡ b.dims
dims-gathered [] b = refl
dims-gathered (part ∷ parts) b = dims-gathered parts (with_window b part.0 part.1)

IsWhole-gathered : (parts : List (Rect × Array)) (b : Array) → IsWhole b → IsWhole (gathered b parts)
IsWhole-gathered [] b whole = whole
IsWhole-gathered (part ∷ parts) b whole = IsWhole-gathered parts (with_window b part.0 part.1) (IsWhole-with_window b part.0 part.1)

element-gathered : (a : Array) (i j : ℕ) (parts : List (Rect × Array)) → AllByRecursion (IsPart a) parts → (b : Array) → i < b.dims.rows → j < b.dims.cols → element (gathered b parts) i j ≡ cond (list_any (λ part. holds part.0 i j) parts) (element a i j) (element b i j)
element-gathered a i j [] are b in_rows in_cols = refl
element-gathered a i j (part ∷ parts) are b in_rows in_cols =
    element-gathered a i j parts are.1 (with_window b part.0 part.1) in_rows in_cols
    ∙ ap (λ e. cond (list_any (λ p. holds p.0 i j) parts) (element a i j) e) (element-put_back a b part i j are.0 in_rows in_cols)
    ∙ cond_twice (holds part.0 i j) (list_any (λ p. holds p.0 i j) parts) (element a i j) (element b i j)

pub tiling-reassembles : (d : Dims) (rects : List Rect) → IsTiling d rects → Reassemble d rects
tiling-reassembles d rects tiling a blank parts dims_a whole_a dims_b whole_b order are =
    let same = dims-gathered parts blank in
    let each = recursion_from_All (IsPart a) parts are in
    same_arrays (gathered blank parts) a (same ∙ dims_b ∙ sym dims_a) (IsWhole-gathered parts blank whole_b) whole_a (λ i j in_rows in_cols.
    let in_blank_rows : i < blank.dims.rows = omega (arith, ap (λ (e : Dims). e.rows) same) in
    let in_blank_cols : j < blank.dims.cols = omega (arith, ap (λ (e : Dims). e.cols) same) in
    let test = λ (r : Rect). holds r i j in
    let places = map (λ (part : Rect × Array). part.0) parts in
    let once = tiling.once i j (omega (arith, ap (λ (e : Dims). e.rows) dims_b)) (omega (arith, ap (λ (e : Dims). e.cols) dims_b)) in
    let counted = sum_by-IsPermutation (λ r. cond (test r) 1 0) rects places order in
    let held = sym (list_any-map test (λ (part : Rect × Array). part.0) parts) ∙ counted_some test places (omega arith) in
    element-gathered a i j parts each blank in_blank_rows in_blank_cols ∙ cond-true _ _ _ held)
