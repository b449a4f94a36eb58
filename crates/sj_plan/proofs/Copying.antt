-- What copies make of rectangles: a new one is made whole by the copies to it from old ones that hold each of its elements.
use Rattle.std.proofs.Common.{◌≡◌, ℕ, ℤ, pos, ◌+◌, ◌-◌, ◌<◌, ◌≤◌, Bool, true, false, cond, ◌&&◌, ◌||◌, eqb, ltb, List, [], ◌∷◌, ◌++◌, map, sym, ap, refl, ◌∙◌, subst, arith, inl, inr, ◌⊎◌}
use Rattle.std.specs.List.{AllByRecursion, count_by, filter, flat_map, list_any}
use Rattle.std.proofs.lemmas.Bool.{lt-ltb, le-ltb, ltb-true, eq-eqb, and_from, and_left, and_right, and_parts, cond-true, cond-false, false≢true}
use Rattle.std.proofs.lemmas.Bool.Decides.{nat_tests}
use Rattle.std.proofs.lemmas.List.{append-nil}
use Rattle.std.proofs.lemmas.List.Elements.{All-from_recursion, filter-append, recursion_from_All}
use Rattle.std.proofs.lemmas.List.Folds.{Any-from_list_any}
use Rattle.std.proofs.lemmas.List.Sums.{sum_by-cons}
use Rattle.sj_base.specs.declared.tile.Dims.{Dims}
use Rattle.sj_base.specs.Array.{Array, element, zeros}
use Rattle.sj_base.specs.Window.{in_rect}
use Rattle.sj_base.proofs.Tables.{item-table, length-table}
use Rattle.sj_base.proofs.Lists.{each-weaker, list_any-map, list_any-filter, counted_some}
use Rattle.sj_plan.specs.declared.interval.Interval.{Interval}
use Rattle.sj_plan.specs.declared.rect.Rect.{Rect}
use Rattle.sj_plan.specs.Interval.{Lies, overlap}
use Rattle.sj_plan.specs.Rect.{holds, row_interval, col_interval, rect_dims, Within, Overlap}
use Rattle.sj_plan.specs.Window.{window, IsWhole}
use Rattle.sj_plan.specs.Pieces.{IsTiling, AreInOrder, Precedes, NamedRects, rects_of, Copy, copy_between, has_elements, copies_to, copies, begins, copied, all_copied, BeginOnce, after_copy, after_copies}
use Rattle.sj_plan.proofs.Lists.{any-implied, each-of, each-map, each-filter, filter_all, filter_gone, Ordered, ordered-from_map, ordered-from_pairs}
use Rattle.sj_plan.proofs.Windows.{cond_same, cond_twice, element-window, holds-true, HasElement-from_true, IsWhole-tabulate, same_arrays}

-- ---- one copy

abbrev place_rect : ℕ × ℕ → Dims → Rect
place_rect at d = record { row = at.0; col = at.1; rows = d.rows; cols = d.cols }

-- the copy writes the element in row i and column j
abbrev covers : {C : Type 0} → ℕ → ℕ → Copy C → Bool
covers i j c = in_rect c.at_to c.dims i j

abbrev taken : {C : Type 0} → (C → Array) → Copy C → ℕ → ℕ → ℤ
taken old c i j = element (old c.from) (c.at_from.0 + (i - c.at_to.0)) (c.at_from.1 + (j - c.at_to.1))

-- if it does, then it writes the wanted element
abbrev Right : {C : Type 0} → (C → Array) → ℤ → ℕ → ℕ → Copy C → Type 0
Right old target i j c = covers i j c ≡ true → taken old c i j ≡ target

abbrev start : Bool → Array → Array
start t new = cond t (zeros new.dims) new

dims-start : (t : Bool) (new : Array) → (start t new).dims ≡ new.dims
dims-start true new = refl
dims-start false new = refl

element-copied : {C : Type 0} (old : C → Array) (target : ℤ) (i j : ℕ) (new : Array) (c : Copy C) → i < new.dims.rows → j < new.dims.cols → Right old target i j c → element (copied old new c) i j ≡ cond (covers i j c) target (element (start (begins c) new) i j)
element-copied old target i j new c in_rows in_cols right =
    let first = start (begins c) new in
    let same = dims-start (begins c) new in
    item-table (pos 0) first.dims (λ i j. cond (covers i j c) (taken old c i j) (element first i j)) i j (omega (arith, ap (λ (d : Dims). d.rows) same)) (omega (arith, ap (λ (d : Dims). d.cols) same))
    ∙ cond_same (covers i j c) (taken old c i j) target (element first i j) right

IsWhole-copied : {C : Type 0} (old : C → Array) (new : Array) (c : Copy C) → IsWhole (copied old new c)
IsWhole-copied old new c =
    let first = start (begins c) new in
    length-table first.dims (λ i j. cond (covers i j c) (taken old c i j) (element first i j))

-- ---- copies in order

pub dims-all_copied : {C : Type 0} (old : C → Array) (cs : List (Copy C)) (new : Array) → (all_copied old new cs).dims ≡ new.dims
dims-all_copied old [] new = refl
dims-all_copied old (c ∷ cs) new = dims-all_copied old cs (copied old new c) ∙ dims-start (begins c) new

pub IsWhole-all_copied : {C : Type 0} (old : C → Array) (cs : List (Copy C)) (new : Array) → IsWhole new → IsWhole (all_copied old new cs)
IsWhole-all_copied old [] new whole = whole
IsWhole-all_copied old (c ∷ cs) new whole = IsWhole-all_copied old cs (copied old new c) (IsWhole-copied old new c)

-- after right copies, none of which begins, an element is the wanted one, if some copy writes it
element-further : {C : Type 0} (old : C → Array) (target : ℤ) (i j : ℕ) (cs : List (Copy C)) → AllByRecursion (Right old target i j) cs → AllByRecursion (λ c. begins c ≡ false) cs → (new : Array) → i < new.dims.rows → j < new.dims.cols → element (all_copied old new cs) i j ≡ cond (list_any (covers i j) cs) target (element new i j)
element-further old target i j [] right later new in_rows in_cols = refl
element-further old target i j (c ∷ cs) right later new in_rows in_cols =
    let same = dims-start (begins c) new in
    let rest = element-further old target i j cs right.1 later.1 (copied old new c) (omega (arith, ap (λ (d : Dims). d.rows) same)) (omega (arith, ap (λ (d : Dims). d.cols) same)) in
    let here = element-copied old target i j new c in_rows in_cols right.0 ∙ ap (λ (t : Bool). cond (covers i j c) target (element (start t new) i j)) later.0 in
    rest ∙ ap (λ (e : ℤ). cond (list_any (covers i j) cs) target e) here ∙ cond_twice (covers i j c) (list_any (covers i j) cs) target (element new i j)

element-made : {C : Type 0} (old : C → Array) (target : ℤ) (i j : ℕ) (cs : List (Copy C)) → AllByRecursion (Right old target i j) cs → BeginOnce cs → (new : Array) → i < new.dims.rows → j < new.dims.cols → list_any (covers i j) cs ≡ true → element (all_copied old new cs) i j ≡ target
element-made old target i j [] right once new in_rows in_cols some = absurd once
element-made old target i j (c ∷ cs) right once new in_rows in_cols some =
    let same = dims-start (begins c) new in
    let later = recursion_from_All (λ e. begins e ≡ false) cs once.1 in
    let first = start (begins c) new in
    element-further old target i j cs right.1 later (copied old new c) (omega (arith, ap (λ (d : Dims). d.rows) same)) (omega (arith, ap (λ (d : Dims). d.cols) same))
    ∙ ap (λ (e : ℤ). cond (list_any (covers i j) cs) target e) (element-copied old target i j new c in_rows in_cols right.0)
    ∙ cond_twice (covers i j c) (list_any (covers i j) cs) target (element first i j) ∙ cond-true (covers i j c || list_any (covers i j) cs) target (element first i j) some

-- ---- which rectangles are copied

overlap-first : (o n : Interval) → 0 < (overlap o n).len → Lies (overlap o n).first o × Lies (overlap o n).first n
overlap-first o n some = ((omega arith, omega arith), (omega arith, omega arith))

overlap-some : (o n : Interval) (x : ℕ) → Lies x o → Lies x n → 0 < (overlap o n).len
overlap-some o n x a b = omega (arith, a.0, a.1, b.0, b.1)

pub Overlap-from_test : {C : Type 0} (olds news : NamedRects C) (from to : C) → has_elements (copy_between olds news from to) ≡ true → Overlap (olds.rect from) (news.rect to)
Overlap-from_test olds news from to meets =
    let o = olds.rect from in
    let n = news.rect to in
    let c = copy_between olds news from to in
    let both = and_parts (ltb 0 c.dims.rows) (ltb 0 c.dims.cols) meets in
    let rows = overlap-first (row_interval o) (row_interval n) (ltb-true 0 c.dims.rows both.0) in
    let cols = overlap-first (col_interval o) (col_interval n) (ltb-true 0 c.dims.cols both.1) in
    ((overlap (row_interval o) (row_interval n)).first, (overlap (col_interval o) (col_interval n)).first, ((rows.0, cols.0), (rows.1, cols.1)))

pub has_elements-true : {C : Type 0} (olds news : NamedRects C) (from to : C) → Overlap (olds.rect from) (news.rect to) → has_elements (copy_between olds news from to) ≡ true
has_elements-true olds news from to common =
    let o = olds.rect from in
    let n = news.rect to in
    let c = copy_between olds news from to in
    let in_old = common.2.0 in
    let in_new = common.2.1 in
    and_from _ _ (lt-ltb 0 c.dims.rows (overlap-some (row_interval o) (row_interval n) common.0 in_old.0 in_new.0)) (lt-ltb 0 c.dims.cols (overlap-some (col_interval o) (col_interval n) common.1 in_old.1 in_new.1))

overlap-within : (o n : Interval) → 0 < (overlap o n).len → ((overlap o n).first - o.first + (overlap o n).len ≤ o.len) × ((overlap o n).first - n.first + (overlap o n).len ≤ n.len)
overlap-within o n some = (omega arith, omega arith)

-- a copy with elements lies in both its rectangles
pub copy_between-within : {C : Type 0} (olds news : NamedRects C) (from to : C) → has_elements (copy_between olds news from to) ≡ true → let c = copy_between olds news from to in (0 < c.dims.rows) × (0 < c.dims.cols) × Within (place_rect c.at_from c.dims) (rect_dims (olds.rect from)) × Within (place_rect c.at_to c.dims) (rect_dims (news.rect to))
copy_between-within olds news from to meets =
    let o = olds.rect from in
    let n = news.rect to in
    let c = copy_between olds news from to in
    let both = and_parts (ltb 0 c.dims.rows) (ltb 0 c.dims.cols) meets in
    let some_rows = ltb-true 0 c.dims.rows both.0 in
    let some_cols = ltb-true 0 c.dims.cols both.1 in
    let rows = overlap-within (row_interval o) (row_interval n) some_rows in
    let cols = overlap-within (col_interval o) (col_interval n) some_cols in
    (some_rows, some_cols, (rows.0, cols.0), (rows.1, cols.1))

-- ---- copies between rectangles

-- an index of what two intervals share, in the coordinates of each
overlap-inside : (o n : Interval) (i : ℕ) → (overlap o n).first - n.first ≤ i → i < (overlap o n).first - n.first + (overlap o n).len → (overlap o n).first - o.first + (i - ((overlap o n).first - n.first)) < o.len
overlap-inside o n i from upto = omega arith

overlap-same : (o n : Interval) (i : ℕ) → (overlap o n).first - n.first ≤ i → o.first + ((overlap o n).first - o.first + (i - ((overlap o n).first - n.first))) ≡ n.first + i
overlap-same o n i from = omega arith

copy_between-right : {C : Type 0} (olds news : NamedRects C) (a : Array) (old : C → Array) (from to : C) (i j : ℕ) → old from ≡ window a (olds.rect from) → Right old (element a ((news.rect to).row + i) ((news.rect to).col + j)) i j (copy_between olds news from to)
copy_between-right olds news a old from to i j is covered =
    let o = olds.rect from in
    let n = news.rect to in
    let c = copy_between olds news from to in
    let inside = HasElement-from_true (place_rect c.at_to c.dims) i j covered in
    let u = i - c.at_to.0 in
    let v = j - c.at_to.1 in
    ap (λ (x : Array). element x (c.at_from.0 + u) (c.at_from.1 + v)) is
    ∙ element-window a o (c.at_from.0 + u) (c.at_from.1 + v) (overlap-inside (row_interval o) (row_interval n) i inside.0.0 inside.0.1) (overlap-inside (col_interval o) (col_interval n) j inside.1.0 inside.1.1)
    ∙ ap (λ (x : ℕ). element a x (o.col + (c.at_from.1 + v))) (overlap-same (row_interval o) (row_interval n) i inside.0.0) ∙ ap (λ (y : ℕ). element a (n.row + i) y) (overlap-same (col_interval o) (col_interval n) j inside.1.0)

overlap-holds : (o n : Interval) (i : ℕ) → i < n.len → Lies (n.first + i) o → (0 < (overlap o n).len) × Lies i (record { first = (overlap o n).first - n.first; len = (overlap o n).len })
overlap-holds o n i in_new in_old = (omega arith, (omega arith, omega arith))

-- what holds an element of the new rectangle gives a copy that writes it
copy_between-covers : {C : Type 0} (olds news : NamedRects C) (from to : C) (i j : ℕ) → i < (news.rect to).rows → j < (news.rect to).cols → holds (olds.rect from) ((news.rect to).row + i) ((news.rect to).col + j) ≡ true → (has_elements (copy_between olds news from to) && covers i j (copy_between olds news from to)) ≡ true
copy_between-covers olds news from to i j in_rows in_cols held =
    let o = olds.rect from in
    let n = news.rect to in
    let c = copy_between olds news from to in
    let h = HasElement-from_true o (n.row + i) (n.col + j) held in
    let rows = overlap-holds (row_interval o) (row_interval n) i in_rows h.0 in
    let cols = overlap-holds (col_interval o) (col_interval n) j in_cols h.1 in
    and_from _ _ (and_from _ _ (lt-ltb 0 c.dims.rows rows.0) (lt-ltb 0 c.dims.cols cols.0)) (holds-true (place_rect c.at_to c.dims) i j (rows.1, cols.1))

copies_to-cover : {C : Type 0} (d : Dims) (olds news : NamedRects C) (to : C) (i j : ℕ) → IsTiling d (rects_of olds) → Within (news.rect to) d → i < (news.rect to).rows → j < (news.rect to).cols → list_any (covers i j) (copies_to olds news to) ≡ true
copies_to-cover d olds news to i j tiling within in_rows in_cols =
    let n = news.rect to in
    let make = copy_between olds news in
    let test = λ (r : Rect). holds r (n.row + i) (n.col + j) in
    let once = tiling.once (n.row + i) (n.col + j) (omega (arith, within.0)) (omega (arith, within.1)) in
    let held = sym (list_any-map test olds.rect olds.names) ∙ counted_some test (rects_of olds) (omega arith) in
    list_any-filter (covers i j) has_elements (map (λ from. make from to) olds.names) ∙ list_any-map (λ c. has_elements c && covers i j c) (λ from. make from to) olds.names
    ∙ any-implied (λ from. test (olds.rect from)) (λ from. has_elements (make from to) && covers i j (make from to)) (λ from h. copy_between-covers olds news from to i j in_rows in_cols h) olds.names held

-- ---- the first copy to a rectangle

none-overlap : (o n : Interval) (x : ℕ) → o.first + o.len ≤ x → x ≤ n.first → (overlap o n).len ≤ 0
none-overlap o n x before from = omega arith

starts-inside : (o n : Interval) → o.first ≤ n.first → (overlap o n).first - n.first ≡ 0
starts-inside o n h = omega arith

starts-past : (o n : Interval) → n.first < o.first → 0 < (overlap o n).first - n.first
starts-past o n h = omega arith

not_zero : (x : ℕ) → 0 < x → eqb x 0 ≡ false
not_zero x h = grind (arith, nat_tests)

module _ {C : Type 0} (olds news : NamedRects C) (to : C) (some_rows : 0 < (news.rect to).rows) (some_cols : 0 < (news.rect to).cols) where
  abbrev made : C → Copy C
  made from = copy_between olds news from to

  -- the old rectangle holds the first element of the new one
  abbrev holds_first : C → Bool
  holds_first from = holds (olds.rect from) (news.rect to).row (news.rect to).col

  -- what precedes the old rectangle that does shares nothing with the new one
  passed_over : (from other : C) → Precedes (olds.rect from) (olds.rect other) → holds_first other ≡ true → has_elements (made from) ≡ false
  passed_over from other (inl above) held =
      let h = HasElement-from_true (olds.rect other) (news.rect to).row (news.rect to).col held in
      and_left (ltb 0 (made from).dims.rows) (ltb 0 (made from).dims.cols) (le-ltb 0 (made from).dims.rows (none-overlap (row_interval (olds.rect from)) (row_interval (news.rect to)) (olds.rect other).row above h.0.0))
  passed_over from other (inr left) held =
      let h = HasElement-from_true (olds.rect other) (news.rect to).row (news.rect to).col held in
      and_right (ltb 0 (made from).dims.rows) (ltb 0 (made from).dims.cols) (le-ltb 0 (made from).dims.cols (none-overlap (col_interval (olds.rect from)) (col_interval (news.rect to)) (olds.rect other).col left h.1.0))

  -- what it precedes begins further down or further right
  begins_later : (first other : C) → holds_first first ≡ true → Precedes (olds.rect first) (olds.rect other) → begins (made other) ≡ false
  begins_later first other held (inl above) =
      let h = HasElement-from_true (olds.rect first) (news.rect to).row (news.rect to).col held in
      and_left (eqb (made other).at_to.0 0) (eqb (made other).at_to.1 0) (not_zero (made other).at_to.0 (starts-past (row_interval (olds.rect other)) (row_interval (news.rect to)) (omega (arith, above, h.0.1))))
  begins_later first other held (inr left) =
      let h = HasElement-from_true (olds.rect first) (news.rect to).row (news.rect to).col held in
      and_right (eqb (made other).at_to.0 0) (eqb (made other).at_to.1 0) (not_zero (made other).at_to.1 (starts-past (col_interval (olds.rect other)) (col_interval (news.rect to)) (omega (arith, left, h.1.1))))

  begins_here : (first : C) → holds_first first ≡ true → (has_elements (made first) ≡ true) × (begins (made first) ≡ true)
  begins_here first held =
      let n = news.rect to in
      let h = HasElement-from_true (olds.rect first) n.row n.col held in (
        has_elements-true olds news first to (n.row, n.col, (h, ((omega arith, omega arith), (omega arith, omega arith)))),
        and_from _ _ (eq-eqb (made first).at_to.0 0 (starts-inside (row_interval (olds.rect first)) (row_interval n) h.0.0)) (eq-eqb (made first).at_to.1 0 (starts-inside (col_interval (olds.rect first)) (col_interval n) h.1.0)),
      )

  abbrev of_names : List C → List (Copy C)
  of_names names = filter has_elements (map made names)

  abbrev Before : C → C → Type 0
  Before x y = Precedes (olds.rect x) (olds.rect y)

  begin_step : (from : C) (names : List C) → AllByRecursion (Before from) names → (list_any holds_first names ≡ true → BeginOnce (of_names names)) → (t : Bool) → holds_first from ≡ t → (t || list_any holds_first names) ≡ true → BeginOnce (of_names (from ∷ names))
  begin_step from names before further true held some =
      let here = begins_here from held in
      let Later : Copy C → Type 0 = λ c. begins c ≡ false in
      let later = each-filter Later has_elements (map made names) (each-map (λ c. has_elements c ≡ true → Later c) made names (each-weaker (Before from) (λ x. has_elements (made x) ≡ true → Later (made x)) (λ x b _. begins_later from x held b) names before)) in
      subst BeginOnce (sym (cond-true (has_elements (made from)) (made from ∷ of_names names) (of_names names) here.0)) (here.1, All-from_recursion Later (of_names names) later)
  begin_step from names before further false held some =
      let found = Any-from_list_any holds_first names some in
      let precedes = subst (Before from) found.3 (All-from_recursion (Before from) names before found.0 found.1 found.2) in
      subst BeginOnce (sym (cond-false (has_elements (made from)) (made from ∷ of_names names) (of_names names) (passed_over from found.1 precedes found.4))) (further some)

  begin : (names : List C) → Ordered Before names → list_any holds_first names ≡ true → BeginOnce (of_names names)
  begin [] ordered some = absurd (false≢true some)
  begin (from ∷ names) ordered some = begin_step from names ordered.0 (begin names ordered.1) (holds_first from) refl some

  -- of the copies from rectangles that tile an array in order, the first begins the new rectangle, and no other
  pub copies_to-begin : (d : Dims) → IsTiling d (rects_of olds) → AreInOrder (rects_of olds) → Within (news.rect to) d → BeginOnce (copies_to olds news to)
  copies_to-begin d tiling order within =
      let n = news.rect to in
      let test = λ (r : Rect). holds r n.row n.col in
      let once = tiling.once n.row n.col (omega (arith, within.0)) (omega (arith, within.1)) in
      let held = sym (list_any-map test olds.rect olds.names) ∙ counted_some test (rects_of olds) (omega arith) in
      begin olds.names (ordered-from_map Precedes olds.rect olds.names (ordered-from_pairs Precedes (rects_of olds) order)) held

-- ---- what they make

-- the copies to a new rectangle, from the old ones that tile an array, make its window of it, whatever was there before
pub copies_to-make : {C : Type 0} (d : Dims) (olds news : NamedRects C) (to : C) (a : Array) (old : C → Array) (new : Array)
    → IsTiling d (rects_of olds) → AreInOrder (rects_of olds) → Within (news.rect to) d → 0 < (news.rect to).rows → 0 < (news.rect to).cols → AllByRecursion (λ c. old c ≡ window a (olds.rect c)) olds.names
    → IsWhole new → new.dims ≡ rect_dims (news.rect to) → all_copied old new (copies_to olds news to) ≡ window a (news.rect to)
copies_to-make {C} d olds news to a old new tiling order within some_rows some_cols are whole dims =
    let n = news.rect to in
    let once = copies_to-begin olds news to some_rows some_cols d tiling order within in
    let cs = copies_to olds news to in
    let same = dims-all_copied old cs new ∙ dims in
    same_arrays (all_copied old new cs) (window a n) same (IsWhole-all_copied old cs new whole) (IsWhole-tabulate (rect_dims n) (λ i j. element a (n.row + i) (n.col + j))) (λ i j in_rows in_cols.
    let in_new_rows : i < n.rows = omega (arith, ap (λ (e : Dims). e.rows) same) in
    let in_new_cols : j < n.cols = omega (arith, ap (λ (e : Dims). e.cols) same) in
    let target = element a (n.row + i) (n.col + j) in
    let Q : C → Type 0 = λ c. old c ≡ window a (olds.rect c) in
    let right : AllByRecursion (Right old target i j) cs = each-filter (Right old target i j) has_elements (map (λ from. copy_between olds news from to) olds.names)
    (each-map (λ c. has_elements c ≡ true → Right old target i j c) (λ from. copy_between olds news from to) olds.names (each-weaker Q (λ from. has_elements (copy_between olds news from to) ≡ true → Right old target i j (copy_between olds news from to)) (λ from is _. copy_between-right olds news a old from to i j is) olds.names are)) in
    element-made old target i j cs right once new (omega (arith, ap (λ (e : Dims). e.rows) dims)) (omega (arith, ap (λ (e : Dims). e.cols) dims)) (copies_to-cover d olds news to i j tiling within in_new_rows in_new_cols)
    ∙ sym (element-window a n i j in_new_rows in_new_cols))

-- ---- copies to many rectangles

one_name : {C : Type 0} (t : Bool) (old : C → Array) (new : Array) (c : Copy C) (cs : List (Copy C)) → all_copied old (cond t (copied old new c) new) cs ≡ all_copied old new (cond t (c ∷ cs) cs)
one_name true old new c cs = refl
one_name false old new c cs = refl

-- what copies make of one rectangle is what those of them that go to it do
pub after_copies-to : {C : Type 0} (same : C → C → Bool) (old : C → Array) (to : C) (cs : List (Copy C)) (new : C → Array) → after_copies same old new cs to ≡ all_copied old (new to) (filter (λ c. same to c.to) cs)
after_copies-to same old to [] new = refl
after_copies-to same old to (c ∷ cs) new =
    after_copies-to same old to cs (after_copy same old new c) ∙ one_name (same to c.to) old (new to) c (filter (λ c. same to c.to) cs)

zero_sum : (b : Bool) (n : ℕ) → cond b 1 0 + n ≡ 0 → (b ≡ false) × (n ≡ 0)
zero_sum true n h = absurd (omega arith)
zero_sum false n h = (refl, omega arith)

one_sum : (b : Bool) (n : ℕ) → cond b 1 0 + n ≡ 1 → ((b ≡ true) × (n ≡ 0)) ⊎ ((b ≡ false) × (n ≡ 1))
one_sum true n h = inl (refl, omega arith)
one_sum false n h = inr (refl, omega arith)

-- each copy to a rectangle goes to it
each-copy_to : {C : Type 0} (Q : Copy C → Type 0) (olds news : NamedRects C) (to : C) → ((from : C) → Q (copy_between olds news from to)) → AllByRecursion Q (copies_to olds news to)
each-copy_to {C} Q olds news to h =
    each-filter Q has_elements (map (λ from. copy_between olds news from to) olds.names) (each-map (λ c. has_elements c ≡ true → Q c) (λ from. copy_between olds news from to) olds.names (each-of (λ from. has_elements (copy_between olds news from to) ≡ true → Q (copy_between olds news from to)) (λ from _. h from) olds.names))

abbrev going : {C : Type 0} → (C → C → Bool) → C → List (Copy C) → List (Copy C)
going same to cs = filter (λ c. same to c.to) cs

going-none : {C : Type 0} (same : C → C → Bool) (olds news : NamedRects C) (to : C) (names : List C) → count_by (same to) names ≡ 0 → going same to (flat_map (copies_to olds news) names) ≡ []
going-none same olds news to [] h = refl
going-none same olds news to (n ∷ ns) h =
    let both = zero_sum (same to n) (count_by (same to) ns) (sym (sum_by-cons (λ x. cond (same to x) 1 0) n ns) ∙ h) in
    filter-append (λ c. same to c.to) (copies_to olds news n) (flat_map (copies_to olds news) ns)
    ∙ ap (λ xs. xs ++ going same to (flat_map (copies_to olds news) ns)) (filter_gone (λ c. same to c.to) (copies_to olds news n) (each-copy_to (λ c. same to c.to ≡ false) olds news n (λ from. both.0)))
    ∙ going-none same olds news to ns both.1

-- where names are told apart, the copies that go to a rectangle are those to it
pub going-one : {C : Type 0} (same : C → C → Bool) → ((x y : C) → same x y ≡ true → x ≡ y) → (olds news : NamedRects C) (to : C) (names : List C) → count_by (same to) names ≡ 1 → going same to (flat_map (copies_to olds news) names) ≡ copies_to olds news to
going-one same law olds news to [] h = absurd (omega arith)
going-one same law olds news to (n ∷ ns) h = elim (one_sum (same to n) (count_by (same to) ns) (sym (sum_by-cons (λ x. cond (same to x) 1 0) n ns) ∙ h)) as (λ _. going same to (flat_map (copies_to olds news) (n ∷ ns)) ≡ copies_to olds news to) [
  | inl here ↦ filter-append (λ c. same to c.to) (copies_to olds news n) (flat_map (copies_to olds news) ns)
      ∙ ap (λ xs. xs ++ going same to (flat_map (copies_to olds news) ns)) (filter_all (λ c. same to c.to) (copies_to olds news n) (each-copy_to (λ c. same to c.to ≡ true) olds news n (λ from. here.0)))
      ∙ ap (λ xs. copies_to olds news n ++ xs) (going-none same olds news to ns here.1) ∙ append-nil (copies_to olds news n) ∙ ap (copies_to olds news) (sym (law to n here.0))
  | inr other ↦ filter-append (λ c. same to c.to) (copies_to olds news n) (flat_map (copies_to olds news) ns)
      ∙ ap (λ xs. xs ++ going same to (flat_map (copies_to olds news) ns)) (filter_gone (λ c. same to c.to) (copies_to olds news n) (each-copy_to (λ c. same to c.to ≡ false) olds news n (λ from. other.0)))
      ∙ going-one same law olds news to ns other.1
]

-- all copies, in order, make each new rectangle's window of the array that the old ones tile
pub copies-repartition : {C : Type 0} (same : C → C → Bool) → ((x y : C) → same x y ≡ true → x ≡ y) → (d : Dims) (olds news : NamedRects C) (to : C) (a : Array) (old new : C → Array)
    → count_by (same to) news.names ≡ 1 → IsTiling d (rects_of olds) → AreInOrder (rects_of olds) → Within (news.rect to) d → 0 < (news.rect to).rows → 0 < (news.rect to).cols → AllByRecursion (λ c. old c ≡ window a (olds.rect c)) olds.names
    → IsWhole (new to) → (new to).dims ≡ rect_dims (news.rect to) → after_copies same old new (copies olds news) to ≡ window a (news.rect to)
copies-repartition same law d olds news to a old new named tiling order within some_rows some_cols are whole dims =
    after_copies-to same old to (copies olds news) new ∙ ap (λ cs. all_copied old (new to) cs) (going-one same law olds news to news.names named)
    ∙ copies_to-make d olds news to a old (new to) tiling order within some_rows some_cols are whole dims
