-- Arrays by their elements: what a table, a window and an array with a window have in each place.
use Rattle.std.proofs.Common.{◌≡◌, ℕ, ℤ, pos, zero, suc, ◌+◌, ◌-◌, ◌*◌, ◌<◌, ◌≤◌, Bool, true, false, cond, ◌&&◌, ◌||◌, ltb, leb, List, [], ◌++◌, map, length, get_or, take, drop, sym, ap, refl, ◌∙◌, arith}
use Rattle.std.specs.List.{flat_map, range_with_len}
use Rattle.std.proofs.lemmas.List.{length-append, get_or_append_left, get_or-append_right, get_or-take, get_or-drop, take_at, length-take, length-drop, append-nil}
use Rattle.std.proofs.lemmas.List.FromFn.{get_or-map-range_with_len, length-map-range_with_len, fill_by_all}
use Rattle.std.proofs.lemmas.Nat.{row_fits}
use Rattle.std.proofs.lemmas.Bool.{lt-ltb, le-leb, leb-true, ltb-true, and_from, and_parts, false_from_ne_true, cond-true, cond-false}
use Rattle.std.proofs.lemmas.List.Concat.{flat_map-append}
use borrow.Rule.Slice.PartMut.{put_mid}
use Rattle.sj_base.specs.declared.tile.Dims.{Dims}
use Rattle.sj_base.specs.Array.{Array, area, array, element}
use Rattle.sj_base.specs.Window.{table}
use Rattle.sj_base.proofs.Pasting.{pasted_step}
use Rattle.sj_base.proofs.Tables.{item-table, length-table, same_tables}
use Rattle.sj_plan.specs.declared.rect.Rect.{Rect}
use Rattle.sj_plan.specs.Rect.{HasElement, Within, holds, rect_dims, place_of}
use Rattle.sj_plan.specs.Window.{window, with_window, IsWhole}
use Rattle.sj_plan.proofs.Lists.{appended_more}

abbrev pub tabulate : Dims → (ℕ → ℕ → ℤ) → Array
tabulate d f = array d (table d f)

-- a choice where one case is known, and two choices of one value
pub cond_same : (t : Bool) (x y e : ℤ) → (t ≡ true → x ≡ y) → cond t x e ≡ cond t y e
cond_same true x y e h = h refl
cond_same false x y e h = refl

pub cond_twice : (s t : Bool) (x e : ℤ) → cond t x (cond s x e) ≡ cond (s || t) x e
cond_twice true true x e = refl
cond_twice true false x e = refl
cond_twice false true x e = refl
cond_twice false false x e = refl

-- row i of a table of c columns
abbrev pub table_row : {X : Type 0} → (ℕ → ℕ → X) → ℕ → ℕ → List X
table_row f c i = map (λ j. f i j) (range_with_len 0 c)

one_more : (c r row rest : ℕ) → row ≡ c → rest ≡ r * c → row + rest ≡ suc r * c
one_more c r row rest e f = omega arith

zero_row : (c j : ℕ) → 0 * c + j ≡ j
zero_row c j = omega arith

row_down : (c i j : ℕ) → suc i * c + j - c ≡ i * c + j
row_down c i j = omega arith

length-table_row : {X : Type 0} (f : ℕ → ℕ → X) (c i : ℕ) → length (table_row f c i) ≡ c
length-table_row f c i = length-map-range_with_len (λ j. f i j) 0 c

pub length-rows : {X : Type 0} (f : ℕ → ℕ → X) (c lo r : ℕ) → length (flat_map (table_row f c) (range_with_len lo r)) ≡ r * c
length-rows f c lo zero = omega arith
length-rows f c lo (suc r) =
    length-append (table_row f c lo) (flat_map (table_row f c) (range_with_len (lo + 1) r)) ∙ one_more c r _ _ (length-table_row f c lo) (length-rows f c (lo + 1) r)

table_at_from : {X : Type 0} (blank : X) (f : ℕ → ℕ → X) (c lo r i j : ℕ) → i < r → j < c → get_or (flat_map (table_row f c) (range_with_len lo r)) (i * c + j) blank ≡ f (lo + i) j
table_at_from blank f c lo zero i j in_r in_c = absurd (omega arith)
table_at_from blank f c lo (suc r) zero j in_r in_c =
    let long = length-table_row f c lo in
    ap (λ k. get_or (flat_map (table_row f c) (range_with_len lo (suc r))) k blank) (zero_row c j) ∙ get_or_append_left (table_row f c lo) _ blank j (omega arith) ∙ get_or-map-range_with_len (λ j. f lo j) 0 c j j blank in_c (omega arith) ∙ ap (λ k. f k j) (omega arith)
table_at_from blank f c lo (suc r) (suc i) j in_r in_c =
    get_or-append_right (table_row f c lo) _ c (suc i * c + j) blank (length-table_row f c lo) (omega arith) ∙ ap (λ k. get_or (flat_map (table_row f c) (range_with_len (lo + 1) r)) k blank) (row_down c i j) ∙ table_at_from blank f c (lo + 1) r i j (omega arith) in_c ∙ ap (λ k. f k j) (omega arith)

-- a table is its rows one after another
pub table-rows : (d : Dims) (f : ℕ → ℕ → ℤ) → flat_map (table_row f d.cols) (range_with_len 0 d.rows) ≡ table d f
table-rows d f =
    same_tables (pos 0) _ _ d.rows d.cols (length-rows f d.cols 0 d.rows) (length-table d f) (λ i j in_rows in_cols.
    table_at_from (pos 0) f d.cols 0 d.rows i j in_rows in_cols ∙ ap (λ k. f k j) (omega arith) ∙ sym (item-table (pos 0) d f i j in_rows in_cols))

pub element-tabulate : (d : Dims) (f : ℕ → ℕ → ℤ) (i j : ℕ) → i < d.rows → j < d.cols → element (tabulate d f) i j ≡ f i j
element-tabulate d f i j in_rows in_cols = item-table (pos 0) d f i j in_rows in_cols

pub IsWhole-tabulate : (d : Dims) (f : ℕ → ℕ → ℤ) → IsWhole (tabulate d f)
IsWhole-tabulate d f = length-table d f

-- two arrays are one if they have the same dimensions and the same elements
pub same_arrays : (a b : Array) → a.dims ≡ b.dims → IsWhole a → IsWhole b → ((i j : ℕ) → i < a.dims.rows → j < a.dims.cols → element a i j ≡ element b i j) → a ≡ b
same_arrays a b dims whole_a whole_b same =
    let long_b : length b.elements ≡ area a.dims = whole_b ∙ ap area (sym dims) in
    let elements : a.elements ≡ b.elements = same_tables (pos 0) a.elements b.elements a.dims.rows a.dims.cols whole_a long_b (λ i j in_rows in_cols. same i j in_rows in_cols ∙ ap (λ (d : Dims). get_or b.elements (i * d.cols + j) (pos 0)) (sym dims)) in
    rw (dims, elements) refl

-- a row that is copied out by a slice
sliced_row : (xs : List ℤ) (s w : ℕ) (f : ℕ → ℤ) → s + w ≤ length xs → ((k : ℕ) → k < w → get_or xs (s + k) (pos 0) ≡ f k) → take (s + w - s) (drop s xs) ≡ map f (range_with_len 0 w)
sliced_row xs s w f fits same =
    fill_by_all f (take (s + w - s) (drop s xs)) w (pos 0) (omega (arith, length-take (s + w - s) (drop s xs), length-drop s xs)) (λ k h. get_or-take (s + w - s) (drop s xs) k (pos 0) (omega arith) ∙ get_or-drop s xs k (pos 0) ∙ same k h)

-- a row of a rectangle lies in the array
pub row_inside : (rows cols row col height width i : ℕ) → row + height ≤ rows → col + width ≤ cols → i < height → (row + i) * cols + col + width ≤ rows * cols
row_inside rows cols row col height width i in_rows in_cols h =
    let fits = row_fits (row + i) cols rows cols (omega arith) (omega arith) in omega arith

-- row i of a rectangle, cut out of the elements of an array with so many columns
abbrev cut : ℕ → List ℤ → Rect → ℕ → List ℤ
cut cols xs r i =
    take ((r.row + i) * cols + r.col + r.cols - ((r.row + i) * cols + r.col)) (drop ((r.row + i) * cols + r.col) xs)

-- one row more of a window
pub window_more : (a : Array) (r : Rect) (i : ℕ) (now next : List ℤ) (d : Dims) (xs : List ℤ) → Within r a.dims → IsWhole a → d ≡ a.dims → xs ≡ a.elements → i < r.rows → now ≡ flat_map (table_row (λ i j. element a (r.row + i) (r.col + j)) r.cols) (range_with_len 0 i) → next ≡ now ++ cut d.cols xs r i → next ≡ flat_map (table_row (λ i j. element a (r.row + i) (r.col + j)) r.cols) (range_with_len 0 (i + 1))
window_more a r i now next d xs within whole same_dims same_elements h e f =
    let s = (r.row + i) * a.dims.cols + r.col in
    let row = table_row (λ i j. element a (r.row + i) (r.col + j)) r.cols in
    let inside = row_inside a.dims.rows a.dims.cols r.row r.col r.rows r.cols i within.0 within.1 h in
    let copied : take (s + r.cols - s) (drop s a.elements) ≡ row i = sliced_row a.elements s r.cols (λ j. element a (r.row + i) (r.col + j)) (omega arith) (λ k below. ap (λ n. get_or a.elements n (pos 0)) (omega arith)) in
    let cut_here = ap (λ (e : Dims). cut e.cols xs r i) same_dims ∙ ap (λ ys. cut a.dims.cols ys r i) same_elements in
    appended_more (flat_map row) (flat_map-append row) [] now next i e (f ∙ ap (λ ys. now ++ ys) (cut_here ∙ copied ∙ sym (append-nil (row i))))

-- what an array with a window has in row i and column j
abbrev pub written : Array → Rect → Array → ℕ → ℕ → ℤ
written a r b i j = cond (holds r i j) (element b (0 + (i - r.row)) (0 + (j - r.col))) (element a i j)

pub element-with_window : (a : Array) (r : Rect) (b : Array) (i j : ℕ) → i < a.dims.rows → j < a.dims.cols → element (with_window a r b) i j ≡ written a r b i j
element-with_window a r b i j in_rows in_cols = element-tabulate a.dims (written a r b) i j in_rows in_cols

pub IsWhole-with_window : (a : Array) (r : Rect) (b : Array) → IsWhole (with_window a r b)
IsWhole-with_window a r b = IsWhole-tabulate a.dims (written a r b)

pub holds-true : (r : Rect) (i j : ℕ) → HasElement r i j → holds r i j ≡ true
holds-true r i j h =
    and_from _ _ (and_from _ _ (le-leb r.row i h.0.0) (lt-ltb i (r.row + r.rows) h.0.1)) (and_from _ _ (le-leb r.col j h.1.0) (lt-ltb j (r.col + r.cols) h.1.1))

pub HasElement-from_true : (r : Rect) (i j : ℕ) → holds r i j ≡ true → HasElement r i j
HasElement-from_true r i j h =
    let both = and_parts (leb r.row i && ltb i (r.row + r.rows)) (leb r.col j && ltb j (r.col + r.cols)) h in
    let rows = and_parts (leb r.row i) (ltb i (r.row + r.rows)) both.0 in
    let cols = and_parts (leb r.col j) (ltb j (r.col + r.cols)) both.1 in
    ((leb-true r.row i rows.0, ltb-true i (r.row + r.rows) rows.1), (leb-true r.col j cols.0, ltb-true j (r.col + r.cols) cols.1))

pub holds-false : (r : Rect) (i j : ℕ) → (HasElement r i j → ⊥) → holds r i j ≡ false
holds-false r i j h = false_from_ne_true (holds r i j) (λ t. h (HasElement-from_true r i j t))

pub written-inside : (a : Array) (r : Rect) (b : Array) (i j : ℕ) → HasElement r i j → written a r b i j ≡ element b (i - r.row) (j - r.col)
written-inside a r b i j h =
    cond-true (holds r i j) _ _ (holds-true r i j h) ∙ ap (λ n. element b n (0 + (j - r.col))) (omega arith) ∙ ap (λ n. element b (i - r.row) n) (omega arith)

pub written-outside : (a : Array) (r : Rect) (b : Array) (i j : ℕ) → (HasElement r i j → ⊥) → written a r b i j ≡ element a i j
written-outside a r b i j h = cond-false (holds r i j) _ _ (holds-false r i j h)

-- one row more of a rectangle that is written, as `gather` copies it
pub gathered_more : (a : Array) (r : Rect) (b : Array) (k : ℕ) (now row : List ℤ) (d : Dims) (xs : List ℤ) → Within r a.dims → IsWhole b → b.dims ≡ rect_dims r → d ≡ a.dims → xs ≡ b.elements → k < r.rows → now ≡ (with_window a (record r { rows = k }) b).elements → row ≡ take (k * r.cols + r.cols - k * r.cols) (drop (k * r.cols) xs) → put_mid ((r.row + k) * d.cols + r.col) ((r.row + k) * d.cols + r.col + r.cols - ((r.row + k) * d.cols + r.col)) now row ≡ (with_window a (record r { rows = k + 1 }) b).elements
gathered_more a r b k now row d xs within whole dims same_dims same_elements h e f =
    let long : length now ≡ area a.dims = ap length e ∙ IsWhole-with_window a (record r { rows = k }) b in
    let start : k * r.cols ≡ (0 + k) * b.dims.cols + 0 = ap (λ (x : Dims). k * x.cols) (sym dims) ∙ omega arith in
    let inside = row_inside a.dims.rows a.dims.cols r.row r.col r.rows r.cols k within.0 within.1 h in
    let long_b : length b.elements ≡ r.rows * r.cols = whole ∙ ap area dims in
    let inside_b = row_fits k r.cols r.rows r.cols h (omega arith) in
    let first : (r.row + k) * d.cols + r.col ≡ (r.row + k) * a.dims.cols + r.col = ap (λ (x : Dims). (r.row + k) * x.cols + r.col) same_dims in
    pasted_step b (0, 0) (rect_dims r) a (place_of r) k _ _ _ _ now row long within.1 first (omega arith) start (omega arith) (omega arith) (omega arith) (f ∙ ap (λ ys. take (k * r.cols + r.cols - k * r.cols) (drop (k * r.cols) ys)) same_elements) e

-- a list lent whole and written back
pub written_back : (a : Array) (r : Rect) (b : Array) (xs : List ℤ) (k : ℕ) → IsWhole a → k ≡ r.rows → xs ≡ (with_window a (record r { rows = k }) b).elements → array a.dims (take (length a.elements) (xs ++ drop (length xs) a.elements)) ≡ with_window a r b
written_back a r b xs k whole last e =
    let all : xs ≡ (with_window a r b).elements = e ∙ ap (λ n. (with_window a (record r { rows = n }) b).elements) last in
    let long : length xs ≡ length a.elements = ap length all ∙ IsWhole-tabulate a.dims (written a r b) ∙ sym whole in
    ap (array a.dims) (take_at xs (drop (length xs) a.elements) (length a.elements) long ∙ all)

-- the rectangle of an array that got a window is that window
pub window-with_window : (a : Array) (r : Rect) (b : Array) → Within r a.dims → IsWhole b → b.dims ≡ rect_dims r → window (with_window a r b) r ≡ b
window-with_window a r b within whole dims =
    let inner = with_window a r b in
    same_arrays (window inner r) b (sym dims) (IsWhole-tabulate (rect_dims r) (λ i j. element inner (r.row + i) (r.col + j))) whole (λ i j in_rows in_cols.
    element-tabulate (rect_dims r) (λ i j. element inner (r.row + i) (r.col + j)) i j in_rows in_cols ∙ element-with_window a r b (r.row + i) (r.col + j) (omega (arith, within.0)) (omega (arith, within.1)) ∙ written-inside a r b (r.row + i) (r.col + j) ((omega arith, omega arith), (omega arith, omega arith)) ∙ ap (λ n. element b n (r.col + j - r.col)) (omega arith) ∙ ap (λ n. element b i n) (omega arith))

-- all rows of a window
pub window_all : (a : Array) (r : Rect) (i : ℕ) (taken : List ℤ) → i ≡ r.rows → taken ≡ flat_map (table_row (λ i j. element a (r.row + i) (r.col + j)) r.cols) (range_with_len 0 i) → array (rect_dims r) taken ≡ window a r
window_all a r i taken last e =
    let f = λ (i j : ℕ). element a (r.row + i) (r.col + j) in
    ap (array (rect_dims r)) (e ∙ ap (λ n. flat_map (table_row f r.cols) (range_with_len 0 n)) last ∙ table-rows (rect_dims r) f)

pub element-window : (a : Array) (r : Rect) (i j : ℕ) → i < r.rows → j < r.cols → element (window a r) i j ≡ element a (r.row + i) (r.col + j)
element-window a r i j in_rows in_cols =
    element-tabulate (rect_dims r) (λ i j. element a (r.row + i) (r.col + j)) i j in_rows in_cols
