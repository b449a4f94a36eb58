-- A rectangle pasted row by row.
use Rattle.std.proofs.Common.{◌≡◌, ℕ, ◌+◌, ◌-◌, ◌*◌, ◌/◌, ◌%◌, ◌<◌, ◌≤◌, Bool, true, false, ◌&&◌, cond, ℤ, pos, List, ◌++◌, length, get_or, take, drop, sym, ap, ◌∙◌, ◌⊎◌, inl, inr, ⊎_elim, arith}
use Rattle.std.proofs.lemmas.List.{length-take, length-drop, length-append, get_or-take, get_or-drop, get_or_append_left, get_or-append_right}
use Rattle.std.proofs.lemmas.Nat.{div-mul-add, mod-mul-add, div-add-mod'}
use Rattle.std.proofs.lemmas.Bool.{cases_lt}
use Rattle.std.proofs.lemmas.Bool.Decides.{nat_tests}
use borrow.Rule.Slice.PartMut.{put_mid}
use Rattle.sj_base.specs.declared.tile.Dims.{Dims}
use Rattle.sj_base.specs.Array.{Array, area, at, element}
use Rattle.sj_base.specs.Window.{in_rect, is_within, pasted}
use Rattle.sj_base.proofs.Tables.{at-table, table_from_items}

-- the first i rows of a rectangle
abbrev pub first_rows : Dims → ℕ → Dims
first_rows d i = record d { rows = i }

-- the element in row r and column j after i rows
abbrev place : Array → ℕ × ℕ → Dims → Array → ℕ × ℕ → ℕ → ℕ → ℕ → ℤ
place old from d new to i r j =
    cond (in_rect to (first_rows d i) r j) (element old (from.0 + (r - to.0)) (from.1 + (j - to.1))) (element new r j)

whole_place : (new : Array) (p : ℕ) → element new (p / new.dims.cols) (p % new.dims.cols) ≡ at new.elements p
whole_place new p = ap (λ (q : ℕ). at new.elements q) (div-add-mod' p new.dims.cols)

-- before any row is pasted
pub pasted_none : (old : Array) (from : ℕ × ℕ) (d : Dims) (new : Array) (to : ℕ × ℕ) → length new.elements ≡ area new.dims → new.elements ≡ (pasted old from (first_rows d 0) new to).elements
pasted_none old from d new to h =
    table_from_items (pos 0) new.dims (place old from d new to 0) new.elements h (λ p l.
    let r = p / new.dims.cols in
    let j = p % new.dims.cols in
    let no : (is_within r to.0 0 && is_within j to.1 d.cols) ≡ false = grind (arith, nat_tests) in
    sym (whole_place new p) ∙ sym (ap (λ (b : Bool). cond b (element old (from.0 + (r - to.0)) (from.1 + (j - to.1))) (element new r j)) no))

same_test : (r first i j col n : ℕ) → (r ≡ first + i → (j < col) ⊎ (col + n ≤ j)) → (is_within r first i && is_within j col n) ≡ (is_within r first (i + 1) && is_within j col n)
same_test r first i j col n h = grind (arith, nat_tests)

-- a position outside the row's part of the rectangle
outside : (old : Array) (from : ℕ × ℕ) (d : Dims) (new : Array) (to : ℕ × ℕ) (i p : ℕ) → ((p < (to.0 + i) * new.dims.cols + to.1) ⊎ ((to.0 + i) * new.dims.cols + to.1 + d.cols ≤ p)) → place old from d new to i (p / new.dims.cols) (p % new.dims.cols) ≡ place old from d new to (i + 1) (p / new.dims.cols) (p % new.dims.cols)
outside old from d new to i p out =
    let c = new.dims.cols in
    let r = p / c in
    let j = p % c in
    let here : r * c + j ≡ p = div-add-mod' p c in
    let apart : r ≡ to.0 + i → (j < to.1) ⊎ (to.1 + d.cols ≤ j) =
    λ e. let row : r * c ≡ (to.0 + i) * c = ap (λ (q : ℕ). q * c) e in
    ⊎_elim (λ l. inl (omega arith)) (λ l. inr (omega arith)) out in
    ap (λ (b : Bool). cond b (element old (from.0 + (r - to.0)) (from.1 + (j - to.1))) (element new r j)) (same_test r to.0 i j to.1 d.cols apart)

-- a position in it
inside : (old : Array) (from : ℕ × ℕ) (d : Dims) (new : Array) (to : ℕ × ℕ) (i q : ℕ) → to.1 + d.cols ≤ new.dims.cols → q < d.cols → place old from d new to (i + 1) (((to.0 + i) * new.dims.cols + to.1 + q) / new.dims.cols) (((to.0 + i) * new.dims.cols + to.1 + q) % new.dims.cols) ≡ element old (from.0 + i) (from.1 + q)
inside old from d new to i q fits l =
    let c = new.dims.cols in
    let j = to.1 + q in
    let p = (to.0 + i) * c + to.1 + q in
    let same : p ≡ (to.0 + i) * c + j = omega arith in
    let r : p / c ≡ to.0 + i = ap (λ (n : ℕ). n / c) same ∙ div-mul-add (to.0 + i) c j (omega arith) in
    let s : p % c ≡ j = ap (λ (n : ℕ). n % c) same ∙ mod-mul-add (to.0 + i) c j (omega arith) in
    let yes : (is_within (to.0 + i) to.0 (i + 1) && is_within j to.1 d.cols) ≡ true = grind (arith, nat_tests) in
    let value = place old from d new to (i + 1) in
    ap (λ (m : ℕ). value m (p % c)) r ∙ ap (λ (n : ℕ). value (to.0 + i) n) s
    ∙ ap (λ (b : Bool). cond b (element old (from.0 + (to.0 + i - to.0)) (from.1 + (j - to.1))) (element new (to.0 + i) j)) yes
    ∙ ap (λ (m : ℕ). element old (from.0 + m) (from.1 + (j - to.1))) (omega arith)
    ∙ ap (λ (n : ℕ). element old (from.0 + i) (from.1 + n)) (omega arith)

pasted_more : (old : Array) (from : ℕ × ℕ) (d : Dims) (new : Array) (to : ℕ × ℕ) (i k : ℕ) (zs : List ℤ) → length zs ≡ area new.dims → to.1 + d.cols ≤ new.dims.cols
    → (to.0 + i) * new.dims.cols + to.1 + d.cols ≤ area new.dims
    → (from.0 + i) * old.dims.cols + from.1 + d.cols ≤ length old.elements
    → k ≡ d.cols
    → zs ≡ (pasted old from (first_rows d i) new to).elements
    → put_mid ((to.0 + i) * new.dims.cols + to.1) k zs (take k (drop ((from.0 + i) * old.dims.cols + from.1) old.elements)) ≡ (pasted old from (first_rows d (i + 1)) new to).elements
pasted_more old from d new to i k zs whole fits high low same e =
    let c = new.dims.cols in
    let first = (to.0 + i) * c + to.1 in
    let start = (from.0 + i) * old.dims.cols + from.1 in
    let front = take first zs in
    let row = take k (drop start old.elements) in
    let back = drop k (drop first zs) in
    let lf : length front ≡ first = length-take first zs ∙ omega arith in
    let lr : length row ≡ k = length-take k (drop start old.elements) ∙ omega (arith, length-drop start old.elements) in
    let lb : length back ≡ area new.dims - first - k = length-drop k (drop first zs) ∙ omega (arith, length-drop first zs) in
    let all : length (front ++ (row ++ back)) ≡ area new.dims = omega (arith, length-append front (row ++ back), length-append row back) in
    let value = λ (n : ℕ) (p : ℕ). place old from d new to n (p / c) (p % c) in
    let before : (p : ℕ) → p < area new.dims → get_or zs p (pos 0) ≡ value i p =
    λ p l. ap (λ (ws : List ℤ). get_or ws p (pos 0)) e ∙ at-table (pos 0) new.dims (place old from d new to i) p l in
    let here : (p : ℕ) → p < area new.dims → get_or (front ++ (row ++ back)) p (pos 0) ≡ value (i + 1) p =
    λ p l. ⊎_elim
    (λ left. get_or_append_left front (row ++ back) (pos 0) p (omega arith) ∙ get_or-take first zs p (pos 0) left ∙ before p l ∙ outside old from d new to i p (inl left))
    (λ up. ⊎_elim
    (λ mid. let q = p - first in
    get_or-append_right front (row ++ back) first p (pos 0) lf up
    ∙ get_or_append_left row back (pos 0) q (omega arith)
    ∙ get_or-take k (drop start old.elements) q (pos 0) (omega arith)
    ∙ get_or-drop start old.elements q (pos 0)
    ∙ ap (λ (n : ℕ). at old.elements n) (omega arith)
    ∙ sym (inside old from d new to i q fits (omega arith))
    ∙ ap (λ (n : ℕ). value (i + 1) n) (omega arith))
    (λ past. let q = p - first in
    get_or-append_right front (row ++ back) first p (pos 0) lf up
    ∙ get_or-append_right row back k q (pos 0) lr (omega arith)
    ∙ get_or-drop k (drop first zs) (q - k) (pos 0)
    ∙ get_or-drop first zs (k + (q - k)) (pos 0)
    ∙ ap (λ (n : ℕ). get_or zs n (pos 0)) (omega arith)
    ∙ before p l ∙ outside old from d new to i p (inr (omega arith)))
    (cases_lt p (first + k)))
    (cases_lt p first) in
    table_from_items (pos 0) new.dims (place old from d new to (i + 1)) (front ++ (row ++ back)) all here

-- one row more, from places and a row that calls gave
pub pasted_step : (old : Array) (from : ℕ × ℕ) (d : Dims) (new : Array) (to : ℕ × ℕ) (i k l first start : ℕ) (zs ys : List ℤ) → length zs ≡ area new.dims → to.1 + d.cols ≤ new.dims.cols
    → first ≡ (to.0 + i) * new.dims.cols + to.1 → first + d.cols ≤ area new.dims
    → start ≡ (from.0 + i) * old.dims.cols + from.1 → start + d.cols ≤ length old.elements
    → k ≡ d.cols → l ≡ d.cols → ys ≡ take l (drop start old.elements)
    → zs ≡ (pasted old from (first_rows d i) new to).elements
    → put_mid first k zs ys ≡ (pasted old from (first_rows d (i + 1)) new to).elements
pasted_step old from d new to i k l first start zs ys whole fits et high es low sk sl ey e =
    let same : l ≡ k = omega arith in
    ap (λ (xs : List ℤ). put_mid first k zs xs) (ey ∙ ap (λ (q : ℕ). take q (drop start old.elements)) same ∙ ap (λ (q : ℕ). take k (drop q old.elements)) es)
    ∙ ap (λ (q : ℕ). put_mid q k zs (take k (drop ((from.0 + i) * old.dims.cols + from.1) old.elements))) et
    ∙ pasted_more old from d new to i k zs whole fits (omega arith) (omega arith) sk e
