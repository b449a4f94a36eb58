-- Tables: what a list that is given by rows and columns has in each place.
use Rattle.std.proofs.Common.{◌≡◌, ℕ, zero, suc, ◌+◌, ◌*◌, ◌/◌, ◌%◌, ◌<◌, List, length, get_or, sym, ap, ◌∙◌, arith}
use Rattle.std.proofs.lemmas.List.{same_lists, get_or_default}
use Rattle.std.proofs.lemmas.List.FromFn.{length-map-range_with_len, get_or-map-range_with_len}
use Rattle.std.proofs.lemmas.Nat.{div_below, mod_below, div-add-mod', div-mul-add, mod-mul-add, mul-add-lt}
use Rattle.sj_base.specs.declared.tile.Dims.{Dims}
use Rattle.sj_base.specs.Array.{area}
use Rattle.sj_base.specs.Window.{item, table}
use Rattle.sj_base.proofs.Numbers.{some_factor}

pub length-table : {X : Type 0} (d : Dims) (f : ℕ → ℕ → X) → length (table d f) ≡ area d
length-table d f = length-map-range_with_len (λ p. f (p / d.cols) (p % d.cols)) 0 (area d)

pub item-table : {X : Type 0} (blank : X) (d : Dims) (f : ℕ → ℕ → X) (i j : ℕ) → i < d.rows → j < d.cols → item blank d.cols (table d f) i j ≡ f i j
item-table blank d f i j in_rows in_cols =
    let p = i * d.cols + j in
    get_or-map-range_with_len (λ p. f (p / d.cols) (p % d.cols)) 0 (area d) p p blank (omega (arith, mul-add-lt i d.cols j d.rows in_rows in_cols)) (omega arith)
    ∙ ap (λ k. f k (p % d.cols)) (div-mul-add i d.cols j in_cols) ∙ ap (λ k. f i k) (mod-mul-add i d.cols j in_cols)

-- two lists of r rows and c columns are one if each place has one item
pub same_tables : {X : Type 0} (blank : X) (xs ys : List X) (r c : ℕ) → length xs ≡ r * c → length ys ≡ r * c → ((i j : ℕ) → i < r → j < c → item blank c xs i j ≡ item blank c ys i j) → xs ≡ ys
same_tables blank xs ys r c long_x long_y same = same_lists xs ys (long_x ∙ sym long_y) (λ k d here.
    let inside : k < r * c = omega arith in
    let some = some_factor r c k inside in
    let place : k / c * c + k % c ≡ k = div-add-mod' k c in
    let here_too : k < length ys = omega arith in
    get_or_default xs k d blank here ∙ (ap (λ n. get_or xs n blank) (sym place) ∙ same (k / c) (k % c) (div_below k c r some inside) (mod_below k c some) ∙ ap (λ n. get_or ys n blank) place) ∙ get_or_default ys k blank d here_too)

pub at-table : {X : Type 0} (blank : X) (d : Dims) (f : ℕ → ℕ → X) (p : ℕ) → p < area d → get_or (table d f) p blank ≡ f (p / d.cols) (p % d.cols)
at-table blank d f p h = get_or-map-range_with_len (λ p. f (p / d.cols) (p % d.cols)) 0 (area d) p p blank h (omega arith)

-- a list is the table of its items
pub table_from_items : {X : Type 0} (blank : X) (d : Dims) (f : ℕ → ℕ → X) (xs : List X) → length xs ≡ area d → ((p : ℕ) → p < area d → get_or xs p blank ≡ f (p / d.cols) (p % d.cols)) → xs ≡ table d f
table_from_items blank d f xs long same =
    same_lists xs (table d f) (long ∙ sym (length-table d f)) (λ k e here.
    let inside : k < area d = omega arith in
    let there : k < length (table d f) = omega (arith, length-table d f) in
    get_or_default xs k e blank here ∙ same k inside ∙ sym (at-table blank d f k inside) ∙ get_or_default (table d f) k blank e there)

-- tables of equal items are equal
pub table-same : {X : Type 0} (blank : X) (d : Dims) (f g : ℕ → ℕ → X) → ((i j : ℕ) → i < d.rows → j < d.cols → f i j ≡ g i j) → table d f ≡ table d g
table-same blank d f g h =
    same_tables blank (table d f) (table d g) d.rows d.cols (length-table d f) (length-table d g)
    (λ i j hi hj. item-table blank d f i j hi hj ∙ h i j hi hj ∙ sym (item-table blank d g i j hi hj))

-- a place of the table is one of its items
pub item_inside : (d : Dims) (row col : ℕ) → row < d.rows → col < d.cols → row * d.cols + col < area d
item_inside d row col in_rows in_cols = let h = mul-add-lt row d.cols col d.rows in_rows in_cols in omega arith
