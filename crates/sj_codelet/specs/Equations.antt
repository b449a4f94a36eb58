-- The equation of each codelet: its new elements, from the elements before.
use Rattle.std.specs.Prelude.{ℕ, zero, suc, ℤ, pos, ◌+ℤ◌, ◌-ℤ◌, ◌*ℤ◌, List, length}
use Rattle.std.specs.Int.{int_min}
use Rattle.sj_base.specs.declared.tile.Dims.{Dims}
use Rattle.sj_base.specs.Array.{Array, array, area, at, element, each, grid}
use Rattle.sj_base.specs.Window.{pasted}
use Rattle.sj_codelet.specs.declared.window.Window.{Window}
use Rattle.sj_codelet.specs.Ring.{wrap, sum_below}
use Rattle.sj_codelet.specs.MinPlus.{inf, plus, least_below}

-- a list as an array of one row
abbrev pub vector : List ℤ → Array
vector xs = array (record { rows = 1; cols = length xs }) xs

-- a list as an array of so many rows and columns
abbrev pub matrix : ℕ → ℕ → List ℤ → Array
matrix m n xs = array (record { rows = m; cols = n }) xs

abbrev pub fill : ℤ → ℤ → Array → Array
fill a b x = each x.dims (λ p. wrap (a +ℤ (b *ℤ pos p)))

abbrev pub scale : ℤ → Array → Array
scale a x = each x.dims (λ p. wrap (a *ℤ at x.elements p))

-- y + x
abbrev pub add : Array → Array → Array
add x y = each y.dims (λ p. wrap (at y.elements p +ℤ at x.elements p))

-- y - x
abbrev pub subtract : Array → Array → Array
subtract x y = each y.dims (λ p. wrap (at y.elements p -ℤ at x.elements p))

-- y + a x
abbrev pub axpy : ℤ → Array → Array → Array
axpy a x y = each y.dims (λ p. wrap (at y.elements p +ℤ (a *ℤ at x.elements p)))

-- the exact element of the product a b
abbrev pub product : Array → Array → ℕ → ℕ → ℤ
product a b i j = sum_below a.dims.cols (λ l. element a i l *ℤ element b l j)

-- c + a b
abbrev pub gemm : Array → Array → Array → Array
gemm a b c = grid c.dims (λ i j. wrap (element c i j +ℤ product a b i j))

-- c + (a b) d
abbrev pub gemm3 : Array → Array → Array → Array → Array
gemm3 a b d c =
    grid c.dims (λ i j. wrap (element c i j +ℤ sum_below b.dims.cols (λ l. product a b i l *ℤ element d l j)))

abbrev pub transpose : Array → Array → Array
transpose a b = grid b.dims (λ j i. element a i j)

-- s and the sum of the products of elements
abbrev pub dot : Array → Array → Array → Array
dot x y s =
    each s.dims (λ p. wrap (at s.elements p +ℤ sum_below (area x.dims) (λ q. at x.elements q *ℤ at y.elements q)))

-- s and the sum of the elements
abbrev pub sum : Array → Array → Array
sum x s = each s.dims (λ p. wrap (at s.elements p +ℤ sum_below (area x.dims) (at x.elements)))

-- the lesser of two elements
abbrev pub lowest : Array → Array → Array
lowest x y = each y.dims (λ p. int_min (at y.elements p) (at x.elements p))

-- the least of c and the min-plus product a b
abbrev pub mingemm : Array → Array → Array → Array
mingemm a b c =
    grid c.dims (λ i j. least_below a.dims.cols (element c i j) (λ l. plus (element a i l) (element b l j)))

-- turns 0, .., n - 1 one after another
abbrev pub after_turns : ℕ → (ℕ → Array → Array) → Array → Array
after_turns zero turn a = a
after_turns (suc n) turn a = turn n (after_turns n turn a)

-- ways through one vertex k more, within a block on the diagonal
abbrev pub fwdiag : Array → Array
fwdiag a =
    after_turns a.dims.rows (λ k m. grid m.dims (λ i j. int_min (element m i j) (plus (element m i k) (element m k j)))) a

-- the same for a block in the row of the diagonal block d
abbrev pub fwrow : Array → Array → Array
fwrow d a =
    after_turns d.dims.rows (λ k m. grid m.dims (λ i j. int_min (element m i j) (plus (element d i k) (element m k j)))) a

-- the same for a block in the column of the diagonal block d
abbrev pub fwcol : Array → Array → Array
fwcol d a =
    after_turns d.dims.rows (λ k m. grid m.dims (λ i j. int_min (element m i j) (plus (element m i k) (element d k j)))) a

-- the part at (r0, c0) of a root with so many columns whose element at position p is a + b p
abbrev pub loadfill : ℤ → ℤ → ℤ → ℤ → ℤ → Array → Array
loadfill a b r0 c0 cols x =
    grid x.dims (λ i j. wrap (a +ℤ (b *ℤ (((r0 +ℤ pos i) *ℤ cols) +ℤ (c0 +ℤ pos j)))))

-- the new array with the window's elements of the old one
abbrev pub paste : Window → Array → Array → Array
paste w old new =
    pasted old (w.old_row, w.old_col) (record { rows = w.rows; cols = w.cols }) new (w.new_row, w.new_col)

abbrev pub all_inf : Dims → Array
all_inf d = each d (λ p. inf)
