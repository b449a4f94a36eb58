-- A product's terms, panel by panel.
use Rattle.std.specs.Prelude.{ℕ, ◌+◌, ◌-◌, ◌*◌, ◌/◌, ◌%◌, ℤ, ◌+ℤ◌, ◌*ℤ◌, List, length, if◌then◌else◌}
use Rattle.sj_base.specs.Array.{at}
use Rattle.sj_codelet.specs.Ring.{wrap, sum_below}
use Rattle.sj_base.specs.Window.{is_within}
use Rattle.sj_kernels.specs.declared.product.Sides.{Sides}
use Rattle.sj_kernels.specs.declared.product.Span.{Span}

-- start and the first l terms of column j of a b, where a is a row and b has n columns
abbrev pub column_sum : ℕ → List ℤ → List ℤ → ℕ → ℕ → ℤ → ℤ
column_sum n a b j l start = wrap (start +ℤ sum_below l (λ q. at a q *ℤ at b (q * n + j)))

-- the elements of c + a b, where c has some columns from the one of number j on and a is a row; b has n columns
abbrev pub columns_from : ℕ → ℕ → List ℤ → List ℤ → List ℤ → ℕ → ℤ
columns_from n j a b c q = column_sum n a b (j + q) (length a) (at c q)

-- the element in row i of a and column j of b, from the terms of these columns of a; b has n columns
abbrev pub terms : Sides → Span → ℕ → List ℤ → List ℤ → ℕ → ℕ → ℤ
terms sides rows n a b i j = sum_below rows.len (λ l. at a (i * sides.k + rows.first + l) *ℤ at b (l * n + j))

-- the element of c at a position with the terms of a panel
abbrev pub with_terms : Sides → Span → List ℤ → List ℤ → List ℤ → ℕ → ℤ
with_terms sides rows a b c p = wrap (at c p +ℤ terms sides rows sides.n a b (p / sides.n) (p % sides.n))

-- the same in some columns alone, where b holds only these
abbrev pub with_terms_within : Span → Sides → Span → List ℤ → List ℤ → List ℤ → ℕ → ℤ
with_terms_within columns sides rows a b c p =
    if is_within (p % sides.n) columns.first columns.len
    then wrap (at c p +ℤ terms sides rows columns.len a b (p / sides.n) (p % sides.n - columns.first)) else at c p

-- the element at a position of some columns of a matrix with n columns
abbrev pub panel_element : ℕ → Span → List ℤ → ℕ → ℤ
panel_element n columns b p = at b (p / columns.len * n + columns.first + p % columns.len)

-- the element in column j of c + a b, where a and c are rows and b holds only some columns; c stays in the others
abbrev pub row_within : Span → List ℤ → List ℤ → List ℤ → ℕ → ℤ
row_within columns a b c j =
    if is_within j columns.first columns.len then column_sum columns.len a b (j - columns.first) (length a) (at c j) else at c j
