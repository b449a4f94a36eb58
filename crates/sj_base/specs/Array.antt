-- Arrays: dimensions and a row-major list of elements.
use Rattle.std.specs.Prelude.{ℕ, ◌+◌, ◌*◌, ◌/◌, ◌%◌, ℤ, pos, List, map, replicate}
use Rattle.std.specs.List.{slice_index_or, range_with_len}
use Rattle.sj_base.specs.declared.tile.Dims.{Dims}

-- an array: its rows and columns, and its elements row by row
pub record Array : Type 0 where
  pub dims : Dims
  pub elements : List ℤ

abbrev pub array : Dims → List ℤ → Array
array d xs = record { dims = d; elements = xs }

-- how many elements an array of these dimensions has
abbrev pub area : Dims → ℕ
area d = d.rows * d.cols

-- the element at a row-major position
abbrev pub at : List ℤ → ℕ → ℤ
at xs p = slice_index_or xs p (pos 0)

-- the element in row i and column j
abbrev pub element : Array → ℕ → ℕ → ℤ
element a i j = at a.elements (i * a.dims.cols + j)

-- the array whose element at position p is f p
abbrev pub each : Dims → (ℕ → ℤ) → Array
each d f = array d (map f (range_with_len 0 (area d)))

-- the array whose element in row i and column j is f i j
abbrev pub grid : Dims → (ℕ → ℕ → ℤ) → Array
grid d f = each d (λ p. f (p / d.cols) (p % d.cols))

-- the array of zeros
abbrev pub zeros : Dims → Array
zeros d = array d (replicate (area d) (pos 0))
