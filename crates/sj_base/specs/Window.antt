-- Rectangles of arrays: one taken out as a window, and one pasted into another array. A rectangle has the place of its first
-- row and column, and dimensions. What is said of lists holds for items of any type.
use Rattle.std.specs.Prelude.{ℕ, ◌+◌, ◌-◌, ◌*◌, ◌/◌, ◌%◌, Bool, ◌&&◌, nat_le, nat_lt, pos, List, map, if◌then◌else◌}
use Rattle.std.specs.List.{range_with_len, slice_index_or}
use Rattle.sj_base.specs.declared.tile.Dims.{Dims}
use Rattle.sj_base.specs.Array.{Array, area, array, element}

-- the item in row i and column j of a row-major list of so many columns
abbrev pub item : {X : Type 0} → X → ℕ → List X → ℕ → ℕ → X
item blank cols xs i j = slice_index_or xs (i * cols + j) blank

-- the row-major list whose item in row i and column j is f i j
abbrev pub table : {X : Type 0} → Dims → (ℕ → ℕ → X) → List X
table d f = map (λ p. f (p / d.cols) (p % d.cols)) (range_with_len 0 (area d))

-- i is one of so many indices from the first on
abbrev pub is_within : ℕ → ℕ → ℕ → Bool
is_within i first len = nat_le first i && nat_lt i (first + len)

-- row i and column j lie in the rectangle
abbrev pub in_rect : ℕ × ℕ → Dims → ℕ → ℕ → Bool
in_rect at d i j = is_within i at.0 d.rows && is_within j at.1 d.cols

-- the items of a rectangle
abbrev pub read_rect : {X : Type 0} → X → ℕ → List X → ℕ × ℕ → Dims → List X
read_rect blank cols xs at d = table d (λ i j. item blank cols xs (at.0 + i) (at.1 + j))

-- the items with f, in the rectangle's own rows and columns, written into it; the others stay
abbrev pub write_rect : {X : Type 0} → X → Dims → List X → ℕ × ℕ → Dims → (ℕ → ℕ → X) → List X
write_rect blank dims xs at d f =
    table dims (λ i j. if in_rect at d i j then f (i - at.0) (j - at.1) else item blank dims.cols xs i j)

-- the array of a rectangle's elements
abbrev pub window_at : Array → ℕ × ℕ → Dims → Array
window_at a at d = array d (read_rect (pos 0) a.dims.cols a.elements at d)

-- the new array with a rectangle of the old one pasted in: from there, of these dimensions, to here
abbrev pub pasted : Array → ℕ × ℕ → Dims → Array → ℕ × ℕ → Array
pasted old from d new to =
    array new.dims (write_rect (pos 0) new.dims new.elements to d (λ i j. element old (from.0 + i) (from.1 + j)))
