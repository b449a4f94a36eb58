-- What a tile ends as when its elements were lent to write to.
use Rattle.std.specs.Prelude.{ℤ, List, ◌++◌, length, take, drop}
use Rattle.std.specs.Borrow.{Lends, MutBor, Fml, i64, Array as Slice}
use Rattle.sj_base.specs.Array.{Array, array}
use Rattle.sj_base.specs.contracts.tile.Tile.{the_row}

-- the array with xs written over its elements, as many as there are
abbrev pub written_over : Array → List ℤ → Array
written_over a xs = array a.dims (take (length a.elements) (xs ++ drop (length xs) a.elements))

-- the tile ends with the last elements behind r
abbrev pub LendsElements : MutBor Array → MutBor (List ℤ) → Fml
LendsElements t r = Lends the_row (Slice i64 0) t r (written_over t.now)
