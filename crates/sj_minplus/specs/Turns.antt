-- One turn of the codelets that go through the vertices one after another.
use Rattle.std.specs.Prelude.{ℕ}
use Rattle.std.specs.Int.{int_min}
use Rattle.sj_base.specs.Array.{Array, element, grid}
use Rattle.sj_codelet.specs.MinPlus.{plus}

-- ways through vertex k, all from the elements before
abbrev pub diagonal_turn : ℕ → Array → Array
diagonal_turn k m = grid m.dims (λ i j. int_min (element m i j) (plus (element m i k) (element m k j)))

-- the same with the ways to vertex k from the block d
abbrev pub row_turn : Array → ℕ → Array → Array
row_turn d k m = grid m.dims (λ i j. int_min (element m i j) (plus (element d i k) (element m k j)))

-- the same with the ways from vertex k from the block d
abbrev pub column_turn : Array → ℕ → Array → Array
column_turn d k m = grid m.dims (λ i j. int_min (element m i j) (plus (element m i k) (element d k j)))
