-- Tiles that the board let go.
use Rattle.std.specs.Prelude.{List, map}
use Rattle.sj_base.specs.Array.{Array}
use Rattle.sj_board.specs.declared.spent.Spent.{Spent}

-- the arrays of the tiles that are kept
abbrev pub spent_tiles : Spent → List Array
spent_tiles s = map (λ share. share.value) s.tiles.items
