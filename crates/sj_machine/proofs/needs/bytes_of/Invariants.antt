use Rattle.sj_machine.proofs.Words.{map, take, tile_bytes, ◌≡◌}
use Rattle.sj_machine.proofs.needs.bytes_of.Given as goal

abbrev pub invariant-loop-cell : goal.invariant-loop-cell
invariant-loop-cell l = l.bytes ≡ map (tile_bytes l.program) (take l.cell-index l.cells)
