use Rattle.sj_machine.proofs.Words.{length, take, written_each, ◌+◌, ◌<◌, ◌^◌, ◌≡◌}
use Rattle.std.proofs.Common.{All}
use Rattle.sj_machine.proofs.ending.count_each.Given as goal

abbrev pub invariant-loop-cell : goal.invariant-loop-cell
invariant-loop-cell l = record {
  rows : l.cells.items ≡ written_each (take l.cell-index l.written) l.fn.cells.items;
  every : length l.cells.items ≡ length l.fn.cells.items;
  few : All (λ row. row.writes + length l.written < 2 ^ 64 + l.cell-index) l.cells.items;
}
