use Rattle.sj_machine.proofs.Words.{length, marked, take, ◌<◌, ◌≡◌}
use Rattle.std.proofs.Common.{All}
use Rattle.sj_machine.proofs.claiming.mark_all.Given as goal

abbrev pub invariant-loop-cell : goal.invariant-loop-cell
invariant-loop-cell l = record {
  rows : l.cells.items ≡ marked l.fn.cells.items (take l.cell-index l.which) l.n l.mark;
  every : length l.cells.items ≡ length l.fn.cells.items;
  node : All (λ row. l.n.0 < length row.marks) l.cells.items;
}
