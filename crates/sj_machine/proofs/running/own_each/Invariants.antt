use Rattle.sj_machine.proofs.Words.{length, owned_each, take, ◌<◌, ◌≡◌}
use Rattle.std.proofs.Common.{All}
use Rattle.sj_machine.proofs.running.own_each.Given as goal

abbrev pub invariant-loop-cell : goal.invariant-loop-cell
invariant-loop-cell l = record {
  rows : l.cells.items ≡ owned_each l.n (take l.cell-index l.written) l.fn.cells.items;
  every : length l.cells.items ≡ length l.fn.cells.items;
  node : All (λ row. l.n.0 < length row.marks) l.cells.items;
}
