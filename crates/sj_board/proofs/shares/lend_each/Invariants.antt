use Rattle.sj_board.proofs.Words.{length, out_each, take, ◌≡◌}
use Rattle.sj_board.proofs.shares.lend_each.Given as goal

abbrev pub invariant-loop-cell : goal.invariant-loop-cell
invariant-loop-cell l = record {
  rows : l.tiles.items ≡ out_each (take l.cell-index l.written) l.fn.tiles.items;
  every : length l.tiles.items ≡ length l.fn.tiles.items;
}
