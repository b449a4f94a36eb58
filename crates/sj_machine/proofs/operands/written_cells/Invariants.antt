use Rattle.sj_machine.proofs.Words.{length, take, written_among, ◌≡◌, ◌≤◌}
use Rattle.sj_machine.proofs.operands.written_cells.Given as goal

abbrev pub invariant-loop-access : goal.invariant-loop-access
invariant-loop-access l = record {
  cells : l.cells ≡ written_among l.program l.w (take l.access-index l.accesses);
  few : length l.cells ≤ l.access-index;
}
