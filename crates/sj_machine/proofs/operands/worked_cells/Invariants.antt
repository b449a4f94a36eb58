use Rattle.sj_machine.proofs.Words.{length, take, worked_among, ◌≡◌, ◌≤◌}
use Rattle.sj_machine.proofs.operands.worked_cells.Given as goal

abbrev pub invariant-loop-access : goal.invariant-loop-access
invariant-loop-access l = record {
  cells : l.cells ≡ worked_among l.program l.w (take l.access-index l.accesses);
  few : length l.cells ≤ l.access-index;
}
