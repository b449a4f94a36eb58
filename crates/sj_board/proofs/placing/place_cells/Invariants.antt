use Rattle.sj_board.proofs.FirstFit.{IsPlacing}
use Rattle.sj_board.proofs.placing.place_cells.Given as goal

abbrev pub invariant-loop-i : goal.invariant-loop-i
invariant-loop-i g l = IsPlacing l.program l.machine l.fn.set.disks l.i l.set
