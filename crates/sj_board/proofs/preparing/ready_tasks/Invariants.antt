use Rattle.sj_board.proofs.Words.{AreReadyBelow}
use Rattle.sj_board.proofs.preparing.ready_tasks.Given as goal

abbrev pub invariant-loop-i : goal.invariant-loop-i
invariant-loop-i l = AreReadyBelow l.deps.program l.deps.done l.i l.ready.items
