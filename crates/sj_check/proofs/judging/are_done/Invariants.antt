use Rattle.sj_check.proofs.Completing.{AreDone}
use Rattle.sj_check.proofs.judging.are_done.Given as goal

abbrev pub invariant-loop-i : goal.invariant-loop-i
invariant-loop-i l = AreDone l.rows.state l.i
