use Rattle.sj_check.proofs.Traces.{LegalTo}
use Rattle.sj_check.proofs.check.check_by.Given as goal

abbrev pub invariant-loop-i : goal.invariant-loop-i
invariant-loop-i l = LegalTo l.fn.checker l.trace.events l.i l.checker
