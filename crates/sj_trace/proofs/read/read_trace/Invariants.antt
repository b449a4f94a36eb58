use Rattle.std.proofs.Common.{length}
use Rattle.sj_trace.proofs.Progress.{AreRead}
use Rattle.sj_trace.proofs.read.read_trace.Given as goal

abbrev pub invariant-loop-rest : goal.invariant-loop-rest
invariant-loop-rest l = AreRead l.text l.trace.events l.rest

abbrev pub decreases-loop-rest : goal.decreases-loop-rest
decreases-loop-rest l = length l.rest
