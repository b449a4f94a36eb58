use Rattle.std.proofs.Common.{length}
use Rattle.sj_job.specs.Names.{scope_in}
use Rattle.sj_job.proofs.Crowding.{IsShown}
use Rattle.sj_job.proofs.crowd.crowd_of.Given as goal

-- what shows so far is so of the operands before the rest
abbrev pub invariant-loop-word : goal.invariant-loop-word
invariant-loop-word l = IsShown (scope_in l.names) l.crowd l.rest l.words

abbrev pub decreases-loop-word : goal.decreases-loop-word
decreases-loop-word l = length l.rest
