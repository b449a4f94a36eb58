use Rattle.std.proofs.Common.{length}
use Rattle.sj_job.proofs.judge.+any_collide.Given as goal

abbrev pub decreases-any_collide : goal.decreases-any_collide
decreases-any_collide l = length l.targets.now
