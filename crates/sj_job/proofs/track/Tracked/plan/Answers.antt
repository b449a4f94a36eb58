use Rattle.std.proofs.Common.{arith, rules}
use Rattle.std.proofs.lemmas.Grind.{common_steps}
use Rattle.sj_job.proofs.track.Tracked.plan.Goals as goal

pub returns : goal.returns
returns c = first_of (search rules, grind (arith, common_steps))
