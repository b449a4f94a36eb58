use Rattle.std.proofs.Common.{arith, rules}
use Rattle.std.proofs.lemmas.Grind.{common_steps}
use Rattle.sj_job.proofs.judge.target_complaint.Goals as goal

pub returns-then-any_collide : goal.returns-then-any_collide
returns-then-any_collide g c = first_of (search rules, grind (arith, common_steps))
