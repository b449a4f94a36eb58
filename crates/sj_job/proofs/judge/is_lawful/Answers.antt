use Rattle.std.proofs.Common.{arith, rules}
use Rattle.std.proofs.lemmas.Grind.{common_steps}
use Rattle.sj_job.proofs.judge.is_lawful.Goals as goal

pub returns-in-Some : goal.returns-in-Some
returns-in-Some g c = first_of (search rules, grind (arith, common_steps))
