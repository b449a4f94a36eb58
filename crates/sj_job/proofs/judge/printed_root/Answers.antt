use Rattle.std.proofs.Common.{arith, rules}
use Rattle.std.proofs.lemmas.Grind.{common_steps}
use Rattle.sj_job.proofs.judge.printed_root.Goals as goal

pub returns-clause-none : goal.returns-clause-none
returns-clause-none c = first_of (search rules, grind (arith, common_steps))
