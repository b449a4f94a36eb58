use Rattle.std.proofs.Common.{◌∙◌}
use Rattle.sj_job.proofs.Cut.{first-position}
use Rattle.sj_job.proofs.line.first_place.Goals as goal

pub returns-clause-place : goal.returns-clause-place
returns-clause-place c = c.unwrap_or.ensures ∙ first-position c.args.byte c.args.text.now c.memchr.result c.memchr.ensures
