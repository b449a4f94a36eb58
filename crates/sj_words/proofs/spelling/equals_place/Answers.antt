use Rattle.std.proofs.Common.{◌∙◌}
use Rattle.sj_words.proofs.spelling.equals_place.Goals as goal
use Rattle.sj_job.proofs.Cut.{first-position}

pub returns-clause-place : goal.returns-clause-place
returns-clause-place c = c.unwrap_or.ensures ∙ first-position 61 c.args.text.now c.memchr.result c.memchr.ensures
