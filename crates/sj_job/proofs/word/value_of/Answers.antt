use Rattle.sj_job.proofs.Digits.{value_from_parse}
use Rattle.sj_job.proofs.word.value_of.Goals as goal

pub returns : goal.returns
returns c = rw c.ok.ensures.value (value_from_parse c.args.digits.now c.parse.result c.requires (rw c.in_ok-text.ensures at c.parse.ensures.value.0))
