use Rattle.sj_job.proofs.Digits.{text_from_utf8}
use Rattle.sj_job.proofs.word.text_of.Goals as goal

pub returns : goal.returns
returns c = rw c.ok.ensures.value (text_from_utf8 c.args.digits.now c.from_utf8.result _ c.requires c.from_utf8.ensures.cases)
