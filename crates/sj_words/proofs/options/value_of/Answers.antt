use Rattle.sj_words.proofs.Digits.{value_from_parse}
use Rattle.sj_words.proofs.options.value_of.Goals as goal

pub returns : goal.returns
returns c = rw c.ok.ensures.value (value_from_parse c.args.digits.now c.parse.result c.requires c.parse.ensures.value.0)
