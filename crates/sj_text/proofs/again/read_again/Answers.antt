use Rattle.sj_text.proofs.Whole.{text-read}
use Rattle.sj_text.proofs.again.read_again.Goals as goal

pub returns : goal.returns
returns c = λ has j. text-read has j
