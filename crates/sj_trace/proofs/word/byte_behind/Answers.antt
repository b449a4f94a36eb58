use Rattle.sj_trace.proofs.Numbers.{too_great}
use Rattle.sj_trace.proofs.word.byte_behind.Goals as goal

pub returns-else-number-lt256 : goal.returns-else-number-lt256
returns-else-number-lt256 c = λ a s small h. too_great c.args.letter a c.in_ok-number.number c.args.end s c.in_ok-number.rest.now c.args.text.now c.in_ok-number.ensures.0 c.requires c.if-number-lt256.false small c.in_ok-number.ensures.1 h
