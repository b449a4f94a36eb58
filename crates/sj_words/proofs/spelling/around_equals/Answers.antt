use Rattle.std.proofs.Common.{arith}
use Rattle.sj_words.proofs.Equals.{with_equals, without_equals}
use Rattle.sj_words.proofs.spelling.around_equals.Goals as goal

pub returns-then-at-text : goal.returns-then-at-text
returns-then-at-text c = without_equals c.equals_place-at.result c.args.text.now c.equals_place-at.ensures.place c.if-at-text.true

pub returns : goal.returns
returns c = with_equals c.equals_place-at.result c.args.text.now c.equals_place-at.ensures.place (omega (arith, c.equals_place-at.ensures.bound, c.if-at-text.false))
