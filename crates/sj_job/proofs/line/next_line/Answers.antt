use Rattle.std.proofs.Common.{arith, ◌∙◌, sym, length, ◌<◌}
use Rattle.std.proofs.lemmas.Bool.Decides.{nat_tests}
use Rattle.sj_job.proofs.Cut.{lines-sliced, lines-whole, shorter}
use Rattle.sj_job.proofs.line.next_line.Goals as goal

pub returns-then-end-text : goal.returns-then-end-text
returns-then-end-text c =
    let some : 0 < length c.args.text.now = grind (arith, nat_tests) in
    (lines-whole c.args.text.now some (sym c.if-end-text.true ∙ c.first_place-end.ensures.place), some)

pub returns : goal.returns
returns c =
    let some : 0 < length c.args.text.now = grind (arith, nat_tests) in
    let lt : c.first_place-end.result < length c.args.text.now = omega (arith, c.first_place-end.ensures.bound) in
    (lines-sliced c.args.text.now c.first_place-end.result some c.first_place-end.ensures.place lt, shorter c.args.text.now c.first_place-end.result lt)
