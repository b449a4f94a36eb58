use Rattle.std.proofs.Common.{◌++◌, ◌∙◌, ap}
use Rattle.sj_plan.proofs.Lists.{appended_more}
use Rattle.sj_plan.proofs.Overlapping.{to_row, to_row-append, to_row-one}
use Rattle.sj_plan.proofs.paste.push_to_row.Goals as goal

pub loop-j-preserved : goal.loop-j-preserved
loop-j-preserved c =
    let a = c.args in
    appended_more (to_row a.dims a.old a.new a.i) (to_row-append a.dims a.old a.new a.i) a.found.now.items c.loop-j.found.items _ c.loop-j.j c.loop-j.invariant (c.in_ok-push_to.ensures ∙ ap (λ ys. c.loop-j.found.items ++ ys) (to_row-one a.dims a.old a.new a.i c.loop-j.j))
