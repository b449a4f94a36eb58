use Rattle.sj_plan.specs.Rect.{child}
use Rattle.sj_plan.proofs.Lists.{pushed_more}
use Rattle.sj_plan.proofs.children.push_row.Goals as goal

pub loop-j-preserved : goal.loop-j-preserved
loop-j-preserved c =
    pushed_more (λ j. child c.args.dims c.args.parts (c.args.i, j)) c.args.rects.now.items c.loop-j.rects.items _ _ c.loop-j.j c.loop-j.invariant c.in_ok-push.ensures.items c.rect.ensures.child
