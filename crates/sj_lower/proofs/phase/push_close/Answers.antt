use Rattle.sj_lower.proofs.Words.{ap, arith, combine_row, combine_rows, copy_at, ℕ, ◌++◌, ◌∙◌}
use Rattle.sj_plan.proofs.Lists.{pushed_more}
use Rattle.sj_lower.proofs.phase.push_close.Goals as goal

pub loop-w-preserved : goal.loop-w-preserved
loop-w-preserved c =
    let a = c.args in
    pushed_more (λ w. combine_row a.phase.by a.cell a.phase.line (copy_at a.phase.copies w)) a.tasks.now.items c.loop-w.tasks.items _ _ c.loop-w.w c.loop-w.invariant c.in_ok-push.ensures.items c.in_ok-combine_row.ensures

pub returns : goal.returns
returns c =
    let a = c.args in
    c.loop-w.invariant ∙ ap (λ (n : ℕ). a.tasks.now.items ++ combine_rows a.phase a.cell n) (omega (arith, c.loop-w.auto.w-end, c.loop-w-test.false))
