use Rattle.sj_lower.proofs.Words.{ap, arith, copy_at, init_row, init_rows, ℕ, ◌++◌, ◌∙◌}
use Rattle.sj_plan.proofs.Lists.{pushed_more}
use Rattle.sj_lower.proofs.phase.push_inits.Goals as goal

pub loop-w-preserved : goal.loop-w-preserved
loop-w-preserved c =
    let a = c.args in
    pushed_more (λ w. init_row a.by a.line (copy_at a.first w)) a.tasks.now.items c.loop-w.tasks.items _ _ c.loop-w.w c.loop-w.invariant c.in_ok-push.ensures.items c.in_ok-init_row.ensures

pub returns : goal.returns
returns c =
    let a = c.args in
    c.loop-w.invariant ∙ ap (λ (n : ℕ). a.tasks.now.items ++ init_rows a.by a.first n a.line) (omega (arith, c.loop-w.auto.w-end, c.loop-w-test.false))
