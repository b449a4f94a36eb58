use Rattle.std.proofs.Common.{arith}
use Rattle.sj_apps.specs.Generated.{walk_step}
use Rattle.sj_apps.proofs.Telling.{tells-flat}
use Rattle.sj_apps.proofs.draft.Draft.walk_steps.Goals as goal

pub loop-k-preserved : goal.loop-k-preserved
loop-k-preserved c =
    let h = c.in_ok-walk_step.ensures.tells in
    (tells-flat _ _ _ (walk_step c.args.p) c.loop-k.k c.loop-k.invariant.0 h, omega (arith, c.in_ok-walk_step.ensures.few))
