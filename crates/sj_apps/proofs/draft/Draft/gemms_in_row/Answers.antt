use Rattle.std.proofs.Common.{arith}
use Rattle.sj_apps.specs.Generated.{gemms_at}
use Rattle.sj_apps.proofs.Telling.{tells-flat}
use Rattle.sj_apps.proofs.draft.Draft.gemms_in_row.Goals as goal

pub loop-j-preserved : goal.loop-j-preserved
loop-j-preserved c =
    let h = c.in_ok-gemms_at.ensures.tells in
    (tells-flat _ _ _ (gemms_at c.args.p c.args.i) c.loop-j.j c.loop-j.invariant.0 h, omega (arith, c.in_ok-gemms_at.ensures.few))
