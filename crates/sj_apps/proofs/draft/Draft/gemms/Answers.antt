use Rattle.std.proofs.Common.{arith}
use Rattle.sj_apps.specs.Generated.{gemms_in_row}
use Rattle.sj_apps.proofs.Telling.{tells-flat}
use Rattle.sj_apps.proofs.draft.Draft.gemms.Goals as goal

pub loop-i-preserved : goal.loop-i-preserved
loop-i-preserved c =
    let h = c.in_ok-gemms_in_row.ensures.tells in
    (tells-flat _ _ _ (gemms_in_row c.args.p) c.loop-i.i c.loop-i.invariant.0 h, omega (arith, c.in_ok-gemms_in_row.ensures.few))
