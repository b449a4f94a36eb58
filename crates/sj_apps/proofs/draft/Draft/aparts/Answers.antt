use Rattle.std.proofs.Common.{arith}
use Rattle.sj_apps.specs.Generated.{aparts_in_row}
use Rattle.sj_apps.proofs.Telling.{tells-others}
use Rattle.sj_apps.proofs.draft.Draft.aparts.Goals as goal

pub loop-i-preserved : goal.loop-i-preserved
loop-i-preserved c =
    let h = c.in_ok-aparts_in_row.ensures.tells in
    (tells-others _ _ _ (aparts_in_row c.args.p c.args.k) c.args.k c.loop-i.i c.loop-i.invariant.0 h, omega (arith, c.in_ok-aparts_in_row.ensures.few))
