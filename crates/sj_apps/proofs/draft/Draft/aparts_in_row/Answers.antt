use Rattle.std.proofs.Common.{arith}
use Rattle.sj_apps.specs.Generated.{apart}
use Rattle.sj_apps.proofs.Telling.{tells-each}
use Rattle.sj_apps.proofs.draft.Draft.aparts_in_row.Goals as goal

pub loop-j-preserved : goal.loop-j-preserved
loop-j-preserved c =
    let h = c.in_ok-apart.ensures.tells in
    (tells-each _ _ _ (apart c.args.k c.args.i) c.args.k c.loop-j.j c.loop-j.invariant.0 h, omega (arith, c.in_ok-apart.ensures.few))
