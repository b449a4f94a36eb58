use Rattle.std.proofs.Common.{arith}
use Rattle.sj_apps.specs.Generated.{below}
use Rattle.sj_apps.proofs.Telling.{tells-each}
use Rattle.sj_apps.proofs.draft.Draft.belows.Goals as goal

pub loop-i-preserved : goal.loop-i-preserved
loop-i-preserved c =
    let h = c.in_ok-below.ensures.tells in
    (tells-each _ _ _ (below c.args.k) c.args.k c.loop-i.i c.loop-i.invariant.0 h, omega (arith, c.in_ok-below.ensures.few))
