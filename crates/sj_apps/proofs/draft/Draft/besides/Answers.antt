use Rattle.std.proofs.Common.{arith}
use Rattle.sj_apps.specs.Generated.{beside}
use Rattle.sj_apps.proofs.Telling.{tells-each}
use Rattle.sj_apps.proofs.draft.Draft.besides.Goals as goal

pub loop-j-preserved : goal.loop-j-preserved
loop-j-preserved c =
    let h = c.in_ok-beside.ensures.tells in
    (tells-each _ _ _ (beside c.args.k) c.args.k c.loop-j.j c.loop-j.invariant.0 h, omega (arith, c.in_ok-beside.ensures.few))
