use Rattle.std.proofs.Common.{arith}
use Rattle.std.proofs.lemmas.Int.{to_z-of_z}
use Rattle.sj_minplus.proofs.Rows.{written_more, written_all}
use Rattle.sj_minplus.proofs.least.lowest.Goals as goal

pub loop-i-preserved : goal.loop-i-preserved
loop-i-preserved c =
    let r = c.loop-i.invariant.rest c.loop-i.i in
    let t = c.loop-i.auto.y in
    written_more _ _ _ _ _ (omega arith) (grind (arith, to_z-of_z)) c.loop-i.invariant

pub returns : goal.returns
returns c = written_all _ _ _ _ c.loop-i.auto.y c.loop-i-test.false c.loop-i.invariant
