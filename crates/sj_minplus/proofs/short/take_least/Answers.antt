use Rattle.std.proofs.Common.{arith}
use Rattle.std.proofs.lemmas.Int.{to_z-of_z}
use Rattle.sj_minplus.proofs.Rows.{written_more}
use Rattle.sj_minplus.proofs.short.take_least.Goals as goal

pub loop-j-preserved : goal.loop-j-preserved
loop-j-preserved c =
    let r = c.loop-j.invariant.rest c.loop-j.j in
    let t = c.loop-j.auto.row in
    written_more _ _ _ _ _ (omega arith) (grind (arith, to_z-of_z)) c.loop-j.invariant
