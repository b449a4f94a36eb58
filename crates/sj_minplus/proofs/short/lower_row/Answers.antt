use Rattle.std.proofs.Common.{rules, arith, FitsSigned}
use Rattle.std.specs.Int.{w64}
use Rattle.std.proofs.lemmas.Int.{to_z-of_z}
use Rattle.sj_base.specs.Array.{at}
use Rattle.sj_minplus.specs.Short.{IsNegative}
use Rattle.sj_minplus.proofs.Rows.{written_more, all_more, all_from}
use Rattle.sj_minplus.proofs.Lowered.{lowered_low}
use Rattle.sj_minplus.proofs.short.lower_row.Goals as goal

pub loop-j-preserved : goal.loop-j-preserved
loop-j-preserved c =
    let j = c.loop-j.j in
    let r = c.loop-j.invariant.written.rest j in
    let t = c.loop-j.auto.row in
    let f : FitsSigned w64 (at c.loop-j.row j) = search rules in
    record {
      written = written_more _ _ _ _ _ (omega arith) (grind (arith, to_z-of_z)) c.loop-j.invariant.written;
      low = all_more IsNegative c.loop-j.row j _ (omega arith) (let low = lowered_low (at c.loop-j.row j) f in grind (arith, to_z-of_z)) c.loop-j.invariant.low;
    }

pub returns-clause-low : goal.returns-clause-low
returns-clause-low c =
    let same = c.loop-j.auto.row in
    all_from IsNegative c.loop-j.row (λ p h. c.loop-j.invariant.low p (omega arith))
