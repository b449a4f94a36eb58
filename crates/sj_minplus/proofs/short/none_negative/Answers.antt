use Rattle.std.proofs.Common.{rules, FitsSigned, arith}
use Rattle.std.specs.Int.{w64}
use Rattle.std.proofs.lemmas.Int.{to_z-of_z}
use Rattle.sj_base.specs.Array.{at}
use Rattle.sj_minplus.specs.Short.{NotNegative}
use Rattle.sj_minplus.proofs.Rows.{seen_more, all_from}
use Rattle.sj_minplus.proofs.short.none_negative.Goals as goal

pub loop-x-preserved : goal.loop-x-preserved
loop-x-preserved c =
    let fits : FitsSigned w64 (at c.args.xs.now c.loop-x.x-index) = search rules in
    seen_more NotNegative 9223372036854775808 c.args.xs.now c.loop-x.x-index c.loop-x.seen c.bits-seen.result c.loop-x.invariant (λ s. simp to_z-of_z at (c.bits-seen.ensures s))

pub returns : goal.returns
returns c = λ s. all_from NotNegative c.args.xs.now (λ p h. c.loop-x.invariant p (omega arith) (grind arith))
