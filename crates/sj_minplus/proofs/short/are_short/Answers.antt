use Rattle.std.proofs.Common.{rules, FitsSigned, arith}
use Rattle.std.specs.Int.{w64}
use Rattle.std.proofs.lemmas.Int.{to_z-of_z}
use Rattle.sj_base.specs.Array.{at}
use Rattle.sj_minplus.specs.Short.{IsShort}
use Rattle.sj_minplus.proofs.Rows.{seen_more, all_from}
use Rattle.sj_minplus.proofs.short.are_short.Goals as goal

pub loop-x-preserved : goal.loop-x-preserved
loop-x-preserved c =
    let fits : FitsSigned w64 (at c.args.xs.now c.loop-x.x-index) = search rules in
    seen_more IsShort 4611686018427387904 c.args.xs.now c.loop-x.x-index c.loop-x.seen c.bits_but_of_inf-seen.result c.loop-x.invariant (λ s. simp to_z-of_z at (c.bits_but_of_inf-seen.ensures s))

pub returns : goal.returns
returns c = λ s. all_from IsShort c.args.xs.now (λ p h. c.loop-x.invariant p (omega arith) (grind arith))
