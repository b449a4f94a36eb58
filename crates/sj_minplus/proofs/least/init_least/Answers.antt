use Rattle.std.proofs.Common.{arith, refl}
use Rattle.sj_codelet.specs.MinPlus.{inf}
use Rattle.sj_minplus.proofs.Rows.{written_more, written_all}
use Rattle.sj_minplus.proofs.least.init_least.Goals as goal

pub loop-i-preserved : goal.loop-i-preserved
loop-i-preserved c = let t = c.loop-i.auto.x in written_more (λ p. inf) _ _ _ _ (omega arith) refl c.loop-i.invariant

pub returns : goal.returns
returns c = written_all _ _ _ _ c.loop-i.auto.x c.loop-i-test.false c.loop-i.invariant
