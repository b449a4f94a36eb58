use Rattle.std.proofs.Common.{rules}
use Rattle.sj_codelet.proofs.Filling.{begun_none, begun_step, listing_from_begun}
use Rattle.sj_kernels.proofs.placement.column.Goals as goal

pub loop-i-init : goal.loop-i-init
loop-i-init c = begun_none _ _

pub loop-i-preserved : goal.loop-i-preserved
loop-i-preserved c = begun_step _ _ _ _ _ c.loop-i.invariant c.loop-i-test.true (λ _. search rules)

pub returns : goal.returns
returns c = listing_from_begun _ _ _ _ c.loop-i-test.false c.loop-i.auto.i-end c.loop-i.invariant
