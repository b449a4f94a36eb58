use Rattle.std.proofs.Common.{arith}
use Rattle.sj_engine.proofs.Sleeping.{each-due}
use Rattle.sj_engine.proofs.sleepers.call.Goals as goal

pub returns : goal.returns
returns c = each-due c.args.all c.args.notes.now.items c.loop-k.notes.items c.loop-k.invariant.every (λ i h. c.loop-k.invariant.done i (omega (arith, h, c.loop-k-test.false, c.len-k-end.ensures)))
