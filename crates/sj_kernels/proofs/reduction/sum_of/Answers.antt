use Rattle.std.proofs.Common.{sym, ◌∙◌, rules}
use Rattle.std.proofs.lemmas.Int.{wraps}
use Rattle.sj_base.specs.Array.{at}
use Rattle.sj_codelet.proofs.Sums.{total_more}
use Rattle.sj_kernels.proofs.reduction.sum_of.Goals as goal

pub loop-i-preserved : goal.loop-i-preserved
loop-i-preserved c = total_more c.loop-i.total _ c.loop-i.i (at c.args.x.now) (sym c.loop-i.total-is ∙ c.loop-i.invariant) (search (rules, wraps))
