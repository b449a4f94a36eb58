use Rattle.std.proofs.Common.{pos, get_or, length, ◌∙◌, arith, rules}
use Rattle.std.proofs.lemmas.Int.{wraps}
use Rattle.sj_base.specs.Array.{at, area}
use Rattle.sj_codelet.specs.Equations.{vector}
use Rattle.sj_codelet.proofs.Filling.{single_from_set}
use Rattle.sj_codelet.proofs.Sums.{add_total}
use Rattle.sj_kernels.proofs.reduction.sum.Goals as goal

pub returns : goal.returns
returns c =
    single_from_set c.args.s.now _ _ c.requires (search (rules, wraps) ∙ add_total (get_or c.args.s.now 0 (pos 0)) c.sum_of.result (length c.args.x.now) (area (vector c.args.x.now).dims) (at c.args.x.now) c.sum_of.ensures (omega arith))
