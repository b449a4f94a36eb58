use Rattle.std.proofs.Common.{◌*ℤ◌, pos, get_or, length, ◌∙◌, arith, rules}
use Rattle.std.proofs.lemmas.Int.{wraps}
use Rattle.sj_base.specs.Array.{at, area}
use Rattle.sj_codelet.specs.Equations.{vector}
use Rattle.sj_codelet.proofs.Filling.{single_from_set}
use Rattle.sj_codelet.proofs.Sums.{add_total}
use Rattle.sj_kernels.proofs.reduction.dot.Goals as goal

pub returns : goal.returns
returns c =
    single_from_set c.args.s.now _ _ c.requires.single (search (rules, wraps) ∙ add_total (get_or c.args.s.now 0 (pos 0)) c.sum_of_products.result (length c.args.x.now) (area (vector c.args.x.now).dims) (λ q. at c.args.x.now q *ℤ at c.args.y.now q) c.sum_of_products.ensures (omega arith))
