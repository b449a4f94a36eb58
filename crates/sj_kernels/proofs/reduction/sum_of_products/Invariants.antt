use Rattle.std.proofs.Common.{◌≡◌, ◌*◌, ◌*ℤ◌}
use Rattle.sj_base.specs.Array.{at}
use Rattle.sj_codelet.specs.Ring.{wrap, sum_below}
use Rattle.sj_kernels.proofs.reduction.sum_of_products.Given as goal

abbrev pub invariant-loop-q : goal.invariant-loop-q
invariant-loop-q l = l.total ≡ wrap (sum_below (l.q * 4) (λ k. at l.x k *ℤ at l.y k))

abbrev pub invariant-loop-i : goal.invariant-loop-i
invariant-loop-i l = l.total ≡ wrap (sum_below l.i (λ k. at l.x k *ℤ at l.y k))
