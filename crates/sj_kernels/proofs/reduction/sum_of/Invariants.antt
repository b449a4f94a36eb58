use Rattle.std.proofs.Common.{◌≡◌}
use Rattle.sj_base.specs.Array.{at}
use Rattle.sj_codelet.specs.Ring.{wrap, sum_below}
use Rattle.sj_kernels.proofs.reduction.sum_of.Given as goal

abbrev pub invariant-loop-i : goal.invariant-loop-i
invariant-loop-i l = l.total ≡ wrap (sum_below l.i (at l.x))
