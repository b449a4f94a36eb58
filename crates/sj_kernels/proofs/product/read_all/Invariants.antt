use Rattle.std.proofs.Common.{ℕ, ◌<◌, w64, FitsSigned}
use Rattle.sj_base.specs.Array.{at}
use Rattle.sj_kernels.proofs.product.read_all.Given as goal

abbrev pub invariant-loop-x : goal.invariant-loop-x
invariant-loop-x l = (k : ℕ) → k < l.x-index → FitsSigned w64 (at l.xs k)
