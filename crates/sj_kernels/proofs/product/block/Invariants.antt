use Rattle.std.proofs.Common.{◌*◌}
use Rattle.sj_kernels.proofs.Panels.{are_sums}
use Rattle.sj_kernels.proofs.product.block.Given as goal

abbrev pub invariant-loop-h : goal.invariant-loop-h
invariant-loop-h l = record {
  upper : are_sums l.n l.a l.b l.j (l.h * 2) l.c l.upper;
  lower : are_sums l.n l.e l.b l.j (l.h * 2) l.d l.lower;
}
