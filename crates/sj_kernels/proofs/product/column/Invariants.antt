use Rattle.std.proofs.Common.{◌≡◌}
use Rattle.sj_kernels.specs.Panels.{column_sum}
use Rattle.sj_kernels.proofs.product.column.Given as goal

abbrev pub invariant-loop-l : goal.invariant-loop-l
invariant-loop-l l = l.total ≡ column_sum l.n l.a l.b l.j l.l l.fn.start
