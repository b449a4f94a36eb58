use Rattle.std.proofs.Common.{◌≡◌, ◌+◌}
use Rattle.sj_base.specs.Array.{at}
use Rattle.sj_kernels.specs.Panels.{column_sum}
use Rattle.sj_kernels.proofs.product.two_columns.Given as goal

abbrev pub invariant-loop-l : goal.invariant-loop-l
invariant-loop-l l = record {
  c0 : l.c0 ≡ column_sum l.n l.a l.b l.j l.l (at l.c 0);
  c1 : l.c1 ≡ column_sum l.n l.a l.b (l.j + 1) l.l (at l.c 1);
  d0 : l.d0 ≡ column_sum l.n l.e l.b l.j l.l (at l.d 0);
  d1 : l.d1 ≡ column_sum l.n l.e l.b (l.j + 1) l.l (at l.d 1);
}
