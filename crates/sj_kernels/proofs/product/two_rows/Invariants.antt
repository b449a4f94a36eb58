use Rattle.std.proofs.Common.{◌≡◌, ◌*◌}
use Rattle.sj_codelet.proofs.Filling.{begun}
use Rattle.sj_kernels.specs.Rows.{row_product}
use Rattle.sj_kernels.proofs.product.two_rows.Given as goal

abbrev pub invariant-loop-q : goal.invariant-loop-q
invariant-loop-q l = record {
  first : l.c ≡ begun (l.q * 3) (row_product l.n l.a l.b l.fn.c) l.fn.c;
  second : l.d ≡ begun (l.q * 3) (row_product l.n l.e l.b l.fn.d) l.fn.d;
}
