use Rattle.sj_kernels.proofs.Products.{gemm3_is}
use Rattle.sj_kernels.proofs.product.gemm3.Goals as goal

pub returns : goal.returns
returns c =
    let a = c.args in
    gemm3_is a.m a.k a.l a.n a.a.now a.b.now a.d.now a.t.now c.gemm.new.c a.c.now c.gemm-2.new.c c.requires.scratch c.gemm.ensures c.gemm-2.ensures
