use Rattle.std.proofs.Common.{◌≡◌, ◌+◌, ◌*◌, ◌/◌, ◌%◌, ◌+ℤ◌, ◌*ℤ◌, min, length}
use Rattle.sj_base.specs.Array.{at}
use Rattle.sj_codelet.specs.Listing.{listing}
use Rattle.sj_codelet.specs.Ring.{wrap, sum_below}
use Rattle.sj_kernels.proofs.product.gemm.Given as goal

abbrev pub invariant-loop-p : goal.invariant-loop-p
invariant-loop-p l =
    l.c ≡ listing (length l.fn.c) (λ p. wrap (at l.fn.c p +ℤ sum_below (min (l.p * 32) l.fn.k) (λ q. at l.a (p / l.fn.n * l.fn.k + q) *ℤ at l.b (q * l.fn.n + p % l.fn.n))))
