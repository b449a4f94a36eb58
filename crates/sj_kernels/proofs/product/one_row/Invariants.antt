use Rattle.std.proofs.Common.{◌≡◌, ◌+◌, ◌*◌, ◌+ℤ◌, ◌*ℤ◌, length}
use Rattle.sj_base.specs.Array.{at}
use Rattle.sj_codelet.specs.Ring.{wrap, sum_below}
use Rattle.sj_codelet.specs.Listing.{listing}
use Rattle.sj_kernels.proofs.product.one_row.Given as goal

abbrev pub invariant-loop-l : goal.invariant-loop-l
invariant-loop-l l =
    l.c ≡ listing (length l.initial.c) (λ j. wrap (at l.initial.c j +ℤ sum_below l.l (λ q. at l.a q *ℤ at l.b (q * length l.initial.c + j))))
