use Rattle.std.proofs.Common.{◌≡◌, ◌*◌, ◌%◌, cond, nat_lt, length}
use Rattle.sj_base.specs.Array.{at}
use Rattle.sj_codelet.specs.Listing.{listing}
use Rattle.sj_kernels.specs.Panels.{with_terms}
use Rattle.sj_kernels.proofs.product.add_panel.Given as goal

abbrev pub invariant-loop-t : goal.invariant-loop-t
invariant-loop-t l =
    l.c ≡ listing (length l.fn.c) (λ p. cond (nat_lt (p % l.sides.n) (l.t * 64)) (with_terms l.sides l.rows l.a l.panel l.fn.c p) (at l.fn.c p))
