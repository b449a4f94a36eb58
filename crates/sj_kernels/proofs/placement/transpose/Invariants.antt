use Rattle.std.proofs.Common.{◌≡◌, ◌*◌, ◌%◌, cond, nat_lt, length}
use Rattle.sj_base.specs.Array.{at}
use Rattle.sj_codelet.specs.Listing.{listing}
use Rattle.sj_kernels.specs.Turned.{turned}
use Rattle.sj_kernels.proofs.placement.transpose.Given as goal

abbrev pub invariant-loop-t : goal.invariant-loop-t
invariant-loop-t l = l.b ≡ listing (length l.fn.b) (λ p. cond (nat_lt (p % l.m) (l.t * 16)) (turned l.m l.n l.a p) (at l.fn.b p))

abbrev pub invariant-loop-t-2 : goal.invariant-loop-t-2
invariant-loop-t-2 l = l.b ≡ listing (length l.fn.b) (λ p. cond (nat_lt (p % l.m) (l.t * 8)) (turned l.m l.n l.a p) (at l.fn.b p))

abbrev pub invariant-loop-i : goal.invariant-loop-i
invariant-loop-i l = l.b ≡ listing (length l.fn.b) (λ p. cond (nat_lt (p % l.m) l.i) (turned l.m l.n l.a p) (at l.fn.b p))
