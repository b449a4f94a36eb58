use Rattle.std.proofs.Common.{◌≡◌, ℕ, ◌+◌, ◌*◌, ◌<◌, length}
use Rattle.sj_base.specs.Array.{at}
use Rattle.sj_codelet.specs.MinPlus.{plus, least_below}
use Rattle.sj_minplus.proofs.product.relax_by_any.Given as goal

abbrev pub invariant-loop-l : goal.invariant-loop-l
invariant-loop-l l = (j : ℕ) → j < length l.initial.c → at l.c j ≡ least_below l.l (at l.initial.c j) (λ q. plus (at l.a q) (at l.b (q * length l.initial.c + j)))
