use Rattle.std.proofs.Common.{◌≡◌, ℕ, ◌+◌, ◌-◌, ◌*◌, ◌<◌, ◌≤◌, length}
use Rattle.std.specs.List.{All}
use Rattle.sj_base.specs.Array.{at}
use Rattle.sj_codelet.specs.MinPlus.{plus, least_below}
use Rattle.sj_minplus.specs.Short.{IsNegative, raised}
use Rattle.sj_minplus.proofs.product.relax_by_pairs.Given as goal

abbrev pub invariant-loop-l : goal.invariant-loop-l
invariant-loop-l l = record {
  within : l.l ≤ length l.a;
  value : (j : ℕ) → j < length l.fn.c → raised (at l.c j) ≡ least_below l.l (raised (at l.fn.c j)) (λ q. plus (at l.a q) (at l.b (q * length l.fn.c + j)));
  low : All IsNegative l.c;
}

abbrev pub decreases-loop-l : goal.decreases-loop-l
decreases-loop-l l = length l.a - l.l
