use Rattle.std.proofs.Common.{◌≡◌, ◌*◌, ◌+ℤ◌, ◌*ℤ◌}
use Rattle.sj_base.specs.Array.{at}
use Rattle.sj_codelet.specs.Ring.{wrap}
use Rattle.sj_codelet.proofs.Filling.{begun}
use Rattle.sj_kernels.proofs.elementwise.add_product.Given as goal

abbrev pub invariant-loop-q : goal.invariant-loop-q
invariant-loop-q l = l.y ≡ begun (l.q * 8) (λ p. wrap (at l.fn.y p +ℤ (l.a *ℤ at l.x p))) l.fn.y

abbrev pub invariant-loop-j : goal.invariant-loop-j
invariant-loop-j l = l.y ≡ begun l.j (λ p. wrap (at l.fn.y p +ℤ (l.a *ℤ at l.x p))) l.fn.y
