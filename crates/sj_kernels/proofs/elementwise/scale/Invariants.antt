use Rattle.std.proofs.Common.{◌≡◌, ◌*◌, ◌*ℤ◌}
use Rattle.sj_base.specs.Array.{at}
use Rattle.sj_codelet.specs.Ring.{wrap}
use Rattle.sj_codelet.proofs.Filling.{begun}
use Rattle.sj_kernels.proofs.elementwise.scale.Given as goal

abbrev pub invariant-loop-q : goal.invariant-loop-q
invariant-loop-q l = l.x ≡ begun (l.q * 8) (λ p. wrap (l.a *ℤ at l.fn.x p)) l.fn.x

abbrev pub invariant-loop-j : goal.invariant-loop-j
invariant-loop-j l = l.x ≡ begun l.j (λ p. wrap (l.a *ℤ at l.fn.x p)) l.fn.x
