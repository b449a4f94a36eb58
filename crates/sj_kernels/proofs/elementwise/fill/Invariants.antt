use Rattle.std.proofs.Common.{◌≡◌, pos, ◌+ℤ◌, ◌*ℤ◌}
use Rattle.sj_codelet.specs.Ring.{wrap}
use Rattle.sj_codelet.proofs.Filling.{begun}
use Rattle.sj_kernels.proofs.elementwise.fill.Given as goal

abbrev pub invariant-loop-i : goal.invariant-loop-i
invariant-loop-i l = record { value : l.value ≡ wrap (l.fn.a +ℤ (l.b *ℤ pos l.i)); done : l.x ≡ begun l.i (λ p. wrap (l.fn.a +ℤ (l.b *ℤ pos p))) l.initial.x }
