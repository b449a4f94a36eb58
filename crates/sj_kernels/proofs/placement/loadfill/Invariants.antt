use Rattle.std.proofs.Common.{◌≡◌, ◌*◌, ◌/◌, ◌%◌, pos, ◌+ℤ◌, ◌*ℤ◌}
use Rattle.sj_codelet.specs.Ring.{wrap}
use Rattle.sj_codelet.proofs.Filling.{begun}
use Rattle.sj_kernels.proofs.placement.loadfill.Given as goal

abbrev pub invariant-loop-i : goal.invariant-loop-i
invariant-loop-i l =
    l.x ≡ begun (l.i * l.n) (λ p. wrap (l.a +ℤ (l.b *ℤ (((l.r0 +ℤ pos (p / l.n)) *ℤ l.cols) +ℤ (l.c0 +ℤ pos (p % l.n)))))) l.initial.x
