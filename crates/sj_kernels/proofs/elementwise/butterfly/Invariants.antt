use Rattle.std.proofs.Common.{◌≡◌, ◌+ℤ◌, ◌-ℤ◌}
use Rattle.sj_base.specs.Array.{at}
use Rattle.sj_codelet.specs.Ring.{wrap}
use Rattle.sj_codelet.proofs.Filling.{begun}
use Rattle.sj_kernels.proofs.elementwise.butterfly.Given as goal

abbrev pub invariant-loop-i : goal.invariant-loop-i
invariant-loop-i l = record { sums : l.x ≡ begun l.i (λ p. wrap (at l.initial.x p +ℤ at l.initial.y p)) l.initial.x; differences : l.y ≡ begun l.i (λ p. wrap (at l.initial.x p -ℤ at l.initial.y p)) l.initial.y }
