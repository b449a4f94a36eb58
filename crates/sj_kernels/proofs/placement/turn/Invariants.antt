use Rattle.std.proofs.Common.{◌≡◌, ◌*◌}
use Rattle.sj_codelet.proofs.Filling.{begun}
use Rattle.sj_kernels.specs.Turned.{turned_within}
use Rattle.sj_kernels.proofs.placement.turn.Given as goal

abbrev pub invariant-loop-j : goal.invariant-loop-j
invariant-loop-j l = l.b ≡ begun (l.j * l.m) (turned_within l.fn.first l.fn.len l.m l.n l.fn.a l.fn.b) l.fn.b
