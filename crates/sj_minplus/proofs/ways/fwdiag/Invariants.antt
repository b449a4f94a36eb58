use Rattle.std.proofs.Common.{◌≡◌}
use Rattle.sj_codelet.specs.Equations.{after_turns, matrix}
use Rattle.sj_minplus.specs.Turns.{diagonal_turn}
use Rattle.sj_minplus.proofs.ways.fwdiag.Given as goal

abbrev pub invariant-loop-k : goal.invariant-loop-k
invariant-loop-k l = l.a ≡ (after_turns l.k diagonal_turn (matrix l.n l.n l.initial.a)).elements
