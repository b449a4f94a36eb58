use Rattle.std.specs.Int.{int_min}
use Rattle.sj_base.specs.Array.{at}
use Rattle.sj_codelet.specs.MinPlus.{plus}
use Rattle.sj_minplus.proofs.Rows.{IsWritten}
use Rattle.sj_minplus.proofs.row.relax_short.Given as goal

abbrev pub invariant-loop-j : goal.invariant-loop-j
invariant-loop-j l = IsWritten (λ p. int_min (at l.initial.row p) (plus l.via (at l.other p))) l.initial.row l.row l.j
