use Rattle.sj_codelet.specs.MinPlus.{inf}
use Rattle.sj_minplus.proofs.Rows.{IsWritten}
use Rattle.sj_minplus.proofs.least.init_least.Given as goal

abbrev pub invariant-loop-i : goal.invariant-loop-i
invariant-loop-i l = IsWritten (λ p. inf) l.initial.x l.x l.i
