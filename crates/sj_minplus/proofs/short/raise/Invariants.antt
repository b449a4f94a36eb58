use Rattle.std.proofs.Common.{◌-ℤ◌}
use Rattle.sj_base.specs.Array.{at}
use Rattle.sj_codelet.specs.MinPlus.{least}
use Rattle.sj_minplus.proofs.Rows.{IsWritten}
use Rattle.sj_minplus.proofs.short.raise.Given as goal

abbrev pub invariant-loop-j : goal.invariant-loop-j
invariant-loop-j l = IsWritten (λ p. at l.initial.row p -ℤ least) l.initial.row l.row l.j
