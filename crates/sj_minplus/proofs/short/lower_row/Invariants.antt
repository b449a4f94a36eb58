use Rattle.std.proofs.Common.{ℕ, ◌<◌, ◌+ℤ◌}
use Rattle.sj_base.specs.Array.{at}
use Rattle.sj_codelet.specs.MinPlus.{least}
use Rattle.sj_minplus.specs.Short.{IsNegative}
use Rattle.sj_minplus.proofs.Rows.{IsWritten}
use Rattle.sj_minplus.proofs.short.lower_row.Given as goal

abbrev pub invariant-loop-j : goal.invariant-loop-j
invariant-loop-j l = record {
  written : IsWritten (λ p. at l.initial.row p +ℤ least) l.initial.row l.row l.j;
  low : (p : ℕ) → p < l.j → IsNegative (at l.row p);
}
