use Rattle.std.proofs.Common.{ℕ, ◌<◌}
use Rattle.sj_base.specs.Array.{at}
use Rattle.sj_minplus.specs.Short.{NotNegative}
use Rattle.sj_minplus.proofs.short.none_negative.Given as goal

abbrev pub invariant-loop-x : goal.invariant-loop-x
invariant-loop-x l = (p : ℕ) → p < l.x-index → l.seen < 9223372036854775808 → NotNegative (at l.xs p)
