use Rattle.std.proofs.Common.{ℕ, ◌<◌}
use Rattle.sj_base.specs.Array.{at}
use Rattle.sj_minplus.specs.Short.{IsShort}
use Rattle.sj_minplus.proofs.short.are_short.Given as goal

abbrev pub invariant-loop-x : goal.invariant-loop-x
invariant-loop-x l = (p : ℕ) → p < l.x-index → l.seen < 4611686018427387904 → IsShort (at l.xs p)
