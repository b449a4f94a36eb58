use Rattle.std.proofs.Common.{ℕ, ◌<◌}
use Rattle.low_tests.specs.Countable.{IsCountable}
use Rattle.low_tests.proofs.deps.is_countable.Given as goal

abbrev pub invariant-loop-t : goal.invariant-loop-t
invariant-loop-t l = (u : ℕ) → u < l.t → IsCountable l.program u
