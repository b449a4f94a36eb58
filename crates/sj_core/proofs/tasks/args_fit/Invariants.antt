use Rattle.sj_core.proofs.Words.{get_or, pos, w64, ℕ, ◌<◌}
use Rattle.std.specs.Prelude.{FitsSigned}
use Rattle.sj_core.proofs.tasks.args_fit.Given as goal

abbrev pub invariant-loop-arg : goal.invariant-loop-arg
invariant-loop-arg l = (k : ℕ) → k < l.arg-index → FitsSigned w64 (get_or l.args k (pos 0))
