use Rattle.sj_board.proofs.Words.{FitsSigned, get_or, pos, w64, ℕ, ◌<◌}
use Rattle.sj_board.proofs.run_state.told.Given as goal

abbrev pub invariant-loop-x : goal.invariant-loop-x
invariant-loop-x l = (k : ℕ) → k < l.x-index → FitsSigned w64 (get_or l.elements k (pos 0))
