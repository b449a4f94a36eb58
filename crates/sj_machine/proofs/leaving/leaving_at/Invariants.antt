use Rattle.sj_machine.proofs.Words.{find, is_leaving_at, None, victims_left, ℕ, ◌<◌, ◌≡◌}
use Rattle.sj_machine.proofs.leaving.leaving_at.Given as goal

abbrev pub invariant-loop-i : goal.invariant-loop-i
invariant-loop-i l = (k : ℕ) → k < l.i → find (is_leaving_at l.cells l.n) (victims_left l.workers l.gone k) ≡ None
