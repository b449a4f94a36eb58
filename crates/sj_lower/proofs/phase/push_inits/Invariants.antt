use Rattle.sj_lower.proofs.Words.{init_rows, ◌++◌, ◌≡◌}
use Rattle.sj_lower.proofs.phase.push_inits.Given as goal

-- the copies of the workers so far get the unit
abbrev pub invariant-loop-w : goal.invariant-loop-w
invariant-loop-w l = l.tasks.items ≡ l.initial.tasks.items ++ init_rows l.by l.first l.w l.line
