use Rattle.sj_lower.proofs.Words.{combine_rows, ◌++◌, ◌≡◌}
use Rattle.sj_lower.proofs.phase.push_close.Given as goal

-- the copies of the workers so far are combined
abbrev pub invariant-loop-w : goal.invariant-loop-w
invariant-loop-w l = l.tasks.items ≡ l.initial.tasks.items ++ combine_rows l.phase l.cell l.w
