use Rattle.sj_machine.proofs.Words.{idle_row, replicate, ◌≡◌}
use Rattle.sj_machine.proofs.rows.idle_workers.Given as goal

abbrev pub invariant-loop-i : goal.invariant-loop-i
invariant-loop-i l = l.workers.items ≡ replicate l._i idle_row
