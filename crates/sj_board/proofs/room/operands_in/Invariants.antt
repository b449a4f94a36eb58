use Rattle.sj_board.proofs.Words.{length, sum_by, take, ◌*◌, ◌≡◌, ◌≤◌}
use Rattle.sj_board.proofs.room.operands_in.Given as goal

abbrev pub invariant-loop-task : goal.invariant-loop-task
invariant-loop-task l = (l.operands ≡ sum_by (λ t. length t.accesses) (take l.task-index l.tasks)) × (l.operands ≤ 5 * l.task-index)
