use Rattle.sj_board.proofs.Words.{count_entries}
use Rattle.sj_board.proofs.passing.+take_behind.Given as goal

abbrev pub decreases-take_behind : goal.decreases-take_behind
decreases-take_behind l = count_entries l.pool.now.queues
