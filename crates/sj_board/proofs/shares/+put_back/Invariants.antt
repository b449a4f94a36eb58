use Rattle.sj_board.proofs.Words.{length}
use Rattle.sj_board.proofs.shares.+put_back.Given as goal

abbrev pub decreases-put_back : goal.decreases-put_back
decreases-put_back l = length l.accesses.now
