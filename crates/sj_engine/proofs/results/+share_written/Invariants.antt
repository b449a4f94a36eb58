use Rattle.std.proofs.Common.{length}
use Rattle.sj_engine.proofs.results.+share_written.Given as goal

abbrev pub decreases-share_written : goal.decreases-share_written
decreases-share_written l = length l.formals.now
