use Rattle.sj_board.proofs.FillLoop.{IsPutting}
use Rattle.sj_board.proofs.filling.put_each.Given as goal

abbrev pub invariant-loop-t : goal.invariant-loop-t
invariant-loop-t l = IsPutting l.fn.program l.fn.by l.fn.pool l.pool l.ready l.t-index
