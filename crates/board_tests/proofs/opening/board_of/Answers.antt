use Rattle.sj_board.proofs.Opened.{opening-taken}
use Rattle.board_tests.proofs.opening.board_of.Goals as goal

pub returns-in-Ok-make-clause-taken : goal.returns-in-Ok-make-clause-taken
returns-in-Ok-make-clause-taken g c = opening-taken _ _ _ _ _ c.in-Ok-make.ensures.ok
