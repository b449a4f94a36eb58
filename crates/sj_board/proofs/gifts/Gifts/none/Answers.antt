use Rattle.sj_board.proofs.Words.{ap, arrays_in, ◌∙◌}
use Rattle.sj_board.proofs.LoanedTiles.{arrays-none}
use Rattle.sj_board.proofs.gifts.Gifts.none.Goals as goal

pub returns : goal.returns
returns c = ap arrays_in c.in_ok-tiles.ensures ∙ arrays-none _ c.args.workers
