use Rattle.sj_board.proofs.Words.{ap, Array, array_in, List, Option, set, ◌∙◌}
use Rattle.sj_board.proofs.LoanedTiles.{arrays-set}
use Rattle.sj_board.proofs.gifts.Gifts.keep.Goals as goal

pub returns : goal.returns
returns c = arrays-set c.self.inside.tiles.items c.args.w.0 c.args.gift ∙ ap (λ (v : List (Option Array)). set v c.args.w.0 (array_in c.args.gift)) c.self.view_is
