use Rattle.sj_board.proofs.Words.{ap, Array, array_in, arrays_in, Option, set, ◌∙◌}
use Rattle.sj_board.proofs.LoanedTiles.{arrays-set}
use Rattle.sj_board.proofs.tiles.take_out.Goals as goal

pub returns : goal.returns
returns c = arrays-set c.args.places.now c.args.k c.replace.new.dest ∙ ap (λ (t : Option Array). set (arrays_in c.args.places.now) c.args.k t) (ap array_in c.replace.ensures.after)
