use Rattle.sj_board.proofs.Words.{ap, Array, arrays_in, List, None, Option, set, ◌∙◌}
use Rattle.sj_board.proofs.LoanedTiles.{arrays-set}
use Rattle.sj_board.proofs.gifts.Gifts.take.Goals as goal

pub returns-clause-rest : goal.returns-clause-rest
returns-clause-rest c =
    let ts = c.self.inside.tiles.items in
    ap (λ t. arrays_in (set ts c.args.w.0 t)) c.take.ensures.after ∙ arrays-set ts c.args.w.0 None ∙ ap (λ (v : List (Option Array)). set v c.args.w.0 None) c.self.view_is
