use Rattle.sj_board.proofs.Words.{ap, arrays_in, None, replicate, rules, ◌∙◌, ◌≡◌}
use Rattle.sj_board.proofs.LoanedTiles.{arrays-none}
use Rattle.sj_board.proofs.tiles.empty_places.Goals as goal

pub returns : goal.returns
returns c =
    let whole : c.loop-i._i ≡ c.args.count = search rules in
    ap arrays_in c.loop-i.invariant ∙ arrays-none _ _ ∙ ap (λ k. replicate k None) whole
