use Rattle.std.proofs.Common.{◌∷◌, ◌∙◌, ap, sym, take, arith}
use Rattle.sj_job.proofs.Crowding.{piece-cut, piece-whole}
use Rattle.sj_job.proofs.form.first_piece.Goals as goal

pub returns-then-at-text : goal.returns-then-at-text
returns-then-at-text c =
    piece-whole c.args.text.now (sym c.first_place-at.ensures.place ∙ c.if-at-text.true) ∙ ap (λ ps. c.args.text.now ∷ ps) (sym c.none.ensures)

pub returns : goal.returns
returns c =
    piece-cut c.args.text.now c.first_place-at.result c.first_place-at.ensures.place (grind (arith, c.first_place-at.ensures.bound, c.if-at-text.false))
    ∙ ap (λ ps. take c.first_place-at.result c.args.text.now ∷ ps) (sym c.between_commas.ensures)
