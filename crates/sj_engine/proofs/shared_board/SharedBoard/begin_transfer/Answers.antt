use Rattle.std.proofs.Common.{◌∙◌, ap, subst, sym, Some, ℕ}
use Rattle.sj_base.specs.declared.ids.Place.{Place}
use Rattle.sj_base.specs.declared.ids.Place.TheVariants.{Node as AtNode}
use Rattle.sj_board.specs.Standing.{is_node}
use Rattle.sj_board.specs.Tiles.{array_in}
use Rattle.sj_board.specs.BoardRow.{key_of}
use Rattle.sj_engine.specs.Stage.{row_in}
use Rattle.sj_engine.specs.Stepping.{IsShareCarried}
use Rattle.sj_engine.proofs.shared_board.SharedBoard.begin_transfer.Goals as goal

pub returns-in-Node-Disk-Some-clause-row : goal.returns-in-Node-Disk-Some-clause-row
returns-in-Node-Disk-Some-clause-row g c =
    let began = c.begin_move.new.self in
    let from = subst (λ (q : Place). IsShareCarried g.D.Disk.held (key_of began) c.args.x (row_in began c.args.w) q (array_in c.in-Ok.share)) c.in-Node-Disk-Some.is-0 c.in-Ok.ensures.share in
    let share = subst (λ o. IsShareCarried g.D.Disk.held (key_of began) c.args.x (row_in began c.args.w) (AtNode c.in-Node-Disk-Some.field-0-0) (array_in o)) c.in-Node-Disk-Some.is-2 from in
    (c.take_unit.ensures.unit c.args.writes (c.in-Ok.ensures.counts ∙ ap (λ (n : ℕ). Some n) (sym c.requires.counts)), ap is_node c.in-Node-Disk-Some.is-1, c.take_unit.ensures.carried c.in-Node-Disk-Some.share.value share)
