use Rattle.sj_board.proofs.Words.{ap, BoardState, Cell, hand_in, hand_of, has_taken, HasBlockOf, None, Some, Standing, subst, sym, ◌∙◌, ◌≡◌}
use Rattle.std.specs.List.{slice_set}
use Rattle.sj_board.proofs.{BoardEnds.stays-stored, StillGone.knows-stored, UnitBoards.busy-inside, UnitBoards.keeps-unit_left, UnitBoards.out-given, UnitBoards.out-only, UnitBoards.taken-board, UnitBoards.taken-units}
use Rattle.sj_board.proofs.board.Board.take_unit.Goals as goal

pub hold_unit-requires : goal.hold_unit-requires
hold_unit-requires g c = busy-inside _ _ _ _ _ _ _ _ _ _ c.self.invariant _ c.self.view_is c.args.w c.requires.busy

pub invariant_of-self : goal.invariant_of-self
invariant_of-self g c =
    let inside = busy-inside _ _ _ _ _ _ _ _ _ _ c.self.invariant _ c.self.view_is c.args.w c.requires.busy in
    let none = subst (λ (b : BoardState _). (hand_of b c.args.w).unit ≡ None) (sym c.self.view_is) c.requires.none in
    let takes = c.take_unit-unit.ensures.takes in
    let hands = c.hold_unit.ensures ∙ ap (λ (q : Cell). slice_set c.self.inside.hands.items c.args.w.0 (record (hand_in c.self.inside.hands.items c.args.w) { unit = Some q })) c.cell.ensures in
    let only = out-only c.self.inside.run c.take_unit-unit.new.self _ takes.nothing_else in
    record {
      board = keeps-unit_left g.D.Disk.size _ _ _ _ _ _ _ c.args.w _ _ inside only (out-given c.self.inside.run c.take_unit-unit.new.self _ takes.nothing_else _ _ _ _) hands c.self.invariant.board;
      ends = stays-stored g.D.Disk.held c.self.inside.run _ _ _ _ c.self.invariant.ends _ only;
      victims = knows-stored c.self.inside.run _ _ c.self.invariant.victims only;
      units = taken-units c.self.inside.run c.take_unit-unit.new.self c.args.w c.take_unit-unit.result takes _ _ inside none hands c.self.invariant.units;
    }

pub returns-clause-takes : goal.returns-clause-takes
returns-clause-takes g c =
    let hands = c.hold_unit.ensures ∙ ap (λ (q : Cell). slice_set c.self.inside.hands.items c.args.w.0 (record (hand_in c.self.inside.hands.items c.args.w) { unit = Some q })) c.cell.ensures in
    taken-board c.self.inside.run c.take_unit-unit.new.self c.args.w c.take_unit-unit.result c.take_unit-unit.ensures.takes _ _ _ _ _ hands ∙ ap (λ (b : BoardState _). has_taken b c.args.w c.take_unit-unit.result) c.self.view_is

pub returns-clause-unit : goal.returns-clause-unit
returns-clause-unit g c = c.take_unit-unit.ensures.takes.is_its_unit

pub returns-clause-block : goal.returns-clause-block
returns-clause-block g c = subst (λ (z : Standing _). HasBlockOf z c.args.w c.take_unit-unit.result) (sym c.take_unit-unit.ensures.takes.nothing_else) (let block = c.take_unit-unit.ensures.block in record { whole = block.whole; stored = block.stored })
