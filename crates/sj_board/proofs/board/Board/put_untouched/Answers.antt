use Rattle.sj_board.proofs.Words.{ap, BoardState, IsUnitOf, refl, Standing, subst, sym, ◌∙◌}
use Rattle.sj_board.proofs.{UnitBoards.busy-inside, UnitBoards.out-given, UnitBoards.out-only, UnitBoards.put-board, UnitBoards.put-kept, UnitBoards.put-others, UnitBoards.untouched-back}
use Rattle.sj_board.proofs.board.Board.put_untouched.Goals as goal

pub hold_unit-requires : goal.hold_unit-requires
hold_unit-requires g c = busy-inside _ _ _ _ _ _ _ _ _ _ c.self.invariant _ c.self.view_is c.args.w c.requires.busy

pub invariant_of-self : goal.invariant_of-self
invariant_of-self g c =
    let its = subst (λ (b : BoardState _). IsUnitOf b.run c.args.w c.args.unit) (sym c.self.view_is) c.requires.untouched in
    let run = c.self.inside.run in
    let now = c.put_untouched in
    put-kept _ _ _ _ _ _ _ _ _ _ c.self.invariant _ c.self.view_is c.args.w c.requires.busy g.D.Disk.size c.args.unit c.args.unit c.requires.in_hand now.new.self _ c.hold_unit.ensures its.taken refl refl (untouched-back run now.new.self c.args.unit its.taken now.ensures) (out-only run now.new.self _ now.ensures) (out-given run now.new.self _ now.ensures _ _ _ _)

pub returns-clause-back : goal.returns-clause-back
returns-clause-back g c =
    put-board c.self.inside.run c.put_untouched.new.self c.args.w _ _ c.hold_unit.ensures _ _ _ _ c.self.view_is (out-only c.self.inside.run c.put_untouched.new.self _ c.put_untouched.ensures)

pub returns-clause-others : goal.returns-clause-others
returns-clause-others g c =
    let its = subst (λ (b : BoardState _). IsUnitOf b.run c.args.w c.args.unit) (sym c.self.view_is) c.requires.untouched in
    put-others _ _ _ _ _ _ _ _ _ _ c.self.invariant _ c.self.view_is c.args.w c.requires.busy g.D.Disk.size c.args.unit c.args.unit c.requires.in_hand c.put_untouched.new.self _ c.hold_unit.ensures its.taken refl refl (untouched-back c.self.inside.run c.put_untouched.new.self c.args.unit its.taken c.put_untouched.ensures)

pub returns-clause-disks_stay : goal.returns-clause-disks_stay
returns-clause-disks_stay g c = ap (λ (z : Standing _). z.disks) c.put_untouched.ensures ∙ ap (λ (b : BoardState _). b.run.disks) c.self.view_is
