use Rattle.sj_board.proofs.Words.{BoardState, HasStoredMoved, IsMovingOut, subst, sym}
use Rattle.sj_board.proofs.{UnitBoards.busy-inside, UnitBoards.put-board, UnitBoards.put-kept, UnitBoards.put-others, UnitBoards.stored-worked}
use Rattle.sj_board.proofs.board.Board.put_written.Goals as goal

pub hold_unit-requires : goal.hold_unit-requires
hold_unit-requires g c = busy-inside _ _ _ _ _ _ _ _ _ _ c.self.invariant _ c.self.view_is c.args.w c.requires.busy

pub invariant_of-self : goal.invariant_of-self
invariant_of-self g c =
    let moved = subst (λ (b : BoardState _). HasStoredMoved g.D.Disk.size g.D.Disk.faults g.D.Disk.mismatches g.D.Disk.held b.run c.args.w c.args.unit c.args.outcome) (sym c.self.view_is) c.requires.stored in
    let worked = stored-worked _ _ _ _ c.self.inside.run c.args.w c.args.unit c.args.outcome (subst (λ (b : BoardState _). IsMovingOut b.run c.args.w) (sym c.self.view_is) c.requires.under_way) moved in
    let result = c.put_written-result in
    put-kept _ _ _ _ _ _ _ _ _ _ c.self.invariant _ c.self.view_is c.args.w c.requires.busy g.D.Disk.size c.args.unit moved.before c.requires.in_hand result.new.self _ c.hold_unit.ensures moved.is_its_unit.taken worked.cell_stays worked.disk_number_stays result.ensures.back result.ensures.no_event result.ensures.given_back

pub returns-clause-back : goal.returns-clause-back
returns-clause-back g c =
    put-board c.self.inside.run c.put_written-result.new.self c.args.w _ _ c.hold_unit.ensures _ _ _ _ c.self.view_is c.put_written-result.ensures.no_event

pub returns-clause-others : goal.returns-clause-others
returns-clause-others g c =
    let moved = subst (λ (b : BoardState _). HasStoredMoved g.D.Disk.size g.D.Disk.faults g.D.Disk.mismatches g.D.Disk.held b.run c.args.w c.args.unit c.args.outcome) (sym c.self.view_is) c.requires.stored in
    let worked = stored-worked _ _ _ _ c.self.inside.run c.args.w c.args.unit c.args.outcome (subst (λ (b : BoardState _). IsMovingOut b.run c.args.w) (sym c.self.view_is) c.requires.under_way) moved in
    put-others _ _ _ _ _ _ _ _ _ _ c.self.invariant _ c.self.view_is c.args.w c.requires.busy g.D.Disk.size c.args.unit moved.before c.requires.in_hand c.put_written-result.new.self _ c.hold_unit.ensures moved.is_its_unit.taken worked.cell_stays worked.disk_number_stays c.put_written-result.ensures.back
