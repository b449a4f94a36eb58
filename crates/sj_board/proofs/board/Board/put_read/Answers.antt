use Rattle.sj_board.proofs.Words.{Array, BoardState, HasFetchedMoved, IsFetching, IsTileMoved, OnOk, subst, sym}
use Rattle.sj_board.proofs.{UnitBoards.busy-inside, UnitBoards.fetched-worked, UnitBoards.put-board, UnitBoards.put-kept, UnitBoards.put-others, UnitBoards.tiles-now}
use Rattle.sj_board.proofs.board.Board.put_read.Goals as goal

pub hold_unit-requires : goal.hold_unit-requires
hold_unit-requires g c = busy-inside _ _ _ _ _ _ _ _ _ _ c.self.invariant _ c.self.view_is c.args.w c.requires.busy

pub invariant_of-self : goal.invariant_of-self
invariant_of-self g c =
    let moved = subst (λ (b : BoardState _). HasFetchedMoved g.D.Disk.size g.D.Disk.faults g.D.Disk.mismatches g.D.Disk.held b.run c.args.w c.args.unit c.args.outcome c.requires.fetched.0) (sym c.self.view_is) c.requires.fetched.1 in
    let worked = fetched-worked _ _ _ _ c.self.inside.run c.args.w c.args.unit c.args.outcome (subst (λ (b : BoardState _). IsFetching b.run c.args.w) (sym c.self.view_is) c.requires.under_way) c.requires.fetched.0 moved in
    let result = c.put_read-result in
    put-kept _ _ _ _ _ _ _ _ _ _ c.self.invariant _ c.self.view_is c.args.w c.requires.busy g.D.Disk.size c.args.unit moved.before c.requires.in_hand result.new.self _ c.hold_unit.ensures moved.is_its_unit.taken worked.cell_stays worked.disk_number_stays result.ensures.back result.ensures.no_event result.ensures.given_back

pub returns-clause-back : goal.returns-clause-back
returns-clause-back g c =
    put-board c.self.inside.run c.put_read-result.new.self c.args.w _ _ c.hold_unit.ensures _ _ _ _ c.self.view_is c.put_read-result.ensures.no_event

pub returns-clause-others : goal.returns-clause-others
returns-clause-others g c =
    let moved = subst (λ (b : BoardState _). HasFetchedMoved g.D.Disk.size g.D.Disk.faults g.D.Disk.mismatches g.D.Disk.held b.run c.args.w c.args.unit c.args.outcome c.requires.fetched.0) (sym c.self.view_is) c.requires.fetched.1 in
    let worked = fetched-worked _ _ _ _ c.self.inside.run c.args.w c.args.unit c.args.outcome (subst (λ (b : BoardState _). IsFetching b.run c.args.w) (sym c.self.view_is) c.requires.under_way) c.requires.fetched.0 moved in
    put-others _ _ _ _ _ _ _ _ _ _ c.self.invariant _ c.self.view_is c.args.w c.requires.busy g.D.Disk.size c.args.unit moved.before c.requires.in_hand c.put_read-result.new.self _ c.hold_unit.ensures moved.is_its_unit.taken worked.cell_stays worked.disk_number_stays c.put_read-result.ensures.back

pub returns-clause-tile : goal.returns-clause-tile
returns-clause-tile g c =
    subst (λ (b : BoardState _). OnOk c.put_read-result.result ((a : Array) → HasFetchedMoved g.D.Disk.size g.D.Disk.faults g.D.Disk.mismatches g.D.Disk.held b.run c.args.w c.args.unit c.put_read-result.result a → IsTileMoved g.D.Disk.held c.put_read-result.new.self c.args.w a)) c.self.view_is
    (tiles-now g.D.Disk.held c.self.inside.run c.put_read-result.new.self c.args.w c.put_read-result.ensures.no_event c.put_read-result.result _ c.put_read-result.ensures.tile)
