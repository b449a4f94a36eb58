use Rattle.sj_board.proofs.Words.{Drop}
use Rattle.sj_board.proofs.{EventTiles.drop-place, EventTiles.event-room, EventTiles.keeps-drop, EventTiles.now-can, EventTiles.rows-can, Keeping.keeps-told}
use Rattle.sj_board.proofs.run_state.RunState.drop_copy.Goals as goal

pub drop_copy-requires : goal.drop_copy-requires
drop_copy-requires g c = rows-can _ _ _ _ _ _ _ _ c.self.invariant _ c.self.view_is (Drop c.args.cell c.args.n) c.requires

pub clear-requires-clause-cell : goal.clear-requires-clause-cell
clear-requires-clause-cell g c = (drop-place _ _ _ _ _ _ _ _ c.self.invariant c.args.cell c.args.n (now-can _ _ _ _ _ _ _ _ c.self.invariant _ c.self.view_is (Drop c.args.cell c.args.n) c.requires)).0

pub clear-requires-clause-node : goal.clear-requires-clause-node
clear-requires-clause-node g c = (drop-place _ _ _ _ _ _ _ _ c.self.invariant c.args.cell c.args.n (now-can _ _ _ _ _ _ _ _ c.self.invariant _ c.self.view_is (Drop c.args.cell c.args.n) c.requires)).1

pub add-requires : goal.add-requires
add-requires g c = event-room _ _ _ _ _ _ _ _ c.self.invariant _ c.self.view_is (Drop c.args.cell c.args.n) c.requires

pub invariant_of-self : goal.invariant_of-self
invariant_of-self g c =
    let can = now-can _ _ _ _ _ _ _ _ c.self.invariant _ c.self.view_is (Drop c.args.cell c.args.n) c.requires in
    keeps-told _ _ _ _ _ c.self.inside.rows c.self.inside.trace c.self.inside.disks c.self.inside.opened.value (Drop c.args.cell c.args.n) _ c.drop_copy.new.self c.clear.new.tiles.items c.add.new.self c.drop_copy.ensures c.clear.ensures c.add.ensures.events
    (keeps-drop _ _ _ _ _ _ _ _ c.self.invariant c.args.cell c.args.n can c.add.new.self.spare c.add.ensures.room)
