use Rattle.sj_board.proofs.Words.{Moved}
use Rattle.sj_board.proofs.{EventTiles.found-in_cell, EventTiles.found-in_places, EventTiles.found-moved_in, EventTiles.moved-room, Keeping.keeps-told}
use Rattle.sj_board.proofs.run_state.RunState.end_move_in.Goals as goal

pub put_tile-requires-clause-cell : goal.put_tile-requires-clause-cell
put_tile-requires-clause-cell g c = found-in_cell _ _ _ _ _ _ _ _ c.self.invariant _ c.self.view_is c.args.w c.end_move-x.result c.end_move-x.ensures.under_way c.node_at.result c.node_at.ensures

pub put_tile-requires-clause-places : goal.put_tile-requires-clause-places
put_tile-requires-clause-places g c = found-in_places _ _ _ _ _ _ _ _ c.self.invariant _ c.self.view_is c.args.w c.end_move-x.result c.end_move-x.ensures.under_way c.node_at.result c.node_at.ensures

pub add-requires : goal.add-requires
add-requires g c = moved-room _ _ _ _ _ _ _ _ c.self.invariant _ c.self.view_is c.args.w c.end_move-x.result c.end_move-x.ensures.under_way

pub invariant_of-self : goal.invariant_of-self
invariant_of-self g c =
    let i = c.self.inside in
    let x = c.end_move-x.result in
    keeps-told _ _ _ _ _ i.rows i.trace i.disks i.opened.value (Moved x.cell x.from x.to) _ c.end_move-x.new.self c.put_tile.new.tiles.items c.add.new.self c.end_move-x.ensures.ended c.put_tile.ensures c.add.ensures.events
    (found-moved_in _ _ _ _ _ _ _ _ c.self.invariant _ c.self.view_is c.args.w x c.end_move-x.ensures.under_way c.node_at.result c.node_at.ensures c.args.tile.value c.requires.tile c.add.new.self.spare c.add.ensures.room)
