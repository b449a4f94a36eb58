use Rattle.sj_board.proofs.Words.{Moved, refl}
use Rattle.sj_board.proofs.{EventTiles.found-moved_out, EventTiles.moved-room, Keeping.keeps-told}
use Rattle.sj_board.proofs.run_state.RunState.end_move_out.Goals as goal

pub add-requires : goal.add-requires
add-requires g c = moved-room _ _ _ _ _ _ _ _ c.self.invariant _ c.self.view_is c.args.w c.end_move-x.result c.end_move-x.ensures.under_way

pub invariant_of-self : goal.invariant_of-self
invariant_of-self g c =
    let i = c.self.inside in
    let x = c.end_move-x.result in
    keeps-told _ _ _ _ _ i.rows i.trace i.disks i.opened.value (Moved x.cell x.from x.to) i.tiles.items c.end_move-x.new.self i.tiles.items c.add.new.self c.end_move-x.ensures.ended refl c.add.ensures.events
    (found-moved_out _ _ _ _ _ _ _ _ c.self.invariant _ c.self.view_is c.args.w x c.end_move-x.ensures.under_way c.disk_at-d.result c.disk_at-d.ensures c.requires.written c.add.new.self.spare c.add.ensures.room)
