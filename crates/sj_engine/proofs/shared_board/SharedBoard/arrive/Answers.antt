use Rattle.std.proofs.Common.{◌∙◌}
use Rattle.sj_engine.proofs.BoardTurns.{moved-row, moved-turn, moving-in, tile-moved}
use Rattle.sj_engine.proofs.BoardTurns.{moved-event}
use Rattle.sj_engine.proofs.shared_board.SharedBoard.arrive.Goals as goal

pub end_move_in-requires-clause-under_way : goal.end_move_in-requires-clause-under_way
end_move_in-requires-clause-under_way g c =
    moving-in g.D.Disk.size g.D.Disk.faults g.D.Disk.mismatches g.D.Disk.held c.args.w c.args.self.now c.deref.result.now c.deref_mut.result.now c.deref_mut.result.now c.args.t c.args.x (c.deref.ensures ∙ c.self.view_is) (c.deref_mut.ensures.value ∙ c.self.view_is) c.is_sound.ensures c.requires.moves c.requires.node

pub end_move_in-requires-clause-tile : goal.end_move_in-requires-clause-tile
end_move_in-requires-clause-tile g c =
    tile-moved g.D.Disk.size g.D.Disk.faults g.D.Disk.mismatches g.D.Disk.held c.args.w c.args.self.now c.deref.result.now c.deref_mut.result.now c.deref_mut.result.now c.args.t c.args.x (c.deref.ensures ∙ c.self.view_is) (c.deref_mut.ensures.value ∙ c.self.view_is) c.is_sound.ensures c.requires.moves c.args.tile.value c.requires.tile

pub returns-clause-turn : goal.returns-clause-turn
returns-clause-turn g c =
    moved-turn g.D.Disk.size g.D.Disk.faults g.D.Disk.mismatches g.D.Disk.held c.args.w c.args.self.now c.deref.result.now c.deref_mut.result.now c.end_move_in.new.self c.args.t c.args.x (c.deref.ensures ∙ c.self.view_is) (c.deref_mut.ensures.value ∙ c.self.view_is) c.is_sound.ensures c.requires.moves c.end_move_in.ensures.moved c.end_move_in.ensures.spares

pub returns-clause-row : goal.returns-clause-row
returns-clause-row g c =
    moved-row g.D.Disk.size g.D.Disk.faults g.D.Disk.mismatches g.D.Disk.held c.args.w c.args.self.now c.deref.result.now c.deref_mut.result.now c.end_move_in.new.self c.args.t c.args.x (c.deref.ensures ∙ c.self.view_is) (c.deref_mut.ensures.value ∙ c.self.view_is) c.is_sound.ensures c.requires.moves c.end_move_in.ensures.moved c.end_move_in.ensures.spares

pub returns-clause-event : goal.returns-clause-event
returns-clause-event g c =
    moved-event g.D.Disk.size g.D.Disk.faults g.D.Disk.mismatches g.D.Disk.held c.args.w c.args.self.now c.deref.result.now c.deref_mut.result.now c.end_move_in.new.self c.args.t c.args.x (c.deref.ensures ∙ c.self.view_is) (c.deref_mut.ensures.value ∙ c.self.view_is) c.is_sound.ensures c.requires.moves c.end_move_in.ensures.moved c.end_move_in.ensures.spares
