use Rattle.std.proofs.Common.{◌∙◌, ◌++◌, ◌∷◌, [], List, ap, sym, subst}
use Rattle.sj_base.specs.declared.trace.Event.{Event}
use Rattle.sj_base.specs.declared.trace.Event.TheVariants.{Moved}
use Rattle.std.specs.Prelude.{IfSome}
use Rattle.sj_board.specs.Standing.{IsTileMoved}
use Rattle.sj_board.specs.Tiles.{array_in}
use Rattle.sj_board.specs.DiskUnits.{HasFetchedMoved}
use Rattle.sj_board.specs.BoardRow.{key_of}
use Rattle.sj_engine.specs.Stage.{IsFetchedThrough, row_in}
use Rattle.sj_engine.proofs.BoardTurns.{moved-event, moved-row, moved-turn, moving-in}
use Rattle.sj_engine.proofs.MoveTurns.{counts-found}
use Rattle.sj_engine.proofs.Turning.{put-turn, turn-then}
use Rattle.sj_engine.proofs.UnitTurns.{put-busy, put-fetched, put-fetching, put-held, put-moves, put-no_event, put-worker, puts-back}
use Rattle.sj_engine.proofs.shared_board.SharedBoard.read_in.Goals as goal

pub put_read-requires : goal.put_read-requires
put_read-requires g c =
    let f = c.requires.fetched.1 in
    record {
      busy = put-busy g.D.Disk.size g.D.Disk.faults g.D.Disk.mismatches g.D.Disk.held c.args.w c.args.self.now c.deref.result.now c.deref_mut.result.now c.args.t c.args.x c.requires.fetched.1.before (c.deref.ensures ∙ c.self.view_is) (c.deref_mut.ensures.value ∙ c.self.view_is) c.is_sound.ensures c.requires.worker c.requires.fetched.1.holds;
      in_hand = put-held g.D.Disk.size g.D.Disk.faults g.D.Disk.mismatches g.D.Disk.held c.args.w c.args.self.now c.deref.result.now c.deref_mut.result.now c.args.t c.args.x c.requires.fetched.1.before (c.deref.ensures ∙ c.self.view_is) (c.deref_mut.ensures.value ∙ c.self.view_is) c.is_sound.ensures c.requires.worker c.requires.fetched.1.holds c.args.unit f.fetches.is_worked_on.cell_stays;
      under_way = put-fetching g.D.Disk.size g.D.Disk.faults g.D.Disk.mismatches g.D.Disk.held c.args.w c.args.self.now c.deref.result.now c.deref_mut.result.now c.args.t c.args.x c.requires.fetched.1.before (c.deref.ensures ∙ c.self.view_is) (c.deref_mut.ensures.value ∙ c.self.view_is) c.is_sound.ensures c.requires.worker c.requires.fetched.1.holds c.requires.disk;
      fetched = (c.requires.fetched.0, put-fetched g.D.Disk.size g.D.Disk.faults g.D.Disk.mismatches g.D.Disk.held c.args.w c.args.self.now c.deref.result.now c.deref_mut.result.now c.args.t c.args.x c.requires.fetched.1.before (c.deref.ensures ∙ c.self.view_is) (c.deref_mut.ensures.value ∙ c.self.view_is) c.is_sound.ensures c.requires.worker c.requires.fetched.1.holds c.args.unit c.args.outcome c.requires.fetched.0 f.dims f.whole f.count f.counts f.fetches);
    }

pub end_move_in-requires-clause-under_way : goal.end_move_in-requires-clause-under_way
end_move_in-requires-clause-under_way g c = moving-in g.D.Disk.size g.D.Disk.faults g.D.Disk.mismatches g.D.Disk.held c.args.w c.put_read.new.self c.deref-2.result.now c.deref_mut-2.result.now c.deref_mut-2.result.now c.args.t c.args.x c.deref-2.ensures c.deref_mut-2.ensures.value c.is_sound-2.ensures (put-moves g.D.Disk.size g.D.Disk.faults g.D.Disk.mismatches g.D.Disk.held c.args.w c.args.self.now c.deref.result.now c.deref_mut.result.now c.args.t c.args.x c.requires.fetched.1.before (c.deref.ensures ∙ c.self.view_is) (c.deref_mut.ensures.value ∙ c.self.view_is) c.is_sound.ensures c.requires.worker c.requires.fetched.1.holds c.put_read.new.self c.put_read.ensures.back c.put_read.ensures.others) c.requires.node

pub fail_moving-requires-clause-worker : goal.fail_moving-requires-clause-worker
fail_moving-requires-clause-worker g c = put-worker g.D.Disk.size g.D.Disk.faults g.D.Disk.mismatches g.D.Disk.held c.args.w c.args.self.now c.deref.result.now c.deref_mut.result.now c.args.t c.args.x c.requires.fetched.1.before (c.deref.ensures ∙ c.self.view_is) (c.deref_mut.ensures.value ∙ c.self.view_is) c.is_sound.ensures c.requires.worker c.requires.fetched.1.holds c.put_read.new.self c.put_read.ensures.back c.put_read.ensures.others

pub fail_moving-requires-clause-moves : goal.fail_moving-requires-clause-moves
fail_moving-requires-clause-moves g c = put-moves g.D.Disk.size g.D.Disk.faults g.D.Disk.mismatches g.D.Disk.held c.args.w c.args.self.now c.deref.result.now c.deref_mut.result.now c.args.t c.args.x c.requires.fetched.1.before (c.deref.ensures ∙ c.self.view_is) (c.deref_mut.ensures.value ∙ c.self.view_is) c.is_sound.ensures c.requires.worker c.requires.fetched.1.holds c.put_read.new.self c.put_read.ensures.back c.put_read.ensures.others

pub returns-in-Err-clause-turn : goal.returns-in-Err-clause-turn
returns-in-Err-clause-turn g c = c.fail_moving.ensures.turn c.args.self.now (puts-back g.D.Disk.size g.D.Disk.faults g.D.Disk.mismatches g.D.Disk.held c.args.w c.args.self.now c.deref.result.now c.deref_mut.result.now c.args.t c.args.x c.requires.fetched.1.before (c.deref.ensures ∙ c.self.view_is) (c.deref_mut.ensures.value ∙ c.self.view_is) c.is_sound.ensures c.requires.worker c.requires.fetched.1.holds c.put_read.new.self c.put_read.ensures.back c.put_read.ensures.others)

pub returns-in-Err-clause-event : goal.returns-in-Err-clause-event
returns-in-Err-clause-event g c = c.fail_moving.ensures.no_event ∙ put-no_event g.D.Disk.size g.D.Disk.faults g.D.Disk.mismatches g.D.Disk.held c.args.w c.args.self.now c.deref.result.now c.deref_mut.result.now c.args.t c.args.x c.requires.fetched.1.before (c.deref.ensures ∙ c.self.view_is) (c.deref_mut.ensures.value ∙ c.self.view_is) c.is_sound.ensures c.requires.worker c.requires.fetched.1.holds c.put_read.new.self c.put_read.ensures.back c.put_read.ensures.others

pub returns-clause-turn : goal.returns-clause-turn
returns-clause-turn g c =
    turn-then g.D.Disk.faults g.D.Disk.mismatches c.args.w c.args.self.now c.put_read.new.self c.end_move_in.new.self (put-no_event g.D.Disk.size g.D.Disk.faults g.D.Disk.mismatches g.D.Disk.held c.args.w c.args.self.now c.deref.result.now c.deref_mut.result.now c.args.t c.args.x c.requires.fetched.1.before (c.deref.ensures ∙ c.self.view_is) (c.deref_mut.ensures.value ∙ c.self.view_is) c.is_sound.ensures c.requires.worker c.requires.fetched.1.holds c.put_read.new.self c.put_read.ensures.back c.put_read.ensures.others)
    (put-turn g.D.Disk.faults g.D.Disk.mismatches c.args.w c.args.self.now c.put_read.new.self (puts-back g.D.Disk.size g.D.Disk.faults g.D.Disk.mismatches g.D.Disk.held c.args.w c.args.self.now c.deref.result.now c.deref_mut.result.now c.args.t c.args.x c.requires.fetched.1.before (c.deref.ensures ∙ c.self.view_is) (c.deref_mut.ensures.value ∙ c.self.view_is) c.is_sound.ensures c.requires.worker c.requires.fetched.1.holds c.put_read.new.self c.put_read.ensures.back c.put_read.ensures.others) (counts-found g.D.Disk.faults g.D.Disk.mismatches c.args.self.now c.deref_mut.result.now c.put_read.new.self (c.deref_mut.ensures.value ∙ c.self.view_is) tt c.put_read.result c.in_default.is c.put_read.ensures.counts))
    (moved-turn g.D.Disk.size g.D.Disk.faults g.D.Disk.mismatches g.D.Disk.held c.args.w c.put_read.new.self c.deref-2.result.now c.deref_mut-2.result.now c.end_move_in.new.self c.args.t c.args.x c.deref-2.ensures c.deref_mut-2.ensures.value c.is_sound-2.ensures (put-moves g.D.Disk.size g.D.Disk.faults g.D.Disk.mismatches g.D.Disk.held c.args.w c.args.self.now c.deref.result.now c.deref_mut.result.now c.args.t c.args.x c.requires.fetched.1.before (c.deref.ensures ∙ c.self.view_is) (c.deref_mut.ensures.value ∙ c.self.view_is) c.is_sound.ensures c.requires.worker c.requires.fetched.1.holds c.put_read.new.self c.put_read.ensures.back c.put_read.ensures.others) c.end_move_in.ensures.moved c.end_move_in.ensures.spares)

pub returns-clause-row : goal.returns-clause-row
returns-clause-row g c = moved-row g.D.Disk.size g.D.Disk.faults g.D.Disk.mismatches g.D.Disk.held c.args.w c.put_read.new.self c.deref-2.result.now c.deref_mut-2.result.now c.end_move_in.new.self c.args.t c.args.x c.deref-2.ensures c.deref_mut-2.ensures.value c.is_sound-2.ensures (put-moves g.D.Disk.size g.D.Disk.faults g.D.Disk.mismatches g.D.Disk.held c.args.w c.args.self.now c.deref.result.now c.deref_mut.result.now c.args.t c.args.x c.requires.fetched.1.before (c.deref.ensures ∙ c.self.view_is) (c.deref_mut.ensures.value ∙ c.self.view_is) c.is_sound.ensures c.requires.worker c.requires.fetched.1.holds c.put_read.new.self c.put_read.ensures.back c.put_read.ensures.others) c.end_move_in.ensures.moved c.end_move_in.ensures.spares

pub returns-clause-event : goal.returns-clause-event
returns-clause-event g c =
    moved-event g.D.Disk.size g.D.Disk.faults g.D.Disk.mismatches g.D.Disk.held c.args.w c.put_read.new.self c.deref-2.result.now c.deref_mut-2.result.now c.end_move_in.new.self c.args.t c.args.x c.deref-2.ensures c.deref_mut-2.ensures.value c.is_sound-2.ensures (put-moves g.D.Disk.size g.D.Disk.faults g.D.Disk.mismatches g.D.Disk.held c.args.w c.args.self.now c.deref.result.now c.deref_mut.result.now c.args.t c.args.x c.requires.fetched.1.before (c.deref.ensures ∙ c.self.view_is) (c.deref_mut.ensures.value ∙ c.self.view_is) c.is_sound.ensures c.requires.worker c.requires.fetched.1.holds c.put_read.new.self c.put_read.ensures.back c.put_read.ensures.others) c.end_move_in.ensures.moved c.end_move_in.ensures.spares
    ∙ ap (λ (l : List Event). l ++ Moved c.args.x.cell c.args.x.from c.args.x.to ∷ []) (put-no_event g.D.Disk.size g.D.Disk.faults g.D.Disk.mismatches g.D.Disk.held c.args.w c.args.self.now c.deref.result.now c.deref_mut.result.now c.args.t c.args.x c.requires.fetched.1.before (c.deref.ensures ∙ c.self.view_is) (c.deref_mut.ensures.value ∙ c.self.view_is) c.is_sound.ensures c.requires.worker c.requires.fetched.1.holds c.put_read.new.self c.put_read.ensures.back c.put_read.ensures.others)

pub returns-in_default-tile-clause-turn : goal.returns-in_default-tile-clause-turn
returns-in_default-tile-clause-turn g c = c.fail_moving-in_default-tile.ensures.turn c.args.self.now (puts-back g.D.Disk.size g.D.Disk.faults g.D.Disk.mismatches g.D.Disk.held c.args.w c.args.self.now c.deref.result.now c.deref_mut.result.now c.args.t c.args.x c.requires.fetched.1.before (c.deref.ensures ∙ c.self.view_is) (c.deref_mut.ensures.value ∙ c.self.view_is) c.is_sound.ensures c.requires.worker c.requires.fetched.1.holds c.put_read.new.self c.put_read.ensures.back c.put_read.ensures.others)

pub end_move_in-requires-clause-tile : goal.end_move_in-requires-clause-tile
end_move_in-requires-clause-tile g c =
    let a = c.in-Some.tile.value in
    let f : IsFetchedThrough g.D.Disk.size g.D.Disk.faults g.D.Disk.mismatches g.D.Disk.held (key_of c.args.self.now) c.args.w c.args.t c.args.x (row_in c.args.self.now c.args.w) c.args.unit c.args.outcome a = subst (λ o. IfSome (array_in o) (IsFetchedThrough g.D.Disk.size g.D.Disk.faults g.D.Disk.mismatches g.D.Disk.held (key_of c.args.self.now) c.args.w c.args.t c.args.x (row_in c.args.self.now c.args.w) c.args.unit c.args.outcome)) c.in-Some.is c.requires.tile in
    let moved = put-fetched g.D.Disk.size g.D.Disk.faults g.D.Disk.mismatches g.D.Disk.held c.args.w c.args.self.now c.deref.result.now c.deref_mut.result.now c.args.t c.args.x f.before (c.deref.ensures ∙ c.self.view_is) (c.deref_mut.ensures.value ∙ c.self.view_is) c.is_sound.ensures c.requires.worker f.holds c.args.unit c.args.outcome a f.dims f.whole f.count f.counts f.fetches in
    subst (λ k. IsTileMoved g.D.Disk.held k.run c.args.w a) (sym c.deref_mut-2.ensures.value)
    (c.in_default.ensures.tile a (subst (λ r. HasFetchedMoved g.D.Disk.size g.D.Disk.faults g.D.Disk.mismatches g.D.Disk.held c.deref_mut.result.now.run c.args.w c.args.unit r a) (sym c.in_default.ensures.result) moved))
