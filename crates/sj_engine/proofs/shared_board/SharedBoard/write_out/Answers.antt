use Rattle.std.proofs.Common.{◌∙◌, ◌++◌, ◌∷◌, [], List, ap, sym, subst}
use Rattle.sj_base.specs.declared.trace.Event.{Event}
use Rattle.sj_base.specs.declared.trace.Event.TheVariants.{Moved}
use Rattle.sj_board.specs.Sound.{IsWrittenOut}
use Rattle.sj_engine.proofs.BoardTurns.{moved-event, moved-row, moved-turn, moving-out}
use Rattle.sj_engine.proofs.MoveTurns.{counts-found}
use Rattle.sj_engine.proofs.Turning.{put-turn, turn-then}
use Rattle.sj_engine.proofs.UnitTurns.{put-busy, put-held, put-moves, put-no_event, put-out, put-stored, put-worker, puts-back}
use Rattle.sj_engine.proofs.shared_board.SharedBoard.write_out.Goals as goal

pub put_written-requires : goal.put_written-requires
put_written-requires g c = record {
  busy = put-busy g.D.Disk.size g.D.Disk.faults g.D.Disk.mismatches g.D.Disk.held c.args.w c.args.self.now c.deref.result.now c.deref_mut.result.now c.args.t c.args.x c.requires.stored.before (c.deref.ensures ∙ c.self.view_is) (c.deref_mut.ensures.value ∙ c.self.view_is) c.is_sound.ensures c.requires.worker c.requires.stored.holds;
  in_hand = put-held g.D.Disk.size g.D.Disk.faults g.D.Disk.mismatches g.D.Disk.held c.args.w c.args.self.now c.deref.result.now c.deref_mut.result.now c.args.t c.args.x c.requires.stored.before (c.deref.ensures ∙ c.self.view_is) (c.deref_mut.ensures.value ∙ c.self.view_is) c.is_sound.ensures c.requires.worker c.requires.stored.holds c.args.unit c.requires.stored.stores.is_worked_on.cell_stays;
  under_way = put-out g.D.Disk.size g.D.Disk.faults g.D.Disk.mismatches g.D.Disk.held c.args.w c.args.self.now c.deref.result.now c.deref_mut.result.now c.args.t c.args.x c.requires.stored.before (c.deref.ensures ∙ c.self.view_is) (c.deref_mut.ensures.value ∙ c.self.view_is) c.is_sound.ensures c.requires.worker c.requires.stored.holds c.requires.disk;
  stored = put-stored g.D.Disk.size g.D.Disk.faults g.D.Disk.mismatches g.D.Disk.held c.args.w c.args.self.now c.deref.result.now c.deref_mut.result.now c.args.t c.args.x c.requires.stored.before (c.deref.ensures ∙ c.self.view_is) (c.deref_mut.ensures.value ∙ c.self.view_is) c.is_sound.ensures c.requires.worker c.requires.stored.holds c.args.unit c.args.outcome c.requires.stored.array c.requires.stored.carried c.requires.stored.fits c.requires.stored.count c.requires.stored.counts c.requires.stored.stores;
}

pub end_move_out-requires-clause-under_way : goal.end_move_out-requires-clause-under_way
end_move_out-requires-clause-under_way g c = moving-out g.D.Disk.size g.D.Disk.faults g.D.Disk.mismatches g.D.Disk.held c.args.w c.put_written.new.self c.deref-2.result.now c.deref_mut-2.result.now c.deref_mut-2.result.now c.args.t c.args.x c.deref-2.ensures c.deref_mut-2.ensures.value c.is_sound-2.ensures (put-moves g.D.Disk.size g.D.Disk.faults g.D.Disk.mismatches g.D.Disk.held c.args.w c.args.self.now c.deref.result.now c.deref_mut.result.now c.args.t c.args.x c.requires.stored.before (c.deref.ensures ∙ c.self.view_is) (c.deref_mut.ensures.value ∙ c.self.view_is) c.is_sound.ensures c.requires.worker c.requires.stored.holds c.put_written.new.self c.put_written.ensures.back c.put_written.ensures.others) c.requires.disk

pub end_move_out-requires-clause-written : goal.end_move_out-requires-clause-written
end_move_out-requires-clause-written g c = subst (λ k. IsWrittenOut g.D.Disk.held k.run c.args.w) (sym c.deref_mut-2.ensures.value) c.in_default.ensures.written

pub fail_moving-requires-clause-worker : goal.fail_moving-requires-clause-worker
fail_moving-requires-clause-worker g c = put-worker g.D.Disk.size g.D.Disk.faults g.D.Disk.mismatches g.D.Disk.held c.args.w c.args.self.now c.deref.result.now c.deref_mut.result.now c.args.t c.args.x c.requires.stored.before (c.deref.ensures ∙ c.self.view_is) (c.deref_mut.ensures.value ∙ c.self.view_is) c.is_sound.ensures c.requires.worker c.requires.stored.holds c.put_written.new.self c.put_written.ensures.back c.put_written.ensures.others

pub fail_moving-requires-clause-moves : goal.fail_moving-requires-clause-moves
fail_moving-requires-clause-moves g c = put-moves g.D.Disk.size g.D.Disk.faults g.D.Disk.mismatches g.D.Disk.held c.args.w c.args.self.now c.deref.result.now c.deref_mut.result.now c.args.t c.args.x c.requires.stored.before (c.deref.ensures ∙ c.self.view_is) (c.deref_mut.ensures.value ∙ c.self.view_is) c.is_sound.ensures c.requires.worker c.requires.stored.holds c.put_written.new.self c.put_written.ensures.back c.put_written.ensures.others

pub returns-in-Err-clause-turn : goal.returns-in-Err-clause-turn
returns-in-Err-clause-turn g c = c.fail_moving.ensures.turn c.args.self.now (puts-back g.D.Disk.size g.D.Disk.faults g.D.Disk.mismatches g.D.Disk.held c.args.w c.args.self.now c.deref.result.now c.deref_mut.result.now c.args.t c.args.x c.requires.stored.before (c.deref.ensures ∙ c.self.view_is) (c.deref_mut.ensures.value ∙ c.self.view_is) c.is_sound.ensures c.requires.worker c.requires.stored.holds c.put_written.new.self c.put_written.ensures.back c.put_written.ensures.others)

pub returns-in-Err-clause-event : goal.returns-in-Err-clause-event
returns-in-Err-clause-event g c = c.fail_moving.ensures.no_event ∙ put-no_event g.D.Disk.size g.D.Disk.faults g.D.Disk.mismatches g.D.Disk.held c.args.w c.args.self.now c.deref.result.now c.deref_mut.result.now c.args.t c.args.x c.requires.stored.before (c.deref.ensures ∙ c.self.view_is) (c.deref_mut.ensures.value ∙ c.self.view_is) c.is_sound.ensures c.requires.worker c.requires.stored.holds c.put_written.new.self c.put_written.ensures.back c.put_written.ensures.others

pub returns-clause-turn : goal.returns-clause-turn
returns-clause-turn g c =
    turn-then g.D.Disk.faults g.D.Disk.mismatches c.args.w c.args.self.now c.put_written.new.self c.end_move_out.new.self (put-no_event g.D.Disk.size g.D.Disk.faults g.D.Disk.mismatches g.D.Disk.held c.args.w c.args.self.now c.deref.result.now c.deref_mut.result.now c.args.t c.args.x c.requires.stored.before (c.deref.ensures ∙ c.self.view_is) (c.deref_mut.ensures.value ∙ c.self.view_is) c.is_sound.ensures c.requires.worker c.requires.stored.holds c.put_written.new.self c.put_written.ensures.back c.put_written.ensures.others)
    (put-turn g.D.Disk.faults g.D.Disk.mismatches c.args.w c.args.self.now c.put_written.new.self (puts-back g.D.Disk.size g.D.Disk.faults g.D.Disk.mismatches g.D.Disk.held c.args.w c.args.self.now c.deref.result.now c.deref_mut.result.now c.args.t c.args.x c.requires.stored.before (c.deref.ensures ∙ c.self.view_is) (c.deref_mut.ensures.value ∙ c.self.view_is) c.is_sound.ensures c.requires.worker c.requires.stored.holds c.put_written.new.self c.put_written.ensures.back c.put_written.ensures.others) (counts-found g.D.Disk.faults g.D.Disk.mismatches c.args.self.now c.deref_mut.result.now c.put_written.new.self (c.deref_mut.ensures.value ∙ c.self.view_is) tt c.put_written.result c.in_default.is c.put_written.ensures.counts))
    (moved-turn g.D.Disk.size g.D.Disk.faults g.D.Disk.mismatches g.D.Disk.held c.args.w c.put_written.new.self c.deref-2.result.now c.deref_mut-2.result.now c.end_move_out.new.self c.args.t c.args.x c.deref-2.ensures c.deref_mut-2.ensures.value c.is_sound-2.ensures (put-moves g.D.Disk.size g.D.Disk.faults g.D.Disk.mismatches g.D.Disk.held c.args.w c.args.self.now c.deref.result.now c.deref_mut.result.now c.args.t c.args.x c.requires.stored.before (c.deref.ensures ∙ c.self.view_is) (c.deref_mut.ensures.value ∙ c.self.view_is) c.is_sound.ensures c.requires.worker c.requires.stored.holds c.put_written.new.self c.put_written.ensures.back c.put_written.ensures.others) c.end_move_out.ensures.moved c.end_move_out.ensures.spares)

pub returns-clause-row : goal.returns-clause-row
returns-clause-row g c = moved-row g.D.Disk.size g.D.Disk.faults g.D.Disk.mismatches g.D.Disk.held c.args.w c.put_written.new.self c.deref-2.result.now c.deref_mut-2.result.now c.end_move_out.new.self c.args.t c.args.x c.deref-2.ensures c.deref_mut-2.ensures.value c.is_sound-2.ensures (put-moves g.D.Disk.size g.D.Disk.faults g.D.Disk.mismatches g.D.Disk.held c.args.w c.args.self.now c.deref.result.now c.deref_mut.result.now c.args.t c.args.x c.requires.stored.before (c.deref.ensures ∙ c.self.view_is) (c.deref_mut.ensures.value ∙ c.self.view_is) c.is_sound.ensures c.requires.worker c.requires.stored.holds c.put_written.new.self c.put_written.ensures.back c.put_written.ensures.others) c.end_move_out.ensures.moved c.end_move_out.ensures.spares

pub returns-clause-event : goal.returns-clause-event
returns-clause-event g c =
    moved-event g.D.Disk.size g.D.Disk.faults g.D.Disk.mismatches g.D.Disk.held c.args.w c.put_written.new.self c.deref-2.result.now c.deref_mut-2.result.now c.end_move_out.new.self c.args.t c.args.x c.deref-2.ensures c.deref_mut-2.ensures.value c.is_sound-2.ensures (put-moves g.D.Disk.size g.D.Disk.faults g.D.Disk.mismatches g.D.Disk.held c.args.w c.args.self.now c.deref.result.now c.deref_mut.result.now c.args.t c.args.x c.requires.stored.before (c.deref.ensures ∙ c.self.view_is) (c.deref_mut.ensures.value ∙ c.self.view_is) c.is_sound.ensures c.requires.worker c.requires.stored.holds c.put_written.new.self c.put_written.ensures.back c.put_written.ensures.others) c.end_move_out.ensures.moved c.end_move_out.ensures.spares
    ∙ ap (λ (l : List Event). l ++ Moved c.args.x.cell c.args.x.from c.args.x.to ∷ []) (put-no_event g.D.Disk.size g.D.Disk.faults g.D.Disk.mismatches g.D.Disk.held c.args.w c.args.self.now c.deref.result.now c.deref_mut.result.now c.args.t c.args.x c.requires.stored.before (c.deref.ensures ∙ c.self.view_is) (c.deref_mut.ensures.value ∙ c.self.view_is) c.is_sound.ensures c.requires.worker c.requires.stored.holds c.put_written.new.self c.put_written.ensures.back c.put_written.ensures.others)
