use Rattle.std.proofs.Common.{◌∙◌, refl}
use Rattle.sj_engine.proofs.UnitTurns.{put-busy, put-held, put-moves, put-no_event, put-unit, put-worker, puts-back}
use Rattle.sj_engine.proofs.shared_board.SharedBoard.give_unit_up.Goals as goal

pub put_untouched-requires : goal.put_untouched-requires
put_untouched-requires g c = record {
  busy = put-busy g.D.Disk.size g.D.Disk.faults g.D.Disk.mismatches g.D.Disk.held c.args.w c.args.self.now c.deref.result.now c.deref_mut.result.now c.args.t c.args.x c.args.unit (c.deref.ensures ∙ c.self.view_is) (c.deref_mut.ensures.value ∙ c.self.view_is) c.is_sound.ensures c.requires.worker c.requires.holds;
  in_hand = put-held g.D.Disk.size g.D.Disk.faults g.D.Disk.mismatches g.D.Disk.held c.args.w c.args.self.now c.deref.result.now c.deref_mut.result.now c.args.t c.args.x c.args.unit (c.deref.ensures ∙ c.self.view_is) (c.deref_mut.ensures.value ∙ c.self.view_is) c.is_sound.ensures c.requires.worker c.requires.holds c.args.unit refl;
  untouched = put-unit g.D.Disk.size g.D.Disk.faults g.D.Disk.mismatches g.D.Disk.held c.args.w c.args.self.now c.deref.result.now c.deref_mut.result.now c.args.t c.args.x c.args.unit (c.deref.ensures ∙ c.self.view_is) (c.deref_mut.ensures.value ∙ c.self.view_is) c.is_sound.ensures c.requires.worker c.requires.holds;
}

pub fail_moving-requires : goal.fail_moving-requires
fail_moving-requires g c = record { worker = put-worker g.D.Disk.size g.D.Disk.faults g.D.Disk.mismatches g.D.Disk.held c.args.w c.args.self.now c.deref.result.now c.deref_mut.result.now c.args.t c.args.x c.args.unit (c.deref.ensures ∙ c.self.view_is) (c.deref_mut.ensures.value ∙ c.self.view_is) c.is_sound.ensures c.requires.worker c.requires.holds c.put_untouched.new.self c.put_untouched.ensures.back c.put_untouched.ensures.others; moves = put-moves g.D.Disk.size g.D.Disk.faults g.D.Disk.mismatches g.D.Disk.held c.args.w c.args.self.now c.deref.result.now c.deref_mut.result.now c.args.t c.args.x c.args.unit (c.deref.ensures ∙ c.self.view_is) (c.deref_mut.ensures.value ∙ c.self.view_is) c.is_sound.ensures c.requires.worker c.requires.holds c.put_untouched.new.self c.put_untouched.ensures.back c.put_untouched.ensures.others; cause = tt }

pub returns-clause-turn : goal.returns-clause-turn
returns-clause-turn g c = c.fail_moving.ensures.turn c.args.self.now (puts-back g.D.Disk.size g.D.Disk.faults g.D.Disk.mismatches g.D.Disk.held c.args.w c.args.self.now c.deref.result.now c.deref_mut.result.now c.args.t c.args.x c.args.unit (c.deref.ensures ∙ c.self.view_is) (c.deref_mut.ensures.value ∙ c.self.view_is) c.is_sound.ensures c.requires.worker c.requires.holds c.put_untouched.new.self c.put_untouched.ensures.back c.put_untouched.ensures.others)

pub returns-clause-no_event : goal.returns-clause-no_event
returns-clause-no_event g c = c.fail_moving.ensures.no_event ∙ put-no_event g.D.Disk.size g.D.Disk.faults g.D.Disk.mismatches g.D.Disk.held c.args.w c.args.self.now c.deref.result.now c.deref_mut.result.now c.args.t c.args.x c.args.unit (c.deref.ensures ∙ c.self.view_is) (c.deref_mut.ensures.value ∙ c.self.view_is) c.is_sound.ensures c.requires.worker c.requires.holds c.put_untouched.new.self c.put_untouched.ensures.back c.put_untouched.ensures.others
