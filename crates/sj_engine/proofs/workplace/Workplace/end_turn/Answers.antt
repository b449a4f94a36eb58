use Rattle.std.proofs.Common.{◌∙◌, ap, length}
use Rattle.sj_engine.proofs.DeskTurns.{noted-inside, noted-sound, other-rows}
use Rattle.sj_engine.specs.Noted.{has_ready_in}
use Rattle.sj_engine.specs.Resting.{is_over}
use Rattle.sj_engine.proofs.Sleeping.{length-noted}
use Rattle.sj_engine.proofs.workplace.Workplace.end_turn.Goals as goal

pub change-woken-requires : goal.change-woken-requires
change-woken-requires g c = record { inside = noted-inside _ _ _ _ _ _ c.args.noted _ c.requires.turn }

pub leave-requires-clause-other_rows : goal.leave-requires-clause-other_rows
leave-requires-clause-other_rows g c =
    other-rows _ _ _ _ _ _ c.args.noted c.change-woken.new.self c.args.seat.now.facts c.requires.number c.requires.turn c.change-woken.ensures.board

pub leave-requires-clause-sound : goal.leave-requires-clause-sound
leave-requires-clause-sound g c =
    let found = c.args.noted in
    let many = ap length c.change-woken.ensures.noted ∙ length-noted c.args.self.now.worker.0 c.args.change (is_over found.board) (has_ready_in found) found.sleepers in
    noted-sound _ _ _ _ _ _ c.args.noted c.change-woken.new.self _ c.requires.turn c.change-woken.ensures.board many c.change-woken.ensures.sound

pub leave_and_keep-requires-clause-other_rows : goal.leave_and_keep-requires-clause-other_rows
leave_and_keep-requires-clause-other_rows g c =
    other-rows _ _ _ _ _ _ c.args.noted c.change-woken.new.self c.args.seat.now.facts c.requires.number c.requires.turn c.change-woken.ensures.board

pub leave_and_keep-requires-clause-sound : goal.leave_and_keep-requires-clause-sound
leave_and_keep-requires-clause-sound g c =
    let found = c.args.noted in
    let many = ap length c.change-woken.ensures.noted ∙ length-noted c.args.self.now.worker.0 c.args.change (is_over found.board) (has_ready_in found) found.sleepers in
    noted-sound _ _ _ _ _ _ c.args.noted c.change-woken.new.self _ c.requires.turn c.change-woken.ensures.board many c.change-woken.ensures.sound
