use Rattle.std.proofs.Common.{◌∙◌, sym, subst, ap, length}
use Rattle.std.specs.Prelude.{IsSomeAnd}
use Rattle.sj_engine.specs.Turn.{MayLeave}
use Rattle.sj_engine.proofs.DeskTurns.{heard-found, heard-number, noted-inside, noted-sound, other-rows}
use Rattle.sj_engine.specs.Noted.{has_ready_in}
use Rattle.sj_engine.proofs.Sleeping.{length-noted_at_rest}
use Rattle.sj_engine.proofs.workplace.Workplace.end_turn_to_rest.Goals as goal

pub rest-woken-requires : goal.rest-woken-requires
rest-woken-requires g c = record { inside = noted-inside _ _ _ _ _ _ c.args.noted _ c.requires.turn }

pub leave-requires-clause-other_rows : goal.leave-requires-clause-other_rows
leave-requires-clause-other_rows g c =
    let seat = c.listen.new.self.facts in
    let number = heard-number _ c.args.seat.now.facts seat seat.heard c.listen.ensures.seat ∙ c.requires.number in
    let found = heard-found _ c.args.seat.now.facts seat seat.heard c.listen.ensures.seat in
    let may = MayLeave g.D.Disk.size g.D.Disk.faults g.D.Disk.mismatches g.D.Disk.held c.args.self.now.desk.now c.args.self.now.worker c.args.noted in
    let turn = subst (λ o. IsSomeAnd o may) (sym found) c.requires.turn in
    other-rows _ _ _ _ _ _ c.args.noted c.rest-woken.new.self seat number turn c.rest-woken.ensures.board

pub leave-requires-clause-sound : goal.leave-requires-clause-sound
leave-requires-clause-sound g c =
    let found = c.args.noted in
    let many = ap length c.rest-woken.ensures.noted ∙ length-noted_at_rest c.args.self.now.worker.0 c.args.self.now.bell c.args.claimed (has_ready_in found) found.sleepers in
    noted-sound _ _ _ _ _ _ c.args.noted c.rest-woken.new.self _ c.requires.turn c.rest-woken.ensures.board many c.rest-woken.ensures.sound
