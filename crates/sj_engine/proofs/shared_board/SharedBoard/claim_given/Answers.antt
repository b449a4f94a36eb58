use Rattle.std.proofs.Common.{◌∙◌, ap, subst}
use Rattle.sj_machine.specs.Planning.{IsWhy}
use Rattle.sj_board.specs.Standing.{state}
use Rattle.sj_board.specs.Board.{BoardState}
use Rattle.sj_board.specs.Refusal.{IsRefusal}
use Rattle.sj_base.specs.declared.trace.Event.TheVariants.{Claim}
use Rattle.sj_engine.specs.Turn.{IsTurnOf}
use Rattle.sj_engine.proofs.BoardTurns.{happened}
use Rattle.sj_engine.proofs.ClaimTurns.{claim-turn, claimed-now, given-asks, given-idle}
use Rattle.sj_engine.proofs.Turning.{turn-then}
use Rattle.sj_engine.proofs.shared_board.SharedBoard.claim_given.Goals as goal

pub claim-requires-clause-may : goal.claim-requires-clause-may
claim-requires-clause-may g c = given-asks g.D.Disk.size g.D.Disk.faults g.D.Disk.mismatches g.D.Disk.held c.args.w c.args.self.now c.deref.result.now c.deref_mut.result.now c.deref_mut.result.now (c.deref.ensures ∙ c.self.view_is) (c.deref_mut.ensures.value ∙ c.self.view_is) c.is_sound.ensures c.requires.worker c.args.t c.requires.given c.requires.by_urgency

pub claim-requires-clause-idle : goal.claim-requires-clause-idle
claim-requires-clause-idle g c = given-idle g.D.Disk.size g.D.Disk.faults g.D.Disk.mismatches g.D.Disk.held c.args.w c.args.self.now c.deref.result.now c.deref_mut.result.now c.deref_mut.result.now (c.deref.ensures ∙ c.self.view_is) (c.deref_mut.ensures.value ∙ c.self.view_is) c.is_sound.ensures c.requires.worker c.args.t c.requires.given

pub returns-in-Ok-clause-turn : goal.returns-in-Ok-clause-turn
returns-in-Ok-clause-turn g c = claim-turn g.D.Disk.size g.D.Disk.faults g.D.Disk.mismatches g.D.Disk.held c.args.w c.args.self.now c.deref.result.now c.deref_mut.result.now c.claim.new.self (c.deref.ensures ∙ c.self.view_is) (c.deref_mut.ensures.value ∙ c.self.view_is) c.is_sound.ensures c.requires.worker c.args.t c.in-Ok.ensures.can c.in-Ok.ensures.ok c.in-Ok.ensures.spares

pub returns-in-Ok-clause-row : goal.returns-in-Ok-clause-row
returns-in-Ok-clause-row g c = claimed-now g.D.Disk.size g.D.Disk.faults g.D.Disk.mismatches g.D.Disk.held c.args.w c.args.self.now c.deref.result.now c.deref_mut.result.now c.claim.new.self (c.deref.ensures ∙ c.self.view_is) (c.deref_mut.ensures.value ∙ c.self.view_is) c.is_sound.ensures c.requires.worker c.args.t c.requires.given c.in-Ok.ensures.can c.in-Ok.ensures.ok c.requires.no_fault

pub returns-in-Err-OutOfMemory-clause-turn : goal.returns-in-Err-OutOfMemory-clause-turn
returns-in-Err-OutOfMemory-clause-turn g c = turn-then g.D.Disk.faults g.D.Disk.mismatches c.args.w c.args.self.now c.put_back-in-Err-OutOfMemory.new.self c.fail_without_memory.new.self
    (c.put_back-in-Err-OutOfMemory.ensures.no_event ∙ ap (λ (k : BoardState g.row.D.Denot). k.run.trace) (c.in-Err-OutOfMemory.ensures.err ∙ c.deref_mut.ensures.value ∙ c.self.view_is))
    (subst (λ (k : BoardState g.row.D.Denot). IsTurnOf g.D.Disk.faults g.D.Disk.mismatches c.args.w k c.put_back-in-Err-OutOfMemory.new.self) (c.in-Err-OutOfMemory.ensures.err ∙ c.deref_mut.ensures.value ∙ c.self.view_is) c.put_back-in-Err-OutOfMemory.ensures.turn)
    c.fail_without_memory.ensures.turn

pub returns-in-Ok-clause-event : goal.returns-in-Ok-clause-event
returns-in-Ok-clause-event g c = happened c.args.self.now c.deref_mut.result.now c.claim.new.self (c.deref_mut.ensures.value ∙ c.self.view_is) (λ k. Claim c.args.t c.args.w) (ap (λ (k : BoardState g.row.D.Denot). k.run) c.in-Ok.ensures.ok)

pub returns-in-Err-NotNow-clause-event : goal.returns-in-Err-NotNow-clause-event
returns-in-Err-NotNow-clause-event g c = c.put_back.ensures.no_event ∙ ap (λ (k : BoardState g.row.D.Denot). k.run.trace) (c.in-Err-NotNow.ensures.err ∙ c.deref_mut.ensures.value ∙ c.self.view_is)

pub returns-in-Err-OutOfMemory-clause-event : goal.returns-in-Err-OutOfMemory-clause-event
returns-in-Err-OutOfMemory-clause-event g c = c.fail_without_memory.ensures.no_event ∙ c.put_back-in-Err-OutOfMemory.ensures.no_event ∙ ap (λ (k : BoardState g.row.D.Denot). k.run.trace) (c.in-Err-OutOfMemory.ensures.err ∙ c.deref_mut.ensures.value ∙ c.self.view_is)

pub returns-in-Err-NotNow-clause-cannot : goal.returns-in-Err-NotNow-clause-cannot
returns-in-Err-NotNow-clause-cannot g c = λ nothing. record {
  why = c.in-Err-NotNow.field-0-0;
  holds = subst (λ (k : BoardState g.row.D.Denot). IsWhy k.run.program k.run.machine (state k.run) c.args.t c.args.w c.in-Err-NotNow.field-0-0) (c.deref_mut.ensures.value ∙ c.self.view_is)
      (subst (IsRefusal c.deref_mut.result.now.run.program c.deref_mut.result.now.run.machine (state c.deref_mut.result.now.run) c.args.t c.args.w) c.in-Err-NotNow.field-0-is c.in-Err-NotNow.ensures.why);
}
