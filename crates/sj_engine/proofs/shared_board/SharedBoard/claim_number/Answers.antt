use Rattle.std.proofs.Common.{◌∙◌, ap, inr, subst, sym}
use Rattle.sj_machine.specs.Planning.{IsWhy}
use Rattle.sj_board.specs.Standing.{state}
use Rattle.sj_board.specs.Refusal.{IsRefusal}
use Rattle.sj_base.specs.declared.trace.Event.TheVariants.{Claim}
use Rattle.sj_board.specs.Board.{BoardState}
use Rattle.sj_board.specs.Claimable.{TellsOf}
use Rattle.sj_board.specs.declared.claimable.Claimable.TheVariants.{Yes}
use Rattle.sj_engine.proofs.BoardTurns.{happened}
use Rattle.sj_engine.proofs.ClaimTurns.{claim-turn, free-idle, queued-asks, queued-now}
use Rattle.sj_engine.proofs.Dropping.{dropped-unneeded}
use Rattle.sj_engine.proofs.Turning.{turn-still}
use Rattle.sj_engine.proofs.shared_board.SharedBoard.claim_number.Goals as goal

pub returns-in-Stale-clause-dropped : goal.returns-in-Stale-clause-dropped
returns-in-Stale-clause-dropped g c = λ _. dropped-unneeded c.args.self.now c.deref-2.result.now c.args.w c.args.t c.may_claim.result (c.deref-2.ensures ∙ c.self.view_is) c.requires.free c.may_claim.ensures c.in-Stale.is

pub claim-requires-clause-may : goal.claim-requires-clause-may
claim-requires-clause-may g c =
    let tells = subst (TellsOf c.deref-2.result.now c.args.t c.args.w) c.in-Yes.is c.may_claim.ensures in
    let x = c.deref_mut.result.now in
    let same = c.deref-2.ensures ∙ sym c.deref_mut.ensures.value in
    let here = subst (λ (k : BoardState g.row.D.Denot). TellsOf k c.args.t c.args.w Yes) same tells in
    queued-asks g.D.Disk.size g.D.Disk.faults g.D.Disk.mismatches g.D.Disk.held c.args.w c.args.self.now c.deref.result.now x x (c.deref.ensures ∙ c.self.view_is) (c.deref_mut.ensures.value ∙ c.self.view_is) c.is_sound.ensures c.requires.worker c.args.t c.requires.free c.requires.queues here.0 here.1

pub claim-requires-clause-idle : goal.claim-requires-clause-idle
claim-requires-clause-idle g c = free-idle g.D.Disk.size g.D.Disk.faults g.D.Disk.mismatches g.D.Disk.held c.args.w c.args.self.now c.deref.result.now c.deref_mut.result.now c.deref_mut.result.now (c.deref.ensures ∙ c.self.view_is) (c.deref_mut.ensures.value ∙ c.self.view_is) c.is_sound.ensures c.requires.worker c.args.t c.requires.free

pub returns-in-Ok-clause-turn : goal.returns-in-Ok-clause-turn
returns-in-Ok-clause-turn g c = claim-turn g.D.Disk.size g.D.Disk.faults g.D.Disk.mismatches g.D.Disk.held c.args.w c.args.self.now c.deref.result.now c.deref_mut.result.now c.claim.new.self (c.deref.ensures ∙ c.self.view_is) (c.deref_mut.ensures.value ∙ c.self.view_is) c.is_sound.ensures c.requires.worker c.args.t c.in-Ok.ensures.can c.in-Ok.ensures.ok c.in-Ok.ensures.spares

pub returns-in-Ok-clause-event : goal.returns-in-Ok-clause-event
returns-in-Ok-clause-event g c = happened c.args.self.now c.deref_mut.result.now c.claim.new.self (c.deref_mut.ensures.value ∙ c.self.view_is) (λ k. Claim c.args.t c.args.w) (ap (λ (k : BoardState g.row.D.Denot). k.run) c.in-Ok.ensures.ok)

pub returns-in-Ok-clause-row : goal.returns-in-Ok-clause-row
returns-in-Ok-clause-row g c =
    let tells = subst (TellsOf c.deref-2.result.now c.args.t c.args.w) c.in-Yes.is c.may_claim.ensures in
    let no_fault = sym (ap (λ (k : BoardState g.row.D.Denot). k.fault) (c.deref-2.ensures ∙ c.self.view_is)) ∙ tells.2.1 in
    queued-now g.D.Disk.size g.D.Disk.faults g.D.Disk.mismatches g.D.Disk.held c.args.w c.args.self.now c.deref.result.now c.deref_mut.result.now c.claim.new.self (c.deref.ensures ∙ c.self.view_is) (c.deref_mut.ensures.value ∙ c.self.view_is) c.is_sound.ensures c.requires.worker c.args.t c.requires.free c.in-Ok.ensures.can c.in-Ok.ensures.ok no_fault

pub returns-in-Err-NotNow-clause-turn : goal.returns-in-Err-NotNow-clause-turn
returns-in-Err-NotNow-clause-turn g c = turn-still g.D.Disk.faults g.D.Disk.mismatches c.args.w c.args.self.now c.claim.new.self (c.in-Err-NotNow.ensures.err ∙ c.deref_mut.ensures.value ∙ c.self.view_is)

pub returns-in-Err-NotNow-clause-kept : goal.returns-in-Err-NotNow-clause-kept
returns-in-Err-NotNow-clause-kept g c = λ kept. inr (record {
  why = c.in-Err-NotNow.field-0-0;
  holds = subst (λ (k : BoardState g.row.D.Denot). IsWhy k.run.program k.run.machine (state k.run) c.args.t c.args.w c.in-Err-NotNow.field-0-0) (c.deref_mut.ensures.value ∙ c.self.view_is)
      (subst (IsRefusal c.deref_mut.result.now.run.program c.deref_mut.result.now.run.machine (state c.deref_mut.result.now.run) c.args.t c.args.w) c.in-Err-NotNow.field-0-is c.in-Err-NotNow.ensures.why);
})
