use Rattle.std.proofs.Common.{◌≡◌, ◌∙◌, subst, sym}
use Rattle.sj_base.specs.declared.mode.Policy.TheVariants.{Prio}
use Rattle.sj_engine.proofs.ClaimTurns.{back-fault, back-pool, back-row, back-turn, was-given}
use Rattle.std.proofs.Common.{ap}
use Rattle.sj_board.specs.Board.{BoardState}
use Rattle.sj_engine.proofs.BoardTurns.{nothing-happened}
use Rattle.sj_engine.proofs.shared_board.SharedBoard.put_back.Goals as goal

pub give_back-requires : goal.give_back-requires
give_back-requires g c = record { by_urgency = subst (λ (k : BoardState g.row.D.Denot). k.run.machine.policy ≡ Prio) (sym (c.deref_mut.ensures.value ∙ c.self.view_is)) c.requires.by_urgency; given = was-given g.D.Disk.size g.D.Disk.faults g.D.Disk.mismatches g.D.Disk.held c.args.w c.args.self.now c.deref.result.now c.deref_mut.result.now c.deref_mut.result.now (c.deref.ensures ∙ c.self.view_is) (c.deref_mut.ensures.value ∙ c.self.view_is) c.is_sound.ensures c.requires.worker c.args.t c.requires.given }

pub returns-clause-turn : goal.returns-clause-turn
returns-clause-turn g c = back-turn g.D.Disk.size g.D.Disk.faults g.D.Disk.mismatches g.D.Disk.held c.args.w c.args.self.now c.deref.result.now c.deref_mut.result.now c.give_back.new.self (c.deref.ensures ∙ c.self.view_is) (c.deref_mut.ensures.value ∙ c.self.view_is) c.is_sound.ensures c.requires.worker c.args.t c.requires.given c.requires.by_urgency c.give_back.ensures

pub returns-clause-row : goal.returns-clause-row
returns-clause-row g c = back-row g.D.Disk.size g.D.Disk.faults g.D.Disk.mismatches g.D.Disk.held c.args.w c.args.self.now c.deref.result.now c.deref_mut.result.now c.give_back.new.self (c.deref.ensures ∙ c.self.view_is) (c.deref_mut.ensures.value ∙ c.self.view_is) c.is_sound.ensures c.requires.worker c.args.t c.requires.given c.give_back.ensures

pub returns-clause-fault : goal.returns-clause-fault
returns-clause-fault g c = back-fault g.D.Disk.size g.D.Disk.faults g.D.Disk.mismatches g.D.Disk.held c.args.w c.args.self.now c.deref.result.now c.deref_mut.result.now c.give_back.new.self (c.deref.ensures ∙ c.self.view_is) (c.deref_mut.ensures.value ∙ c.self.view_is) c.is_sound.ensures c.requires.worker c.args.t c.requires.given c.give_back.ensures

pub returns-clause-no_event : goal.returns-clause-no_event
returns-clause-no_event g c = nothing-happened c.args.self.now c.deref_mut.result.now c.give_back.new.self (c.deref_mut.ensures.value ∙ c.self.view_is) (ap (λ (k : BoardState g.row.D.Denot). k.run) c.give_back.ensures)

pub returns-clause-back : goal.returns-clause-back
returns-clause-back g c = back-pool g.D.Disk.size g.D.Disk.faults g.D.Disk.mismatches g.D.Disk.held c.args.w c.args.self.now c.deref.result.now c.deref_mut.result.now c.give_back.new.self (c.deref.ensures ∙ c.self.view_is) (c.deref_mut.ensures.value ∙ c.self.view_is) c.is_sound.ensures c.requires.worker c.args.t c.requires.given c.give_back.ensures
