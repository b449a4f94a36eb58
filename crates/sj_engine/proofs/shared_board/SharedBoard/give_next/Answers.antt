use Rattle.std.proofs.Common.{◌≡◌, ◌∙◌, sym, subst}
use Rattle.sj_base.specs.declared.mode.Policy.TheVariants.{Prio}
use Rattle.std.proofs.Common.{IfSome, None, Some}
use Rattle.sj_board.specs.Board.{IsFree, BoardState}
use Rattle.sj_board.specs.Passing.{HasLost}
use Rattle.sj_engine.specs.Looking.{IsLeftTo, NoneIsLeftTo}
use Rattle.sj_engine.proofs.Answering.{if-none, if-some}
use Rattle.sj_engine.proofs.ClaimTurns.{next-fault, next-hand, next-turn}
use Rattle.sj_engine.proofs.OwnRows.{is-free}
use Rattle.std.proofs.Common.{ap}
use Rattle.sj_engine.proofs.BoardTurns.{nothing-happened}
use Rattle.sj_engine.proofs.shared_board.SharedBoard.give_next.Goals as goal

pub next-requires : goal.next-requires
next-requires g c = record { by_urgency = subst (λ (k : BoardState g.row.D.Denot). k.run.machine.policy ≡ Prio) (sym (c.deref_mut.ensures.value ∙ c.self.view_is)) c.requires.by_urgency; free = subst (λ k. IsFree k c.args.w) (sym (c.deref_mut.ensures.value ∙ c.self.view_is)) (is-free c.args.self.now c.args.w c.requires.worker c.requires.free) }

pub returns-clause-turn : goal.returns-clause-turn
returns-clause-turn g c = next-turn g.D.Disk.size g.D.Disk.faults g.D.Disk.mismatches g.D.Disk.held c.args.w c.args.self.now c.deref.result.now c.deref_mut.result.now c.next.new.self (c.deref.ensures ∙ c.self.view_is) (c.deref_mut.ensures.value ∙ c.self.view_is) c.is_sound.ensures c.requires.worker c.next.result c.next.ensures.given c.requires.by_urgency

pub returns-clause-some : goal.returns-clause-some
returns-clause-some g c = if-some c.next.result _ (λ t is. next-hand g.D.Disk.size g.D.Disk.faults g.D.Disk.mismatches g.D.Disk.held c.args.w c.args.self.now c.deref.result.now c.deref_mut.result.now c.next.new.self (c.deref.ensures ∙ c.self.view_is) (c.deref_mut.ensures.value ∙ c.self.view_is) c.is_sound.ensures c.requires.worker c.next.result c.next.ensures.given c.requires.free (Some t) is)

pub returns-clause-none : goal.returns-clause-none
returns-clause-none g c = if-none c.next.result _ (λ is. next-hand g.D.Disk.size g.D.Disk.faults g.D.Disk.mismatches g.D.Disk.held c.args.w c.args.self.now c.deref.result.now c.deref_mut.result.now c.next.new.self (c.deref.ensures ∙ c.self.view_is) (c.deref_mut.ensures.value ∙ c.self.view_is) c.is_sound.ensures c.requires.worker c.next.result c.next.ensures.given c.requires.free None is)

pub returns-clause-fault : goal.returns-clause-fault
returns-clause-fault g c = next-fault g.D.Disk.size g.D.Disk.faults g.D.Disk.mismatches g.D.Disk.held c.args.w c.args.self.now c.deref.result.now c.deref_mut.result.now c.next.new.self (c.deref.ensures ∙ c.self.view_is) (c.deref_mut.ensures.value ∙ c.self.view_is) c.is_sound.ensures c.requires.worker c.next.result c.next.ensures.given

pub returns-clause-no_event : goal.returns-clause-no_event
returns-clause-no_event g c = nothing-happened c.args.self.now c.deref_mut.result.now c.next.new.self (c.deref_mut.ensures.value ∙ c.self.view_is) (ap (λ (k : BoardState g.row.D.Denot). k.run) c.next.ensures.given)

pub returns-clause-left : goal.returns-clause-left
returns-clause-left g c = subst (λ (k : BoardState g.row.D.Denot). IfSome c.next.result (IsLeftTo k c.args.w c.args.passed.now)) (c.deref_mut.ensures.value ∙ c.self.view_is) c.next.ensures.left

pub returns-clause-none_left : goal.returns-clause-none_left
returns-clause-none_left g c = λ none. subst (λ (k : BoardState g.row.D.Denot). NoneIsLeftTo k c.args.w c.args.passed.now) (c.deref_mut.ensures.value ∙ c.self.view_is) (c.next.ensures.none none)

pub returns-clause-lost : goal.returns-clause-lost
returns-clause-lost g c = subst (λ (k : BoardState g.row.D.Denot). HasLost c.next.result k.pool c.next.new.self.pool) (c.deref_mut.ensures.value ∙ c.self.view_is) c.next.ensures.others
