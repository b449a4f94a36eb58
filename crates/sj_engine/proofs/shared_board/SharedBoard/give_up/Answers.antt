use Rattle.std.proofs.Common.{◌∙◌, sym, subst}
use Rattle.sj_board.specs.Board.{RunsNone, BoardState}
use Rattle.sj_engine.proofs.BoardTurns.{stopped-row, stopped-turn}
use Rattle.sj_engine.proofs.OwnRows.{runs-none}
use Rattle.std.proofs.Common.{ap}
use Rattle.sj_engine.proofs.BoardTurns.{nothing-happened}
use Rattle.sj_board.specs.declared.hand.Hand.{Hand}
use Rattle.sj_engine.proofs.shared_board.SharedBoard.give_up.Goals as goal

pub stop-requires-clause-runs_none : goal.stop-requires-clause-runs_none
stop-requires-clause-runs_none g c = subst (λ k. RunsNone k c.args.w) (sym (c.deref_mut.ensures.value ∙ c.self.view_is)) (runs-none c.args.self.now c.args.w c.args.t c.requires.claimed)

pub returns-clause-turn : goal.returns-clause-turn
returns-clause-turn g c = stopped-turn g.D.Disk.size g.D.Disk.faults g.D.Disk.mismatches g.D.Disk.held c.args.w c.args.self.now c.deref_mut.result.now c.stop.new.self (c.deref_mut.ensures.value ∙ c.self.view_is) c.stop.ensures

pub returns-clause-row : goal.returns-clause-row
returns-clause-row g c = stopped-row g.D.Disk.size g.D.Disk.faults g.D.Disk.mismatches g.D.Disk.held c.args.w c.args.self.now c.deref.result.now c.deref_mut.result.now c.stop.new.self (c.deref.ensures ∙ c.self.view_is) (c.deref_mut.ensures.value ∙ c.self.view_is) c.is_sound.ensures c.requires.worker c.stop.ensures (ap (λ (h : Hand). h.given) c.requires.claimed.hand) (ap (λ (h : Hand). h.unit) c.requires.claimed.hand)

pub returns-clause-event : goal.returns-clause-event
returns-clause-event g c = nothing-happened c.args.self.now c.deref_mut.result.now c.stop.new.self (c.deref_mut.ensures.value ∙ c.self.view_is) (ap (λ (k : BoardState g.row.D.Denot). k.run) c.stop.ensures)
