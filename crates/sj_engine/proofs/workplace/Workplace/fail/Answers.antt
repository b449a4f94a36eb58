use Rattle.std.proofs.Common.{ap, inr, refl}
use Rattle.sj_engine.specs.declared.noted_board.NotedBoard.{NotedBoard}
use Rattle.sj_engine.specs.declared.sleepers.Change.TheVariants.{Freed}
use Rattle.sj_engine.proofs.DeskTurns.{goes-on}
use Rattle.sj_engine.proofs.Minding.{minds-change, over-by_fault}
use Rattle.sj_engine.proofs.workplace.Workplace.fail.Goals as goal

pub returns-clause-events : goal.returns-clause-events
returns-clause-events g c = goes-on c.enter-noted.result c.requires.works c.enter-noted.ensures.own_row c.fail_without_memory.ensures.turn c.end_turn.ensures.left

pub returns-clause-bell : goal.returns-clause-bell
returns-clause-bell g c =
    let left : NotedBoard _ = record { board = c.fail_without_memory.new.self; sleepers = c.enter-noted.result.sleepers; waiting = c.enter-noted.result.waiting } in
    minds-change c.args.seat.now.facts c.enter-noted.new.self.facts c.end_turn.new.seat.facts c.enter-noted.result left Freed c.enter-noted.ensures.own_row (ap (λ s. s.rings) c.enter-noted.ensures.seat) refl
    (inr (over-by_fault c.fail_without_memory.new.self c.fail_without_memory.ensures.fault)) c.end_turn.ensures.left c.end_turn.ensures.rung
