use Rattle.std.proofs.Common.{ap, refl}
use Rattle.sj_base.specs.declared.trace.Event.TheVariants.{Moved}
use Rattle.sj_engine.specs.declared.noted_board.NotedBoard.{NotedBoard}
use Rattle.sj_engine.specs.declared.sleepers.Change.TheVariants.{Freed}
use Rattle.sj_engine.proofs.Minding.{minds-change, move-did}
use Rattle.sj_engine.proofs.DeskTurns.{goes-on}
use Rattle.sj_engine.proofs.workplace.Workplace.read_in.Goals as goal

pub returns-clause-events : goal.returns-clause-events
returns-clause-events g c = goes-on c.enter-noted.result c.requires.fetched.1 c.enter-noted.ensures.own_row c.read_in-read.ensures.turn c.end_turn.ensures.left

pub returns-clause-bell : goal.returns-clause-bell
returns-clause-bell g c =
    let left : NotedBoard _ = record { board = c.read_in-read.new.self; sleepers = c.enter-noted.result.sleepers; waiting = c.enter-noted.result.waiting } in
    minds-change c.args.seat.now.facts c.enter-noted.new.self.facts c.end_turn.new.seat.facts c.enter-noted.result left Freed c.enter-noted.ensures.own_row (ap (λ s. s.rings) c.enter-noted.ensures.seat) refl
    (move-did c.enter-noted.result left (Moved c.args.x.cell c.args.x.from c.args.x.to) c.read_in-read.result c.read_in-read.ensures.event c.read_in-read.ensures.failed refl refl) c.end_turn.ensures.left c.end_turn.ensures.rung
