use Rattle.std.proofs.Common.{ap, refl}
use Rattle.sj_base.specs.declared.trace.Event.TheVariants.{Moved}
use Rattle.sj_engine.specs.declared.noted_board.NotedBoard.{NotedBoard}
use Rattle.sj_engine.specs.declared.sleepers.Change.TheVariants.{Freed}
use Rattle.sj_engine.proofs.Minding.{minds-change, move-did}
use Rattle.sj_engine.specs.Stage.{IsStoredThrough}
use Rattle.sj_engine.proofs.DeskTurns.{found-by, goes-on}
use Rattle.sj_engine.proofs.workplace.Workplace.write_out.Goals as goal

pub write_out-written-requires-clause-stored : goal.write_out-written-requires-clause-stored
write_out-written-requires-clause-stored g c = found-by (λ k r. IsStoredThrough g.D.Disk.size g.D.Disk.faults g.D.Disk.mismatches g.D.Disk.held k c.args.self.now.worker c.args.t c.args.x r c.args.unit c.args.outcome) c.enter-noted.result c.requires.stored c.enter-noted.ensures.own_row c.enter-noted.ensures.key

pub returns-clause-events : goal.returns-clause-events
returns-clause-events g c = goes-on c.enter-noted.result c.requires.stored c.enter-noted.ensures.own_row c.write_out-written.ensures.turn c.end_turn.ensures.left

pub returns-clause-bell : goal.returns-clause-bell
returns-clause-bell g c =
    let left : NotedBoard _ = record { board = c.write_out-written.new.self; sleepers = c.enter-noted.result.sleepers; waiting = c.enter-noted.result.waiting } in
    minds-change c.args.seat.now.facts c.enter-noted.new.self.facts c.end_turn.new.seat.facts c.enter-noted.result left Freed c.enter-noted.ensures.own_row (ap (λ s. s.rings) c.enter-noted.ensures.seat) refl
    (move-did c.enter-noted.result left (Moved c.args.x.cell c.args.x.from c.args.x.to) c.write_out-written.result c.write_out-written.ensures.event c.write_out-written.ensures.failed refl refl) c.end_turn.ensures.left c.end_turn.ensures.rung
