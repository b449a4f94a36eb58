use Rattle.std.proofs.Common.{rules, ◌≢◌, ap, refl, subst, sym, Option}
use Rattle.std.specs.Prelude.{IsSomeAnd}
use Rattle.sj_engine.specs.Bell.{IsChange}
use Rattle.sj_engine.specs.declared.noted_board.NotedBoard.{NotedBoard}
use Rattle.sj_engine.specs.declared.stepping.Step.TheVariants.{Waits}
use Rattle.sj_engine.proofs.Minding.{minds-change, minds-step, step-did}
use Rattle.sj_engine.proofs.DeskTurns.{goes-on}
use Rattle.sj_engine.proofs.workplace.Workplace.step.Goals as goal

pub end_turn-requires-clause-did : goal.end_turn-requires-clause-did
end_turn-requires-clause-did g c =
    let left : NotedBoard _ = record { board = c.step-step.new.self; sleepers = c.enter-noted.result.sleepers; waiting = c.enter-noted.result.waiting } in
    let other : c.step-step.result ≢ Waits = search rules in
    subst (λ (o : Option (NotedBoard _)). IsSomeAnd o (λ found. IsChange found left c.change_of-change.result)) (sym (ap (λ s. s.found) c.enter-noted.ensures.seat))
    (step-did c.args.self.now.worker c.args.t c.enter-noted.result left c.step-step.result c.change_of-change.result c.step-step.ensures.event c.step-step.ensures.failed c.change_of-change.ensures refl other)

pub returns-in-Waits-clause-events : goal.returns-in-Waits-clause-events
returns-in-Waits-clause-events g c = goes-on c.enter-noted.result c.requires.claimed c.enter-noted.ensures.own_row c.step-step.ensures.turn c.end_turn_to_rest.ensures.left

pub returns-clause-events : goal.returns-clause-events
returns-clause-events g c = goes-on c.enter-noted.result c.requires.claimed c.enter-noted.ensures.own_row c.step-step.ensures.turn c.end_turn.ensures.left

pub returns-clause-bell : goal.returns-clause-bell
returns-clause-bell g c =
    let left : NotedBoard _ = record { board = c.step-step.new.self; sleepers = c.enter-noted.result.sleepers; waiting = c.enter-noted.result.waiting } in
    let other : c.step-step.result ≢ Waits = search rules in
    minds-step c.step-step.result other
    (minds-change c.args.seat.now.facts c.enter-noted.new.self.facts c.end_turn.new.seat.facts c.enter-noted.result left c.change_of-change.result c.enter-noted.ensures.own_row (ap (λ s. s.rings) c.enter-noted.ensures.seat) refl
    (step-did c.args.self.now.worker c.args.t c.enter-noted.result left c.step-step.result c.change_of-change.result c.step-step.ensures.event c.step-step.ensures.failed c.change_of-change.ensures refl other) c.end_turn.ensures.left c.end_turn.ensures.rung)
