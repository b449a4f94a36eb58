use Rattle.std.proofs.Common.{rules, false, Option, ◌≡◌, ◌≢◌, ap, refl, subst, sym}
use Rattle.sj_base.specs.declared.mode.Policy.TheVariants.{Prio}
use Rattle.std.specs.Prelude.{IsSomeAnd}
use Rattle.sj_board.specs.BoardRow.{BoardKey}
use Rattle.sj_engine.specs.Bell.{IsChange, is_claimed}
use Rattle.sj_engine.specs.Queued.{HasLookedThrough, IsLookOf, PicksOrFails}
use Rattle.sj_engine.specs.Ready.{IsItsSource}
use Rattle.sj_engine.specs.Turn.{NothingHappens}
use Rattle.sj_engine.specs.Workplace.{policy_here}
use Rattle.sj_engine.specs.declared.picking.Picked.{Picked}
use Rattle.sj_engine.specs.declared.noted_board.NotedBoard.{NotedBoard}
use Rattle.sj_engine.specs.declared.picking.Picked.TheVariants.{Nothing}
use Rattle.sj_engine.specs.declared.sleepers.Change.TheVariants.{Claimed}
use Rattle.sj_engine.proofs.Minding.{minds-change, minds-picked, minds-rest, pick-did}
use Rattle.sj_engine.proofs.DeskTurns.{goes-on}
use Rattle.sj_engine.proofs.Sources.{source-shared}
use Rattle.sj_engine.proofs.workplace.Workplace.pick.Goals as goal
use Rattle.sj_engine.proofs.workplace.Workplace.pick.Goals.{After-enter-noted, After-pick_from-picked, After-waiting_after-waiting}

pub returns-then-eq-clause-events : goal.returns-then-eq-clause-events
returns-then-eq-clause-events g c = goes-on c.enter-noted.result c.requires.free c.enter-noted.ensures.own_row c.pick_from-picked.ensures.turn c.end_turn_to_rest.ensures.left

pub returns-clause-events : goal.returns-clause-events
returns-clause-events g c = goes-on c.enter-noted.result c.requires.free c.enter-noted.ensures.own_row c.pick_from-picked.ensures.turn c.end_turn.ensures.left

-- the look begins with the worker's own source
own-source : (g : _) (c : After-enter-noted g) → IsItsSource c.enter-noted.result.board.run.machine.policy c.args.self.now.worker.0 c.args.ready.now
own-source g c = subst (λ (k : BoardKey g.row.D.Denot). IsItsSource k.machine.policy c.args.self.now.worker.0 c.args.ready.now) (sym c.enter-noted.ensures.key) c.requires.ready

-- what the turn did, and the count behind it
did : (g : _) (c : After-waiting_after-waiting g) → c.pick_from-picked.result ≢ Nothing → IsChange c.enter-noted.result (record { board = c.pick_from-picked.new.board; sleepers = c.enter-noted.result.sleepers; waiting = c.waiting_after-waiting.result }) Claimed
did g c other =
    let left : NotedBoard _ = record { board = c.pick_from-picked.new.board; sleepers = c.enter-noted.result.sleepers; waiting = c.waiting_after-waiting.result } in
    let its = c.pick_from-picked.ensures.ready.whose _ _ (own-source g (goal.at.After-waiting_after-waiting g c).After-enter-noted) in
    pick-did c.args.self.now.worker c.enter-noted.result left c.pick_from-picked.result c.pick_from-picked.ensures.event c.pick_from-picked.ensures.failed c.pick_from-picked.ensures.over
    (λ found queued. c.waiting_after-waiting.ensures.claimed found (source-shared _ _ c.pick_from-picked.new.ready its queued)) other

pub end_turn-requires-clause-did : goal.end_turn-requires-clause-did
end_turn-requires-clause-did g c =
    let left : NotedBoard g.row.D.Denot = record { board = c.pick_from-picked.new.board; sleepers = c.enter-noted.result.sleepers; waiting = c.waiting_after-waiting.result } in
    let other : c.pick_from-picked.result ≢ Nothing = search rules in
    subst (λ (o : Option (NotedBoard g.row.D.Denot)). IsSomeAnd o (λ found. IsChange found left Claimed)) (sym (ap (λ s. s.found) c.enter-noted.ensures.seat)) (did g (goal.at.end_turn-requires-clause-did g c).After-waiting_after-waiting other)

pub returns-clause-bell : goal.returns-clause-bell
returns-clause-bell g c =
    let left : NotedBoard _ = record { board = c.pick_from-picked.new.board; sleepers = c.enter-noted.result.sleepers; waiting = c.waiting_after-waiting.result } in
    let other : c.pick_from-picked.result ≢ Nothing = search rules in
    minds-picked c.pick_from-picked.result other
    (minds-change c.args.seat.now.facts c.enter-noted.new.self.facts c.end_turn.new.seat.facts c.enter-noted.result left Claimed c.enter-noted.ensures.own_row (ap (λ s. s.rings) c.enter-noted.ensures.seat) refl
    (did g (goal.at.returns-clause-bell g c).After-waiting_after-waiting other) c.end_turn.ensures.left c.end_turn.ensures.rung)

pub pick_from-picked-requires-clause-ready : goal.pick_from-picked-requires-clause-ready
pick_from-picked-requires-clause-ready g c = own-source g (goal.at.pick_from-picked-requires-clause-ready g c).After-enter-noted

pub returns-then-eq-clause-bell : goal.returns-then-eq-clause-bell
returns-then-eq-clause-bell g c =
    let is : c.pick_from-picked.result ≡ Nothing = search rules in
    let nothing : NothingHappens c.enter-noted.result.board c.pick_from-picked.new.board = subst (PicksOrFails c.args.self.now.worker c.enter-noted.result.board c.pick_from-picked.new.board) is c.pick_from-picked.ensures.event in
    let claimed : false ≡ is_claimed c.pick_from-picked.new.board c.args.self.now.worker = search rules in
    minds-rest c.args.seat.now.facts c.enter-noted.new.self.facts c.end_turn_to_rest.new.seat.facts c.enter-noted.result c.pick_from-picked.new.board false c.enter-noted.ensures.own_row (ap (λ s. s.rings) c.enter-noted.ensures.seat)
    nothing claimed c.end_turn_to_rest.ensures.left c.end_turn_to_rest.ensures.rung c.end_turn_to_rest.ensures.bell

-- a look
looked-through : (g : _) (c : After-pick_from-picked g) → policy_here c.args.self.now ≢ Prio → IsLookOf c.pick_from-picked.result → HasLookedThrough c.args.seat.now.facts c.args.ready.now c.pick_from-picked.result c.pick_from-picked.new.ready
looked-through g c other look = record {
  found = c.enter-noted.result;
  own_row = c.enter-noted.ensures.own_row;
  numbers = c.pick_from-picked.ensures.numbers (source-shared _ _ c.args.ready.now c.requires.ready other) look;
}

pub returns-clause-numbers : goal.returns-clause-numbers
returns-clause-numbers g c = looked-through g (goal.at.returns-clause-numbers g c).After-pick_from-picked

pub returns-then-eq-clause-numbers : goal.returns-then-eq-clause-numbers
returns-then-eq-clause-numbers g c =
    let is : c.pick_from-picked.result ≡ Nothing = search rules in
    λ other look. subst (λ (p : Picked). HasLookedThrough c.args.seat.now.facts c.args.ready.now p c.pick_from-picked.new.ready) is
    (looked-through g (goal.at.returns-then-eq-clause-numbers g c).After-pick_from-picked other (subst IsLookOf (sym is) look))
