use Rattle.std.proofs.Common.{rules, Option, ap, inl, inr, length, min, refl, subst, sym, ℕ, ◌≡◌, ◌+◌, ◌-◌, ◌^◌, ◌∙◌}
use Rattle.std.specs.Prelude.{IsSomeAnd}
use Rattle.sj_base.specs.declared.trace.Event.TheVariants.{End}
use Rattle.sj_engine.specs.declared.noted_board.NotedBoard.{NotedBoard}
use Rattle.sj_engine.specs.declared.sleepers.Change.TheVariants.{Ended}
use Rattle.sj_board.proofs.Policies.{by-policy}
use Rattle.sj_engine.specs.Bell.{IsChange}
use Rattle.sj_engine.proofs.Minding.{ended-did, minds-change}
use Rattle.sj_engine.proofs.DeskTurns.{goes-on}
use Rattle.sj_engine.proofs.workplace.Workplace.finish.Goals as goal
use Rattle.sj_engine.proofs.workplace.Workplace.finish.Goals.{After-waiting_with-waiting}

pub finish-spent-requires-clause-taken : goal.finish-spent-requires-clause-taken
finish-spent-requires-clause-taken g c = c.enter-noted.ensures.sound.board.taken c.args.self.now.worker

pub returns-clause-events : goal.returns-clause-events
returns-clause-events g c = goes-on c.enter-noted.result c.requires.runs c.enter-noted.ensures.own_row c.finish-spent.ensures.turn c.end_turn.ensures.left

-- what the turn did, and the count behind it
did : (g : _) (c : After-waiting_with-waiting g) → IsChange c.enter-noted.result (record { board = c.finish-spent.new.self; sleepers = c.enter-noted.result.sleepers; waiting = c.waiting_with-waiting.result }) Ended
did g c =
    let many : c.len.result ≡ length c.finish-spent.new.released.items = search rules in
    elim (by-policy c.enter-noted.result.board.run.machine.policy) as (λ _. IsChange c.enter-noted.result (record { board = c.finish-spent.new.self; sleepers = c.enter-noted.result.sleepers; waiting = c.waiting_with-waiting.result }) Ended) [
      | inl prio ↦ inl (End c.args.t c.args.self.now.worker, c.finish-spent.ensures.event, refl, λ other. absurd (other prio))
      | inr other ↦ ended-did c.args.t c.args.self.now.worker c.enter-noted.result c.finish-spent.new.self c.waiting_with-waiting.result c.args.released.now.items c.finish-spent.new.released.items c.requires.empty c.finish-spent.ensures.event (c.finish-spent.ensures.released other)
          (c.waiting_with-waiting.ensures ∙ ap (λ (n : ℕ). min (c.enter-noted.result.waiting + n) (2 ^ 64 - 1)) many)
    ]

pub end_turn-requires-clause-did : goal.end_turn-requires-clause-did
end_turn-requires-clause-did g c =
    let left : NotedBoard g.row.D.Denot = record { board = c.finish-spent.new.self; sleepers = c.enter-noted.result.sleepers; waiting = c.waiting_with-waiting.result } in
    subst (λ (o : Option (NotedBoard g.row.D.Denot)). IsSomeAnd o (λ found. IsChange found left Ended)) (sym (ap (λ s. s.found) c.enter-noted.ensures.seat)) (did g (goal.at.end_turn-requires-clause-did g c).After-waiting_with-waiting)

pub returns-clause-bell : goal.returns-clause-bell
returns-clause-bell g c =
    let left : NotedBoard _ = record { board = c.finish-spent.new.self; sleepers = c.enter-noted.result.sleepers; waiting = c.waiting_with-waiting.result } in
    minds-change c.args.seat.now.facts c.enter-noted.new.self.facts c.end_turn.new.seat.facts c.enter-noted.result left Ended c.enter-noted.ensures.own_row (ap (λ s. s.rings) c.enter-noted.ensures.seat) refl
    (did g (goal.at.returns-clause-bell g c).After-waiting_with-waiting) c.end_turn.ensures.left c.end_turn.ensures.rung
