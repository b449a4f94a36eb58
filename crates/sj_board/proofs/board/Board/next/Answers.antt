use Rattle.sj_board.proofs.Words.{ap, BoardState, IsFree, IsPoolOf, Machine, Prio, Program, refl, subst, sym, ◌∙◌, ◌≡◌}
use Rattle.sj_board.proofs.{Giving.keeps-next_left, Giving.pool-of, Giving.pool-policy, UnitHands.units-set}
use Rattle.sj_board.proofs.board.Board.next.Goals as goal

pub take_behind-task-requires-clause-pool : goal.take_behind-task-requires-clause-pool
take_behind-task-requires-clause-pool g c =
    let prio = subst (λ (b : BoardState _). b.run.machine.policy ≡ Prio) (sym c.self.view_is) c.requires.by_urgency in
    let r = subst (λ (b : BoardState _). IsFree b c.args.w) (sym c.self.view_is) c.requires.free in
    subst (λ (p : Program). IsPoolOf p c.self.inside.pool) (sym c.program.ensures) (pool-of _ _ _ _ _ _ c.self.invariant.board c.args.w r.idle.works.known prio)

pub take_behind-task-requires-clause-policy : goal.take_behind-task-requires-clause-policy
take_behind-task-requires-clause-policy g c =
    let prio = subst (λ (b : BoardState _). b.run.machine.policy ≡ Prio) (sym c.self.view_is) c.requires.by_urgency in
    let r = subst (λ (b : BoardState _). IsFree b c.args.w) (sym c.self.view_is) c.requires.free in
    pool-policy _ _ _ _ _ _ c.self.invariant.board c.args.w r.idle.works.known prio ∙ sym (ap (λ (m : Machine). m.policy) c.machine.ensures)

pub invariant_of-self : goal.invariant_of-self
invariant_of-self g c =
    let prio = subst (λ (b : BoardState _). b.run.machine.policy ≡ Prio) (sym c.self.view_is) c.requires.by_urgency in
    let r = subst (λ (b : BoardState _). IsFree b c.args.w) (sym c.self.view_is) c.requires.free in
    record { board = keeps-next_left _ _ _ _ _ _ c.self.invariant.board c.args.w r.idle.works.known prio _ _ _ _ _ _ c.node_size-room.ensures c.program.ensures c.take_behind-task.ensures c.give.ensures r.none_given; ends = c.self.invariant.ends; victims = c.self.invariant.victims; units = units-set _ _ _ _ c.args.w _ c.give.ensures refl c.self.invariant.units }
