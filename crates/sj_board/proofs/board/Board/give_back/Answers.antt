use Rattle.sj_board.proofs.Words.{BoardState, length, Prio, Program, refl, subst, sym, WasGiven, ◌<◌, ◌≡◌}
use Rattle.sj_board.proofs.{Giving.back-absent, Giving.back-known, Giving.back-task, Giving.keeps-back_left, UnitHands.units-set}
use Rattle.sj_board.proofs.board.Board.give_back.Goals as goal

pub put_ready-requires-clause-task : goal.put_ready-requires-clause-task
put_ready-requires-clause-task g c =
    let prio = subst (λ (b : BoardState _). b.run.machine.policy ≡ Prio) (sym c.self.view_is) c.requires.by_urgency in
    let r = subst (λ (b : BoardState _). WasGiven b c.args.w c.args.t) (sym c.self.view_is) c.requires.given in
    subst (λ (p : Program). c.args.t.0 < length p.tasks) (sym c.program.ensures) (back-task _ _ _ _ _ _ c.self.invariant.board c.args.w r.works.known prio c.args.t r.given)

pub put_ready-requires-clause-absent : goal.put_ready-requires-clause-absent
put_ready-requires-clause-absent g c =
    let prio = subst (λ (b : BoardState _). b.run.machine.policy ≡ Prio) (sym c.self.view_is) c.requires.by_urgency in
    let r = subst (λ (b : BoardState _). WasGiven b c.args.w c.args.t) (sym c.self.view_is) c.requires.given in
    back-absent _ _ _ _ _ _ c.self.invariant.board c.args.w r.works.known prio c.args.t r.given

pub put_ready-requires-clause-known_task : goal.put_ready-requires-clause-known_task
put_ready-requires-clause-known_task g c =
    let prio = subst (λ (b : BoardState _). b.run.machine.policy ≡ Prio) (sym c.self.view_is) c.requires.by_urgency in
    let r = subst (λ (b : BoardState _). WasGiven b c.args.w c.args.t) (sym c.self.view_is) c.requires.given in
    back-known _ _ _ _ _ _ c.self.invariant.board c.args.w r.works.known prio c.args.t r.given

pub invariant_of-self : goal.invariant_of-self
invariant_of-self g c =
    let prio = subst (λ (b : BoardState _). b.run.machine.policy ≡ Prio) (sym c.self.view_is) c.requires.by_urgency in
    let r = subst (λ (b : BoardState _). WasGiven b c.args.w c.args.t) (sym c.self.view_is) c.requires.given in
    record { board = keeps-back_left _ _ _ _ _ _ c.self.invariant.board c.args.w r.works.known prio c.args.t r.given _ _ _ c.program.ensures c.give.ensures c.put_ready.ensures; ends = c.self.invariant.ends; victims = c.self.invariant.victims; units = units-set _ _ _ _ c.args.w _ c.give.ensures refl c.self.invariant.units }
