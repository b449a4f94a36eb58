use Rattle.sj_board.proofs.Words.{[], ap, BoardState, has_released, IsReadyWhereItWaits, None, Prio, released_of, subst, sym, ◌<◌, ◌↔◌, ◌∙◌, ◌≡◌, ◌≢◌, ◌≤◌}
use Rattle.std.proofs.Common.{All, IfSome}
use Rattle.sj_board.proofs.{Policies.other-of, TakingAway.released-first, TakingAway.released-is, TakingAway.released-keeps, TakingAway.released-least, TakingAway.released-none, TakingAway.released-ready}
use Rattle.sj_board.proofs.board.Board.released.Goals as goal

pub invariant_of-self : goal.invariant_of-self
invariant_of-self g c =
    let known = subst (λ (b : BoardState _). c.args.w.0 < b.run.program.workers) (sym c.self.view_is) c.requires in
    let other : c.self.inside.run.machine.policy ≢ Prio = λ e. other-of c.policy.result c.in-Eager.is (c.policy.ensures ∙ sym (ap (λ (b : BoardState _). b.run.machine.policy) c.self.view_is) ∙ e) in
    record {
      board = released-keeps _ _ _ _ _ _ c.self.invariant.board c.args.w known other c.take_own.result c.take_own.new.self c.take_own.ensures.task c.take_own.ensures.rest;
      ends = c.self.invariant.ends;
      victims = c.self.invariant.victims;
      units = c.self.invariant.units;
    }

pub returns-in-Eager : goal.returns-in-Eager
returns-in-Eager g c =
    let known = subst (λ (b : BoardState _). c.args.w.0 < b.run.program.workers) (sym c.self.view_is) c.requires in
    let other : c.self.inside.run.machine.policy ≢ Prio = λ e. other-of c.policy.result c.in-Eager.is (c.policy.ensures ∙ sym (ap (λ (b : BoardState _). b.run.machine.policy) c.self.view_is) ∙ e) in
    let t = c.take_own.result in
    let left = c.take_own.new.self in
    let took = c.take_own.ensures.task in
    let rest = c.take_own.ensures.rest in
    record {
      takes = released-is _ _ _ _ _ _ c.self.invariant.board c.args.w known other t left took rest ∙ ap (λ (b : BoardState _). has_released b c.args.w) c.self.view_is;
      first = sym (ap (λ (b : BoardState _). released_of b c.args.w) c.self.view_is) ∙ released-first _ _ _ _ _ _ c.self.invariant.board c.args.w known other t left took rest;
      least = subst (λ (b : BoardState _). IfSome t (λ x. All (λ u. x.0 ≤ u.0) (released_of b c.args.w))) c.self.view_is (released-least _ _ _ _ _ _ c.self.invariant.board c.args.w known other t left took rest);
      ready = subst (λ (b : BoardState _). IfSome t (IsReadyWhereItWaits b)) c.self.view_is (released-ready _ _ _ _ _ _ c.self.invariant.board c.args.w known other t left took rest);
      none = subst (λ (b : BoardState _). (t ≡ None) ↔ (released_of b c.args.w ≡ [])) c.self.view_is (released-none _ _ _ _ _ _ c.self.invariant.board c.args.w known other t left took rest);
    }
