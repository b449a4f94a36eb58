use Rattle.sj_board.proofs.Words.{BoardState, IsOver, IsWorking, refl, subst, sym}
use Rattle.sj_board.proofs.{Failing.stopped-left, UnitHands.units-set}
use Rattle.sj_board.proofs.board.Board.stop.Goals as goal

pub invariant_of-self : goal.invariant_of-self
invariant_of-self g c =
    let works = subst (λ (b : BoardState _). IsWorking b c.args.w) (sym c.self.view_is) c.requires.works in
    let over = subst (λ (b : BoardState _). IsOver b) (sym c.self.view_is) c.requires.over in
    record {
      board = stopped-left _ _ _ _ _ _ c.self.invariant.board c.args.w works over _ c.stop_hand.ensures;
      ends = c.self.invariant.ends;
      victims = c.self.invariant.victims;
      units = units-set _ _ _ _ c.args.w _ c.stop_hand.ensures refl c.self.invariant.units;
    }
