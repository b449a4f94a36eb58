use Rattle.sj_board.proofs.Words.{BoardState, HasCause, IsWorking, refl, subst, sym}
use Rattle.sj_board.proofs.{Failing.failed-left, UnitHands.units-set}
use Rattle.sj_board.proofs.board.Board.fail.Goals as goal

pub invariant_of-self : goal.invariant_of-self
invariant_of-self g c =
    let works = subst (λ (b : BoardState _). IsWorking b c.args.w) (sym c.self.view_is) c.requires.works in
    let cause = subst (λ (b : BoardState _). HasCause g.D.Disk.faults g.D.Disk.mismatches g.D.Disk.held b.run c.args.fault) (sym c.self.view_is) c.requires.cause in
    record {
      board = failed-left _ _ _ _ _ _ c.self.invariant.board c.args.w works c.args.fault cause _ _ c.let_go.ensures c.first_of-kept.ensures;
      ends = c.self.invariant.ends;
      victims = c.self.invariant.victims;
      units = units-set _ _ _ _ c.args.w _ c.let_go.ensures refl c.self.invariant.units;
    }
