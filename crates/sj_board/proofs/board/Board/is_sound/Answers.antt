use Rattle.sj_board.proofs.Words.{BoardState, IsSoundBoard, subst}
use Rattle.sj_board.proofs.board.Board.is_sound.Goals as goal

pub returns : goal.returns
returns g c = subst (λ (b : BoardState _). IsSoundBoard g.D.Disk.size g.D.Disk.faults g.D.Disk.mismatches g.D.Disk.held b) c.self.view_is (record {
  run = c.is_sound.ensures;
  fault = c.self.invariant.board.fault;
  inside = c.self.invariant.board.inside;
  delivered = c.self.invariant.ends.delivered;
  units = c.self.invariant.units;
})
