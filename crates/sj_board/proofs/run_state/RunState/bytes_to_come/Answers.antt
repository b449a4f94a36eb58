use Rattle.sj_board.proofs.Words.{node_of, to_come, ◌≡◌}
use Rattle.sj_board.proofs.Answering.{from-rows}
use Rattle.sj_board.proofs.run_state.RunState.bytes_to_come.Goals as goal

pub returns : goal.returns
returns g c = from-rows _ _ _ _ _ _ _ _ c.self.invariant _ c.self.view_is (λ p m s. c.bytes_to_come.result ≡ to_come p s c.args.t c.args.w (node_of m c.args.w)) c.bytes_to_come.ensures
