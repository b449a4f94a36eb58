use Rattle.sj_board.proofs.Words.{ap, BoardState, node_of, state, to_come, ◌∙◌}
use Rattle.sj_board.proofs.board.Board.bytes_to_come.Goals as goal

pub returns : goal.returns
returns g c = c.bytes_to_come.ensures ∙ ap (λ (b : BoardState _). to_come b.run.program (state b.run) c.args.t c.args.w (node_of b.run.machine c.args.w)) c.self.view_is
