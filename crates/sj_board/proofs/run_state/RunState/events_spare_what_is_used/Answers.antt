use Rattle.sj_board.proofs.Sparing.{events-spare}
use Rattle.sj_board.proofs.run_state.RunState.events_spare_what_is_used.Goals as goal

pub returns : goal.returns
returns g c = events-spare _ _ _ _ _ _ _ _ c.self.invariant _ c.self.view_is
