use Rattle.sj_board.proofs.Words.{IfErr, IfOk, IsWhy}
use Rattle.sj_board.proofs.Answering.{from-rows}
use Rattle.sj_board.proofs.run_state.RunState.claim_plan_knowing.Goals as goal

pub returns-clause-why : goal.returns-clause-why
returns-clause-why g c = from-rows _ _ _ _ _ _ _ _ c.self.invariant _ c.self.view_is (λ p m s. IfOk c.claim_plan_knowing.result (λ found. IfErr found (IsWhy p m s c.args.t c.args.w))) c.claim_plan_knowing.ensures.why
