use Rattle.std.proofs.Common.{◌∙◌, ap, sym, subst}
use Rattle.sj_board.specs.Board.{BoardState, RunsNone, transfer_of}
use Rattle.sj_engine.proofs.OwnRows.{moves-none, runs-none}
use Rattle.sj_engine.proofs.shared_board.SharedBoard.step.Goals as goal

pub plan_of-requires-clause-runs_none : goal.plan_of-requires-clause-runs_none
plan_of-requires-clause-runs_none g c = subst (λ (k : BoardState g.row.D.Denot). RunsNone k c.args.w) (sym (c.deref-2.ensures ∙ c.self.view_is)) (runs-none c.args.self.now c.args.w c.args.t c.requires.claimed)

pub plan_of-requires-clause-moves_none : goal.plan_of-requires-clause-moves_none
plan_of-requires-clause-moves_none g c = ap (λ (k : BoardState g.row.D.Denot). transfer_of k c.args.w) (c.deref-2.ensures ∙ c.self.view_is) ∙ moves-none c.args.self.now c.args.w c.args.t c.requires.claimed
