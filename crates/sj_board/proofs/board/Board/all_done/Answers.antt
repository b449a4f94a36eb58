use Rattle.sj_board.proofs.Words.{BoardState, IsComplete, state, subst, sym}
use Rattle.std.proofs.lemmas.Bool.{eq-eqb, eqb-true}
use Rattle.sj_board.proofs.Ends.{complete-none, none-undone}
use Rattle.sj_board.proofs.board.Board.all_done.Goals as goal

pub returns : goal.returns
returns g c = (
  λ none. subst (λ (b : BoardState _). IsComplete (state b.run)) c.self.view_is (none-undone (state c.self.inside.run) c.self.inside.left c.self.invariant.ends.counted (eqb-true c.self.inside.left 0 none)),
  λ complete. eq-eqb c.self.inside.left 0 (complete-none (state c.self.inside.run) c.self.inside.left c.self.invariant.ends.counted (subst (λ (b : BoardState _). IsComplete (state b.run)) (sym c.self.view_is) complete)),
)
