use Rattle.sj_board.proofs.Words.{BoardState, false, is_node, IsMovingOut, SparesMoved, subst, sym, ◌≡◌}
use Rattle.sj_board.proofs.{KeptEvents.kept-moved, SparingBoards.moved-spares}
use Rattle.sj_board.proofs.board.Board.end_move_out.Goals as goal

pub invariant_of-self : goal.invariant_of-self
invariant_of-self g c = kept-moved _ _ _ _ _ _ _ _ _ _ _ c.self.invariant c.is_sound.ensures c.args.w (λ x. is_node x.to ≡ false) (subst (λ (b : BoardState _). IsMovingOut b.run c.args.w) (sym c.self.view_is) c.requires.under_way) _ c.end_move_out.ensures

pub returns-clause-spares : goal.returns-clause-spares
returns-clause-spares g c =
    subst (λ (b : BoardState _). SparesMoved c.args.w b.run c.end_move_out.new.self) c.self.view_is
    (moved-spares _ _ _ _ c.self.inside.run c.is_sound.ensures c.args.w c.end_move_out.new.self c.end_move_out.ensures)
