use Rattle.sj_board.proofs.Words.{BoardState, CanHappen, Move, None, OnOk, refl, Spares, subst, sym, with_event, ◌≡◌}
use Rattle.sj_board.proofs.{KeptEvents.kept-tried, LastHeaders.none-caused, SparingBoards.tried-spares}
use Rattle.sj_board.proofs.board.Board.begin_move.Goals as goal

pub invariant_of-self : goal.invariant_of-self
invariant_of-self g c =
    let e = Move c.args.cell c.args.from c.args.to in
    let can = subst (λ (b : BoardState _). CanHappen b.run e) (sym c.self.view_is) c.requires.can in
    let none = subst (λ (b : BoardState _). b.fault ≡ None) (sym c.self.view_is) c.requires.no_fault in
    kept-tried _ _ _ _ _ _ _ _ _ _ _ c.self.invariant c.is_sound.ensures c.begin_move.result e can (λ v. tt) refl (none-caused g.D.Disk.faults g.D.Disk.mismatches g.D.Disk.held c.self.inside.run (with_event c.self.inside.run e) c.self.inside.fault none) _ c.begin_move.ensures.ok c.begin_move.ensures.err

pub returns-clause-spares : goal.returns-clause-spares
returns-clause-spares g c =
    let e = Move c.args.cell c.args.from c.args.to in
    let can = subst (λ (b : BoardState _). CanHappen b.run e) (sym c.self.view_is) c.requires.can in
    subst (λ (b : BoardState _). OnOk c.begin_move.result (Spares b.run e c.begin_move.new.self)) c.self.view_is
    (tried-spares _ _ _ _ c.self.inside.run c.is_sound.ensures c.begin_move.result e can c.begin_move.new.self c.begin_move.ensures.ok)
