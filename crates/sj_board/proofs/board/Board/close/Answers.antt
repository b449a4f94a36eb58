use Rattle.sj_board.proofs.Words.{All, AllTell, BoardState, DeliversEach, Hand, IsComplete, NoneIsOut, out, state, subst, sym}
use Rattle.sj_board.proofs.{BoardEnds.closes, UnitHands.units-none}
use Rattle.std.specs.Prelude.{None, ◌≡◌}
use Rattle.sj_board.proofs.board.Board.close.Goals as goal

pub returns-clause-each : goal.returns-clause-each
returns-clause-each g c =
    λ complete. subst (λ (b : BoardState _). DeliversEach out b.run.program (AllTell g.D.Disk.held b.run) c.self.inside.delivered.pairs) c.self.view_is
    (closes g.D.Disk.held c.self.inside.run _ _ _ _ c.self.invariant.ends _ _ _ c.is_sound.ensures (subst (λ (b : BoardState _). IsComplete (state b.run)) (sym c.self.view_is) complete))

pub returns-clause-none_is_out : goal.returns-clause-none_is_out
returns-clause-none_is_out g c =
    let none = subst (λ (b : BoardState _). All (λ (h : Hand). h.unit ≡ None) b.hands) (sym c.self.view_is) c.requires.no_unit in
    subst (λ s. NoneIsOut s) (sym c.close-trace.ensures.disks) (units-none c.self.inside.run c.self.inside.hands.items c.self.invariant.units none)
