use Rattle.sj_board.proofs.Words.{ap, arith, BoardState, CanHappen, Drop, Event, IsBusy, length, Node, node_of, refl, Spares, subst, sym, with_event, ◌<◌, ◌∙◌}
use Rattle.sj_board.proofs.{BoardEnds.stays, Boarding.keeps-run, LastHeaders.dropped-cause, SparingBoards.event-spares, StillGone.knows-event, StillGone.knows-found, StillGone.knows-read, UnitHands.units-event}
use Rattle.sj_board.proofs.board.Board.drop_copy.Goals as goal

pub gone-gone-requires-clause-known : goal.gone-gone-requires-clause-known
gone-gone-requires-clause-known g c =
    let busy = subst (λ (b : BoardState _). IsBusy b c.args.w) (sym c.self.view_is) c.requires.busy in
    let at = ap (λ (n : Node). Drop c.args.cell n) c.node_of-n.ensures in
    let can = subst (λ (b : BoardState _). CanHappen b.run (Drop c.args.cell (node_of b.run.machine c.args.w))) (sym c.self.view_is) c.requires.can in
    let known = knows-event _ _ _ _ c.self.inside.run c.is_sound.ensures _ c.self.invariant.victims (Drop c.args.cell (node_of c.self.inside.run.machine c.args.w)) can (λ v. tt) _ (c.drop_copy.ensures ∙ ap (λ (e : Event). with_event c.self.inside.run e) at) in
    let inside : c.args.w.0 < length c.self.inside.gone.items = omega (arith, busy.works.known, c.self.invariant.victims.every_worker) in
    knows-read c.drop_copy.new.self c.self.inside.gone.items known c.args.w inside c.index.result.now _ c.index.ensures

pub invariant_of-self : goal.invariant_of-self
invariant_of-self g c =
    let at = ap (λ (n : Node). Drop c.args.cell n) c.node_of-n.ensures in
    let can = subst (λ (b : BoardState _). CanHappen b.run (Drop c.args.cell (node_of b.run.machine c.args.w))) (sym c.self.view_is) c.requires.can in
    let known = knows-event _ _ _ _ c.self.inside.run c.is_sound.ensures _ c.self.invariant.victims (Drop c.args.cell (node_of c.self.inside.run.machine c.args.w)) can (λ v. tt) _ (c.drop_copy.ensures ∙ ap (λ (e : Event). with_event c.self.inside.run e) at) in
    record {
      board = keeps-run _ _ _ _ _ _ _ _ c.drop_copy.ensures (dropped-cause g.D.Disk.faults g.D.Disk.mismatches g.D.Disk.held c.self.inside.run c.args.cell c.node_of-n.result c.self.inside.fault c.self.invariant.board.fault) refl c.self.invariant.board;
      ends = stays g.D.Disk.held c.self.inside.run _ _ _ _ c.self.invariant.ends _ _ c.drop_copy.ensures refl;
      victims = knows-found c.drop_copy.new.self c.self.inside.gone.items known c.args.w c.gone-gone.result c.gone-gone.ensures _ c.note_gone.ensures;
      units = units-event _ _ _ _ c.drop_copy.ensures c.self.invariant.units;
    }

pub returns-clause-spares : goal.returns-clause-spares
returns-clause-spares g c =
    let can = subst (λ (b : BoardState _). CanHappen b.run (Drop c.args.cell (node_of b.run.machine c.args.w))) (sym c.self.view_is) c.requires.can in
    let at = ap (λ (n : Node). Drop c.args.cell n) c.node_of-n.ensures in
    subst (λ (b : BoardState _). Spares b.run (Drop c.args.cell (node_of b.run.machine c.args.w)) c.drop_copy.new.self) c.self.view_is
    (event-spares _ _ _ _ c.self.inside.run c.is_sound.ensures (Drop c.args.cell (node_of c.self.inside.run.machine c.args.w)) can c.drop_copy.new.self (c.drop_copy.ensures ∙ ap (λ (e : Event). with_event c.self.inside.run e) at))
