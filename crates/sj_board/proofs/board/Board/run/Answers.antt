use Rattle.sj_board.proofs.Words.{ap, arith, array_in, board_state, BoardState, CanHappen, HasTask, IsKept, length, None, Run, Standing, subst, sym, ◌<◌, ◌≡◌}
use Rattle.sj_board.proofs.{BoardEnds.begins, SparingBoards.told-spares, Starting.keeps-begun_left, StillGone.knows-event, StillGone.knows-found, StillGone.knows-read, UnitHands.units-event}
use Rattle.sj_board.proofs.board.Board.run.Goals as goal

pub invariant_of-self : goal.invariant_of-self
invariant_of-self g c =
    let i = c.self.inside in
    subst (λ (r : Standing _). IsKept g.D.Disk.faults g.D.Disk.mismatches g.D.Disk.held (board_state r i.hands.items i.pool i.fault i.delivered.pairs) i.deps i.footprints.items i.gifts i.delivered.spare i.left i.gone.items) (sym c.in_err-frame.ensures.err) c.self.invariant

pub gone-gone-requires-clause-known : goal.gone-gone-requires-clause-known
gone-gone-requires-clause-known g c =
    let can = subst (λ (b : BoardState _). CanHappen b.run (Run c.args.t c.args.w)) (sym c.self.view_is) c.requires.can in
    let has = subst (λ (b : BoardState _). HasTask b c.args.w c.args.t) (sym c.self.view_is) c.requires.task in
    let known = knows-event _ _ _ _ c.self.inside.run c.is_sound.ensures _ c.self.invariant.victims (Run c.args.t c.args.w) can (λ v. tt) _ c.in_ok-frame.ensures.ok in
    let inside : c.args.w.0 < length c.self.inside.gone.items = omega (arith, has.works.known, c.self.invariant.victims.every_worker) in
    knows-read c.run.new.self c.self.inside.gone.items known c.args.w inside c.index.result.now _ c.index.ensures

pub invariant_of-self-2 : goal.invariant_of-self-2
invariant_of-self-2 g c =
    let can = subst (λ (b : BoardState _). CanHappen b.run (Run c.args.t c.args.w)) (sym c.self.view_is) c.requires.can in
    let none = subst (λ (b : BoardState _). b.fault ≡ None) (sym c.self.view_is) c.requires.no_fault in
    let known = knows-event _ _ _ _ c.self.inside.run c.is_sound.ensures _ c.self.invariant.victims (Run c.args.t c.args.w) can (λ v. tt) _ c.in_ok-frame.ensures.ok in
    record {
      board = keeps-begun_left _ _ _ _ _ _ c.self.invariant.board none c.args.t c.args.w can c.run.result _ c.run.ensures.ok c.run.ensures.err;
      ends = begins g.D.Disk.held c.self.inside.run _ _ _ _ c.self.invariant.ends _ _ _ c.is_sound.ensures c.args.t c.args.w can (array_in c.in_ok-gift.gift) c.in_ok-gift.ensures _ c.in_ok-frame.ensures.ok _ c.keep.ensures;
      victims = knows-found c.run.new.self c.self.inside.gone.items known c.args.w c.gone-gone.result c.gone-gone.ensures _ c.note_gone.ensures;
      units = units-event _ _ _ _ c.in_ok-frame.ensures.ok c.self.invariant.units;
    }

pub returns-clause-spares : goal.returns-clause-spares
returns-clause-spares g c =
    let can = subst (λ (b : BoardState _). CanHappen b.run (Run c.args.t c.args.w)) (sym c.self.view_is) c.requires.can in
    told-spares _ _ _ _ c.self.inside.run c.is_sound.ensures (Run c.args.t c.args.w) can _ c.in_ok-frame.ensures.ok _ (ap (λ (b : BoardState _). b.run) c.self.view_is)
