use Rattle.sj_board.proofs.Words.{ap, BoardState, CanHappen, End, gift_in, HasTakenReleased, HasTask, refl, Spares, Standing, subst, sym, ◌∙◌}
use Rattle.sj_board.proofs.{BoardEnds.ends, BoardEnds.ends-gift, BoardEnds.ends-has_room, BoardEnds.ends-some, BoardEnds.ends-staffed, SparingBoards.event-spares, StillGone.knows-event, TaskEnding.ends-can, TaskEnding.ends-left, TaskEnding.ends-ready, TaskEnding.ends-task, UnitHands.units-event, UnitHands.units-set}
use Rattle.sj_board.proofs.board.Board.end.Goals as goal

pub release-requires-clause-ready : goal.release-requires-clause-ready
release-requires-clause-ready g c =
    let r = subst (λ (b : BoardState _). HasTask b c.args.w c.args.t) (sym c.self.view_is) c.requires.task in
    let taken = subst (λ (b : BoardState _). HasTakenReleased b c.args.w) (sym c.self.view_is) c.requires.taken in
    let can = subst (λ (b : BoardState _). CanHappen b.run (End c.args.t c.args.w)) (sym c.self.view_is) c.requires.can in
    ends-ready _ _ _ _ _ _ _ c.self.invariant.board c.is_sound.ensures c.args.w r.works c.args.t r.task can taken

pub release-requires-clause-can : goal.release-requires-clause-can
release-requires-clause-can g c =
    let r = subst (λ (b : BoardState _). HasTask b c.args.w c.args.t) (sym c.self.view_is) c.requires.task in
    let taken = subst (λ (b : BoardState _). HasTakenReleased b c.args.w) (sym c.self.view_is) c.requires.taken in
    let can = subst (λ (b : BoardState _). CanHappen b.run (End c.args.t c.args.w)) (sym c.self.view_is) c.requires.can in
    ends-can _ _ _ _ _ _ _ c.self.invariant.board c.is_sound.ensures c.args.w r.works c.args.t r.task can taken _ (c.program.ensures ∙ ap (λ (x : Standing _). x.program) c.end-spent.ensures.event)

pub hand_over-requires-clause-worker : goal.hand_over-requires-clause-worker
hand_over-requires-clause-worker g c =
    let can = subst (λ (b : BoardState _). CanHappen b.run (End c.args.t c.args.w)) (sym c.self.view_is) c.requires.can in
    ends-staffed g.D.Disk.held c.self.inside.run _ _ _ _ c.self.invariant.ends _ _ _ c.is_sound.ensures c.args.t c.args.w can

pub hand_over-requires-clause-room : goal.hand_over-requires-clause-room
hand_over-requires-clause-room g c =
    let can = subst (λ (b : BoardState _). CanHappen b.run (End c.args.t c.args.w)) (sym c.self.view_is) c.requires.can in
    λ some. ends-has_room g.D.Disk.held c.self.inside.run _ _ _ _ c.self.invariant.ends _ _ _ c.is_sound.ensures c.args.t c.args.w can some

pub overflow_sub-self : goal.overflow_sub-self
overflow_sub-self g c =
    let can = subst (λ (b : BoardState _). CanHappen b.run (End c.args.t c.args.w)) (sym c.self.view_is) c.requires.can in
    ends-some g.D.Disk.held c.self.inside.run _ _ _ _ c.self.invariant.ends _ _ _ c.is_sound.ensures c.args.t c.args.w can

pub invariant_of-self : goal.invariant_of-self
invariant_of-self g c =
    let r = subst (λ (b : BoardState _). HasTask b c.args.w c.args.t) (sym c.self.view_is) c.requires.task in
    let taken = subst (λ (b : BoardState _). HasTakenReleased b c.args.w) (sym c.self.view_is) c.requires.taken in
    let can = subst (λ (b : BoardState _). CanHappen b.run (End c.args.t c.args.w)) (sym c.self.view_is) c.requires.can in
    record {
      board = ends-left _ _ _ _ _ _ _ c.self.invariant.board c.is_sound.ensures c.args.w r.works c.args.t r.task can taken _ _ _ _ _ _ (gift_in c.self.inside.gifts c.args.w) (c.program.ensures ∙ ap (λ (x : Standing _). x.program) c.end-spent.ensures.event) c.end-spent.ensures.event c.let_go.ensures c.release.ensures.deps c.release.ensures.pool c.hand_over.ensures.pairs;
      ends = ends g.D.Disk.held c.self.inside.run _ _ _ _ c.self.invariant.ends _ _ _ c.is_sound.ensures c.args.t c.args.w can _ c.end-spent.ensures.event _ c.hand_over.ensures.pairs _ c.hand_over.ensures.gifts _ c.hand_over.ensures.room;
      victims = knows-event _ _ _ _ c.self.inside.run c.is_sound.ensures _ c.self.invariant.victims (End c.args.t c.args.w) can (λ v. tt) _ c.end-spent.ensures.event;
      units = units-set _ _ _ _ c.args.w _ c.let_go.ensures refl (units-event _ _ _ _ c.end-spent.ensures.event c.self.invariant.units);
    }

pub returns-clause-ends : goal.returns-clause-ends
returns-clause-ends g c =
    let r = subst (λ (b : BoardState _). HasTask b c.args.w c.args.t) (sym c.self.view_is) c.requires.task in
    let taken = subst (λ (b : BoardState _). HasTakenReleased b c.args.w) (sym c.self.view_is) c.requires.taken in
    let can = subst (λ (b : BoardState _). CanHappen b.run (End c.args.t c.args.w)) (sym c.self.view_is) c.requires.can in
    let gift = ends-gift g.D.Disk.held c.self.inside.run _ _ _ _ c.self.invariant.ends _ _ _ c.is_sound.ensures c.args.t c.args.w can in
    ends-task _ _ _ _ _ _ _ c.self.invariant.board c.is_sound.ensures c.args.w r.works c.args.t r.task can taken _ _ _ _ _ _ (gift_in c.self.inside.gifts c.args.w) (c.program.ensures ∙ ap (λ (x : Standing _). x.program) c.end-spent.ensures.event) c.end-spent.ensures.event c.let_go.ensures c.release.ensures.deps c.release.ensures.pool c.hand_over.ensures.pairs gift _ c.self.view_is

pub returns-clause-spares : goal.returns-clause-spares
returns-clause-spares g c =
    let can = subst (λ (b : BoardState _). CanHappen b.run (End c.args.t c.args.w)) (sym c.self.view_is) c.requires.can in
    subst (λ (b : BoardState _). Spares b.run (End c.args.t c.args.w) c.end-spent.new.self) c.self.view_is
    (event-spares _ _ _ _ c.self.inside.run c.is_sound.ensures (End c.args.t c.args.w) can c.end-spent.new.self c.end-spent.ensures.event)
