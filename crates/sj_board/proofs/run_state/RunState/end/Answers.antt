use Rattle.sj_board.proofs.Words.{ap, CanHappen, End, Lowered, Standing, subst, sym, task_of, ◌∙◌, ◌≡◌}
use Rattle.sj_board.proofs.{EndingTiles.found-can_put, EndingTiles.found-keeps_end, Keeping.has-room}
use Rattle.sj_board.proofs.run_state.RunState.end.Goals as goal

pub put_back-requires : goal.put_back-requires
put_back-requires g c =
    let of_task : c.items-accesses.result.now ≡ (task_of c.program-program.result.now c.args.t).accesses = c.items-accesses.ensures ∙ ap (λ (l : Lowered). l.accesses) c.task_at.ensures in
    found-can_put _ _ _ _ _ c.self.inside.rows c.self.inside.trace c.self.inside.disks c.self.inside.opened.value _ c.self.invariant c.args.t c.args.w _ c.self.view_is c.requires.can c.args.written.slots c.requires.written _ c.node_of-n.ensures _ c.program-program.ensures _ of_task

pub add-requires : goal.add-requires
add-requires g c = has-room _ _ _ _ _ _ _ _ c.self.invariant (End c.args.t c.args.w) (subst (λ (b : Standing _). CanHappen b (End c.args.t c.args.w)) (sym c.self.view_is) c.requires.can)

pub invariant_of-self : goal.invariant_of-self
invariant_of-self g c =
    let of_task : c.items-accesses.result.now ≡ (task_of c.program-program.result.now c.args.t).accesses = c.items-accesses.ensures ∙ ap (λ (l : Lowered). l.accesses) c.task_at.ensures in
    found-keeps_end _ _ _ _ _ c.self.inside.rows c.self.inside.trace c.self.inside.disks c.self.inside.opened.value _ c.self.invariant c.args.t c.args.w _ c.self.view_is c.requires.can c.args.written.slots c.requires.written _ c.node_of-n.ensures _ c.program-program.ensures _ of_task c.end.new.self _ c.add.new.self c.end.ensures c.put_back.ensures.tiles c.add.ensures.events c.add.ensures.room
