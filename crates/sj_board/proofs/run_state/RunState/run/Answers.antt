use Rattle.sj_board.proofs.Words.{ap, CanHappen, Lowered, Run, Standing, subst, sym, task_of, written_among, ◌∙◌, ◌≡◌}
use Rattle.sj_board.proofs.{Keeping.has-room, RunningTiles.found-can_give, RunningTiles.found-can_work, RunningTiles.found-cells, RunningTiles.found-few, RunningTiles.found-keeps_run, RunningTiles.found-shares}
use Rattle.sj_board.proofs.run_state.RunState.run.Goals as goal

pub share_into-requires-clause-can : goal.share_into-requires-clause-can
share_into-requires-clause-can g c =
    let of_task : c.items-accesses.result.now ≡ (task_of c.program-program.result.now c.args.t).accesses = c.items-accesses.ensures ∙ ap (λ (l : Lowered). l.accesses) c.task_at.ensures in
    found-can_give _ _ _ _ _ c.self.inside.rows c.self.inside.trace c.self.inside.disks c.self.inside.opened.value _ c.self.invariant c.args.t c.args.w _ c.self.view_is c.requires.can _ c.node_of-n.ensures _ c.program-program.ensures _ of_task _ c.deref.ensures.value

pub written_cells-written-requires-clause-can : goal.written_cells-written-requires-clause-can
written_cells-written-requires-clause-can g c =
    let of_task : c.items-accesses.result.now ≡ (task_of c.program-program.result.now c.args.t).accesses = c.items-accesses.ensures ∙ ap (λ (l : Lowered). l.accesses) c.task_at.ensures in
    found-can_work _ _ _ _ _ c.self.inside.rows c.self.inside.trace c.self.inside.disks c.self.inside.opened.value _ c.self.invariant c.args.t c.args.w _ c.self.view_is c.requires.can _ c.node_of-n.ensures _ c.program-program.ensures _ of_task

pub written_cells-written-requires-clause-few : goal.written_cells-written-requires-clause-few
written_cells-written-requires-clause-few g c =
    let of_task : c.items-accesses.result.now ≡ (task_of c.program-program.result.now c.args.t).accesses = c.items-accesses.ensures ∙ ap (λ (l : Lowered). l.accesses) c.task_at.ensures in
    found-few _ _ _ _ _ c.self.inside.rows c.self.inside.trace c.self.inside.disks c.self.inside.opened.value _ c.self.invariant c.args.t c.args.w _ c.self.view_is c.requires.can _ c.node_of-n.ensures _ c.program-program.ensures _ of_task

pub lend_each-requires : goal.lend_each-requires
lend_each-requires g c =
    let of_task : c.items-accesses.result.now ≡ (task_of c.program-program.result.now c.args.t).accesses = c.items-accesses.ensures ∙ ap (λ (l : Lowered). l.accesses) c.task_at.ensures in
    let are : c.items.result.now ≡ written_among c.program-program.result.now c.args.w c.items-accesses.result.now = c.items.ensures ∙ c.written_cells-written.ensures in
    found-cells _ _ _ _ _ c.self.inside.rows c.self.inside.trace c.self.inside.disks c.self.inside.opened.value _ c.self.invariant c.args.t c.args.w _ c.self.view_is c.requires.can _ c.node_of-n.ensures _ c.program-program.ensures _ of_task _ are

pub add-requires : goal.add-requires
add-requires g c = has-room _ _ _ _ _ _ _ _ c.self.invariant (Run c.args.t c.args.w) (subst (λ (b : Standing _). CanHappen b (Run c.args.t c.args.w)) (sym c.self.view_is) c.requires.can)

pub invariant_of-self : goal.invariant_of-self
invariant_of-self g c =
    let of_task : c.items-accesses.result.now ≡ (task_of c.program-program.result.now c.args.t).accesses = c.items-accesses.ensures ∙ ap (λ (l : Lowered). l.accesses) c.task_at.ensures in
    let are : c.items.result.now ≡ written_among c.program-program.result.now c.args.w c.items-accesses.result.now = c.items.ensures ∙ c.written_cells-written.ensures in
    found-keeps_run _ _ _ _ _ c.self.inside.rows c.self.inside.trace c.self.inside.disks c.self.inside.opened.value _ c.self.invariant c.args.t c.args.w _ c.self.view_is c.requires.can _ c.node_of-n.ensures _ c.program-program.ensures _ of_task _ are c.run.new.self _ c.add.new.self c.run.ensures c.lend_each.ensures c.add.ensures.events c.add.ensures.room

pub returns-clause-shares : goal.returns-clause-shares
returns-clause-shares g c =
    let of_task : c.items-accesses.result.now ≡ (task_of c.program-program.result.now c.args.t).accesses = c.items-accesses.ensures ∙ ap (λ (l : Lowered). l.accesses) c.task_at.ensures in
    found-shares _ _ _ _ _ c.self.inside.rows c.self.inside.trace c.self.inside.disks c.self.inside.opened.value _ c.self.invariant c.args.t c.args.w _ c.self.view_is c.requires.can _ c.node_of-n.ensures _ c.program-program.ensures _ of_task _ c.deref.ensures.value _ _ c.requires.empty c.in_ok-share_into.ensures.slots
