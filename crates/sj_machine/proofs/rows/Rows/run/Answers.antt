use Rattle.sj_machine.proofs.Words.{ap, Program, written_cells, ◌∙◌}
use Rattle.sj_machine.proofs.Owning.{run-can_work, run-cells, run-left, run-marked, run-unpinned}
use Rattle.sj_machine.proofs.rows.Rows.run.Goals as goal

pub written_by-cells-requires-clause-can : goal.written_by-cells-requires-clause-can
written_by-cells-requires-clause-can c = rw c.deref.ensures (run-can_work _ _ _ _ _ _ c.self.invariant _ c.self.view_is c.args.t c.args.w c.requires)

pub evict_elsewhere-requires-clause-marked : goal.evict_elsewhere-requires-clause-marked
evict_elsewhere-requires-clause-marked c = rw c.deref-2.ensures.value (run-marked _ _ _ _ _ _ c.self.invariant _ c.self.view_is c.args.t c.args.w c.requires)

pub evict_elsewhere-requires-clause-unpinned : goal.evict_elsewhere-requires-clause-unpinned
evict_elsewhere-requires-clause-unpinned c =
    let are = c.items-written.ensures ∙ c.written_by-cells.ensures ∙ ap (λ (q : Program). written_cells q c.args.t c.args.w) c.deref.ensures in
    run-unpinned _ _ _ _ _ _ c.self.invariant _ c.self.view_is c.args.t c.args.w c.requires _ c.node_of-n.ensures _ are

pub own_each-requires-clause-cells : goal.own_each-requires-clause-cells
own_each-requires-clause-cells c =
    let are = c.items-written.ensures ∙ c.written_by-cells.ensures ∙ ap (λ (q : Program). written_cells q c.args.t c.args.w) c.deref.ensures in
    rw are (run-cells _ _ _ _ _ _ c.self.invariant _ c.self.view_is c.args.t c.args.w c.requires)

pub invariant_of-self : goal.invariant_of-self
invariant_of-self c =
    let are = c.items-written.ensures ∙ c.written_by-cells.ensures ∙ ap (λ (q : Program). written_cells q c.args.t c.args.w) c.deref.ensures in
    (run-left _ _ _ _ _ _ c.self.invariant _ c.self.view_is c.args.t c.args.w c.requires _ c.node_of-n.ensures _ are _ _ c.own_each.ensures c.evict_elsewhere.ensures.every c.evict_elsewhere.ensures.each).keeps

pub returns : goal.returns
returns c =
    let are = c.items-written.ensures ∙ c.written_by-cells.ensures ∙ ap (λ (q : Program). written_cells q c.args.t c.args.w) c.deref.ensures in
    (run-left _ _ _ _ _ _ c.self.invariant _ c.self.view_is c.args.t c.args.w c.requires _ c.node_of-n.ensures _ are _ _ c.own_each.ensures c.evict_elsewhere.ensures.every c.evict_elsewhere.ensures.each).happened
