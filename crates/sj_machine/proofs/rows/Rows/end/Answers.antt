use Rattle.sj_machine.proofs.Words.{ap, Program, written_cells, ◌∙◌}
use Rattle.sj_machine.proofs.Finishing.{end-can_release, end-can_work, end-cells, end-few, end-left}
use Rattle.sj_machine.proofs.rows.Rows.end.Goals as goal

pub written_by-written-requires-clause-can : goal.written_by-written-requires-clause-can
written_by-written-requires-clause-can c = rw c.deref.ensures (end-can_work _ _ _ _ _ _ c.self.invariant _ c.self.view_is c.args.t c.args.w c.requires)

pub count_each-requires-clause-cells : goal.count_each-requires-clause-cells
count_each-requires-clause-cells c =
    let are = c.items.ensures ∙ c.written_by-written.ensures ∙ ap (λ (q : Program). written_cells q c.args.t c.args.w) c.deref.ensures in
    rw are (end-cells _ _ _ _ _ _ c.self.invariant _ c.self.view_is c.args.t c.args.w c.requires)

pub count_each-requires-clause-few : goal.count_each-requires-clause-few
count_each-requires-clause-few c =
    let are = c.items.ensures ∙ c.written_by-written.ensures ∙ ap (λ (q : Program). written_cells q c.args.t c.args.w) c.deref.ensures in
    rw are (end-few _ _ _ _ _ _ c.self.invariant _ c.self.view_is c.args.t c.args.w c.requires)

pub release_at-requires-clause-can : goal.release_at-requires-clause-can
release_at-requires-clause-can c = end-can_release _ _ _ _ _ _ c.self.invariant _ c.self.view_is c.args.t c.args.w c.requires _ c.node_of-n.ensures _ c.deref-2.ensures.value

pub invariant_of-self : goal.invariant_of-self
invariant_of-self c =
    let are = c.items.ensures ∙ c.written_by-written.ensures ∙ ap (λ (q : Program). written_cells q c.args.t c.args.w) c.deref.ensures in
    (end-left _ _ _ _ _ _ c.self.invariant _ c.self.view_is c.args.t c.args.w c.requires _ c.node_of-n.ensures _ are _ c.deref-2.ensures.value _ _ _ c.count_each.ensures c.release_at.ensures c.let_go.ensures).keeps

pub returns : goal.returns
returns c =
    let are = c.items.ensures ∙ c.written_by-written.ensures ∙ ap (λ (q : Program). written_cells q c.args.t c.args.w) c.deref.ensures in
    (end-left _ _ _ _ _ _ c.self.invariant _ c.self.view_is c.args.t c.args.w c.requires _ c.node_of-n.ensures _ are _ c.deref-2.ensures.value _ _ _ c.count_each.ensures c.release_at.ensures c.let_go.ensures).happened
