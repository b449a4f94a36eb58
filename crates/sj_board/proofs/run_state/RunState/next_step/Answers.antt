use Rattle.sj_board.proofs.Words.{ap, is_leaving, mark, Node, sym, true, ◌∙◌, ◌≡◌}
use Rattle.sj_core.proofs.Replicas.{leaving_by-leaves}
use Rattle.sj_board.proofs.{Answering.brought-inside, Answering.from-rows, NextSteps.victim-leaves}
use Rattle.sj_board.proofs.run_state.RunState.next_step.Goals as goal

pub eviction_of-requires : goal.eviction_of-requires
eviction_of-requires g c =
    let rows = c.self.inside.rows in
    let leaving = victim-leaves rows.program rows.machine rows.state c.args.w c.in-Some.cell (sym c.next_victim.ensures ∙ c.in-Some.is) in
    from-rows _ _ _ _ _ _ _ _ c.self.invariant _ c.self.view_is (λ p m s. is_leaving (mark s c.in-Some.cell c.node_of-n.result) ≡ true)
    (ap (λ (k : Node). is_leaving (mark rows.state c.in-Some.cell k)) c.node_of-n.ensures ∙ leaving_by-leaves c.args.w _ leaving)

pub arrival_of-requires : goal.arrival_of-requires
arrival_of-requires g c = brought-inside _ _ _ _ _ _ _ _ c.self.invariant _ c.self.view_is c.args.t c.args.w c.in-Some-next_cell.cell (sym c.next_cell.ensures ∙ c.in-Some-next_cell.is)
