use Rattle.sj_board.proofs.Words.{ap, is_some, length, Standing, subst, sym, ◌<◌, ◌∙◌}
use Rattle.sj_board.proofs.Answering.{disk-some, source-disk, source-node}
use Rattle.sj_board.proofs.run_state.RunState.source_of.Goals as goal

pub unwrap-requires : goal.unwrap-requires
unwrap-requires g c =
    let inside = subst (λ (b : Standing _). c.args.cell.0 < length b.program.cells) (sym c.self.view_is) c.requires in
    ap is_some c.disk_of.ensures ∙ disk-some _ _ _ _ _ _ _ _ c.self.invariant c.args.cell inside

pub returns-in-Some : goal.returns-in-Some
returns-in-Some g c =
    let inside = subst (λ (b : Standing _). c.args.cell.0 < length b.program.cells) (sym c.self.view_is) c.requires in
    source-node _ _ _ _ _ _ _ _ c.self.invariant c.args.cell inside c.in-Some.n (sym c.first_node.ensures ∙ c.in-Some.is) _ c.self.view_is

pub returns-in-None : goal.returns-in-None
returns-in-None g c =
    let inside = subst (λ (b : Standing _). c.args.cell.0 < length b.program.cells) (sym c.self.view_is) c.requires in
    source-disk _ _ _ _ _ _ _ _ c.self.invariant c.args.cell inside (sym c.first_node.ensures ∙ c.in-None.is) c.unwrap.result (sym c.disk_of.ensures ∙ c.unwrap.ensures) _ c.self.view_is
