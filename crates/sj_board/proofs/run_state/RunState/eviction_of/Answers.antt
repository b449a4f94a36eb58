use Rattle.sj_board.proofs.Words.{ap, is_leaving, is_some, mark, Standing, state, subst, sym, true, ◌∙◌, ◌≡◌}
use Rattle.sj_board.proofs.Answering.{disk-some, evict-here, evict-out, leaving-inside}
use Rattle.sj_board.proofs.run_state.RunState.eviction_of.Goals as goal

pub unwrap-requires : goal.unwrap-requires
unwrap-requires g c =
    let leaving = subst (λ (b : Standing _). is_leaving (mark (state b) c.args.cell c.args.n) ≡ true) (sym c.self.view_is) c.requires in
    let inside = leaving-inside _ _ _ _ _ _ _ _ c.self.invariant c.args.cell c.args.n leaving in
    ap is_some c.disk_of.ensures ∙ disk-some _ _ _ _ _ _ _ _ c.self.invariant c.args.cell inside

pub returns-then-not-is_elsewhere : goal.returns-then-not-is_elsewhere
returns-then-not-is_elsewhere g c =
    let leaving = subst (λ (b : Standing _). is_leaving (mark (state b) c.args.cell c.args.n) ≡ true) (sym c.self.view_is) c.requires in
    let inside = leaving-inside _ _ _ _ _ _ _ _ c.self.invariant c.args.cell c.args.n leaving in
    evict-out _ _ _ _ _ _ _ _ c.self.invariant c.args.cell inside c.args.n _ c.self.view_is (sym c.is_elsewhere.ensures ∙ c.if-not-is_elsewhere.true) c.unwrap.result (sym c.disk_of.ensures ∙ c.unwrap.ensures) c.writes.result c.writes.ensures

pub returns-then-is_read : goal.returns-then-is_read
returns-then-is_read g c =
    let leaving = subst (λ (b : Standing _). is_leaving (mark (state b) c.args.cell c.args.n) ≡ true) (sym c.self.view_is) c.requires in
    let inside = leaving-inside _ _ _ _ _ _ _ _ c.self.invariant c.args.cell c.args.n leaving in
    evict-here _ _ _ _ _ _ _ _ c.self.invariant c.args.cell inside c.args.n _ c.self.view_is (sym c.is_elsewhere.ensures ∙ c.if-not-is_elsewhere.false) _ (sym c.is_read.ensures ∙ c.if-is_read.true)

pub returns-else-is_read : goal.returns-else-is_read
returns-else-is_read g c =
    let leaving = subst (λ (b : Standing _). is_leaving (mark (state b) c.args.cell c.args.n) ≡ true) (sym c.self.view_is) c.requires in
    let inside = leaving-inside _ _ _ _ _ _ _ _ c.self.invariant c.args.cell c.args.n leaving in
    evict-here _ _ _ _ _ _ _ _ c.self.invariant c.args.cell inside c.args.n _ c.self.view_is (sym c.is_elsewhere.ensures ∙ c.if-not-is_elsewhere.false) _ (sym c.is_read.ensures ∙ c.if-is_read.false)
