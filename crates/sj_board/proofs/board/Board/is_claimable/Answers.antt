use Rattle.sj_board.proofs.Words.{BoardState, IsToBeTaken, state, subst, sym, ◌∙◌}
use Rattle.sj_board.proofs.Stepping.{ready-counted}
use Rattle.sj_board.proofs.board.Board.is_claimable.Goals as goal

pub returns-then-is_ready : goal.returns-then-is_ready
returns-then-is_ready g c =
    let run = c.self.inside.run in
    let counted = ready-counted run.program (state run) c.self.inside.deps c.self.invariant.board.counts c.args.t.0 in
    let same = c.self.view_is in (
      λ waits. subst (λ (b : BoardState _). IsToBeTaken b.run.program (state b.run) c.args.t) same (record { waiting = sym c.progress.ensures ∙ c.waits.ensures.0 waits; ready = counted.0 (c.is_ready.ensures.0 c.if-is_ready.true) }),
      λ is. c.waits.ensures.1 (c.progress.ensures ∙ (subst (λ (b : BoardState _). IsToBeTaken b.run.program (state b.run) c.args.t) (sym same) is).waiting),
    )

pub returns-else-is_ready : goal.returns-else-is_ready
returns-else-is_ready g c =
    let run = c.self.inside.run in
    let counted = ready-counted run.program (state run) c.self.inside.deps c.self.invariant.board.counts c.args.t.0 in (
      λ ready. absurd (let no = c.if-is_ready.false in cc),
      λ is. c.is_ready.ensures.1 (counted.1 (subst (λ (b : BoardState _). IsToBeTaken b.run.program (state b.run) c.args.t) (sym c.self.view_is) is).ready),
    )
