use Rattle.sj_board.proofs.Words.{AreReadyBelow, List, subst, sym, Task, ◌+◌, ◌∙◌}
use Rattle.std.proofs.lemmas.Bool.{false≢true}
use Rattle.sj_board.proofs.Prepared.{ready-more, ready-past}
use Rattle.sj_board.proofs.preparing.add_if_ready.Goals as goal

pub returns-in_ok-push : goal.returns-in_ok-push
returns-in_ok-push c = subst (λ (ts : List Task). AreReadyBelow c.args.deps.now.program c.args.deps.now.done (c.args.t.0 + 1) ts) (sym c.in_ok-push.ensures.items) (ready-more _ _ c.args.t.0 _ c.requires (c.is_ready.ensures.0 c.if-is_ready.true))

pub returns-else-is_ready : goal.returns-else-is_ready
returns-else-is_ready c = ready-past _ _ c.args.t.0 _ c.requires (λ r. false≢true (sym c.if-is_ready.false ∙ c.is_ready.ensures.1 r))
