use Rattle.sj_board.proofs.Words.{ap, Program, R, rules, task_of, ◌∙◌}
use Rattle.sj_board.proofs.{Gifting.gift-given, Gifting.gift-inside, Gifting.gift-there}
use Rattle.sj_board.proofs.run_state.RunState.gift.Goals as goal

pub share-requires-clause-inside : goal.share-requires-clause-inside
share-requires-clause-inside g c = gift-inside _ _ _ _ _ _ _ _ c.self.invariant c.args.t c.args.w (search rules) c.task_at-task.result.now (c.task_at-task.ensures ∙ ap (λ (q : Program). task_of q c.args.t) c.program.ensures) (search rules) c.items.result.now c.items.ensures (record { mode = R; cell = record { 0 = 0 } }) c.index-row.result.now _ c.index-row.ensures c.node_of-n.result c.node_of-n.ensures

pub share-requires-clause-there : goal.share-requires-clause-there
share-requires-clause-there g c = gift-there _ _ _ _ _ _ _ _ c.self.invariant c.args.t c.args.w (search rules) c.task_at-task.result.now (c.task_at-task.ensures ∙ ap (λ (q : Program). task_of q c.args.t) c.program.ensures) (search rules) c.items.result.now c.items.ensures (record { mode = R; cell = record { 0 = 0 } }) c.index-row.result.now _ c.index-row.ensures c.node_of-n.result c.node_of-n.ensures

pub returns : goal.returns
returns g c = gift-given _ _ _ _ _ _ _ _ c.self.invariant c.args.t c.args.w (search rules) c.task_at-task.result.now (c.task_at-task.ensures ∙ ap (λ (q : Program). task_of q c.args.t) c.program.ensures) (search rules) c.items.result.now c.items.ensures (record { mode = R; cell = record { 0 = 0 } }) c.index-row.result.now _ c.index-row.ensures c.node_of-n.result c.node_of-n.ensures _ c.self.view_is c.in_ok-share.field-0.value c.in_ok-share.ensures
