use Rattle.sj_board.proofs.Words.{ap, arith, Array, length, most_events, None, Option, replicate, rules, ◌∙◌, ◌≡◌}
use Rattle.sj_board.proofs.MakingRun.{keeps-made}
use Rattle.sj_board.proofs.run_state.RunState.make.Goals as goal

pub invariant_of-result : goal.invariant_of-result
invariant_of-result g c =
    let p = c.args.program.value in
    let m = c.args.machine in
    let none : Option Array = None in
    let cells : c.len-cells.result ≡ length p.cells = search rules in
    let nodes : c.len-nodes.result ≡ length m.nodes = search rules in
    let spare : c.in-Ok-whole_trace.trace.spare ≡ most_events p = search rules in
    keeps-made _ _ _ _ _ p m c.requires.run c.args.disks c.requires.placed c.in-Ok-make.rows c.in-Ok.tiles.items c.in-Ok-whole_trace.trace c.in-Ok-make-2.disks c.of-opened.result.value c.in-Ok-make.ensures.ok
    (c.in-Ok.ensures ∙ ap (λ i. replicate i (replicate c.len-nodes.result none)) cells ∙ ap (λ i. replicate (length p.cells) (replicate i none)) nodes)
    c.in-Ok-whole_trace.ensures.empty (omega (arith, spare)) c.in-Ok-make-2.ensures.ok c.of-opened.ensures
