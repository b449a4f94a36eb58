use Rattle.sj_machine.proofs.Words.{empty, map, take, ◌≡◌}
use Rattle.sj_machine.proofs.rows.empty_nodes.Given as goal

abbrev pub invariant-loop-size : goal.invariant-loop-size
invariant-loop-size l = l.nodes.items ≡ map (λ size. empty size l.cells) (take l.size-index l.sizes)
