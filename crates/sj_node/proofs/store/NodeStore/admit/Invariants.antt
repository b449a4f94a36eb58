use Rattle.sj_node.proofs.Admitting.{IsTurn}
use Rattle.sj_node.proofs.store.NodeStore.admit.Given as goal

abbrev pub invariant-loop-victim : goal.invariant-loop-victim
invariant-loop-victim l = IsTurn l.fn.self l.victims l.cells l.bytes l.victim-index l.self-inside.entries l.self-inside.size l.self-inside.scratch l.self-inside.filled
