use Rattle.sj_node.proofs.Putting.{total-entry_to_front}
use Rattle.sj_node.proofs.store.NodeStore.touch.Goals as goal

pub invariant_of-self : goal.invariant_of-self
invariant_of-self c = rw (c.touch.ensures, total-entry_to_front c.args.cell c.self.inside.entries.order) c.self.invariant
