use Rattle.std.proofs.Common.{◌+◌, ◌∙◌}
use Rattle.sj_node.specs.Entry.{entry_to_front}
use Rattle.sj_node.proofs.Putting.{total-repinned, total-entry_to_front}
use Rattle.sj_node.proofs.store.NodeStore.touch_and_pin.Goals as goal

pub invariant_of-self : goal.invariant_of-self
invariant_of-self c =
    let order = c.self.inside.entries.order in
    rw (c.touch_and_pin.ensures, total-repinned (λ n. n + 1) c.args.cell (entry_to_front c.args.cell order) ∙ total-entry_to_front c.args.cell order) c.self.invariant
