use Rattle.sj_machine.proofs.Words.{take, unpinned_each, with_entries, ◌≡◌}
use Rattle.sj_machine.proofs.ending.unpin_each.Given as goal

abbrev pub invariant-loop-cell : goal.invariant-loop-cell
invariant-loop-cell l = l.node ≡ with_entries l.fn.node (unpinned_each (take l.cell-index l.pins) l.fn.node.entries)
