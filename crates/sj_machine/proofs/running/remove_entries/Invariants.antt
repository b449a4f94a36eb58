use Rattle.sj_machine.proofs.Words.{take, with_entries, without_all, ◌≡◌}
use Rattle.sj_machine.proofs.running.remove_entries.Given as goal

abbrev pub invariant-loop-cell : goal.invariant-loop-cell
invariant-loop-cell l = l.node ≡ with_entries l.fn.node (without_all (take l.cell-index l.written) l.fn.node.entries)
