use Rattle.sj_machine.proofs.Words.{arith, Cell, get_or, take, ◌∙◌}
use Rattle.sj_node.proofs.Putting.{without_all-none, without_all_more}
use Rattle.sj_machine.proofs.Entries.{absent-rest, unpinned-rest}
use Rattle.sj_machine.proofs.running.remove_entries.Goals as goal

pub loop-cell-init : goal.loop-cell-init
loop-cell-init c = search (arith, without_all-none)

pub remove_entry-requires-clause-absent : goal.remove_entry-requires-clause-absent
remove_entry-requires-clause-absent c =
    let cell : Cell = get_or c.args.written.now c.loop-cell.cell-index (record { 0 = 0 }) in
    λ none. rw c.loop-cell.invariant (absent-rest (take c.loop-cell.cell-index c.args.written.now) c.args.node.now.entries cell (c.requires.marked cell ∙ none))

pub remove_entry-requires-clause-unpinned : goal.remove_entry-requires-clause-unpinned
remove_entry-requires-clause-unpinned c = rw c.loop-cell.invariant (unpinned-rest c.args.written.now c.args.node.now.entries c.loop-cell.cell-index (record { 0 = 0 }) c.loop-cell-test.true c.requires.unpinned)

pub loop-cell-preserved : goal.loop-cell-preserved
loop-cell-preserved c = search (arith, without_all_more)
