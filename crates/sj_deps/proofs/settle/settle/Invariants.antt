use Rattle.std.proofs.Common.{◌≤◌, drop, vec_capacity}
use Rattle.sj_deps.specs.Counts.{CanSettle, Settles, ListsReady}
use Rattle.sj_deps.proofs.settle.settle.Given as goal

abbrev pub invariant-loop-cell : goal.invariant-loop-cell
invariant-loop-cell l =
    CanSettle l.chains.items l.waits.items (drop l.cell-index l.cells) × Settles l.initial.chains.items l.chains.items l.cells (drop l.cell-index l.cells) × ListsReady l.initial.waits.items l.waits.items l.initial.opened.items l.opened.items × (vec_capacity l.initial.opened ≤ vec_capacity l.opened)
