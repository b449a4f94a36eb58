use Rattle.std.proofs.Common.{◌≡◌, ◌≤◌, ◌^◌, ◌*◌, sum_by, take}
use Rattle.sj_core.specs.Needs.{cell_block_bytes}
use Rattle.sj_needs.proofs.swap.swap_need.Given as goal

abbrev pub invariant-loop-cell : goal.invariant-loop-cell
invariant-loop-cell l = (l.need ≡ sum_by cell_block_bytes (take l.cell-index l.cell-items)) × (l.need ≤ l.cell-index * 2 ^ 28)
