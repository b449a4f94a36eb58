use Rattle.sj_check.proofs.Words.{drop, length, map, ◌≡◌}
use Rattle.sj_check.proofs.BlockDisks.{behind, disks_after}
use Rattle.sj_check.proofs.homes.homes_of.Given as goal

abbrev pub invariant-loop-cell : goal.invariant-loop-cell
invariant-loop-cell l = (behind l.homes.items (disks_after l.disks l.taken.items (drop l.cell-index l.cell-items)) ≡ disks_after l.disks (map (λ n. 0) l.disks) l.program.cells) × (length l.taken.items ≡ length l.disks)
