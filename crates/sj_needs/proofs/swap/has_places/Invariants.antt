use Rattle.std.proofs.Common.{◌≡◌, length, drop}
use Rattle.std.specs.Prelude.{is_some}
use Rattle.sj_core.specs.Needs.{place, place_after}
use Rattle.sj_needs.proofs.swap.has_places.Given as goal

abbrev pub invariant-loop-cell : goal.invariant-loop-cell
invariant-loop-cell l = (is_some (place_after l.disks l.taken.items (drop l.cell-index l.cell-items)) ≡ is_some (place l.program l.disks)) × (length l.taken.items ≡ length l.disks)
