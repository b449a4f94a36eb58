use Rattle.std.proofs.Common.{◌≡◌, ◌<◌, ◌^◌, ℕ, get_or, map, take, Some}
use Rattle.std.specs.Prelude.{slice_get}
use Rattle.sj_edge.specs.Held.{Fills}
use Rattle.sj_disk.proofs.disk_set.measured.Given as goal

abbrev pub invariant-loop-disk : goal.invariant-loop-disk
invariant-loop-disk g l =
    (l.sizes.items ≡ map g.D.Disk.size (take l.disk-index l.disks))
    × ((k : ℕ) → get_or l.sizes.items k 0 < 2 ^ 64)
    × ((k : ℕ) (x : g.row.D.Denot) → k < l.disk-index → slice_get l.disks k ≡ Some x → Fills (g.D.Disk.held x) (g.D.Disk.size x))
