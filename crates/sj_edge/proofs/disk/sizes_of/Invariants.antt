use Rattle.std.proofs.Common.{◌≡◌, map, take}
use Rattle.sj_edge.proofs.disk.sizes_of.Given as goal

abbrev pub invariant-loop-disk : goal.invariant-loop-disk
invariant-loop-disk g l = l.sizes.items ≡ map g.D.Disk.size (take l.disk-index l.disks)
