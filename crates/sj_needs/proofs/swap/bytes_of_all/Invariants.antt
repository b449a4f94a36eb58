use Rattle.std.proofs.Common.{◌≡◌, ◌≤◌, ◌^◌, ◌*◌, sum, take}
use Rattle.sj_needs.proofs.swap.bytes_of_all.Given as goal

abbrev pub invariant-loop-disk : goal.invariant-loop-disk
invariant-loop-disk l = (l.all ≡ sum (take l.disk-index l.disks)) × (l.all ≤ l.disk-index * 2 ^ 40)
