use Rattle.std.specs.Vec.{vec_len}
use Rattle.sj_disk.proofs.rack.+fill.Given as goal

abbrev pub decreases-fill : goal.decreases-fill
decreases-fill g l = vec_len l.disks.now
