use Rattle.std.specs.Vec.{vec_len}
use Rattle.sj_disk.proofs.rack.+gather.Given as goal

abbrev pub decreases-gather : goal.decreases-gather
decreases-gather g l = vec_len l.shelves.now
