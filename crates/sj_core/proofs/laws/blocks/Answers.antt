use Rattle.sj_core.proofs.Blocks.{has-disk, disk-within}
use Rattle.sj_core.proofs.laws.blocks.Goals as goal

pub returns : goal.returns
returns c = record { each_has_disk = has-disk; of_machine = disk-within }
