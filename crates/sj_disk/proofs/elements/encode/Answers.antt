use Rattle.sj_disk.specs.Block.{element_bytes, word}
use Rattle.sj_disk.proofs.elements.encode.Goals as goal

pub returns : goal.returns
unfolding element_bytes word
returns c = c.write_i64_into.ensures
