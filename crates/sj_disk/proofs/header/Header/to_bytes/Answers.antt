use Rattle.sj_disk.specs.Block.{header_bytes, word}
use Rattle.sj_disk.proofs.header.Header.to_bytes.Goals as goal

pub returns : goal.returns
unfolding header_bytes word
returns c = c.write_u64_into.ensures
