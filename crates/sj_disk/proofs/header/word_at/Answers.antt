use Rattle.std.proofs.Common.{◌∙◌, ap}
use Rattle.sj_edge.proofs.Ranges.{length-slice_range}
use Rattle.sj_disk.specs.Block.{word}
use Rattle.sj_disk.proofs.Bytes.{word-little, fits-range}
use Rattle.sj_disk.proofs.header.word_at.Goals as goal

pub returns : goal.returns
returns c = ap word c.read_u64.ensures ∙ word-little _ (length-slice_range c.args.bytes.now c.args.at 8 c.requires) (fits-range c.args.bytes.now c.args.at 8 c.type_inv.bytes)
