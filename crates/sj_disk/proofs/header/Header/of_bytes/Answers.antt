use Rattle.std.proofs.Common.{rules}
use Rattle.sj_disk.specs.Block.{header_bytes, word}
use Rattle.sj_disk.proofs.Bytes.{three_words}
use Rattle.sj_disk.proofs.header.Header.of_bytes.Goals as goal

pub returns : goal.returns
unfolding header_bytes
returns c = three_words c.args.bytes.now (word c.word_at.result) (word c.word_at-2.result) (word c.word_at-3.result) (search rules) c.word_at.ensures c.word_at-2.ensures c.word_at-3.ensures
