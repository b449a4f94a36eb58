use Rattle.sj_top.proofs.Streams.{line_from}
use Rattle.sj_top.proofs.report.write_line_of.Goals as goal

pub returns : goal.returns
returns g c = line_from c.write_pieces.result _ _ _ c.write_pieces.ensures.ok c.write_pieces.ensures.err c.write_pieces.ensures.counts
