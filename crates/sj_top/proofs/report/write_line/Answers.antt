use Rattle.sj_top.proofs.Streams.{line_from}
use Rattle.sj_top.proofs.report.write_line.Goals as goal

pub returns : goal.returns
returns g c = line_from c.write_text.result _ _ _ c.write_text.ensures.ok c.write_text.ensures.err c.write_text.ensures.counts
