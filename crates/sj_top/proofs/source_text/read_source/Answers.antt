use Rattle.sj_top.specs.Device.{seen}
use Rattle.sj_top.proofs.ReadingWhole.{read-by}
use Rattle.sj_top.proofs.source_text.read_source.Goals as goal

pub returns-clause-read : goal.returns-clause-read
returns-clause-read g c = read-by c.read_pieces.result (seen g.S.Source.left g.S.Source.faults c.args.source.now) (seen g.S.Source.left g.S.Source.faults c.read_pieces.new.source) c.read_pieces.ensures.bound c.read_pieces.ensures.taken c.read_pieces.ensures.end c.read_pieces.ensures.rises_by_one
