use Rattle.sj_engine.proofs.Sources.{source-pass}
use Rattle.sj_engine.proofs.workplace.Workplace.deal.Goals as goal

pub put_all-requires-clause-of : goal.put_all-requires-clause-of
put_all-requires-clause-of g c = source-pass _ _ _ c.requires.ready
