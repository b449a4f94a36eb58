use Rattle.sj_core.proofs.Placing.{rows-changed}
use Rattle.sj_core.proofs.laws.rows.Goals as goal

pub returns : goal.returns
returns c = rows-changed
