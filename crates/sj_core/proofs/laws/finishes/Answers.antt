use Rattle.sj_core.proofs.States.{finished-once}
use Rattle.sj_core.proofs.laws.finishes.Goals as goal

pub returns : goal.returns
returns c = finished-once
