use Rattle.sj_core.proofs.Opening.{opening-coherent}
use Rattle.sj_core.proofs.laws.openings.Goals as goal

pub returns : goal.returns
returns c = λ p m. opening-coherent p m
