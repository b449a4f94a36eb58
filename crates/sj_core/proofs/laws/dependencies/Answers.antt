use Rattle.sj_core.proofs.Dependencies.{Proper-dependencies}
use Rattle.sj_core.proofs.laws.dependencies.Goals as goal

pub returns : goal.returns
returns c = λ p proper. Proper-dependencies p proper
