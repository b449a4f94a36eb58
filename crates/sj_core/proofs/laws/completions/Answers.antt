use Rattle.sj_core.proofs.Given.{complete-final}
use Rattle.sj_core.proofs.laws.completions.Goals as goal

pub returns : goal.returns
returns c = λ eq has p m s A h holds lawful complete. complete-final p m s h complete eq A holds has lawful
