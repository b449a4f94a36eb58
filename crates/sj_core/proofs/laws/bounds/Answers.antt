use Rattle.sj_core.proofs.Bound.{legal-within_bound}
use Rattle.sj_core.proofs.laws.bounds.Goals as goal

pub returns : goal.returns
returns c = λ p m trace proper machine legal. legal-within_bound p m proper machine trace legal
