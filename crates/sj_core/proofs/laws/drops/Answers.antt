use Rattle.sj_core.proofs.Moving.{Drops-keeps_coherence}
use Rattle.sj_core.proofs.laws.drops.Goals as goal

pub returns : goal.returns
returns c = λ p m s c n h drop. Drops-keeps_coherence p m s h c n drop
