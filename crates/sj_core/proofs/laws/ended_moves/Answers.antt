use Rattle.sj_core.proofs.Moving.{Ended_moves-keep_coherence}
use Rattle.sj_core.proofs.Words.{mover_of}
use Rattle.sj_core.proofs.laws.ended_moves.Goals as goal

pub returns : goal.returns
returns c = λ p m s c from to h moved. Ended_moves-keep_coherence p m s h c from to (mover_of s c from to) moved
