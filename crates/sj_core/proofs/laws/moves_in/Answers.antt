use Rattle.sj_core.proofs.Moving.{Moves_in-keep_coherence}
use Rattle.sj_core.proofs.Words.{AtNode, mover_of}
use Rattle.sj_core.proofs.laws.moves_in.Goals as goal

pub returns : goal.returns
returns c = λ p m s c from n h move. Moves_in-keep_coherence p m s h c from n (mover_of s c from (AtNode n)) move
