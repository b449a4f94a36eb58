use Rattle.std.proofs.lemmas.Bool.{false≢true}
use Rattle.sj_core.proofs.Words.{AtNode, Coherent, IsKeptByMovesOut, mover_of, OnDisk}
use Rattle.sj_core.proofs.Moving.{Moves_out-keep_coherence}
use Rattle.sj_core.proofs.laws.moves_out.Goals as goal

keep : IsKeptByMovesOut Coherent
keep p m s c (AtNode k) d h move = Moves_out-keep_coherence p m s h c k d (mover_of s c (AtNode k) (OnDisk d)) move
keep p m s c (OnDisk e) d h never = absurd (false≢true never)

pub returns : goal.returns
returns c = keep
