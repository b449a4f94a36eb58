use Rattle.sj_core.proofs.Coherence.{Ends-keep_coherence}
use Rattle.sj_core.proofs.laws.ends.Goals as goal

pub returns : goal.returns
returns c = Ends-keep_coherence
