use Rattle.sj_core.proofs.Coherence.{Runs-keeps_coherence}
use Rattle.sj_core.proofs.laws.runs.Goals as goal

pub returns : goal.returns
returns c = Runs-keeps_coherence
