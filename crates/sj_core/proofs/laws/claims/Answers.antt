use Rattle.sj_core.proofs.Coherence.{Claims-keeps_coherence}
use Rattle.sj_core.proofs.laws.claims.Goals as goal

pub returns : goal.returns
returns c = Claims-keeps_coherence
