use Rattle.sj_ready.proofs.Bounding.{application-within}
use Rattle.sj_ready.proofs.laws.applications_are_within_limits.Goals as goal

pub returns : goal.returns
returns c = application-within
