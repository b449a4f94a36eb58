use Rattle.sj_apps.proofs.Shortening.{bounded-stay}
use Rattle.sj_apps.proofs.laws.short_walks.Goals as goal

pub returns : goal.returns
returns c = bounded-stay
