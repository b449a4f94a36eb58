use Rattle.sj_apps.proofs.Walking.{paths-print}
use Rattle.sj_apps.proofs.laws.ring_walks.Goals as goal

pub returns : goal.returns
returns c = paths-print
