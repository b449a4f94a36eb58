use Rattle.sj_apps.proofs.Walking.{walks-print}
use Rattle.sj_apps.proofs.laws.walks.Goals as goal

pub returns : goal.returns
returns c = walks-print
