use Rattle.sj_steal.proofs.Accounts.{begins}
use Rattle.sj_steal.proofs.lane.Lane.open.Goals as goal

pub with_rule-requires : goal.with_rule-requires
with_rule-requires c = begins
