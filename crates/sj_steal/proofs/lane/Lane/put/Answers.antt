use Rattle.std.proofs.Common.{ap, arith}
use Rattle.sj_steal.specs.Facts.{StakeFacts}
use Rattle.sj_steal.proofs.Accounts.{puts}
use Rattle.sj_steal.proofs.lane.Lane.put.Goals as goal

pub push_as-requires-clause-rule : goal.push_as-requires-clause-rule
push_as-requires-clause-rule g c = λ n. puts n _ c.stake.inside.pass.me.view.client _ (omega (arith, c.requires.parts, ap (λ (s : StakeFacts). s.account.parts) c.stake.view_is))
