use Rattle.std.proofs.Common.{ap, arith}
use Rattle.sj_steal.specs.Facts.{StakeFacts}
use Rattle.sj_steal.proofs.Accounts.{takes, knows}
use Rattle.sj_steal.proofs.Passes.{none_known}
use Rattle.sj_steal.proofs.lane.Lane.take.Goals as goal

pub pop_as-requires-clause-rule : goal.pop_as-requires-clause-rule
pop_as-requires-clause-rule g c = let v = c.stake.inside.pass.me.view.client in (takes _ v (omega (arith, c.requires.parts, ap (λ (s : StakeFacts). s.account.parts) c.stake.view_is)), knows _ v)

pub returns-clause-empty : goal.returns-clause-empty
returns-clause-empty g c = none_known c.pop_as.result _ _ _ _ c.pop_as.ensures.rule (ap (λ (s : StakeFacts). s.account) c.stake.view_is)
