use Rattle.std.proofs.Common.{ap, arith}
use Rattle.sj_steal.specs.Facts.{StakeFacts}
use Rattle.sj_steal.proofs.Accounts.{forks}
use Rattle.sj_steal.proofs.lane.Lane.deal.Goals as goal

pub another-pass-requires-clause-rule : goal.another-pass-requires-clause-rule
another-pass-requires-clause-rule c = forks _ c.stake.inside.pass.me.view.client (omega (arith, c.requires.parts, ap (λ (s : StakeFacts). s.account.parts) c.stake.view_is))
