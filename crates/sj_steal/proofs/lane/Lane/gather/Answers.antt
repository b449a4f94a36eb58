use Rattle.std.proofs.Common.{ap, arith}
use Rattle.sj_steal.specs.Facts.{StakeFacts}
use Rattle.sj_steal.proofs.Accounts.{merges}
use Rattle.sj_steal.proofs.lane.Lane.gather.Goals as goal

pub absorb-requires-clause-rule : goal.absorb-requires-clause-rule
absorb-requires-clause-rule c = merges _ c.stake.inside.pass.me.view.client _ c.other.inside.pass.me.view.client (omega (arith, c.requires.parts, ap (λ (s : StakeFacts). s.account.parts) c.stake.view_is))
