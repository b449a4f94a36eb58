use Rattle.std.proofs.Common.{ℕ, ℤ, ◌+◌, ◌%◌, ◌^◌, ◌+ℤ◌}
use Rattle.sj_minplus.proofs.Vectors.{at_wrapped, lanes_wrapped, wraps_sum}
use Rattle.sj_minplus.proofs.lanes.sums.Goals as goal

pub returns-clause-lanes : goal.returns-clause-lanes
returns-clause-lanes c = lanes_wrapped (λ (a b : ℕ). (a + b) % 2 ^ 64) (λ (a b : ℤ). a +ℤ b) wraps_sum c.args.x c.args.y c.requires.x c.requires.y

pub returns-clause-each : goal.returns-clause-each
returns-clause-each c = at_wrapped (λ (a b : ℕ). (a + b) % 2 ^ 64) (λ (a b : ℤ). a +ℤ b) wraps_sum c.args.x c.args.y c.requires.x c.requires.y
