use Rattle.std.proofs.Common.{ℕ, ℤ, ◌+◌, ◌-◌, ◌%◌, ◌^◌, ◌-ℤ◌}
use Rattle.sj_minplus.proofs.Vectors.{at_wrapped, lanes_wrapped, wraps_difference}
use Rattle.sj_minplus.proofs.lanes.differences.Goals as goal

pub returns-clause-lanes : goal.returns-clause-lanes
returns-clause-lanes c = lanes_wrapped (λ (a b : ℕ). (a + (2 ^ 64 - b)) % 2 ^ 64) (λ (a b : ℤ). a -ℤ b) wraps_difference c.args.x c.args.y c.requires.x c.requires.y

pub returns-clause-each : goal.returns-clause-each
returns-clause-each c = at_wrapped (λ (a b : ℕ). (a + (2 ^ 64 - b)) % 2 ^ 64) (λ (a b : ℤ). a -ℤ b) wraps_difference c.args.x c.args.y c.requires.x c.requires.y
