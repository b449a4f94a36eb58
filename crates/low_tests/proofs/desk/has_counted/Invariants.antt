use Rattle.std.proofs.Common.{◌≤◌}
use Rattle.low_tests.proofs.desk.has_counted.Given as goal

abbrev pub invariant-loop-by : goal.invariant-loop-by
invariant-loop-by l = l.next ≤ l.count
