use Rattle.std.proofs.Common.{◌≡◌}
use Rattle.low_tests.proofs.steal.put_and_take.Given as goal

abbrev pub invariant-loop-t : goal.invariant-loop-t
invariant-loop-t g l = record {
  of : l.pass.shared ≡ l.shared;
  number : l.pass.number ≡ l.fn.pass.number;
}
