use Rattle.std.proofs.Common.{◌≡◌}
use Rattle.sj_desk.specs.Seats.{IsWaiting}
use Rattle.low_tests.proofs.desk.sleep.ring_all.Given as goal

abbrev pub invariant-loop-bell : goal.invariant-loop-bell
invariant-loop-bell l = record {
  waits : IsWaiting l.desk l.seat;
  number : l.seat.number ≡ l.fn.seat.number;
}
