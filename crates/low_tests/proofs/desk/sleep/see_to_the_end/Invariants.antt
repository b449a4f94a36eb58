use Rattle.std.proofs.Common.{◌≡◌}
use Rattle.sj_desk.specs.Seats.{IsWaiting}
use Rattle.low_tests.proofs.desk.sleep.see_to_the_end.Given as goal

abbrev pub invariant-loop : goal.invariant-loop
invariant-loop g l = record {
  can : (goal.iterator-loop g).can_next l.iterator';
  ends : (goal.iterator-loop g).is_finite l.iterator';
  waits : IsWaiting l.desk l.seat;
  number : l.seat.number ≡ l.fn.seat.number;
}
