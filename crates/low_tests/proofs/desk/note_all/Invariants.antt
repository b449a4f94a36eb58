use Rattle.std.proofs.Common.{◌≡◌}
use Rattle.sj_desk.specs.Seats.{IsWaiting}
use Rattle.low_tests.proofs.desk.note_all.Given as goal

abbrev pub invariant-loop-entry : goal.invariant-loop-entry
invariant-loop-entry g l = record {
  waits : IsWaiting l.desk l.seat;
  number : l.seat.number ≡ l.fn.seat.number;
}
