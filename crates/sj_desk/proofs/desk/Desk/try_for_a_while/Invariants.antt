use Rattle.std.proofs.Common.{◌≡◌, ◌≤◌}
use Rattle.sj_desk.specs.Seats.{retried}
use Rattle.sj_desk.proofs.desk.Desk.try_for_a_while.Given as goal

-- each try that failed is counted, and nothing else has changed
abbrev pub invariant-loop-failed : goal.invariant-loop-failed
invariant-loop-failed g l = record {
  same : l.seat ≡ retried l.fn.seat l.seat.refusals;
  more : l.fn.seat.refusals ≤ l.seat.refusals;
}
