use Rattle.std.proofs.Common.{◌≡◌, ◌≤◌}
use Rattle.sj_desk.specs.Seats.{retried}
use Rattle.sj_desk.proofs.desk.Desk.wait_for.Given as goal

-- each try that failed is counted, and nothing else has changed
abbrev pub invariant-loop : goal.invariant-loop
invariant-loop g l = record {
  can : (goal.iterator-loop g).can_next l.iterator';
  ends : (goal.iterator-loop g).is_finite l.iterator';
  same : l.seat ≡ retried l.fn.seat l.seat.refusals;
  more : l.fn.seat.refusals ≤ l.seat.refusals;
}
