use Rattle.std.proofs.Common.{◌≡◌}
use Rattle.sj_desk.proofs.desk.Desk.rest.Given as goal

-- as long as the bell is silent, nothing of the seat has changed
abbrev pub invariant-loop : goal.invariant-loop
invariant-loop g l = record {
  can : (goal.iterator-loop g).can_next l.iterator';
  ends : (goal.iterator-loop g).is_finite l.iterator';
  same : l.seat ≡ l.fn.seat;
}
