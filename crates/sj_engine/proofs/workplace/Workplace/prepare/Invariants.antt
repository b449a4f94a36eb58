use Rattle.sj_engine.specs.Stage.{GoesOn, HasClaimedRow}
use Rattle.sj_engine.specs.Workplace.{IsSeated}
use Rattle.sj_engine.proofs.workplace.Workplace.prepare.Given as goal

-- the worker still has its claim
abbrev pub invariant-loop : goal.invariant-loop
invariant-loop g l = record {
  can : (goal.iterator-loop g).can_next l.iterator';
  ends : (goal.iterator-loop g).is_finite l.iterator';
  row : IsSeated l.self (HasClaimedRow l.self.worker l.t) l.seat;
  events : GoesOn l.self.worker l.fn.seat.facts l.seat.facts;
}
