use Rattle.std.proofs.Common.{◌≡◌, ◌≢◌, false}
use Rattle.sj_engine.specs.declared.member.Stage.TheVariants.{Fresh}
use Rattle.sj_engine.specs.Member.{HasHeard, IsRowAt}
use Rattle.sj_engine.specs.Ready.{StaysItsSource}
use Rattle.sj_engine.specs.Stage.{GoesOn}
use Rattle.sj_engine.specs.Workplace.{IsSeated}
use Rattle.sj_engine.proofs.workplace.Workplace.work.Given as goal

-- the worker is at this stage
abbrev pub invariant-loop : goal.invariant-loop
invariant-loop g l = record {
  can : (goal.iterator-loop g).can_next l.iterator';
  ends : (goal.iterator-loop g).is_finite l.iterator';
  row : IsSeated l.self (IsRowAt l.self.worker l.stage) l.seat;
  heard : HasHeard l.stage l.seat.facts;
  outside : l.stage ≢ Fresh → l.seat.keeps_turn ≡ false;
  ready : StaysItsSource l.fn.ready l.ready;
  events : GoesOn l.self.worker l.fn.seat.facts l.seat.facts;
}
