use Rattle.std.proofs.Common.{◌≡◌}
use Rattle.sj_engine.specs.Member.{IsMember}
use Rattle.sj_engine.proofs.site.Site.see_to_the_end.Given as goal

-- the worker is one of the desk
abbrev pub invariant-loop : goal.invariant-loop
invariant-loop g l = record {
  can : (goal.iterator-loop g).can_next l.iterator';
  ends : (goal.iterator-loop g).is_finite l.iterator';
  member : IsMember l.self.desk.now l.self.queues.now l.member;
  number : l.member.seat.facts.number ≡ l.fn.member.seat.facts.number;
}
