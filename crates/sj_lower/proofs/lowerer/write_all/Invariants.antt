use Rattle.sj_lower.proofs.Words.{actives_after_writes, drop, ◌≡◌}
use Rattle.sj_lower.proofs.Tracking.{SamePlans}
use Rattle.sj_lower.proofs.lowerer.write_all.Given as goal

-- the plans are what they were, and the further operands do the rest
abbrev pub invariant-loop-operand : goal.invariant-loop-operand
invariant-loop-operand l = record {
  same : SamePlans l.initial.actives.items l.actives.items;
  rest : actives_after_writes (drop l.operand-index l.operands) l.actives.items ≡ actives_after_writes l.operands l.initial.actives.items;
}
