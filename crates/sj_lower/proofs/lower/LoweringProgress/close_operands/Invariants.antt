use Rattle.sj_lower.proofs.Words.{all_closed, Prepares}
use Rattle.sj_lower.proofs.Steps.{others_so_far}
use Rattle.sj_lower.proofs.lower.LoweringProgress.close_operands.Given as goal

-- the phases of the operands so far are closed
abbrev pub invariant-loop-operand : goal.invariant-loop-operand
invariant-loop-operand l = Prepares l.initial.self l.self l.fn.line (all_closed l.initial.self.workers (others_so_far l.initial.self.lowerer.actives.items l.operands l.operand-index))
