use Rattle.sj_lower.proofs.Words.{Prepares}
use Rattle.sj_lower.proofs.Steps.{opened_so_far}
use Rattle.sj_lower.proofs.lower.LoweringProgress.open_operands.Given as goal

-- the phases of the operands so far are open
abbrev pub invariant-loop-operand : goal.invariant-loop-operand
invariant-loop-operand l = Prepares l.initial.self l.self l.fn.line (opened_so_far l.initial.self l.fn.line l.operands l.operand-index)
