use Rattle.sj_lower.proofs.Words.{all_closed, Prepares}
use Rattle.sj_lower.proofs.Steps.{first_cells}
use Rattle.sj_lower.proofs.lower.LoweringProgress.close_all.Given as goal

-- the phases of the cells so far are closed
abbrev pub invariant-loop-cell : goal.invariant-loop-cell
invariant-loop-cell l = Prepares l.initial.self l.self l.fn.line (all_closed l.initial.self.workers (first_cells l.cell))
