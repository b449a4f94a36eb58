use Rattle.sj_lower.proofs.Words.{all_closed, cells_from, Prepares}
use Rattle.sj_lower.proofs.Children.{first_children}
use Rattle.sj_lower.proofs.lower.LoweringProgress.close_root.Given as goal

-- the phases of the children so far are closed
abbrev pub invariant-loop-k : goal.invariant-loop-k
invariant-loop-k l = Prepares l.initial.self l.self l.fn.line (all_closed l.initial.self.workers (first_children (cells_from l.placed.first l.placed.parts) l.placed.parts l.k))
