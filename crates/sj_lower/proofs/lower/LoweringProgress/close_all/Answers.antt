use Rattle.sj_lower.proofs.Words.{all_closed, arith, refl, ◌+◌}
use Rattle.sj_lower.proofs.{Preparing.has-at, Steps.cell-more, Steps.closes-more, Steps.finishes, Steps.first_cells}
use Rattle.sj_lower.proofs.lower.LoweringProgress.close_all.Goals as goal

pub close-requires : goal.close-requires
close-requires c = record { at = has-at c.args.self.now c.loop-cell.self c.args.line (all_closed c.args.self.now.workers (first_cells c.loop-cell.cell)) c.loop-cell.invariant c.requires.at }

pub loop-cell-preserved : goal.loop-cell-preserved
loop-cell-preserved c = closes-more c.args.self.now c.loop-cell.self c.close.new.self c.args.line (first_cells c.loop-cell.cell) (first_cells (c.loop-cell.cell + 1)) _ (cell-more c.loop-cell.cell _ refl) c.loop-cell.invariant c.in_ok-close.ensures

pub returns : goal.returns
returns c = finishes c.args.self.now c.loop-cell.self c.args.line c.loop-cell.cell (omega (arith, c.loop-cell.auto.cell-end, c.loop-cell-test.false)) c.loop-cell.invariant
