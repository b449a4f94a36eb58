use Rattle.sj_lower.proofs.Words.{Active, all_closed, Cell, cell_by, is_other, List, LoweringProgress, map, Prepares, subst, sym, ◌+◌, ◌∙◌}
use Rattle.std.proofs.Common.{filter}
use Rattle.sj_meaning.specs.declared.job.Operand.{Operand}
use Rattle.sj_lower.proofs.{lower.LoweringProgress.close_operands.Goals.else-is_other_access, lower.LoweringProgress.close_operands.Goals.then-is_other_access+in_ok-close, Preparing.has-at, Preparing.is-over, Preparing.none-over, Steps.closes-operand, Steps.empty-closes, Steps.leaves-operand, Steps.others_so_far, Steps.over-closes}
use Rattle.sj_lower.proofs.lower.LoweringProgress.close_operands.Goals as goal

abbrev cells : List Active → List Operand → List Cell
cells actives os = map (cell_by actives) (filter is_other os)

pub returns-then-is_some : goal.returns-then-is_some
returns-then-is_some c = over-closes c.args.self.now c.args.line (cells c.args.self.now.lowerer.actives.items c.args.operands.now) (is-over c.args.self.now.over c.is_some.result c.is_some.ensures c.if-is_some.true)

pub returns-then-is_empty : goal.returns-then-is_empty
returns-then-is_empty c = empty-closes c.args.self.now c.args.line (cells c.args.self.now.lowerer.actives.items c.args.operands.now) (none-over c.args.self.now.over c.is_some.result c.is_some.ensures c.if-is_some.false) (c.is_empty.ensures.0 c.if-is_empty.true)

pub close-requires : goal.close-requires
close-requires c = record { at = has-at c.args.self.now _ c.args.line (all_closed c.args.self.now.workers (others_so_far c.args.self.now.lowerer.actives.items c.args.operands.now c.loop-operand.operand-index)) c.loop-operand.invariant c.requires.at }

pub loop-operand-preserved : goal.loop-operand-preserved
loop-operand-preserved c =
    let old = c.args.self.now in
    let os = c.args.operands.now in
    let i = c.loop-operand.operand-index in
    elim c.if-is_other_access.branch [
      | then-is_other_access+in_ok-close w ↦ (
          let next = closes-operand old c.loop-operand.self w.close.new.self c.args.line os i _ w.index.result.now w.placed-placed.result.first w.placed-placed.result.parts w.cell.result c.loop-operand-test.true c.requires.operands
          (sym c.is_other_access.ensures ∙ w.if-is_other_access.true) c.loop-operand.invariant w.index.ensures w.placed-placed.ensures.parts w.placed-placed.ensures.first w.cell.ensures w.in_ok-close.ensures in
          subst (λ (g : LoweringProgress). Prepares old g c.args.line (all_closed old.workers (others_so_far old.lowerer.actives.items os (i + 1)))) (sym w.self-is) next)
      | else-is_other_access w ↦ (
          let next = leaves-operand old c.loop-operand.self c.args.line os i _ c.loop-operand-test.true (sym c.is_other_access.ensures ∙ w.if-is_other_access.false) c.loop-operand.invariant in
          subst (λ (g : LoweringProgress). Prepares old g c.args.line (all_closed old.workers (others_so_far old.lowerer.actives.items os (i + 1)))) (sym w.self-is) next)
    ]
