use Rattle.sj_lower.proofs.Words.{LoweringProgress, Prepares, subst, sym, ◌+◌, ◌∙◌}
use Rattle.sj_lower.proofs.{lower.LoweringProgress.open_operands.Goals.else-is_contribution, lower.LoweringProgress.open_operands.Goals.then-is_contribution+in_ok-open_for, Preparing.has-at, Steps.handed-on, Steps.opened_so_far, Steps.opens-full, Steps.opens-left, Steps.opens-next}
use Rattle.sj_lower.proofs.lower.LoweringProgress.open_operands.Goals as goal

pub open_for-requires-clause-at : goal.open_for-requires-clause-at
open_for-requires-clause-at c = has-at c.args.self.now c.loop-operand.self c.args.line (opened_so_far c.args.self.now c.args.line c.args.operands.now c.loop-operand.operand-index) c.loop-operand.invariant c.requires.at

pub returns-in_err-open_for-clause-full : goal.returns-in_err-open_for-clause-full
returns-in_err-open_for-clause-full c =
    let old = c.args.self.now in
    let os = c.args.operands.now in
    let e = c.in_err-open_for.field-0.0 in
    handed-on c.from_residual.result e _ c.from_residual.ensures.1
    (opens-full old c.loop-operand.self c.args.line os c.loop-operand.operand-index _ e c.loop-operand-test.true (sym c.is_contribution.ensures ∙ c.if-is_contribution.true) c.loop-operand.invariant c.in_err-open_for.ensures.full)

pub loop-operand-preserved : goal.loop-operand-preserved
loop-operand-preserved c =
    let old = c.args.self.now in
    let os = c.args.operands.now in
    let i = c.loop-operand.operand-index in
    elim c.if-is_contribution.branch [
      | then-is_contribution+in_ok-open_for w ↦ (
          let next = opens-next old c.loop-operand.self w.open_for.new.self c.args.line os i _ c.loop-operand-test.true (sym c.is_contribution.ensures ∙ w.if-is_contribution.true) c.loop-operand.invariant w.in_ok-open_for.ensures.opens in
          subst (λ (g : LoweringProgress). Prepares old g c.args.line (opened_so_far old c.args.line os (i + 1))) (sym w.self-is) next)
      | else-is_contribution w ↦ (
          let next = opens-left old c.loop-operand.self c.args.line os i _ c.loop-operand-test.true (sym c.is_contribution.ensures ∙ w.if-is_contribution.false) c.loop-operand.invariant in
          subst (λ (g : LoweringProgress). Prepares old g c.args.line (opened_so_far old c.args.line os (i + 1))) (sym w.self-is) next)
    ]
