use Rattle.std.proofs.lemmas.Result.{IfErr-weaker, on_ok_weaker}
use Rattle.sj_lower.proofs.Words.{all_closed, closing_by}
use Rattle.sj_lower.proofs.{Preparing.has-at, Steps.full-task, Steps.prepares-other, Steps.prepares-task}
use Rattle.sj_lower.proofs.lower.LoweringProgress.prepare.Goals as goal

pub open_operands-requires-clause-at : goal.open_operands-requires-clause-at
open_operands-requires-clause-at c =
    let g = c.args.self.now in
    has-at g c.close_by.new.self c.args.line (all_closed g.workers (closing_by g.lowerer.actives.items c.args.act.now)) c.in_ok-close_by.ensures c.requires.at

pub returns-in_default : goal.returns-in_default
returns-in_default c = record { prepares = prepares-other c.args.self.now c.close_by.new.self c.args.line c.args.act.now c.in_default.not-Task c.in_ok-close_by.ensures; full = tt }

pub returns-clause-prepares : goal.returns-clause-prepares
returns-clause-prepares c = on_ok_weaker c.open_operands.result (prepares-task c.args.self.now c.close_by.new.self c.open_operands.new.self c.args.line c.args.act.now c.in-Task.task c.items.result.now c.in-Task.is c.items.ensures c.in_ok-close_by.ensures) c.open_operands.ensures.opens

pub returns-clause-full : goal.returns-clause-full
returns-clause-full c = IfErr-weaker c.open_operands.result _ _ (λ e. full-task c.args.self.now c.close_by.new.self c.args.line c.args.act.now c.in-Task.task c.items.result.now e c.in-Task.is c.items.ensures c.in_ok-close_by.ensures) c.open_operands.ensures.full
