use Rattle.sj_trace.proofs.Taking.{no-task, no-worker}
use Rattle.sj_trace.proofs.line.task_and_worker.Goals as goal

pub returns-in_err-task : goal.returns-in_err-task
returns-in_err-task c = rw c.from_residual.ensures (no-task c.args.text.now c.in_err-task.ensures)

pub returns-in_err-worker : goal.returns-in_err-worker
returns-in_err-worker c =
    rw c.from_residual-in_err-worker.ensures (no-worker c.in_ok-task.task c.in_ok-task.rest.now c.args.text.now c.in_ok-task.ensures.0 c.in_ok-task.ensures.1 c.in_err-worker.ensures)
