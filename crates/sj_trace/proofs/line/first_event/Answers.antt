use Rattle.sj_trace.proofs.Telling.{no-claim, no-run, no-end, no-move, no-moved, no-drop}
use Rattle.sj_trace.proofs.line.first_event.Goals as goal

pub returns-in_err-task : goal.returns-in_err-task
returns-in_err-task c = rw c.from_residual.ensures (no-claim c.in-Some.words.now c.args.text.now c.in-Some.ensures c.in_err-task.ensures)

pub returns-in_err-task-2 : goal.returns-in_err-task-2
returns-in_err-task-2 c = rw c.from_residual-in_err-task-2.ensures (no-run c.in-Some-behind.words.now c.args.text.now c.in-Some-behind.ensures c.in_err-task-2.ensures)

pub returns-in_err-task-3 : goal.returns-in_err-task-3
returns-in_err-task-3 c = rw c.from_residual-in_err-task-3.ensures (no-end c.in-Some-behind-2.words.now c.args.text.now c.in-Some-behind-2.ensures c.in_err-task-3.ensures)

pub returns-in_err-cell : goal.returns-in_err-cell
returns-in_err-cell c = rw c.from_residual-in_err-cell.ensures (no-move c.in-Some-behind-3.words.now c.args.text.now c.in-Some-behind-3.ensures c.in_err-cell.ensures)

pub returns-in_err-cell-2 : goal.returns-in_err-cell-2
returns-in_err-cell-2 c = rw c.from_residual-in_err-cell-2.ensures (no-moved c.in-Some-behind-4.words.now c.args.text.now c.in-Some-behind-4.ensures c.in_err-cell-2.ensures)

pub returns-in_err-cell-3 : goal.returns-in_err-cell-3
returns-in_err-cell-3 c = rw c.from_residual-in_err-cell-3.ensures (no-drop c.in_ok-words.words.now c.args.text.now c.in_ok-words.ensures c.in_err-cell-3.ensures)
