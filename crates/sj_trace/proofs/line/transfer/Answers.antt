use Rattle.sj_trace.proofs.Taking.{no-cell-moved, no-source, no-target}
use Rattle.sj_trace.proofs.line.transfer.Goals as goal

pub returns-in_err-cell : goal.returns-in_err-cell
returns-in_err-cell c = rw c.from_residual.ensures (no-cell-moved c.args.text.now c.in_err-cell.ensures)

pub returns-in_err-from : goal.returns-in_err-from
returns-in_err-from c =
    rw c.from_residual-in_err-from.ensures (no-source c.in_ok-cell.cell c.in_ok-cell.rest.now c.args.text.now c.in_ok-cell.ensures.0 c.in_ok-cell.ensures.1 c.in_err-from.ensures)

pub returns-in_err-to : goal.returns-in_err-to
returns-in_err-to c =
    rw c.from_residual-in_err-to.ensures (no-target c.in_ok-cell.cell c.in_ok-from.from c.in_ok-cell.rest.now c.in_ok-from.rest.now c.args.text.now c.in_ok-cell.ensures.0 c.in_ok-from.ensures.0 c.in_ok-cell.ensures.1 c.in_ok-from.ensures.1 c.in_err-to.ensures)
