use Rattle.sj_trace.proofs.Taking.{no-cell-dropped, no-node}
use Rattle.sj_trace.proofs.line.cell_and_node.Goals as goal

pub returns-in_err-cell : goal.returns-in_err-cell
returns-in_err-cell c = rw c.from_residual.ensures (no-cell-dropped c.args.text.now c.in_err-cell.ensures)

pub returns-in_err-node : goal.returns-in_err-node
returns-in_err-node c =
    rw c.from_residual-in_err-node.ensures (no-node c.in_ok-cell.cell c.in_ok-cell.rest.now c.args.text.now c.in_ok-cell.ensures.0 c.in_ok-cell.ensures.1 c.in_err-node.ensures)
