use Rattle.sj_machine.proofs.Taking.{IsTaking}
use Rattle.sj_machine.proofs.claiming.take_all.Given as goal

abbrev pub invariant-loop-cell : goal.invariant-loop-cell
invariant-loop-cell l = IsTaking l.fn.node l.node l.cells l.cell-index
