use Rattle.sj_machine.proofs.Words.{◌∙◌}
use Rattle.sj_machine.proofs.Marked.{lacking-marked}
use Rattle.sj_machine.proofs.plan.lacking_on.Goals as goal

pub returns : goal.returns
returns c = c.lacking_cells.ensures ∙ lacking-marked c.args.rows.now c.args.n c.args.node.now c.requires.marked c.args.cells.now
