use Rattle.sj_machine.proofs.Words.{is_leaving_at, sym}
use Rattle.sj_base.proofs.Lists.{find-passes}
use Rattle.sj_machine.proofs.leaving.leaving_at.Goals as goal

pub returns-in-Some-clause-some : goal.returns-in-Some-clause-some
returns-in-Some-clause-some c = find-passes (is_leaving_at c.args.cells.now c.args.n) _ c.in-Some.cell (sym c.in-Some.ensures)
