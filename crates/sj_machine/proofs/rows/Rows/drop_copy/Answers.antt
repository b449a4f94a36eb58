use Rattle.sj_machine.proofs.Moving.{dropped}
use Rattle.sj_machine.proofs.rows.Rows.drop_copy.Goals as goal

pub invariant_of-self : goal.invariant_of-self
invariant_of-self c = (dropped _ _ _ _ _ _ c.self.invariant _ c.self.view_is c.args.cell c.args.n c.requires _ _ c.index_mut-row.ensures.value c.set_mark.ensures).keeps

pub returns : goal.returns
returns c = (dropped _ _ _ _ _ _ c.self.invariant _ c.self.view_is c.args.cell c.args.n c.requires _ _ c.index_mut-row.ensures.value c.set_mark.ensures).happened
