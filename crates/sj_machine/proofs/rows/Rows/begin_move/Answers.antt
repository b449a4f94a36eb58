use Rattle.sj_machine.proofs.Moving.{begun}
use Rattle.sj_machine.proofs.rows.Rows.begin_move.Goals as goal

pub invariant_of-self : goal.invariant_of-self
invariant_of-self c = (begun _ _ _ _ _ _ c.self.invariant _ c.self.view_is c.args.cell c.args.from c.args.to c.args.w c.requires.can c.requires.mover _ c.set_transfer.ensures).keeps
