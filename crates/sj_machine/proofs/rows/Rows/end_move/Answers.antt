use Rattle.sj_machine.proofs.Moving.{ended, target-cell, target-node}
use Rattle.sj_machine.proofs.rows.Rows.end_move.Goals as goal

pub arrive-requires : goal.arrive-requires
arrive-requires c = record {
  cell = target-cell _ _ _ _ _ _ c.self.invariant _ c.self.view_is c.args.w _ c.deref.ensures.value _ c.transfer_of-x.ensures;
  node = target-node _ _ _ _ _ _ c.self.invariant _ c.self.view_is c.args.w _ c.deref.ensures.value _ c.transfer_of-x.ensures;
}

pub invariant_of-self : goal.invariant_of-self
invariant_of-self c = (ended _ _ _ _ _ _ c.self.invariant _ c.self.view_is c.args.w _ c.deref.ensures.value _ c.transfer_of-x.ensures _ _ c.arrive.ensures c.set_transfer.ensures).keeps

pub returns-clause-ended : goal.returns-clause-ended
returns-clause-ended c = (ended _ _ _ _ _ _ c.self.invariant _ c.self.view_is c.args.w _ c.deref.ensures.value _ c.transfer_of-x.ensures _ _ c.arrive.ensures c.set_transfer.ensures).happened
