use Rattle.sj_machine.proofs.Words.{arith}
use Rattle.sj_machine.proofs.ClaimPlanning.{lacking-small, lacking-sum, work-few}
use Rattle.sj_machine.proofs.plan.need_of.Goals as goal

pub lacking_on-missing-requires-clause-few : goal.lacking_on-missing-requires-clause-few
lacking_on-missing-requires-clause-few c = rw c.items.ensures (rw c.cells_for-cells.ensures (work-few _ _ _ c.requires.work))

pub bytes_of-bytes-requires-clause-small : goal.bytes_of-bytes-requires-clause-small
bytes_of-bytes-requires-clause-small c = rw c.items-2.ensures (rw c.lacking_on-missing.ensures (rw c.items.ensures (rw c.cells_for-cells.ensures (lacking-small _ _ _ c.requires.work c.args.node.now))))

pub returns-clause-small : goal.returns-clause-small
returns-clause-small c = rw c.bytes_of-bytes.ensures (rw c.items-2.ensures (rw c.lacking_on-missing.ensures (rw c.items.ensures (rw c.cells_for-cells.ensures (omega (arith, lacking-sum _ _ _ c.requires.work c.args.node.now, c.scratch_for-scratch.ensures.small))))))
