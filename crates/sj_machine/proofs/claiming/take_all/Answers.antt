use Rattle.sj_machine.proofs.Words.{arith, refl}
use Rattle.sj_machine.proofs.Taking.{taking-ends, taking-has, taking-next, taking-pins}
use Rattle.sj_machine.proofs.claiming.take_all.Goals as goal

pub loop-cell-init : goal.loop-cell-init
loop-cell-init c = record { left = refl; can = c.requires }

pub touch_and_pin-requires-clause-present : goal.touch_and_pin-requires-clause-present
touch_and_pin-requires-clause-present c = taking-has _ _ _ _ (record { 0 = 0 }) c.loop-cell-test.true c.loop-cell.invariant

pub touch_and_pin-requires-clause-few : goal.touch_and_pin-requires-clause-few
touch_and_pin-requires-clause-few c = taking-pins _ _ _ _ (record { 0 = 0 }) c.loop-cell-test.true c.loop-cell.invariant

pub loop-cell-preserved : goal.loop-cell-preserved
loop-cell-preserved c = rw c.touch_and_pin.ensures (taking-next _ _ _ _ (record { 0 = 0 }) c.loop-cell-test.true c.loop-cell.invariant)

pub returns : goal.returns
returns c = taking-ends _ _ _ _ (omega arith) c.loop-cell.invariant
