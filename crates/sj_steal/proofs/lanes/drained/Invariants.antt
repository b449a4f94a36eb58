use Rattle.std.proofs.Common.{◌≡◌, ◌+◌, All, length}
use Rattle.sj_base.specs.declared.ids.Task.{Task}
use Rattle.sj_steal.specs.Account.{times}
use Rattle.sj_steal.specs.Facts.{lanes_of, parts_of, put_through, taken_through}
use Rattle.sj_steal.proofs.lanes.drained.Given as goal

-- what is left of some queues is in the list
abbrev pub invariant-loop-lane : goal.invariant-loop-lane
invariant-loop-lane g l = record {
  of : lanes_of l.stakes.items ≡ l.lanes.items;
  parts : All (λ parts. parts ≡ 256) (parts_of l.stakes.items);
  even : (t : Task) → times t (put_through l.fn.stakes.items) + times t (taken_through l.stakes.items) ≡ times t (taken_through l.fn.stakes.items) + times t (put_through l.stakes.items) + times t l.left.items;
}

abbrev pub decreases-loop-lane : goal.decreases-loop-lane
decreases-loop-lane g l = length l.lanes.items
