use Rattle.std.proofs.Common.{◌≡◌, ◌+◌, ◌++◌, List, length}
use Rattle.sj_base.specs.declared.ids.Task.{Task}
use Rattle.sj_steal.specs.Account.{times}
use Rattle.sj_steal.specs.Facts.{StakeFacts, lanes_of, parts_of, put_through, taken_through}
use Rattle.sj_steal.proofs.Stakes.{changed_from}
use Rattle.sj_steal.proofs.lanes.merge.Given as goal

-- the stakes from one on were given away
abbrev pub invariant-loop-stake : goal.invariant-loop-stake
invariant-loop-stake l = record {
  rest : List StakeFacts;
  all : l.stakes.items ++ rest ≡ l.fn.stakes.items;
  of : lanes_of l.whole.items ≡ l.lanes.items;
  parts : parts_of l.whole.items ≡ changed_from (λ parts. parts + 1) (length l.stakes.items) (parts_of l.fn.whole.items);
  put : (t : Task) → times t (put_through l.whole.items) + times t (put_through l.stakes.items) ≡ times t (put_through l.fn.whole.items) + times t (put_through l.fn.stakes.items);
  taken : (t : Task) → times t (taken_through l.whole.items) + times t (taken_through l.stakes.items) ≡ times t (taken_through l.fn.whole.items) + times t (taken_through l.fn.stakes.items);
}

abbrev pub decreases-loop-stake : goal.decreases-loop-stake
decreases-loop-stake l = goal.left-loop-stake l
