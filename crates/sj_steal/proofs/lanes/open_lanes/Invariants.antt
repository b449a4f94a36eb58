use Rattle.std.proofs.Common.{◌≡◌, length, map}
use Rattle.sj_steal.specs.Facts.{new_stake}
use Rattle.sj_steal.proofs.lanes.open_lanes.Given as goal

-- so many queues are open, with a whole stake in each
abbrev pub invariant-loop-number : goal.invariant-loop-number
invariant-loop-number l = record {
  count : length l.lanes.items ≡ l.number;
  whole : l.stakes.items ≡ map (new_stake 256) l.lanes.items;
}
