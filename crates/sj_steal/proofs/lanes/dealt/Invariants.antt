use Rattle.std.proofs.Common.{◌≡◌, length, map, take}
use Rattle.sj_steal.specs.Facts.{new_stake, with_a_part_less}
use Rattle.sj_steal.proofs.Stakes.{changed_to}
use Rattle.sj_steal.proofs.lanes.dealt.Given as goal

-- in so many queues a part was dealt
abbrev pub invariant-loop-k : goal.invariant-loop-k
invariant-loop-k l = record {
  left : l.rest.items ≡ changed_to with_a_part_less l.k l.fn.rest.items;
  new : l.stakes.items ≡ map (new_stake 1) (take l.k l.lanes.items);
}
