use Rattle.std.proofs.Common.{◌≡◌, ◌-◌, ◌≤◌, ◌+◌, map}
use Rattle.std.specs.List.{range_with_len}
use Rattle.sj_steal.specs.Facts.{new_pass, new_stake, pool}
use Rattle.sj_steal.proofs.shared.passes.Given as goal

-- so many passes were made, with one part of each queue
abbrev pub invariant-loop-number : goal.invariant-loop-number
invariant-loop-number l = record {
  rest : l.rest.items ≡ map (new_stake (256 - l.number)) l.lanes.items;
  within : l.number + 1 ≤ l.workers;
  made : l.passes.items ≡ map (new_pass (pool l.policy l.workers l.lanes.items)) (range_with_len 0 l.number);
}
