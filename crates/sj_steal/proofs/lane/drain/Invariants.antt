use Rattle.std.proofs.Common.{◌≡◌, ◌+◌}
use Rattle.sj_base.specs.declared.ids.Task.{Task}
use Rattle.sj_steal.specs.Account.{times}
use Rattle.sj_steal.proofs.lane.drain.Given as goal

-- what was taken is in the list, beside what the stake had taken before
abbrev pub invariant-loop : goal.invariant-loop
invariant-loop g l = record {
  of : l.stake.lane ≡ l.lane;
  parts : l.stake.account.parts ≡ 256;
  put : l.stake.account.put ≡ l.fn.stake.account.put;
  taken : (t : Task) → times t l.stake.account.taken + times t l.fn.left.items ≡ times t l.fn.stake.account.taken + times t l.left.items;
}
