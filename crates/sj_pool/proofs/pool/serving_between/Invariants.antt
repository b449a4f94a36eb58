use Rattle.std.proofs.Common.{◌≡◌, ◌-◌}
use Rattle.std.specs.List.{range_with_len}
use Rattle.sj_pool.specs.Pool.{serving, lists}
use Rattle.sj_pool.proofs.pool.serving_between.Given as goal

abbrev pub invariant-loop-i : goal.invariant-loop-i
invariant-loop-i l = serving (lists l.queues) l.room (range_with_len l.fn.from (l.fn.to - l.fn.from)) ≡ serving (lists l.queues) l.room (range_with_len l.i (l.fn.to - l.i))
