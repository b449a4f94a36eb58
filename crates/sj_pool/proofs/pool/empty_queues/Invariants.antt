use Rattle.std.proofs.Common.{◌≡◌, [], replicate}
use Rattle.sj_pool.specs.Queue.{queued}
use Rattle.sj_pool.proofs.pool.empty_queues.Given as goal

abbrev pub invariant-loop-i : goal.invariant-loop-i
invariant-loop-i l = l.queues.items ≡ replicate l._i (queued [] l.fn.tasks)
