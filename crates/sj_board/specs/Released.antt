-- The tasks that workers' ends have released and that these workers haven't taken away.
--
-- Under prio the pool of a board has the ready tasks that nobody was given. Under the other policies ready tasks wait in queues
-- outside, and the pool has a queue for each worker: the tasks that became ready by its ends and that it hasn't taken there yet.
use Rattle.std.specs.Prelude.{ℕ, List, [], drop, map, slice_set}
use Rattle.sj_base.specs.declared.ids.Task.{Task}
use Rattle.sj_base.specs.declared.mode.Policy.{Policy}
use Rattle.sj_base.specs.declared.mode.Policy.TheVariants.{Prio, Ws}
use Rattle.sj_pool.specs.Pool.{Pooled, queue}

-- the policy by which a board's pool is made
abbrev pub pool_policy : Policy → Policy
pool_policy Prio = Prio
pool_policy _ = Ws

-- the tasks in the queue with this number
abbrev pub queued_tasks : Pooled → ℕ → List Task
queued_tasks pool n = map (λ e. e.task) (queue pool.queues n)

-- those of the worker with this number that are released; under prio none
abbrev pub released_in : Policy → Pooled → ℕ → List Task
released_in Prio pool n = []
released_in _ pool n = queued_tasks pool n

-- the pool without the first of them
abbrev pub without_first_of : Policy → Pooled → ℕ → Pooled
without_first_of Prio pool n = pool
without_first_of _ pool n = record pool { queues = slice_set pool.queues n (drop 1 (queue pool.queues n)) }
