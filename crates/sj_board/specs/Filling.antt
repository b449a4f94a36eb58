-- Tasks that are put into the pool one after another.
use Rattle.std.specs.Prelude.{◌≡◌, ℕ, ◌<◌, ◌%◌, false, Option, Some, None, List, [], ◌∷◌, fold, length}
use Rattle.sj_base.specs.declared.ids.Task.{Task}
use Rattle.sj_base.specs.declared.ids.Worker.{Worker}
use Rattle.sj_base.specs.declared.program.Program.{Program}
use Rattle.sj_pool.specs.Pool.{Pooled, contains, with_entry}
use Rattle.sj_core.specs.Needs.{footprint}
use Rattle.sj_core.specs.Program.{task_of}
use Rattle.sj_pool.specs.Entry.{entry}
use Rattle.sj_pool.specs.declared.entry.Entry.{Entry}

-- the task, its priority and the bytes that it needs on a node
abbrev pub entry_of : Program → Task → Entry
entry_of p t = entry t (task_of p t).priority (footprint p t)

-- the number of the worker that puts a task: this one, or that of the task's number, modulo the workers
abbrev pub putter : Program → Option Worker → Task → ℕ
putter p None t = t.0 % p.workers
putter p (Some w) t = w.0

abbrev pub with_task : Program → Option Worker → Pooled → Task → Pooled
with_task p by pool t = with_entry pool (entry_of p t) (putter p by t)

-- the pool with each of these tasks put into it
abbrev pub with_each : Program → Option Worker → Pooled → List Task → Pooled
with_each p by pool ts = fold (with_task p by) pool ts

-- the task can be put
pub record CanPut (p : Program) (by : Option Worker) (pool : Pooled) (t : Task) : Type 0 where
  pub task : t.0 < length p.tasks
  pub absent : contains pool.queues t.0 ≡ false
  pub known_task : t.0 < pool.limit
  pub known_worker : putter p by t < pool.workers

-- each of these can be, one after another
abbrev pub CanPutEach : Program → Option Worker → Pooled → List Task → Type 0
CanPutEach p by pool [] = Unit {0}
CanPutEach p by pool (t ∷ ts) = CanPut p by pool t × CanPutEach p by (with_task p by pool t) ts
