-- What the pool gives a worker that has passed some tasks: those that it was given before and doesn't ask for again.
use Rattle.std.specs.Prelude.{◌≡◌, ℕ, ◌+◌, ◌<◌, ◌≤◌, Bool, false, nat_eq, Option, Some, None, IfSome, All, List, length, if◌then◌else◌}
use Rattle.std.specs.List.{list_any}
use Rattle.sj_base.specs.declared.ids.Task.{Task}
use Rattle.sj_base.specs.declared.mode.Policy.TheVariants.{Prio}
use Rattle.sj_base.specs.declared.program.Program.{Program}
use Rattle.sj_core.specs.Needs.{footprint}
use Rattle.sj_pool.specs.Entry.{precedes}
use Rattle.sj_pool.specs.Pool.{Pooled, queue_count, task_for, without_entry_for}
use Rattle.sj_board.specs.BoardSound.{IsEntry, times_pooled}
use Rattle.sj_board.specs.Filling.{entry_of}

-- the task is one of these
abbrev pub is_among : List Task → Task → Bool
is_among passed t = list_any (λ u. nat_eq u.0 t.0) passed

-- it is some task, and one of these
abbrev pub is_passed : List Task → Option Task → Bool
is_passed passed None = false
is_passed passed (Some t) = is_among passed t

-- how many times this is the task: once or never
abbrev pub times_of : Option Task → Task → ℕ
times_of None t = 0
times_of (Some u) t = if nat_eq u.0 t.0 then 1 else 0

-- the task stands in the pool, needs at most so many bytes, and wasn't passed
pub record IsLeft (p : Program) (passed : List Task) (room : ℕ) (pool : Pooled) (t : Task) : Type 0 where
  pub stands : 0 < times_pooled pool t
  pub fits : footprint p t ≤ room
  pub not_passed : is_among passed t ≡ false

-- there is no such task
abbrev pub NoneIsLeft : Program → List Task → ℕ → Pooled → Type 0
NoneIsLeft p passed room pool = (t : Task) → ¬ IsLeft p passed room pool t

-- none of them is more urgent than this one
abbrev pub IsFirstLeft : Program → List Task → ℕ → Pooled → Task → Type 0
IsFirstLeft p passed room pool t = (u : Task) → IsLeft p passed room pool u → precedes (entry_of p u) (entry_of p t) ≡ false

-- the pool has lost this task, where it is one: each other one stands there as often as before
abbrev pub HasLost : Option Task → Pooled → Pooled → Type 0
HasLost given old new = (t : Task) → times_pooled new t + times_of given t ≡ times_pooled old t

-- ---- the pool alone

-- the pool was made for the program: its entries are of tasks of the program, each once, and tell what these need
pub record IsPoolOf (p : Program) (pool : Pooled) : Type 0 where
  pub workers : pool.workers ≡ p.workers
  pub tasks : pool.limit ≡ length p.tasks
  pub queues : length pool.queues ≡ queue_count pool.policy pool.workers
  pub entries : All (All (IsEntry p)) pool.queues
  pub known : (t : Task) → 0 < times_pooled pool t → t.0 < length p.tasks
  pub once : (t : Task) → times_pooled pool t ≤ 1

-- this was taken, for a worker and a room, from a pool that has become that one
pub record IsTakenBehind (p : Program) (passed : List Task) (w room : ℕ) (old new : Pooled) (given : Option Task) : Type 0 where
  pub policy : new.policy ≡ old.policy
  pub pool : IsPoolOf p new
  pub lost : HasLost given old new
  pub left : IfSome given (IsLeft p passed room old)
  pub none : given ≡ None → NoneIsLeft p passed room old
  pub urgent : old.policy ≡ Prio → IfSome given (IsFirstLeft p passed room old)
  pub first : is_passed passed (task_for old w room) ≡ false → (given ≡ task_for old w room) × (new ≡ without_entry_for old w room)
