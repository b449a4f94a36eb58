-- What a worker's look for a task that it may claim has tried.
use Rattle.std.specs.Prelude.{◌≡◌, ◌<◌, ◌≤◌, ◌⊎◌, ℕ, List, length, slice_index_or, take}
use Rattle.sj_base.specs.declared.ids.Task.{Task}
use Rattle.sj_base.specs.declared.ids.Worker.{Worker}
use Rattle.sj_machine.specs.Planning.{IsWhy}
use Rattle.sj_board.specs.Standing.{state}
use Rattle.sj_machine.specs.declared.plan.Why.{Why}
use Rattle.sj_board.specs.Board.{BoardState, room_of}
use Rattle.sj_board.specs.BoardSound.{times_pooled}
use Rattle.sj_board.specs.Passing.{IsLeft, NoneIsLeft}

-- the task stands in the pool, fits the worker's node, and isn't one of those that were passed
abbrev pub IsLeftTo : {D : Type 0} → BoardState D → Worker → List Task → Task → Type 0
IsLeftTo b w passed t = IsLeft b.run.program passed (room_of b w) b.pool t

-- there is no such task
abbrev pub NoneIsLeftTo : {D : Type 0} → BoardState D → Worker → List Task → Type 0
NoneIsLeftTo b w passed = NoneIsLeft b.run.program passed (room_of b w) b.pool

-- the worker can't claim the task now, and this is why
pub record CannotClaim {D : Type 0} (b : BoardState D) (w : Worker) (t : Task) : Type 0 where
  pub why : Why
  pub holds : IsWhy b.run.program b.run.machine (state b.run) t w why

-- the task is left behind those that were passed before it, and can't be claimed
pub record IsPassed {D : Type 0} (b : BoardState D) (w : Worker) (earlier : List Task) (t : Task) : Type 0 where
  pub left : IsLeftTo b w earlier t
  pub cannot : CannotClaim b w t

-- each of these is: so they are different tasks
abbrev pub HasPassed : {D : Type 0} → BoardState D → Worker → List Task → Type 0
HasPassed b w passed = (k : ℕ) → k < length passed → IsPassed b w (take k passed) (slice_index_or passed k (record { 0 = 0 }))

-- these were tried, at most 64, and they are four or more, or all that are left
pub record HasLooked {D : Type 0} (b : BoardState D) (w : Worker) : Type 0 where
  pub passed : List Task
  pub each : HasPassed b w passed
  pub few : length passed ≤ 64
  pub enough : (4 ≤ length passed) ⊎ NoneIsLeftTo b w passed

-- each task stands in the pool as often as before
abbrev pub PoolStands : {D : Type 0} → BoardState D → BoardState D → Type 0
PoolStands old new = (t : Task) → times_pooled new.pool t ≡ times_pooled old.pool t
