-- How far a worker is, and what its steps leave.
use Rattle.std.specs.Prelude.{◌≡◌, ◌≢◌, None}
use Rattle.sj_base.specs.declared.ids.Task.{Task}
use Rattle.sj_base.specs.declared.ids.Worker.{Worker}
use Rattle.sj_core.specs.declared.progress.Progress.TheVariants.{Claimed}
use Rattle.sj_core.specs.Machine.{progress, transfer}
use Rattle.sj_board.specs.Standing.{state}
use Rattle.sj_board.specs.Board.{BoardState, HasTask, IsFree, hand_of}

-- the worker has claimed the task, and nothing of it is under way
pub record HasClaimed {D : Type 0} (b : BoardState D) (w : Worker) (t : Task) : Type 0 where
  pub task : HasTask b w t
  pub none_given : (hand_of b w).given ≡ None
  pub claimed : progress (state b.run) t ≡ Claimed w
  pub rests : transfer (state b.run) w ≡ None

-- the worker alone has done something: who else was free still is, and the first fault, the disks of the opening and the policy
-- are as they were
pub record IsStepOf {D : Type 0} (w : Worker) (old new : BoardState D) : Type 0 where
  pub others : (v : Worker) → v ≢ w → IsFree old v → IsFree new v
  pub fault : new.fault ≡ old.fault
  pub opened : new.run.opened ≡ old.run.opened
  pub policy : new.run.machine.policy ≡ old.run.machine.policy
