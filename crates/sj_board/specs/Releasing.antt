-- The tasks that become ready as a task ends.
use Rattle.std.specs.Prelude.{◌≡◌, ◌≢◌, ◌↔◌, ℕ, Option, List, Some, map}
use Rattle.std.specs.List.{Contains}
use Rattle.std.specs.List.Sorted.{IsStrictlyIncreasing}
use Rattle.sj_base.specs.declared.ids.Task.{Task}
use Rattle.sj_base.specs.declared.ids.Worker.{Worker}
use Rattle.sj_base.specs.declared.mode.Policy.TheVariants.{Prio}
use Rattle.sj_base.specs.declared.program.Program.{Program}
use Rattle.sj_base.specs.declared.trace.Event.TheVariants.{End}
use Rattle.sj_base.specs.Array.{Array}
use Rattle.sj_codelet.specs.Kernel.{Equations}
use Rattle.sj_core.specs.Machine.{State}
use Rattle.sj_core.specs.Step.{done_tasks}
use Rattle.sj_deps.specs.Conflict.{Ready}
use Rattle.sj_deps.specs.Progress.{BecomesReady, Dependencies}
use Rattle.sj_pool.specs.Pool.{Pooled}
use Rattle.sj_board.specs.Standing.{state, with_event}
use Rattle.sj_board.specs.Delivery.{IsGift}
use Rattle.sj_board.specs.Board.{BoardBy, has_ended, released_of}
use Rattle.sj_board.specs.Filling.{with_each}

-- these are the tasks that are ready in the second state and weren't in the first, by number
pub record BecomeReady (p : Program) (s s' : State) (ts : List Task) : Type 0 where
  pub each : (u : Task) → Contains ts u ↔ (Ready p (done_tasks s') u.0 × ¬ Ready p (done_tasks s) u.0)
  pub by_number : IsStrictlyIncreasing (map (λ u. u.0) ts)

-- the worker's task has ended: its event has happened, it has no task any more, the tasks that became ready are in the pool,
-- but under prio as those that it has released, and what it hands over comes after what others have
pub record EndsTask {D : Type 0} {eq : Equations} (held : D → Option (List ℕ)) (old : BoardBy eq D) (t : Task) (w : Worker) (new : BoardBy eq D) : Type 0 where
  pub ready : List Task
  pub become : BecomeReady old.run.program (state old.run) (state (with_event old.run (End t w))) ready
  pub gift : Option Array
  pub gives : IsGift held old.run t w gift
  pub leaves : new ≡ has_ended old t w ready gift
  pub releases : old.run.machine.policy ≢ Prio → released_of new w ≡ ready

-- ---- as the dependencies answer it

-- these are the tasks that become ready as the task is done, by number
pub record AreReleased (deps : Dependencies) (t : Task) (ts : List Task) : Type 0 where
  pub each : (u : Task) → Contains ts u ↔ BecomesReady deps t.0 u.0
  pub by_number : IsStrictlyIncreasing (map (λ u. u.0) ts)

-- they are in the pool
pub record Releases (p : Program) (deps : Dependencies) (t : Task) (w : Worker) (old new : Pooled) : Type 0 where
  pub ready : List Task
  pub released : AreReleased deps t ready
  pub put : new ≡ with_each p (Some w) old ready
