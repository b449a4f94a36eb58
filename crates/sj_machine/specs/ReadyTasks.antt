-- Which tasks are ready, as a state and as the dependencies have it.
use Rattle.std.specs.Prelude.{◌≡◌, ◌↔◌, ℕ}
use Rattle.std.specs.List.{Contains}
use Rattle.sj_base.specs.declared.ids.Task.{Task}
use Rattle.sj_base.specs.declared.program.Program.{Program}
use Rattle.sj_core.specs.Machine.{State, progress}
use Rattle.sj_core.specs.Step.{done_tasks}
use Rattle.sj_core.specs.declared.progress.Progress.TheVariants.{Waiting}
use Rattle.sj_deps.specs.Conflict.{Ready}
use Rattle.sj_deps.specs.Progress.{Dependencies}

-- the task waits, and is ready
pub record IsToBeTaken (p : Program) (s : State) (t : Task) : Type 0 where
  pub waiting : progress s t ≡ Waiting
  pub ready : Ready p (done_tasks s) t.0

-- the dependencies are the program's, with the tasks that are done
pub record CountsDone (p : Program) (s : State) (deps : Dependencies) : Type 0 where
  pub program : deps.program ≡ p
  pub done : (n : ℕ) → Contains deps.done n ↔ Contains (done_tasks s) n
