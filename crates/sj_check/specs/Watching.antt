-- What is kept beside rows whose events are checked.
use Rattle.std.specs.Prelude.{◌≡◌, IsTrue, List, None, Option, Some, length, slice_get}
use Rattle.std.specs.List.{slice_index_or}
use Rattle.sj_base.specs.declared.ids.Cell.{Cell}
use Rattle.sj_base.specs.declared.ids.DiskNo.{DiskNo}
use Rattle.sj_base.specs.declared.ids.Task.{Task}
use Rattle.sj_base.specs.declared.ids.Worker.{Worker}
use Rattle.sj_base.specs.declared.program.Machine.{Machine}
use Rattle.sj_base.specs.declared.program.Program.{Program}
use Rattle.sj_core.specs.Machine.{State, is_task_of, progress}
use Rattle.sj_core.specs.Step.{disk_of}
use Rattle.sj_deps.specs.Progress.{Dependencies}
use Rattle.sj_machine.specs.ReadyTasks.{CountsDone}
use Rattle.sj_machine.specs.Rows.{Rows}

-- the disk of each cell's block; of no cell where the blocks don't fit the machine's disks
pub record AreHomes (p : Program) (m : Machine) (homes : List DiskNo) : Type 0 where
  pub each : (c : Cell) → slice_get homes c.0 ≡ disk_of p m c

-- the task that a worker claimed last
abbrev pub task_in : List (Option Task) → Worker → Option Task
task_in tasks w = slice_index_or tasks w.0 None

-- for each worker the task that it claimed last: the one that it has, if it has one
pub record HasTasks (p : Program) (s : State) (tasks : List (Option Task)) : Type 0 where
  pub every_worker : length tasks ≡ p.workers
  pub last : (w : Worker) (t : Task) → IsTrue (is_task_of w (progress s t)) → task_in tasks w ≡ Some t

-- the disks of blocks are kept, each worker's task, and the tasks that are done
pub record Watches (r : Rows) (homes : List DiskNo) (tasks : List (Option Task)) (deps : Dependencies) : Type 0 where
  pub places : AreHomes r.program r.machine homes
  pub claims : HasTasks r.program r.state tasks
  pub counts : CountsDone r.program r.state deps
