-- What a worker does next for the task that it has claimed: its victims go, the least recently used first; then the cells
-- come that its claim brings, in operand order; then its kernel begins.
use Rattle.std.specs.Prelude.{◌≡◌, ◌≢◌, Bool, false, not, ◌&&◌, Some, None, ◌⊎◌, IsTrue, IsSomeAnd, MatchBool, MatchOption, is_some, if◌then◌else◌}
use Rattle.sj_base.specs.declared.ids.Cell.{Cell}
use Rattle.sj_base.specs.declared.ids.Node.{Node}
use Rattle.sj_base.specs.declared.ids.Task.{Task}
use Rattle.sj_base.specs.declared.ids.Worker.{Worker}
use Rattle.sj_base.specs.declared.ids.Place.TheVariants.{Node as AtNode, Disk as OnDisk}
use Rattle.sj_base.specs.declared.program.Program.{Program}
use Rattle.sj_base.specs.declared.program.Machine.{Machine}
use Rattle.sj_codelet.specs.Kernel.{Equations}
use Rattle.sj_core.specs.Machine.{State, progress, transfer, writes}
use Rattle.sj_core.specs.Needs.{node_of}
use Rattle.sj_core.specs.Step.{disk_of, is_elsewhere, is_read, source_of}
use Rattle.sj_core.specs.declared.progress.Progress.TheVariants.{Claimed}
use Rattle.sj_disk.specs.Directory.{extent_of}
use Rattle.sj_disk.specs.Rack.{is_out}
use Rattle.sj_machine.specs.Choosing.{may_run, next_cell, next_victim}
use Rattle.sj_board.specs.Standing.{StandingBy, is_node, state}
use Rattle.sj_board.specs.declared.todo.Todo.{Todo}
use Rattle.sj_board.specs.declared.todo.Todo.TheVariants.{Discard, Start, Transfer, Wait}

-- ---- victims

-- the only copy is written to the cell's disk; another one is dropped, once no transfer reads it
abbrev pub Evicts : Program → Machine → State → Cell → Node → Todo → Type 0
Evicts p m s c n todo =
    MatchBool (is_elsewhere s c n)
    (todo ≡ (if is_read s c (AtNode n) then Wait else Discard c))
    (IsSomeAnd (disk_of p m c) (λ d. todo ≡ Transfer c (AtNode n) (OnDisk d) (writes s c)))

-- ---- cells

-- the cell is brought from where the node fetches it
abbrev pub Brings : Program → Machine → State → Cell → Node → Todo → Type 0
Brings p m s c n todo = IsSomeAnd (source_of p m s c) (λ from. todo ≡ Transfer c from (AtNode n) (writes s c))

-- ---- in this order

-- the worker's next step for the task that it has claimed
abbrev pub IsNext : Program → Machine → State → Task → Worker → Todo → Type 0
IsNext p m s t w todo =
    MatchOption (next_victim m s w)
    (MatchOption (next_cell p m s t w)
    (todo ≡ (if may_run p m s t w then Start else Wait))
    (λ c. Brings p m s c (node_of m w) todo))
    (λ c. Evicts p m s c (node_of m w) todo)

-- ---- disks that are out

-- the disk on which the cell has its block is out
abbrev pub is_out_for : {D : Type 0} {eq : Equations} → StandingBy eq D → Cell → Bool
is_out_for b c = elim (extent_of b.disks.directory c.0) [ None ↦ false | Some e ↦ is_out b.out e.disk.0 ]

-- the step is a transfer in which a disk takes part that is out
abbrev pub needs_disk_out : {D : Type 0} {eq : Equations} → StandingBy eq D → Todo → Bool
needs_disk_out b (Transfer c from to n) = not (is_node from && is_node to) && is_out_for b c
needs_disk_out b _ = false

-- the worker's next step for its task, for which it waits while another has the disk in hand
pub record IsStepFor {D : Type 0} {eq : Equations} (b : StandingBy eq D) (t : Task) (w : Worker) (todo : Todo) : Type 0 where
  pub first : Todo
  pub next : IsNext b.program b.machine (state b) t w first
  pub or_waits : todo ≡ (if needs_disk_out b first then Wait else first)

-- ---- what follows of it

-- the worker has claimed a task, and doesn't wait
pub record HasStep (p : Program) (m : Machine) (s : State) (w : Worker) : Type 0 where
  pub task : Task
  pub claimed : progress s task ≡ Claimed w
  pub todo : Todo
  pub next : IsNext p m s task w todo
  pub goes_on : todo ≢ Wait

-- another worker than this one has a transfer under way, or a task for which it doesn't wait
pub record AnotherGoesOn (p : Program) (m : Machine) (s : State) (w : Worker) : Type 0 where
  pub worker : Worker
  pub other : worker ≢ w
  pub goes_on : IsTrue (is_some (transfer s worker)) ⊎ HasStep p m s worker
