-- Planning a claim: what it needs beside room on its node, what it finds there, and why it can't be made.
use Rattle.std.specs.Prelude.{◌≡◌, ◌≢◌, ◌≤◌, ◌<◌, ◌+◌, ◌-◌, ℕ, Bool, false, not, Option, Some, None, IfErr, IfOk, IsTrue, OnOk, Result, All, List, find, filter, map, length, option_map, reverse, slice_index_or, sum_by, take}
use Rattle.sj_base.specs.declared.ids.Cell.{Cell}
use Rattle.sj_base.specs.declared.ids.Node.{Node}
use Rattle.sj_base.specs.declared.ids.Task.{Task}
use Rattle.sj_base.specs.declared.ids.Worker.{Worker}
use Rattle.sj_base.specs.declared.program.Program.{Program}
use Rattle.sj_base.specs.declared.program.Machine.{Machine}
use Rattle.sj_base.specs.declared.trace.Event.TheVariants.{Claim}
use Rattle.sj_core.specs.Machine.{State, WorkerState, idle_row, is_idle, is_leaving, is_task_of, mark, pins, progress}
use Rattle.sj_core.specs.Needs.{footprint, node_of, node_size, scratch_bytes, tile_bytes}
use Rattle.sj_core.specs.Operands.{cells_of, commuting_cells, worked_on}
use Rattle.sj_core.specs.Program.{distinct, has_cell, task_of}
use Rattle.sj_core.specs.Step.{done_tasks, is_in_use, none_leaving, victims_for}
use Rattle.sj_core.specs.declared.progress.Progress.TheVariants.{Waiting}
use Rattle.sj_deps.specs.Conflict.{Ready}
use Rattle.sj_node.specs.Entry.{has_entry}
use Rattle.sj_node.specs.Store.{Store, need_victims}
use Rattle.sj_machine.specs.Cells.{mark_at}
use Rattle.sj_replica.specs.Replica.{CellState}
use Rattle.sj_machine.specs.Operands.{CanWorkOn}
use Rattle.sj_machine.specs.Plan.{ClaimPlan, IsPlan, IsSmallCell}
use Rattle.sj_machine.specs.Rows.{MayHappen, Rows}
use Rattle.sj_machine.specs.declared.plan.Why.{Why}
use Rattle.sj_machine.specs.declared.plan.Why.TheVariants.{Commute, Leaving, NoRoom}

-- ---- what a task finds on a node

-- each operand is such a cell, and they are few
pub record HasSmallTask (p : Program) (t : Task) : Type 0 where
  pub task : t.0 < length p.tasks
  pub cells : All (λ a. IsSmallCell p a.cell) (task_of p t).accesses
  pub few : length (task_of p t).accesses ≤ 5

-- and the worker can work on each of its operands, on such a cell
pub record HasSmallWork (p : Program) (t : Task) (w : Worker) : Type 0 where
  pub task : HasSmallTask p t
  pub can : All (CanWorkOn p w) (task_of p t).accesses
  pub small : All (λ a. IsSmallCell p (worked_on p w a)) (task_of p t).accesses

-- those of these cells without an entry on a node, each once
abbrev pub lacking : Store → List Cell → List Cell
lacking s cs = filter (λ c. not (has_entry s.entries c)) (distinct cs)

-- the bytes that a worker's task brings to a node
abbrev pub need_on : Program → Store → Task → Worker → ℕ
need_on p s t w = sum_by (tile_bytes p) (lacking s (cells_of p t w)) + scratch_bytes p (task_of p t)

-- the victims of a worker's task on a node, most recent first
abbrev pub chosen_on : Program → Store → Task → Worker → Option (List Cell)
chosen_on p s t w = option_map reverse (need_victims (cells_of p t w) s (need_on p s t w))

-- the plan of a worker's task on a node that evicts these
abbrev pub planned : Program → Store → Task → Worker → List Cell → ClaimPlan
planned p s t w evicted = record {
  cells = cells_of p t w;
  missing = lacking s (cells_of p t w);
  bytes = map (tile_bytes p) (lacking s (cells_of p t w));
  scratch = scratch_bytes p (task_of p t);
  victims = evicted;
}

-- ---- why a claim can't be made

-- what a claim needs beside room on its node
pub record MayClaim (p : Program) (m : Machine) (s : State) (t : Task) (w : Worker) : Type 0 where
  pub worker : w.0 < p.workers
  pub waiting : progress s t ≡ Waiting
  pub ready : Ready p (done_tasks s) t.0
  pub idle : IsTrue (is_idle s w)
  pub fits : footprint p t ≤ node_size m (node_of m w)

-- the first commuting cell of the task that belongs to a claimed or running task
abbrev pub commuter_in_use : Program → State → Task → Option Cell
commuter_in_use p s t = find (is_in_use p s) (commuting_cells p t)

-- no commuting cell of the task belongs to a claimed or running task
abbrev pub CommutersAreFree : Program → State → Task → Type 0
CommutersAreFree p s t = commuter_in_use p s t ≡ None

-- the reasons, in the order in which they are tested: a commuting cell is in use, the first such one; a copy leaves the
-- node; or the free bytes and all unpinned entries that aren't the task's don't cover the need
abbrev pub IsWhy : Program → Machine → State → Task → Worker → Why → Type 0
IsWhy p m s t w (Commute c) = commuter_in_use p s t ≡ Some c
IsWhy p m s t w (Leaving c) = CommutersAreFree p s t × IsTrue (is_leaving (mark s c (node_of m w)))
IsWhy p m s t w NoRoom = CommutersAreFree p s t × IsTrue (none_leaving s (node_of m w)) × (victims_for p m s t w ≡ None)

-- the answer to a claim: where it is a plan, the claim can happen and the plan is its; else the reason stands
pub record IsAnswer (r : Rows) (t : Task) (w : Worker) (answer : Result ClaimPlan Why) : Type 0 where
  pub can : OnOk answer (MayHappen r (Claim t w))
  pub plan : IfOk answer (IsPlan r.program r.machine r.state t w)
  pub why : IfErr answer (IsWhy r.program r.machine r.state t w)

-- another worker than this one has a claimed or running task
pub record AnotherHasTask (s : State) (w : Worker) : Type 0 where
  pub worker : Worker
  pub other : worker ≢ w
  pub task : Task
  pub has : IsTrue (is_task_of worker (progress s task))

-- no other worker holds a commuting cell of the task
abbrev pub HoldsCommutersAlone : Program → State → Task → Worker → Type 0
HoldsCommutersAlone p s t w = (c : Cell) (v : Worker) → IsTrue (has_cell (commuting_cells p t) c) → v ≢ w → has_cell (pins s v) c ≡ false

-- a copy of the cell leaves the node
abbrev pub is_leaving_at : List CellState → Node → Cell → Bool
is_leaving_at rows n c = is_leaving (mark_at rows n c)

-- the victims of the worker of this number, those aside of which so many go first
abbrev pub victims_left : List WorkerState → List ℕ → ℕ → List Cell
victims_left ws gone k = take (length (slice_index_or ws k idle_row).victims - slice_index_or gone k 0) (slice_index_or ws k idle_row).victims

-- of none of each worker's a copy leaves the node
abbrev pub NoneLeavesFor : List CellState → Node → List WorkerState → List ℕ → Type 0
NoneLeavesFor rows n ws gone = (k : ℕ) → find (is_leaving_at rows n) (victims_left ws gone k) ≡ None
