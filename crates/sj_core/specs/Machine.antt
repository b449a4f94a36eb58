-- The state of a run: how far each task is, where each cell has copies, what each node holds, and what each worker has in hand
-- (CCPE 2011, "Data management": a replica is owner, shared or invalid). Which arrays stand there is beside it, in `Arrays`.
use Rattle.std.specs.Prelude.{ℕ, ◌+◌, ◌-◌, Bool, true, false, not, ◌||◌, nat_eq, Option, Some, None, List, [], filter, replicate, length, sum_by}
use Rattle.std.specs.List.{slice_index_or, slice_set, list_any, list_all}
use Rattle.sj_base.specs.declared.ids.Cell.{Cell}
use Rattle.sj_base.specs.declared.ids.Task.{Task}
use Rattle.sj_base.specs.declared.ids.Node.{Node}
use Rattle.sj_base.specs.declared.ids.Worker.{Worker}
use Rattle.sj_base.specs.declared.program.Program.{Program}
use Rattle.sj_base.specs.declared.program.Machine.{Machine}
use Rattle.sj_core.specs.Program.{has_cell, same_cell}
use Rattle.sj_core.specs.Needs.{node_of, node_size, tile_bytes, workers_of}
use Rattle.sj_core.specs.Table.{renewed}
use Rattle.sj_replica.specs.declared.mark.Mark.{Mark}
pub use Rattle.sj_replica.specs.Mark.{claimant_of, is_coming_by, is_entry, is_leaving, is_leaving_by, is_valid, same_worker}
pub use Rattle.sj_replica.specs.Replica.{CellState, mark_in, no_copy}
use Rattle.sj_core.specs.declared.progress.Progress.{Progress}
use Rattle.sj_core.specs.declared.progress.Progress.TheVariants.{Waiting, Claimed, Running, Done}
use Rattle.sj_core.specs.declared.progress.Transfer.{Transfer}

-- a worker: the cells that it pins on its node, the scratch bytes that it holds there, the victims of its
-- claim as they were chosen, and its transfer
pub record WorkerState : Type 0 where
  pub pins : List Cell
  pub scratch : ℕ
  pub victims : List Cell
  pub transfer : Option Transfer

-- the rows of tasks, cells and workers by number; and for each node its entries, which are the cells that
-- are valid or coming there, most recent first
pub record State : Type 0 where
  pub tasks : List Progress
  pub cells : List CellState
  pub orders : List (List Cell)
  pub workers : List WorkerState

-- ---- reading

abbrev pub progress : State → Task → Progress
progress s t = slice_index_or s.tasks t.0 Waiting

abbrev pub cell_state : State → Cell → CellState
cell_state s c = slice_index_or s.cells c.0 (record { marks = []; on_disk = false; writes = 0 })

-- what the cell is at the node
abbrev pub mark : State → Cell → Node → Mark
mark s c n = mark_in (cell_state s c) n

-- the cell's block on a disk is a copy
abbrev pub on_disk : State → Cell → Bool
on_disk s c = (cell_state s c).on_disk

abbrev pub writes : State → Cell → ℕ
writes s c = (cell_state s c).writes

abbrev pub order : State → Node → List Cell
order s n = slice_index_or s.orders n.0 []

-- the row of a worker with nothing in hand
abbrev pub idle_row : WorkerState
idle_row = record { pins = []; scratch = 0; victims = []; transfer = None }

abbrev pub worker_state : State → Worker → WorkerState
worker_state s w = slice_index_or s.workers w.0 (record { pins = []; scratch = 0; victims = []; transfer = None })

abbrev pub pins : State → Worker → List Cell
pins s w = (worker_state s w).pins

abbrev pub scratch : State → Worker → ℕ
scratch s w = (worker_state s w).scratch

abbrev pub victims_of : State → Worker → List Cell
victims_of s w = (worker_state s w).victims

abbrev pub transfer : State → Worker → Option Transfer
transfer s w = (worker_state s w).transfer

-- ---- writing

abbrev pub with_progress : State → Task → Progress → State
with_progress s t x = record s { tasks = slice_set s.tasks t.0 x }

abbrev pub with_row : State → Cell → CellState → State
with_row s c row = record s { cells = slice_set s.cells c.0 row }

-- each cell's row is f of the cell and of its row before
abbrev pub with_cells : State → (Cell → CellState → CellState) → State
with_cells s f = record s { cells = renewed (λ c row. f (record { 0 = c }) row) s.cells }

-- each node's order is f of the node and of its order before
abbrev pub with_orders : State → (Node → List Cell → List Cell) → State
with_orders s f = record s { orders = renewed (λ n cs. f (record { 0 = n }) cs) s.orders }

abbrev pub with_worker : State → Worker → WorkerState → State
with_worker s w row = record s { workers = slice_set s.workers w.0 row }

abbrev pub with_transfer : State → Worker → Option Transfer → State
with_transfer s w move = with_worker s w (record (worker_state s w) { transfer = move })

-- ---- words on a task

abbrev pub is_waiting : Progress → Bool
is_waiting Waiting = true
is_waiting _ = false

abbrev pub is_done : Progress → Bool
is_done (Done w) = true
is_done _ = false

-- it is claimed by the worker
abbrev pub is_claimed_by : Worker → Progress → Bool
is_claimed_by w (Claimed v) = same_worker v w
is_claimed_by w _ = false

-- it runs on the worker
abbrev pub is_running_on : Worker → Progress → Bool
is_running_on w (Running v) = same_worker v w
is_running_on w _ = false

-- it is the worker's task: claimed by it, or running on it
abbrev pub is_task_of : Worker → Progress → Bool
is_task_of w x = is_claimed_by w x || is_running_on w x

-- the worker that has the task or by which it is done
abbrev pub worker_of : Progress → Worker
worker_of Waiting = record { 0 = 0 }
worker_of (Claimed w) = w
worker_of (Running w) = w
worker_of (Done w) = w

-- ---- words on a state

-- the task is done in the state, and the worker by which it is
abbrev pub done_in : State → Task → Bool
done_in s t = is_done (progress s t)

abbrev pub done_by : State → Task → Worker
done_by s t = worker_of (progress s t)

-- the worker has no task
abbrev pub is_idle : State → Worker → Bool
is_idle s w = list_all (λ x. not (is_task_of w x)) s.tasks

-- the workers that are bound to a node
abbrev pub workers_at : Machine → Node → List Worker
workers_at m n = filter (λ w. nat_eq (node_of m w).0 n.0) (workers_of m)

-- a worker of the node pins the cell there
abbrev pub is_pinned : Machine → State → Node → Cell → Bool
is_pinned m s n c = list_any (λ w. has_cell (pins s w) c) (workers_at m n)

-- the bytes of a node's entries and of the scratch held there
abbrev pub used : Program → Machine → State → Node → ℕ
used p m s n = sum_by (tile_bytes p) (order s n) + sum_by (scratch s) (workers_at m n)

abbrev pub free : Program → Machine → State → Node → ℕ
free p m s n = node_size m n - used p m s n

-- the transfer in the row is one of the cell
abbrev pub moves_in : WorkerState → Cell → Bool
moves_in row c = elim row.transfer [ None ↦ false | Some move ↦ same_cell move.cell c ]

-- the worker's transfer is one of the cell
abbrev pub moves : State → Worker → Cell → Bool
moves s w c = moves_in (worker_state s w) c

-- a victim of the worker isn't leaving by its claim any more
abbrev pub is_gone : Machine → State → Worker → Cell → Bool
is_gone m s w c = not (is_leaving_by w (mark s c (node_of m w)))

-- all victims of the worker are gone
abbrev pub has_room : Machine → State → Worker → Bool
has_room m s w = list_all (is_gone m s w) (victims_of s w)

-- ---- the opening state

-- all tasks waiting, no copy of a cell anywhere, empty orders, workers with nothing in hand
abbrev pub opening : Program → Machine → State
opening p m = record { tasks = replicate (length p.tasks) Waiting; cells = replicate (length p.cells) (no_copy (length m.nodes)); orders = replicate (length m.nodes) []; workers = replicate m.workers (record { pins = []; scratch = 0; victims = []; transfer = None }) }
