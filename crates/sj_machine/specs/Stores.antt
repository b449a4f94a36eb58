-- The nodes' stores and the workers' rows, as the state has them.
use Rattle.std.specs.Prelude.{◌≡◌, ℕ, ◌<◌, ◌≤◌, Option, List, map, count_by, length, sum_by}
use Rattle.std.specs.List.{slice_index_or, slice_set}
use Rattle.sj_base.specs.declared.ids.Cell.{Cell}
use Rattle.sj_base.specs.declared.ids.Node.{Node}
use Rattle.sj_base.specs.declared.ids.Worker.{Worker}
use Rattle.sj_base.specs.declared.program.Program.{Program}
use Rattle.sj_base.specs.declared.program.Machine.{Machine}
use Rattle.sj_core.specs.Laws.{IsSound}
use Rattle.sj_core.specs.Machine.{State, WorkerState, idle_row, is_entry, order, pins, scratch, workers_at}
use Rattle.sj_core.specs.Needs.{node_size, tile_bytes}
use Rattle.sj_core.specs.Program.{same_cell}
use Rattle.sj_core.specs.declared.progress.Progress.{Progress}
use Rattle.sj_core.specs.declared.progress.Transfer.{Transfer}
use Rattle.sj_node.specs.Entry.{NodeEntry, has_entry}
use Rattle.sj_node.specs.Store.{Store, store}
use Rattle.sj_replica.specs.Replica.{CellState}
use Rattle.sj_machine.specs.Cells.{mark_at}

-- the cells of a node's entries, most recent first
abbrev pub order_in : Store → List Cell
order_in node = map (λ (e : NodeEntry). e.cell) node.entries

-- the state of which these are the rows
abbrev pub state_in : List Progress → List CellState → List Store → List WorkerState → State
state_in tasks cells nodes workers = record { tasks = tasks; cells = cells; orders = map order_in nodes; workers = workers }

-- how many pins the workers of a node have on a cell
abbrev pub pins_on : Machine → State → Node → Cell → ℕ
pins_on m s n c = sum_by (λ w. count_by (λ d. same_cell d c) (pins s w)) (workers_at m n)

abbrev pub node_entry_of : Program → Machine → State → Node → Cell → NodeEntry
node_entry_of p m s n c = record { cell = c; bytes = tile_bytes p c; pins = pins_on m s n c }

-- what a node's store is in a state
abbrev pub store_of : Program → Machine → State → Node → Store
store_of p m s n = store (node_size m n) (sum_by (scratch s) (workers_at m n)) (length p.cells) (map (node_entry_of p m s n) (order s n))

-- each node's store is that of the state
pub record HasStores (p : Program) (m : Machine) (s : State) (nodes : List Store) : Type 0 where
  pub every_node : length nodes ≡ length m.nodes
  pub stores : (n : Node) → n.0 < length m.nodes → slice_index_or nodes n.0 (store_of p m s n) ≡ store_of p m s n

-- each worker pins at most as many cells as a task has operands
abbrev pub PinsFew : State → Type 0
PinsFew s = (w : Worker) → length (pins s w) ≤ 5

-- the state is sound, its pins are few, and the nodes' stores are those of the state
pub record KeepsStores (p : Program) (m : Machine) (s : State) (nodes : List Store) : Type 0 where
  pub sound : IsSound p m s
  pub few : PinsFew s
  pub stores : HasStores p m s nodes

-- a node's entries are those of the cells of which the marks tell so
abbrev pub AreMarked : List CellState → Node → List NodeEntry → Type 0
AreMarked rows n entries = (c : Cell) → has_entry entries c ≡ is_entry (mark_at rows n c)

-- ---- workers

-- the row of a worker
abbrev pub row_at : List WorkerState → Worker → WorkerState
row_at ws w = slice_index_or ws w.0 idle_row

-- the transfer of a worker
abbrev pub transfer_in : List WorkerState → Worker → Option Transfer
transfer_in ws w = (row_at ws w).transfer

-- the rows of workers with one worker's transfer changed
abbrev pub with_transfer_of : List WorkerState → Worker → Option Transfer → List WorkerState
with_transfer_of ws w move = slice_set ws w.0 (record (row_at ws w) { transfer = move })
