-- What the rows say of a worker's next step.
use Rattle.std.specs.Prelude.{◌+◌, ◌^◌, ◌<◌, Bool, not, ◌&&◌, ◌||◌, IfSome, All, List, Option, filter, find, map, reverse}
use Rattle.std.specs.List.{list_all, list_any}
use Rattle.sj_base.specs.declared.ids.Cell.{Cell}
use Rattle.sj_base.specs.declared.ids.Node.{Node}
use Rattle.sj_base.specs.declared.ids.Task.{Task}
use Rattle.sj_base.specs.declared.ids.Worker.{Worker}
use Rattle.sj_base.specs.declared.mode.Access.{Access}
use Rattle.sj_base.specs.declared.program.Program.{Program}
use Rattle.sj_base.specs.declared.program.Machine.{Machine}
use Rattle.sj_base.specs.Mode.{is_data, starts_as_zeros}
use Rattle.sj_core.specs.Machine.{State, WorkerState, is_coming_by, is_gone, is_leaving_by, is_valid, mark, moves_in, victims_of}
use Rattle.sj_core.specs.Needs.{node_of}
use Rattle.sj_core.specs.Operands.{cells_of, worked_on, written_cells}
use Rattle.sj_core.specs.Program.{has_cell}
use Rattle.sj_core.specs.Step.{is_fresh, is_moving, is_present}
use Rattle.sj_replica.specs.Replica.{CellState}
use Rattle.sj_machine.specs.Cells.{mark_at}
use Rattle.sj_machine.specs.Operands.{worked_among, written_among}

-- ---- in the state

-- the victim that goes next: the least recently used of those that aren't gone
abbrev pub next_victim : Machine → State → Worker → Option Cell
next_victim m s w = find (λ c. not (is_gone m s w c)) (reverse (victims_of s w))

-- the cell comes by the worker's claim, and its old value is read
abbrev pub is_to_come : Program → Machine → State → Worker → Cell → Bool
is_to_come p m s w c = is_coming_by w (mark s c (node_of m w)) && not (is_fresh p s w c)

-- the cell that is brought next: the first of them in operand order
abbrev pub next_cell : Program → Machine → State → Task → Worker → Option Cell
next_cell p m s t w = find (is_to_come p m s w) (cells_of p t w)

-- each cell whose old value the task reads is on the node, and no transfer moves a cell that it writes
abbrev pub may_run : Program → Machine → State → Task → Worker → Bool
may_run p m s t w = is_present p s t w (node_of m w) && list_all (λ c. not (is_moving s c)) (written_cells p t w)

-- ---- in the rows of cells and workers

-- the copy of the cell at the node leaves by the worker's claim
abbrev pub leaves_in : List CellState → Node → Worker → Cell → Bool
leaves_in rows n w c = is_leaving_by w (mark_at rows n c)

-- each worker's partial copies have a number
pub record HasNumbers (p : Program) (w : Worker) : Type 0 where
  pub copies : All (λ info. IfSome info.partials (λ first. first.0 + w.0 < 2 ^ 32)) p.cells

-- the cells on which the worker works for these accesses to data, and whose old value isn't read
abbrev pub fresh_among : Program → Worker → List Access → List Cell
fresh_among p w accesses = map (worked_on p w) (filter (λ a. starts_as_zeros a.mode) (filter (λ a. is_data a.mode) accesses))

-- the cell comes to the node by the worker's claim, and its old value is read
abbrev pub is_brought : List CellState → Program → Node → Worker → List Access → Cell → Bool
is_brought rows p n w accesses c = is_coming_by w (mark_at rows n c) && not (has_cell (fresh_among p w accesses) c)

-- each of the cells whose old value is read is on the node
abbrev pub are_present : List CellState → Program → Node → Worker → List Access → Bool
are_present rows p n w accesses = list_all (λ c. has_cell (fresh_among p w accesses) c || is_valid (mark_at rows n c)) (worked_among p w accesses)

-- no transfer moves a cell that is written
abbrev pub are_unmoved : List WorkerState → Program → Worker → List Access → Bool
are_unmoved ws p w accesses = list_all (λ c. not (list_any (λ row. moves_in row c) ws)) (written_among p w accesses)
