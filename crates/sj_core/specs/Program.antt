-- Looking up the cells and the tasks of a lowered program, and what a mode does with its operand.
use Rattle.std.specs.Prelude.{Bool, None, List, [], ◌∷◌, map, filter, length, pos, if◌then◌else◌}
use Rattle.std.specs.List.{slice_index_or, list_any, range_with_len}
use Rattle.sj_base.specs.declared.ids.Cell.{Cell}
use Rattle.sj_base.specs.declared.ids.Task.{Task}
use Rattle.sj_base.specs.Mode.{is_data, is_written}
use Rattle.sj_base.specs.declared.mode.Access.{Access}
use Rattle.sj_base.specs.declared.tile.Dims.{Dims}
use Rattle.sj_base.specs.declared.program.CellInfo.{CellInfo}
use Rattle.sj_base.specs.declared.program.Lowered.{Lowered}
use Rattle.sj_base.specs.declared.program.Program.{Program}
pub use Rattle.sj_base.specs.Ids.{same_cell}

-- the list names the cell
abbrev pub has_cell : List Cell → Cell → Bool
has_cell cs c = list_any (λ d. same_cell d c) cs

-- each cell of the list once
abbrev pub distinct : List Cell → List Cell
distinct [] = []
distinct (c ∷ cs) = if has_cell cs c then distinct cs else c ∷ distinct cs

-- the row of a cell that a program hasn't: without elements
abbrev pub no_cell : CellInfo
no_cell = record { root = record { 0 = 0 }; dims = record { rows = 0; cols = 0 }; partials = None }

-- the row of a task that a program hasn't: without operands
abbrev pub no_task : Lowered
no_task = record { codelet = record { 0 = 0 }; args = []; accesses = []; line = record { 0 = 0 }; priority = pos 0 }

abbrev pub cell_info : Program → Cell → CellInfo
cell_info p c = slice_index_or p.cells c.0 no_cell

abbrev pub dims_of : Program → Cell → Dims
dims_of p c = (cell_info p c).dims

abbrev pub task_of : Program → Task → Lowered
task_of p t = slice_index_or p.tasks t.0 no_task

-- the tasks of a program by number
abbrev pub tasks_of : Program → List Task
tasks_of p = map (λ n. record { 0 = n }) (range_with_len 0 (length p.tasks))

-- the cells of a program by number
abbrev pub cells_of_program : Program → List Cell
cells_of_program p = map (λ n. record { 0 = n }) (range_with_len 0 (length p.cells))

-- the operands that are accesses to data: all but scratch, in operand order
abbrev pub data_operands : Lowered → List Access
data_operands l = filter (λ a. is_data a.mode) l.accesses

-- the operands that get new values, in operand order
abbrev pub written_operands : Lowered → List Access
written_operands l = filter (λ a. is_written a.mode) l.accesses
