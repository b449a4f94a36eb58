-- What a lowered task works on: its cells, with the worker's partial copy in place of a cell under reduction.
use Rattle.std.specs.Prelude.{◌+◌, Some, None, List, map, filter, if◌then◌else◌}
use Rattle.sj_base.specs.declared.ids.Cell.{Cell}
use Rattle.sj_base.specs.declared.ids.Task.{Task}
use Rattle.sj_base.specs.declared.ids.Worker.{Worker}
use Rattle.sj_base.specs.declared.mode.Access.{Access}
use Rattle.sj_base.specs.declared.program.Program.{Program}
use Rattle.sj_base.specs.Array.{Array, zeros}
use Rattle.sj_core.specs.Program.{cell_info, dims_of, task_of, data_operands, written_operands}
use Rattle.sj_base.specs.Mode.{is_redux, is_commute, starts_as_zeros}
use Rattle.sj_codelet.specs.Kernel.{Equations}

-- the partial copy of a cell on which a worker's contributions add up; the cell itself where it has none
abbrev pub copy_of : Program → Cell → Worker → Cell
copy_of p c w = elim (cell_info p c).partials [ None ↦ c | Some first ↦ record { 0 = first.0 + w.0 } ]

-- the cell on which a worker works for an operand
abbrev pub worked_on : Program → Worker → Access → Cell
worked_on p w a = if is_redux a.mode then copy_of p a.cell w else a.cell

-- the cells of a task that a worker runs, in operand order, scratch aside
abbrev pub cells_of : Program → Task → Worker → List Cell
cells_of p t w = map (worked_on p w) (data_operands (task_of p t))

-- those of them that it writes, in operand order
abbrev pub written_cells : Program → Task → Worker → List Cell
written_cells p t w = map (worked_on p w) (written_operands (task_of p t))

-- those of them whose old value it doesn't read
abbrev pub fresh_cells : Program → Task → Worker → List Cell
fresh_cells p t w = map (worked_on p w) (filter (λ a. starts_as_zeros a.mode) (data_operands (task_of p t)))

-- those of them to which it contributes in any order with others
abbrev pub commuting_cells : Program → Task → List Cell
commuting_cells p t = map (λ a. a.cell) (filter (λ a. is_commute a.mode) (task_of p t).accesses)

-- the array of an operand as a task finds it: zeros where the old value isn't read, else what the cell holds
abbrev pub found : Program → Worker → (Cell → Array) → Access → Array
found p w held a = if starts_as_zeros a.mode then zeros (dims_of p a.cell) else held (worked_on p w a)

-- the new arrays of a task's written cells, in operand order, by the equations of codelets from what the cells hold
abbrev pub results : Equations → Program → Task → Worker → (Cell → Array) → List Array
results eq p t w held =
    let l = task_of p t in
    eq l.codelet l.args (map (found p w held) l.accesses)
