-- The operands of a task as its worker works on them.
use Rattle.std.specs.Prelude.{◌<◌, ◌^◌, Bool, Option, List, find, filter, map, length}
use Rattle.std.specs.List.{list_any}
use Rattle.sj_base.specs.declared.ids.Cell.{Cell}
use Rattle.sj_base.specs.declared.ids.Worker.{Worker}
use Rattle.sj_base.specs.declared.mode.Access.{Access}
use Rattle.sj_base.specs.declared.program.Program.{Program}
use Rattle.sj_base.specs.Mode.{is_commute, is_data, is_written}
use Rattle.sj_core.specs.Machine.{WorkerState}
use Rattle.sj_core.specs.Operands.{worked_on}
use Rattle.sj_core.specs.Program.{has_cell}

-- the operand is of a cell of the program, and what the worker works on for it has a number of a cell's type
pub record CanWorkOn (p : Program) (w : Worker) (a : Access) : Type 0 where
  pub cell : a.cell.0 < length p.cells
  pub number : (worked_on p w a).0 < 2 ^ 32

-- the cells on which a worker works for the accesses to data, in order
abbrev pub worked_among : Program → Worker → List Access → List Cell
worked_among p w accesses = map (worked_on p w) (filter (λ a. is_data a.mode) accesses)

-- the cells among them that are written, in order
abbrev pub written_among : Program → Worker → List Access → List Cell
written_among p w accesses = map (worked_on p w) (filter (λ a. is_written a.mode) accesses)

-- the cells of the commuting accesses, in order
abbrev pub commuting_among : List Access → List Cell
commuting_among accesses = map (λ a. a.cell) (filter (λ a. is_commute a.mode) accesses)

-- a worker pins the cell
abbrev pub is_held : List WorkerState → Cell → Bool
is_held workers c = list_any (λ row. has_cell row.pins c) workers

-- the first of the commuting accesses' cells that a worker pins
abbrev pub first_held : List WorkerState → List Access → Option Cell
first_held workers accesses = find (is_held workers) (commuting_among accesses)
