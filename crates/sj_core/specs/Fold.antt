-- What the cells hold after tasks that run one after another in submission order, by the equations of their codelets
-- (StarPU: sequential consistency).
use Rattle.std.specs.Prelude.{ℕ, zero, suc, Bool, true, Some, None, List, [], ◌++◌, find, length, if◌then◌else◌}
use Rattle.std.specs.List.{zip, slice_index_or}
use Rattle.sj_base.specs.declared.ids.Cell.{Cell}
use Rattle.sj_base.specs.declared.ids.Task.{Task}
use Rattle.sj_base.specs.declared.ids.Worker.{Worker}
use Rattle.sj_base.specs.declared.program.Program.{Program}
use Rattle.sj_base.specs.Array.{Array, zeros}
use Rattle.sj_codelet.specs.Kernel.{Equations}
use Rattle.sj_core.specs.Program.{same_cell, dims_of}
use Rattle.sj_core.specs.Operands.{cells_of, written_cells, results}

-- the arrays that were put into cells, the last put first
abbrev pub Contents : Type 0
Contents = List (Cell × Array)

-- what a cell holds: the array that was put last, zeros where none was
abbrev pub held_in : Program → Contents → Cell → Array
held_in p contents c = elim (find (λ entry. same_cell entry.0 c) contents) [ None ↦ zeros (dims_of p c) | Some entry ↦ entry.1 ]

-- the contents after a task that a worker runs
abbrev pub after_task : Equations → Program → Worker → Task → Contents → Contents
after_task eq p w t contents = zip (written_cells p t w) (results eq p t w (held_in p contents)) ++ contents

-- the contents after those tasks numbered below n that are chosen, by number, each run by its worker
abbrev pub after_chosen : Equations → Program → (Task → Bool) → (Task → Worker) → ℕ → Contents
after_chosen eq p chosen by zero = []
after_chosen eq p chosen by (suc n) =
    let t : Task = record { 0 = n } in
    let before = after_chosen eq p chosen by n in
    if chosen t then after_task eq p (by t) t before else before

-- what a cell holds after the chosen tasks of the program
abbrev pub fold_of : Equations → Program → (Task → Bool) → (Task → Worker) → Cell → Array
fold_of eq p chosen by = held_in p (after_chosen eq p chosen by (length p.tasks))

-- what a cell holds after all tasks numbered below n, with each contribution by worker 0
abbrev pub held_before : Equations → Program → ℕ → Cell → Array
held_before eq p n = held_in p (after_chosen eq p (λ t. true) (λ t. record { 0 = 0 }) n)

-- the array that a deliver task hands over: that of its cell after all tasks before it
abbrev pub given : Equations → Program → Task → Array
given eq p t = held_before eq p t.0 (slice_index_or (cells_of p t (record { 0 = 0 })) 0 (record { 0 = 0 }))
