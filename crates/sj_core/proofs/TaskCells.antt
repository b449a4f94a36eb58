-- Which cells a task works on: those it writes, those it finds as zeros, those to which it contributes in any order.
use Rattle.sj_core.proofs.Words.{[], Access, arith, Bool, Cell, cells_of, Contains, filter, fresh_cells, has_cell, is_scratch, is_written, length, List, not, Program, refl, starts_as_zeros, Task, task_of, true, worked_on, Worker, written_cells, ◌&&◌, ◌<◌, ◌∷◌, ◌≡◌}
use Rattle.std.proofs.lemmas.{Bool.cases_lt, List.get_or_past}
use Rattle.sj_core.proofs.{CellLists.same_cell-from, Modes.fresh_is_written, Modes.written_isn't_scratch, Readiness.Contains-from_filter, Readiness.filter-Contains, Sharing.operand-has_cell, Sharing.operand_for}

-- ---- each operand of a task names a cell of its program

-- a task with an operand is one of the program
pub operand-inside : (p : Program) (t : Task) (a : Access) → Contains (task_of p t).accesses a → t.0 < length p.tasks
operand-inside p t a h = search (arith, cases_lt, get_or_past)

-- ---- which cells a task works on: those it writes, those it finds as zeros, those to which it contributes in any order

-- two filters one after another
pub filter-filter : {X : Type 0} (f g : X → Bool) (xs : List X) → filter f (filter g xs) ≡ filter (λ x. g x && f x) xs
filter-filter f g [] = refl
filter-filter f g (x ∷ xs) = search (arith, filter-filter f g xs)

-- what a task writes it works on
pub written-among_cells : (p : Program) (t : Task) (w : Worker) (c : Cell) → has_cell (written_cells p t w) c ≡ true → has_cell (cells_of p t w) c ≡ true
written-among_cells p t w c h =
    let a = operand_for (worked_on p w) (λ a. is_written a.mode) (task_of p t).accesses c h in
    operand-has_cell (worked_on p w) (λ a. not (is_scratch a.mode)) (task_of p t).accesses a.0 c a.1 (written_isn't_scratch a.0.mode a.2) (same_cell-from (worked_on p w a.0) c a.3)

-- what a task finds as zeros it writes
pub fresh-among_written : (p : Program) (t : Task) (w : Worker) (c : Cell) → has_cell (fresh_cells p t w) c ≡ true → has_cell (written_cells p t w) c ≡ true
fresh-among_written p t w c h =
    let on_data : Access → Bool = λ a. not (is_scratch a.mode) in
    let a = operand_for (worked_on p w) (λ a. starts_as_zeros a.mode) (filter on_data (task_of p t).accesses) c h in
    operand-has_cell (worked_on p w) (λ a. is_written a.mode) (task_of p t).accesses a.0 c (Contains-from_filter on_data (task_of p t).accesses a.0 a.1) (fresh_is_written a.0.mode (filter-Contains on_data (task_of p t).accesses a.0 a.1) a.2) (same_cell-from (worked_on p w a.0) c a.3)
