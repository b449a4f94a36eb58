-- The arrays beside the state: which one each cell has at each place is a function of the events and of the equations of
-- codelets. Where there is no copy it is any.
use Rattle.std.specs.Prelude.{◌≡◌, ◌<◌, false, ◌&&◌, IsTrue, List, fold, if◌then◌else◌}
use Rattle.std.specs.List.{zip}
use Rattle.sj_base.specs.declared.ids.Cell.{Cell}
use Rattle.sj_base.specs.declared.ids.Task.{Task}
use Rattle.sj_base.specs.declared.ids.Worker.{Worker}
use Rattle.sj_base.specs.declared.ids.Place.{Place}
use Rattle.sj_base.specs.declared.ids.Place.TheVariants.{Node as AtNode}
use Rattle.sj_base.specs.declared.trace.Event.{Event}
use Rattle.sj_base.specs.declared.trace.Event.TheVariants.{Moved, Run, End}
use Rattle.sj_base.specs.declared.program.Program.{Program}
use Rattle.sj_base.specs.declared.program.Machine.{Machine}
use Rattle.sj_base.specs.Array.{Array, zeros}
use Rattle.sj_base.specs.Ids.{same_place}
use Rattle.sj_codelet.specs.Kernel.{Equations}
use Rattle.sj_core.specs.Program.{same_cell, has_cell, dims_of}
use Rattle.sj_core.specs.Needs.{node_of}
use Rattle.sj_core.specs.declared.progress.Progress.TheVariants.{Running}
use Rattle.sj_core.specs.Operands.{written_cells, fresh_cells, results}
use Rattle.sj_core.specs.Fold.{fold_of, held_in}
use Rattle.sj_core.specs.Machine.{State, progress, writes, done_in, done_by}
use Rattle.sj_core.specs.Coherent.{is_being_written}
use Rattle.sj_core.specs.Step.{has_copy}

-- the array of each cell at each place
abbrev pub Arrays : Type 0
Arrays = Cell → Place → Array

-- the arrays at one place
abbrev pub held_at : Arrays → Place → Cell → Array
held_at A q c = A c q

-- ---- what events leave

-- the new array of a cell that a task writes, from what the cells hold
abbrev pub result_in : Equations → Program → Task → Worker → (Cell → Array) → Cell → Array
result_in eq p t w held c = held_in p (zip (written_cells p t w) (results eq p t w held)) c

-- the arrays that an event leaves: a move that ends copies one, a run puts zeros where the old value isn't read, and an end
-- puts the results
abbrev pub arrays_after : Equations → Program → Machine → Arrays → Event → Arrays
arrays_after eq p m A (Moved x from to) c q = if same_place q to && same_cell x c then A x from else A c q
arrays_after eq p m A (Run t w) c q = if same_place q (AtNode (node_of m w)) && has_cell (fresh_cells p t w) c then zeros (dims_of p c) else A c q
arrays_after eq p m A (End t w) c q = if same_place q (AtNode (node_of m w)) && has_cell (written_cells p t w) c then result_in eq p t w (held_at A (AtNode (node_of m w))) c else A c q
arrays_after eq p m A _ c q = A c q

-- the arrays that the events leave one after another when they begin with zeros
abbrev pub arrays_of : Equations → Program → Machine → List Event → Arrays
arrays_of eq p m trace = fold (arrays_after eq p m) (λ c q. zeros (dims_of p c)) trace

-- ---- what they ought to be

-- the array of a cell after the tasks that are done, in submission order, each by the worker by which it is done
abbrev pub content : Equations → Program → State → Cell → Array
content eq p s c = fold_of eq p (done_in s) (done_by s) c

-- what a cell holds while a task that writes it runs: zeros where the task doesn't read its old value
abbrev pub written_content : Equations → Program → State → Task → Worker → Cell → Array
written_content eq p s t w c = if has_cell (fresh_cells p t w) c then zeros (dims_of p c) else content eq p s c

-- each cell that a running task writes is on its worker's node as the task found it; and each copy of one that has
-- been written, and that no running task writes, holds its content
pub record HoldsContent (eq : Equations) (p : Program) (m : Machine) (s : State) (A : Arrays) : Type 0 where
  pub begun : (t : Task) (w : Worker) (c : Cell) → progress s t ≡ Running w → IsTrue (has_cell (written_cells p t w) c) → A c (AtNode (node_of m w)) ≡ written_content eq p s t w c
  pub alike : (c : Cell) (q : Place) → 0 < writes s c → is_being_written p s c ≡ false → IsTrue (has_copy p m s c q) → A c q ≡ content eq p s c
