-- What the accessors of a state give after a claim, a run and an end.
use Rattle.sj_core.proofs.Words.{[], ap, arith, Bool, Cell, cell_state, CellState, false, get_or, has_cell, if◌then◌else◌, Invalid, is_entry, is_leaving, is_moving, is_read, length, List, list_all, list_any, Machine, map, Mark, mark, mark_in, moves, moves_in, Node, None, none_leaving, Option, Place, Progress, progress, reads_in, refl, same_cell, Some, State, suc, Task, Transfer, transfer, true, Waiting, with_cells, with_mark, with_progress, with_worker, Worker, worker_state, workers_of, WorkerState, zero, ℕ, ◌<◌, ◌∙◌, ◌∷◌, ◌≡◌, ◌≢◌, ◌⊎◌}
use Rattle.std.proofs.lemmas.{Bool.cases_eq, Bool.cases_lt, Bool.false_from_ne_true, Bool.false≢true, Bool.not-true, Bool.Decides.Decides-eqb, List.get_or-set_other, List.get_or-set_same, List.get_or_past, List.Folds.list_any_at, List.Sums.AllPass-from_list_all}
pub use Rattle.sj_base.proofs.SameIds.{same_cell-is}
pub use Rattle.sj_base.proofs.SameIds.{workers_differ}
pub use Rattle.sj_base.proofs.Lists.{list_any-numbered}
use Rattle.sj_core.proofs.Tables.{length-renewed, renewed-at}
pub use Rattle.sj_core.specs.Machine.{idle_row}

-- ---- tasks

pub progress-same : (s : State) (t : Task) (x : Progress) → t.0 < length s.tasks → progress (with_progress s t x) t ≡ x
progress-same s t x h = get_or-set_same s.tasks t.0 x Waiting h

pub progress-other : (s : State) (t u : Task) (x : Progress) → u ≢ t → progress (with_progress s t x) u ≡ progress s u
progress-other s t u x h = get_or-set_other s.tasks t.0 u.0 x Waiting (λ e. h (ap (λ (n : ℕ). let k : Task = record { 0 = n } in k) e))

-- a task that isn't waiting is one of the table
pub progress-inside : (s : State) (t : Task) → progress s t ≢ Waiting → t.0 < length s.tasks
progress-inside s t h = search (arith, cases_lt, get_or_past)

-- ---- workers

pub worker-same : (s : State) (w : Worker) (row : WorkerState) → w.0 < length s.workers → worker_state (with_worker s w row) w ≡ row
worker-same s w row h = get_or-set_same s.workers w.0 row idle_row h

pub worker-other : (s : State) (w v : Worker) (row : WorkerState) → v ≢ w → worker_state (with_worker s w row) v ≡ worker_state s v
worker-other s w v row h = get_or-set_other s.workers w.0 v.0 row idle_row (λ e. h (ap (λ (n : ℕ). let k : Worker = record { 0 = n } in k) e))

-- ---- cells

abbrev pub no_row : CellState
no_row = record { marks = []; on_disk = false; writes = 0 }

-- a mark that was written where the row has the node
pub mark_in-same : (row : CellState) (n : Node) (x : Mark) → n.0 < length row.marks → mark_in (with_mark row n x) n ≡ x
mark_in-same row n x h = get_or-set_same row.marks n.0 x Invalid h

-- every cell's row; past the table there is no row before or after
pub cells-renewed_or : (s : State) (f : Cell → CellState → CellState) (c : Cell) → (cell_state (with_cells s f) c ≡ f c (cell_state s c)) ⊎ ((cell_state s c ≡ no_row) × (cell_state (with_cells s f) c ≡ no_row))
cells-renewed_or s f c = search (arith, cases_lt, renewed-at, no_row, get_or_past, length-renewed)

pub same_node : (n k : Node) → (n ≡ k) ⊎ (n ≢ k)
same_node n k = search (arith, cases_eq)

pub all_invalid : (rs : List Mark) (k : ℕ) → get_or (map (λ r. Invalid) rs) k Invalid ≡ Invalid
all_invalid [] k = refl
all_invalid (r ∷ rs) zero = refl
all_invalid (r ∷ rs) (suc k) = all_invalid rs k

-- the cells whose rows a test leaves alone
pub cells-untouched : (s : State) (test : Cell → Bool) (g : Cell → CellState → CellState) (c : Cell) → test c ≡ false → cell_state (with_cells s (λ d row. if test d then g d row else row)) c ≡ cell_state s c
cells-untouched s test g c h = search (arith, cells-renewed_or)

-- and those that it picks
pub cells-touched : (s : State) (test : Cell → Bool) (g : Cell → CellState → CellState) (c : Cell) → c.0 < length s.cells → test c ≡ true → cell_state (with_cells s (λ d row. if test d then g d row else row)) c ≡ g c (cell_state s c)
cells-touched s test g c inside h = search (arith, renewed-at, no_row)

-- an entry is a cell of the table, at a node of its row
pub entry-inside : (s : State) (c : Cell) (n : Node) → is_entry (mark s c n) ≡ true → (c.0 < length s.cells) × (n.0 < length (cell_state s c).marks)
entry-inside s c n h = search (arith, cases_lt, false≢true, get_or_past, no_row)

-- no copy leaves a node that is settled
pub settled-at : (s : State) (n : Node) (c : Cell) → none_leaving s n ≡ true → is_leaving (mark s c n) ≡ false
settled-at s n c h = search (arith, cases_lt, not-true, AllPass-from_list_all, no_row, get_or_past)

-- a worker with a transfer is one of the table, and its transfer is one of its cell
pub transfer-inside : (s : State) (w : Worker) (x : Transfer) → transfer s w ≡ Some x → w.0 < length s.workers
transfer-inside s w x h = search (arith, cases_lt, get_or_past, idle_row)

pub moves-it : (s : State) (w : Worker) (x : Transfer) → transfer s w ≡ Some x → moves s w x.cell ≡ true
moves-it s w x h = ap (λ (o : Option Transfer). elim o as (λ _. Bool) [ None ↦ false | Some y ↦ same_cell y.cell x.cell ]) h ∙ (Decides-eqb x.cell.0 x.cell.0).1 refl

-- where no transfer is one of the cell, none moves it
pub unmoved-from : (s : State) (v : Worker) (c : Cell) → ((x : Transfer) → transfer s v ≡ Some x → x.cell ≡ c → ⊥) → moves s v c ≡ false
unmoved-from s v c none = search (arith, false_from_ne_true, same_cell-is)

-- a test of rows that none passes, nor an idle one, is passed by no worker's row
fails-in_rows : (test : WorkerState → Bool) (s : State) (v : Worker) → test idle_row ≡ false → list_any test s.workers ≡ false → test (worker_state s v) ≡ false
fails-in_rows test s v idle none = search (arith, cases_lt, get_or_past, idle_row, list_any_at, false_from_ne_true, false≢true)

pub unmoved-by : (s : State) (c : Cell) (v : Worker) → is_moving s c ≡ false → moves s v c ≡ false
unmoved-by s c v none = fails-in_rows (λ row. moves_in row c) s v refl none

pub unread-by : (s : State) (c : Cell) (q : Place) (v : Worker) → is_read s c q ≡ false → reads_in (worker_state s v) c q ≡ false
unread-by s c q v none = fails-in_rows (λ row. reads_in row c q) s v refl none

-- ---- lists of cells and of workers

-- a test that each cell of a list passes is passed by a cell that the list has
pub list_all-has : (test : Cell → Bool) (cs : List Cell) (c : Cell) → list_all test cs ≡ true → has_cell cs c ≡ true → test c ≡ true
list_all-has test [] c all h = absurd (false≢true h)
list_all-has test (d ∷ cs) c all h = search (arith, false≢true, same_cell-is, (list_all-has test cs c))

-- some worker of the machine passes a test that this one passes
pub list_any-worker : (test : Worker → Bool) (m : Machine) (w : Worker) → w.0 < m.workers → test w ≡ true → list_any test (workers_of m) ≡ true
list_any-worker test m w h passes = list_any-numbered (λ n. record { 0 = n }) test w.0 m.workers h passes
