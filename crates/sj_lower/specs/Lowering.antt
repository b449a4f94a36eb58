-- What a job is lowered to: its statements give cells, tasks over cells and deliveries, one statement after another, each in
-- the state that the statements before it leave. Contributions to a cell form a phase: they go to partial copies, which are
-- combined into the cell before the next statement that accesses it in another way, or that prints, changes the plan of,
-- invalidates or unregisters its root.
use Rattle.std.specs.Prelude.{ℕ, ◌+◌, Bool, ◌||◌, ◌&&◌, not, Option, Some, None, List, [], ◌∷◌, ◌++◌, map, filter, fold, length, if◌then◌else◌}
use Rattle.std.specs.List.{range_with_len}
use Rattle.sj_base.specs.declared.ids.Cell.{Cell}
use Rattle.sj_base.specs.declared.ids.Line.{Line}
use Rattle.sj_base.specs.declared.ids.Root.{Root}
use Rattle.sj_base.specs.declared.mode.Access.{Access}
use Rattle.sj_base.specs.declared.mode.Reduction.{Reduction}
use Rattle.sj_base.specs.Mode.{is_data, is_redux, access}
use Rattle.sj_base.specs.declared.tile.Dims.{Dims}
use Rattle.sj_base.specs.declared.program.Lowered.{Lowered}
use Rattle.sj_base.specs.declared.program.Delivery.{Delivery}
use Rattle.sj_base.specs.declared.program.Program.{Program}
use Rattle.sj_core.specs.Program.{same_cell}
use Rattle.sj_plan.specs.declared.parts.Parts.{Parts}
use Rattle.sj_plan.specs.Parts.{places}
use Rattle.sj_plan.specs.Paste.{pastes_of}
use Rattle.sj_plan.specs.Rect.{child, place_of}
use Rattle.sj_meaning.specs.declared.job.Init.{Init}
use Rattle.sj_meaning.specs.declared.job.Init.TheVariants.{Values, Fill, Nothing}
use Rattle.sj_meaning.specs.Statement.{Operand, TaskLine}
use Rattle.sj_meaning.specs.Act.{Act, Statement}
use Rattle.sj_meaning.specs.Act.{Register as Registers, Plan as Plans, Redux as Reduces, Task as Tasks, Print as Prints, Invalidate as Invalidates, Unregister as Unregisters}
use Rattle.sj_meaning.specs.State.{RootState, JobState, start, root_of, is_valued}
use Rattle.sj_meaning.specs.Meaning.{apply}
use Rattle.sj_meaning.specs.Sound.{reduction_of, has_child_values}
use Rattle.sj_meaning.specs.Table.{undivided}
use Rattle.sj_job.specs.Track.{number}
use Rattle.sj_lower.specs.declared.phase.OpenPhase.{OpenPhase}
use Rattle.sj_lower.specs.Cells.{Cells, same_parts, cell_of, take, with_new_root, no_cells, first_partial, with_copies}
use Rattle.sj_lower.specs.Rows.{load_row, fill_row, paste_row, deliver_row, init_row, init_rows, combine_rows}

-- ---- cells

-- the cells after a statement: a registration and a plan line take a plan
abbrev pub cells_after : Act (List ℕ) → Cells → Cells
cells_after (Registers r) C = take r.name r.parts (with_new_root r.name r.dims C)
cells_after (Plans name p) C = take name p C
cells_after (Reduces name by) C = C
cells_after (Tasks t) C = C
cells_after (Prints name) C = C
cells_after (Invalidates name) C = C
cells_after (Unregisters name) C = C

-- ---- tasks, where C are the cells after the statement, and S is the state before it

-- each child of a root that has values is loaded, row by row
abbrev pub load_rows : Init → Dims → Parts → (ℕ × ℕ → Cell) → Line → List Lowered
load_rows (Values xs) d p cell line = map (λ place. load_row xs d (child d p place) (cell place) line) (places p)
load_rows (Fill a b) d p cell line = map (λ place. fill_row a b d (child d p place) (cell place) line) (places p)
load_rows Nothing d p cell line = []

-- the active plan of a name
abbrev pub parts_in : JobState → List ℕ → Parts
parts_in S name = elim (root_of S name) [ None ↦ undivided | Some r ↦ r.parts ]

-- the cell of a child of a name's active plan
abbrev pub active_cell : JobState → Cells → List ℕ → ℕ × ℕ → Cell
active_cell S C name place = cell_of C name (parts_in S name) place

-- a plan line leaves the plan active that it names, or finds no values
abbrev pub leaves_plan : Parts → RootState → Bool
leaves_plan p r = same_parts r.parts p || not (is_valued r)

-- else the children of the active plan are pasted into those of the new one
abbrev pub plan_rows : JobState → Cells → List ℕ → Parts → Line → List Lowered
plan_rows S C name p line = elim (root_of S name) [
  | None ↦ []
  | Some r ↦ if leaves_plan p r then [] else map (paste_row (cell_of C name r.parts) (cell_of C name p) line) (pastes_of r.dims r.parts p)
]

-- an operand as an access to its child's cell
abbrev pub access_of : JobState → Cells → Operand (List ℕ) → Access
access_of S C o = access o.mode (active_cell S C o.name o.place)

abbrev pub task_row : JobState → Cells → Line → TaskLine (List ℕ) → Lowered
task_row S C line t = record { codelet = t.codelet; args = t.args; accesses = map (access_of S C) t.operands; line = line; priority = t.priority }

-- each child of the active plan is handed over, row by row
abbrev pub deliver_rows : JobState → Cells → List ℕ → Line → List Lowered
deliver_rows S C name line = map (λ place. deliver_row (active_cell S C name place) line) (places (parts_in S name))

abbrev pub rows_added : JobState → Cells → Line → Act (List ℕ) → List Lowered
rows_added S C line (Registers r) = load_rows r.init r.dims r.parts (cell_of C r.name r.parts) line
rows_added S C line (Plans name p) = plan_rows S C name p line
rows_added S C line (Reduces name by) = []
rows_added S C line (Tasks t) = task_row S C line t ∷ []
rows_added S C line (Prints name) = deliver_rows S C name line
rows_added S C line (Invalidates name) = []
rows_added S C line (Unregisters name) = []

-- ---- deliveries

-- where a child belongs in its root, which a task hands over for a print statement
abbrev pub a_delivery : ℕ → Root → Dims → Parts → ℕ → ℕ × ℕ → Delivery
a_delivery task root d p print place = record { task = record { 0 = task + number p place }; root = root; place = place_of (child d p place); print = print }

-- the deliveries of a print statement, whose first task has this number
abbrev pub print_deliveries : JobState → Cells → List ℕ → ℕ → ℕ → List Delivery
print_deliveries S C name task print = elim (C.handles name) [
  | None ↦ []
  | Some h ↦ map (a_delivery task h.root h.dims (parts_in S name) print) (places (parts_in S name))
]

abbrev pub deliveries_of : JobState → Cells → ℕ → ℕ → Act (List ℕ) → List Delivery
deliveries_of S C task print (Registers r) = []
deliveries_of S C task print (Plans name p) = []
deliveries_of S C task print (Reduces name by) = []
deliveries_of S C task print (Tasks t) = []
deliveries_of S C task print (Prints name) = print_deliveries S C name task print
deliveries_of S C task print (Invalidates name) = []
deliveries_of S C task print (Unregisters name) = []

-- how many print statements there are after a statement
abbrev pub prints_after : Act (List ℕ) → ℕ → ℕ
prints_after (Registers r) n = n
prints_after (Plans name p) n = n
prints_after (Reduces name by) n = n
prints_after (Tasks t) n = n
prints_after (Prints name) n = n + 1
prints_after (Invalidates name) n = n
prints_after (Unregisters name) n = n

-- what the statements so far gave, how many print statements there were, and the open phase of each cell that has one
pub record Lowering : Type 0 where
  pub cells : Cells
  pub tasks : List Lowered
  pub deliveries : List Delivery
  pub prints : ℕ
  pub phase : Cell → Option OpenPhase

-- before the first statement
abbrev pub nothing : Lowering
nothing = record { cells = no_cells; tasks = []; deliveries = []; prints = 0; phase = λ c. None }

-- ---- phases of contributions

-- the cell has this open phase, or none, and each other cell has what it had
abbrev pub with_phase : Cell → Option OpenPhase → (Cell → Option OpenPhase) → Cell → Option OpenPhase
with_phase c f phase d = if same_cell c d then f else phase d

-- the cell has this open phase, or none, from now on; there are these cells, and tasks more
abbrev pub phase_turned : Cells → List Lowered → Cell → Option OpenPhase → Lowering → Lowering
phase_turned C ls c f L = record {
  cells = C;
  tasks = L.tasks ++ ls;
  deliveries = L.deliveries;
  prints = L.prints;
  phase = with_phase c f L.phase;
}

-- the children of a name's active plan, row by row
abbrev pub active_cells : JobState → Cells → List ℕ → List Cell
active_cells S C name = map (active_cell S C name) (places (parts_in S name))

-- the operand is an access to its child other than a contribution; a scratch buffer is none
abbrev pub is_other_access : Operand (List ℕ) → Bool
is_other_access o = is_data o.mode && not (is_redux o.mode)

-- the cells whose phases a statement closes, in order
abbrev pub closed_by : JobState → Cells → Act (List ℕ) → List Cell
closed_by S C (Registers r) = []
closed_by S C (Plans name p) = if same_parts (parts_in S name) p then [] else active_cells S C name
closed_by S C (Reduces name by) = []
closed_by S C (Tasks t) = map (λ o. active_cell S C o.name o.place) (filter is_other_access t.operands)
closed_by S C (Prints name) = active_cells S C name
closed_by S C (Invalidates name) = active_cells S C name
closed_by S C (Unregisters name) = active_cells S C name

-- the phase of a cell is closed, if one is open: each partial copy is combined into it
abbrev pub closed : ℕ → Lowering → Cell → Lowering
closed workers L c = elim (L.phase c) [
  | None ↦ L
  | Some f ↦ phase_turned L.cells (combine_rows f c workers) c None L
]

abbrev pub all_closed : ℕ → List Cell → Lowering → Lowering
all_closed workers cs L = fold (closed workers) L cs

-- the phase of a cell goes on, with a contribution at this line
abbrev pub extended : OpenPhase → Line → OpenPhase
extended f line = record { by = f.by; copies = f.copies; line = line }

-- what begins a phase: each partial copy gets the unit, and so does the cell itself where it has no value
abbrev pub begin_rows : Reduction → Cell → Cell → Bool → ℕ → Line → List Lowered
begin_rows by first c valued workers line = init_rows by first workers line ++ (if valued then [] else init_row by line c ∷ [])

-- a phase of a cell begins
abbrev pub begun : ℕ → Reduction → Bool → Line → Cell → Lowering → Lowering
begun workers by valued line c L =
    let first = first_partial L.cells c in
    phase_turned (with_copies workers c L.cells) (begin_rows by first c valued workers line) c (Some (record { by = by; copies = first; line = line })) L

-- a contribution to a cell is to come: its phase goes on, or begins
abbrev pub opened : ℕ → Reduction → Bool → Line → Cell → Lowering → Lowering
opened workers by valued line c L = elim (L.phase c) [
  | None ↦ begun workers by valued line c L
  | Some f ↦ phase_turned L.cells [] c (Some (extended f line)) L
]

-- so is an operand's, if it is one
abbrev pub opened_for : ℕ → JobState → Line → Lowering → Operand (List ℕ) → Lowering
opened_for workers S line L o = elim (reduction_of S o.name) [
  | None ↦ L
  | Some by ↦ opened workers by (has_child_values S o) line (active_cell S L.cells o.name o.place) L
]

-- the operands to which a statement contributes
abbrev pub contributions : Act (List ℕ) → List (Operand (List ℕ))
contributions (Registers r) = []
contributions (Plans name p) = []
contributions (Reduces name by) = []
contributions (Tasks t) = filter (λ o. is_redux o.mode) t.operands
contributions (Prints name) = []
contributions (Invalidates name) = []
contributions (Unregisters name) = []

-- what there is before a statement's own tasks: the phases that it closes are closed, and that of its contribution is open
abbrev pub prepared : ℕ → JobState → Statement (List ℕ) → Lowering → Lowering
prepared workers S s L =
    fold (opened_for workers S s.line) (all_closed workers (closed_by S L.cells s.act) L) (contributions s.act)

-- ---- statements

-- what a statement's own tasks give
abbrev pub add_own : JobState → Statement (List ℕ) → Lowering → Lowering
add_own S s L =
    let C = cells_after s.act L.cells in
    record {
      cells = C;
      tasks = L.tasks ++ rows_added S C s.line s.act;
      deliveries = L.deliveries ++ deliveries_of S C (length L.tasks) L.prints s.act;
      prints = prints_after s.act L.prints;
      phase = L.phase;
    }

-- what one statement more gives
abbrev pub lower_one : ℕ → JobState → Statement (List ℕ) → Lowering → Lowering
lower_one workers S s L = add_own S s (prepared workers S s L)

-- what statements give after others
abbrev pub lower_from : ℕ → JobState → Lowering → List (Statement (List ℕ)) → Lowering
lower_from workers S L [] = L
lower_from workers S L (s ∷ ss) = lower_from workers (apply s.act S) (lower_one workers S s L) ss

-- at the end the open phases are closed, by cell
abbrev pub finished : ℕ → Lowering → Lowering
finished workers L = all_closed workers (map (λ n. record { 0 = n }) (range_with_len 0 (length L.cells.rows))) L

-- ---- programs

abbrev pub lowered_program : ℕ → Lowering → Program
lowered_program workers L = record { cells = L.cells.rows; tasks = L.tasks; deliveries = L.deliveries; workers = workers }

-- what a job is lowered to
abbrev pub lowered : List (Statement (List ℕ)) → ℕ → Program
lowered ss workers = lowered_program workers (finished workers (lower_from workers start nothing ss))
