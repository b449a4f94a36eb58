-- What the lowered program of a job is always like: seven facts that the runtime asks for.
use Rattle.std.specs.Prelude.{◌≡◌, ℕ, ◌^◌, ◌<◌, ◌≤◌, ◌⊎◌, Bool, not, ◌&&◌, IsTrue, nat_eq, Some, None, List, [], ◌∷◌, map, length, All, AllPairs, count_by, is_some, if◌then◌else◌}
use Rattle.std.specs.List.{slice_index_or, list_any, Contains}
use Rattle.sj_base.specs.declared.ids.Cell.{Cell}
use Rattle.sj_base.specs.declared.ids.Task.{Task}
use Rattle.sj_base.specs.declared.ids.Worker.{Worker}
use Rattle.sj_base.specs.declared.mode.Mode.{Mode}
use Rattle.sj_base.specs.declared.mode.Mode.TheVariants.{R, W, RW, Scratch, Redux, Commute}
use Rattle.sj_base.specs.declared.mode.Access.{Access}
use Rattle.sj_base.specs.declared.mode.Reduction.{Reduction}
use Rattle.sj_base.specs.declared.program.Lowered.{Lowered}
use Rattle.sj_base.specs.declared.program.Program.{Program}
use Rattle.sj_base.specs.declared.program.Machine.{Machine}
use Rattle.sj_core.specs.Needs.{place}
use Rattle.sj_base.specs.Array.{area}
use Rattle.sj_core.specs.Program.{same_cell, cell_info, dims_of, task_of, data_operands}
use Rattle.sj_base.specs.Mode.{is_written, is_redux, reads_value}
pub use Rattle.sj_base.specs.Mode.{access}
use Rattle.sj_codelet.specs.declared.kernel.Kernel.{Kernel}
use Rattle.sj_codelet.specs.declared.kernel.Kernel.TheVariants.{Paste, Deliver}
use Rattle.sj_codelet.specs.declared.formal.Formal.{Formal}
use Rattle.sj_codelet.specs.declared.formal.Formal.TheVariants.{R as ReadFormal, W as WriteFormal, RW as UpdateFormal, Scratch as ScratchFormal}
use Rattle.sj_codelet.specs.Kernel.{kernel_of, formals_of, fits, commutes_of, contributes_of, init_of, combine_of}
use Rattle.sj_core.specs.Operands.{copy_of}

-- ---- 1: cells and partial copies

-- q is a partial copy of c, that of worker w
pub record IsCopyOf (p : Program) (q c : Cell) (w : Worker) : Type 0 where
  pub has_copies : IsTrue (is_some (cell_info p c).partials)
  pub of_worker : w.0 < p.workers
  pub is : q ≡ copy_of p c w

-- q is a partial copy of no cell
abbrev pub IsPlain : Program → Cell → Type 0
IsPlain p q = (c : Cell) (w : Worker) → ¬ IsCopyOf p q c w

pub record NamesCells (p : Program) : Type 0 where
  pub named : All (λ l. All (λ a. a.cell.0 < length p.cells) l.accesses) p.tasks
  pub copies : (q c : Cell) (w : Worker) → IsCopyOf p q c w → (q.0 < length p.cells) × (dims_of p q ≡ dims_of p c)
  pub apart : (q c d : Cell) (v w : Worker) → IsCopyOf p q c v → IsCopyOf p q d w → c ≡ d
  pub plain : (q c : Cell) (w : Worker) → IsCopyOf p q c w → (cell_info p q).partials ≡ None
  pub reduced : All (λ l. All (λ a. IsTrue (is_redux a.mode) → IsTrue (is_some (cell_info p a.cell).partials)) l.accesses) p.tasks

-- ---- 2: codelets, dimensions and modes

abbrev pub mode_of : Formal → Mode
mode_of ReadFormal = R
mode_of WriteFormal = W
mode_of UpdateFormal = RW
mode_of ScratchFormal = Scratch

-- the codelet's own modes
abbrev pub own_modes : Kernel → List Mode
own_modes k = map mode_of (formals_of k)

-- the codelet's modes, with another one for what it writes
abbrev pub modes_writing_by : Mode → Kernel → List Mode
modes_writing_by x k = map (λ mode. if is_written mode then x else mode) (own_modes k)

-- the codelet writes one operand alone
abbrev pub writes_one : Kernel → Type 0
writes_one k = count_by is_written (own_modes k) ≡ 1

-- the modes in which a lowered task may have a codelet's operands
pub data MayHaveModes (k : Kernel) (modes : List Mode) : Type 0 where
  Own : modes ≡ own_modes k → MayHaveModes k modes
  FirstPaste : k ≡ Paste → modes ≡ modes_writing_by W k → MayHaveModes k modes
  Commuting : IsTrue (commutes_of k) → writes_one k → modes ≡ modes_writing_by Commute k → MayHaveModes k modes
  Contributing : (by : Reduction) → IsTrue (contributes_of k by) → writes_one k → modes ≡ modes_writing_by Redux k → MayHaveModes k modes

-- arguments, dimensions and modes of a task are those of a codelet of the table
pub record FitsCodelet (p : Program) (l : Lowered) : Type 0 where
  pub kernel : Kernel
  pub codelet : kernel_of l.codelet ≡ Some kernel
  pub operands : IsTrue (fits kernel l.args (map (λ a. dims_of p a.cell) l.accesses))
  pub modes : MayHaveModes kernel (map (λ a. a.mode) l.accesses)

-- ---- 3: no aliasing

-- a cell stands twice in a task, scratch aside, only where both accesses are R
abbrev pub IsUnaliased : Lowered → Type 0
IsUnaliased l = AllPairs (λ a b. IsTrue (same_cell a.cell b.cell) → (a.mode ≡ R) × (b.mode ≡ R)) (data_operands l)

-- ---- 4: values

-- the task gives the cell a value that isn't a contribution
abbrev pub gives_value : Lowered → Cell → Bool
gives_value l c = list_any (λ a. is_written a.mode && not (is_redux a.mode) && same_cell a.cell c) l.accesses

-- a task before t gives the cell a value
abbrev pub HasValueBefore : Program → Task → Cell → Type 0
HasValueBefore p t c = (u : Task) × (u.0 < t.0) × IsTrue (gives_value (task_of p u) c)

pub record ReadsValues (p : Program) : Type 0 where
  pub cells : (t : Task) → All (λ a. IsTrue (reads_value a.mode) → HasValueBefore p t a.cell) (task_of p t).accesses
  pub copies : (t : Task) → All (λ a. IsTrue (is_redux a.mode) → (w : Worker) → w.0 < p.workers → HasValueBefore p t (copy_of p a.cell w)) (task_of p t).accesses

-- ---- 5: REDUX phases

-- a phase of a cell: the numbers of its init tasks and of its combine tasks by worker, and of its contributions
pub record Phase : Type 0 where
  pub cell : Cell
  pub by : Reduction
  pub inits : List ℕ
  pub contributions : List ℕ
  pub combines : List ℕ

abbrev pub task_number : Program → ℕ → Lowered
task_number p n = task_of p (record { 0 = n })

-- the task fills the cell with the reduction's unit
pub record IsInit (by : Reduction) (c : Cell) (l : Lowered) : Type 0 where
  pub codelet : kernel_of l.codelet ≡ Some (init_of by)
  pub operands : l.accesses ≡ access W c ∷ []

-- the task combines the partial copy q into the cell c
pub record IsCombine (by : Reduction) (q c : Cell) (l : Lowered) : Type 0 where
  pub codelet : kernel_of l.codelet ≡ Some (combine_of by)
  pub operands : l.accesses ≡ access R q ∷ access RW c ∷ []

-- the task names the cell in that mode
abbrev pub names_as : Mode → Cell → Lowered → Type 0
names_as mode c l = Contains l.accesses (access mode c)

-- the task contributes to the cell by a codelet of the reduction
pub record IsContribution (by : Reduction) (c : Cell) (l : Lowered) : Type 0 where
  pub kernel : Kernel
  pub codelet : kernel_of l.codelet ≡ Some kernel
  pub contributes : IsTrue (contributes_of kernel by)
  pub operand : names_as Redux c l

-- an access to the cell or to a partial copy of it
abbrev pub Touches : Program → Cell → Access → Type 0
Touches p c a = (a.cell ≡ c) ⊎ ((w : Worker) × IsCopyOf p a.cell c w)

-- the task is one of the phase's own
abbrev pub IsOfPhase : Phase → ℕ → Type 0
IsOfPhase f n = Contains f.inits n ⊎ (Contains f.contributions n ⊎ Contains f.combines n)

-- the task gives the phase's cell the unit, before the first contribution
pub record IsFirstUnit (p : Program) (f : Phase) (n : ℕ) : Type 0 where
  pub init : IsInit f.by f.cell (task_number p n)
  pub before : All (λ k. n < k) f.contributions

-- the phase is open at the task: from the first of its inits to the last of its combines
pub record IsOpenAt (f : Phase) (n : ℕ) : Type 0 where
  pub begun : (k : ℕ) × Contains f.inits k × (k ≤ n)
  pub unfinished : (k : ℕ) × Contains f.combines k × (n ≤ k)

-- each partial copy is filled once, then come the contributions, then each copy is combined once, in worker order,
-- and meanwhile nothing else accesses the cell or its copies; a scratch buffer is no access
pub record IsPhase (p : Program) (f : Phase) : Type 0 where
  pub inits_by_worker : length f.inits ≡ p.workers
  pub combines_by_worker : length f.combines ≡ p.workers
  pub contributed : 0 < length f.contributions
  pub inits : (w : Worker) → w.0 < p.workers → IsInit f.by (copy_of p f.cell w) (task_number p (slice_index_or f.inits w.0 0))
  pub contributions : All (λ n. IsContribution f.by f.cell (task_number p n)) f.contributions
  pub combines : (w : Worker) → w.0 < p.workers → IsCombine f.by (copy_of p f.cell w) f.cell (task_number p (slice_index_or f.combines w.0 0))
  pub inits_first : All (λ i. All (λ n. i < n) f.contributions) f.inits
  pub combines_last : All (λ n. All (λ k. n < k) f.combines) f.contributions
  pub in_worker_order : AllPairs (λ j k. j < k) f.combines
  pub alone : (n : ℕ) (a : Access) → IsOpenAt f n → Contains (data_operands (task_number p n)) a → Touches p f.cell a → IsOfPhase f n ⊎ IsFirstUnit p f n

pub record HasPhases (p : Program) : Type 0 where
  pub phases : List Phase
  pub each : All (IsPhase p) phases
  pub copies : (n : ℕ) (a : Access) (c : Cell) (w : Worker) → Contains (task_number p n).accesses a → IsCopyOf p a.cell c w → (f : Phase) × Contains phases f × (f.cell ≡ c) × (Contains f.inits n ⊎ Contains f.combines n)
  pub contributions : (n : ℕ) (c : Cell) → names_as Redux c (task_number p n) → (f : Phase) × Contains phases f × (f.cell ≡ c) × Contains f.contributions n

-- ---- 6: deliveries

pub record HasDeliveries (p : Program) : Type 0 where
  pub once : (t : Task) → kernel_of (task_of p t).codelet ≡ Some Deliver → t.0 < length p.tasks → count_by (λ d. nat_eq d.task.0 t.0) p.deliveries ≡ 1
  pub plain : (t : Task) → kernel_of (task_of p t).codelet ≡ Some Deliver → All (λ a. IsPlain p a.cell) (task_of p t).accesses

-- ---- 7: limits

pub record IsWithinLimits (p : Program) : Type 0 where
  pub tasks : length p.tasks ≤ 2 ^ 22
  pub cells : length p.cells ≤ 2 ^ 22
  pub elements : All (λ c. area c.dims ≤ 2 ^ 24) p.cells

-- ---- all seven

pub record Proper (p : Program) : Type 0 where
  pub cells : NamesCells p
  pub codelets : All (FitsCodelet p) p.tasks
  pub unaliased : All IsUnaliased p.tasks
  pub values : ReadsValues p
  pub phases : HasPhases p
  pub deliveries : HasDeliveries p
  pub limits : IsWithinLimits p

-- ---- the machine of a program

-- the machine has the program's workers and at least one node
pub record IsMachineFor (p : Program) (m : Machine) : Type 0 where
  pub workers : m.workers ≡ p.workers
  pub some_worker : 1 ≤ m.workers
  pub few_workers : m.workers ≤ 64
  pub some_node : 1 ≤ length m.nodes
  pub few_nodes : length m.nodes ≤ 16
  pub few_disks : length m.disks ≤ 16

-- the machine's disks take all blocks of the program, so that what doesn't fit a node can be evicted
pub record HasSwapFor (p : Program) (m : Machine) : Type 0 where
  pub blocks_fit : IsTrue (is_some (place p m.disks))
