-- The arrays of the print statements, put together from what deliver tasks handed over in any order.
use Rattle.std.specs.Prelude.{Bool, ◌≡◌, ◌+◌, ◌-◌, ◌<◌, ◌≤◌, ℕ, Some, None, List, ◌++◌, map, length, slice_get, All, AllPairs, Contains}
use Rattle.std.specs.List.{range_with_len, slice_index_or}
use Rattle.sj_base.specs.declared.ids.Root.{Root}
use Rattle.sj_base.specs.declared.ids.Task.{Task}
use Rattle.sj_base.specs.declared.program.Delivery.{Delivery}
use Rattle.sj_base.specs.declared.program.Program.{Program}
use Rattle.sj_base.specs.declared.tile.Dims.{Dims}
use Rattle.sj_base.specs.Array.{Array, zeros}
use Rattle.sj_codelet.specs.Kernel.{out}
use Rattle.sj_core.specs.Fold.{given}
use Rattle.sj_plan.specs.declared.rect.Rect.{Rect}
use Rattle.sj_plan.specs.Rect.{Within}
use Rattle.sj_plan.specs.Window.{gathered}
use Rattle.sj_meaning.specs.Meaning.{Printed}
use Rattle.sj_meaning.specs.Table.{Table, name_of, info_of}
use Rattle.sj_lower.specs.Delivering.{deliveries_for}
use Rattle.sj_top.specs.Output.{output}

-- tasks handed over arrays, in any order: each is of the program and has the dimensions of what the task has to hand over, and
-- those of all deliveries are there
pub record HandedOver (p : Program) (pairs : List (Task × Array)) : Type 0 where
  pub of_program : All (λ pair. pair.0.0 < length p.tasks) pairs
  pub dims : All (λ pair. pair.1.dims ≡ (given out p pair.0).dims) pairs
  pub every : All (λ d. Contains (map (λ pair. pair.0) pairs) d.task) p.deliveries

-- a table has at a task's number the place of a pair of the task
abbrev pub FindsPair : List ℕ → List (Task × Array) → Task → Type 0
FindsPair places pairs t =
    (t.0 < length places) × (slice_get (map (λ pair. pair.0) pairs) (slice_index_or places t.0 0) ≡ Some t)

-- the same of each task that handed something over
abbrev pub IsIndex : List ℕ → List (Task × Array) → Type 0
IsIndex places pairs = All (λ pair. FindsPair places pairs pair.0) pairs

-- what the tasks of a program handed over, and a table that finds it
pub record HandedArrays : Type 0 where
  pub program : Program
  pub places : List ℕ
  pub pairs : List (Task × Array)

abbrev pub no_array : Array
no_array = zeros (record { rows = 0; cols = 0 })

-- the array that the table finds for a task
abbrev pub array_found : HandedArrays → Task → Array
array_found h t = elim (slice_get h.pairs (slice_index_or h.places t.0 0)) [ None ↦ no_array | Some pair ↦ pair.1 ]

-- the rectangle of a delivery's array of these dimensions
abbrev pub rect_at : Delivery → Dims → Rect
rect_at d dims = record { row = d.place.0; col = d.place.1; rows = dims.rows; cols = dims.cols }

-- the rectangle and the array of a delivery, where tasks handed these arrays over
abbrev pub part_by : (Task → Array) → Delivery → Rect × Array
part_by arrays d = (rect_at d (arrays d.task).dims, arrays d.task)

-- the array that deliveries make of zeros, each put in its place
abbrev pub assembled : (Task → Array) → Dims → List Delivery → Array
assembled arrays dims ds = gathered (zeros dims) (map (part_by arrays) ds)

abbrev pub no_delivery : Delivery
no_delivery = record { task = record { 0 = 0 }; root = record { 0 = 0 }; place = (0, 0); print = 0 }

-- the root of the deliveries of a print statement
abbrev pub delivered_root : List Delivery → Root
delivered_root ds = (slice_index_or ds 0 no_delivery).root

-- what the deliveries of a print statement show, where tasks handed these arrays over
abbrev pub shown : Table → (Task → Array) → List Delivery → Printed
shown T arrays ds =
    let info = info_of T (delivered_root ds) in
    record { name = name_of T (delivered_root ds); kind = info.kind; array = assembled arrays info.dims ds }

-- how many print statements there are deliveries of
abbrev pub prints_of : Program → ℕ
prints_of p = elim (slice_get p.deliveries (length p.deliveries - 1)) [ None ↦ 0 | Some d ↦ d.print + 1 ]

-- what the deliveries of all print statements show
abbrev pub all_shown : Table → (Task → Array) → Program → List Printed
all_shown T arrays p = map (λ k. shown T arrays (deliveries_for p k)) (range_with_len 0 (prints_of p))

-- there are deliveries, which lie in their root
pub record IsShown (T : Table) (arrays : Task → Array) (ds : List Delivery) : Type 0 where
  pub some : 0 < length ds
  pub rooted : (delivered_root ds).0 < length T.names
  pub within : All (λ d. Within (part_by arrays d).0 (info_of T (delivered_root ds)).dims) ds

-- the deliveries of a print statement stand together, and each statement has some
pub record AreGrouped (T : Table) (p : Program) : Type 0 where
  pub ascending : AllPairs (λ d e. d.print ≤ e.print) p.deliveries
  pub each : (k : ℕ) → k < prints_of p → IsShown T (given out p) (deliveries_for p k)

-- these arrays are among what was handed over, for each delivery one of its task
abbrev pub AreAmong : Program → List (Task × Array) → (Task → Array) → Type 0
AreAmong p pairs arrays = All (λ d. Contains pairs (d.task, arrays d.task)) p.deliveries

-- the text shows what was handed over, or its summary
pub record ShowsHanded (summary : Bool) (T : Table) (p : Program) (pairs : List (Task × Array)) (text : List ℕ) : Type 0 where
  pub arrays : Task → Array
  pub among : AreAmong p pairs arrays
  pub text_is : text ≡ output summary (all_shown T arrays p)

-- the text shows what was handed over, and then comes this
pub record ShowsRun (summary : Bool) (T : Table) (p : Program) (pairs : List (Task × Array)) (after text : List ℕ) : Type 0 where
  pub arrays_text : List ℕ
  pub shows : ShowsHanded summary T p pairs arrays_text
  pub behind : text ≡ arrays_text ++ after
