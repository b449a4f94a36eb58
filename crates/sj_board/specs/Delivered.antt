-- The arrays that deliver tasks hand over.
use Rattle.std.specs.Prelude.{◌≡◌, ◌&&◌, ℕ, false, not, IsTrue, IsSomeAnd, Option, Some, None, nat_eq, All, List, [], ◌∷◌, count_by, length, slice_index_or, if◌then◌else◌}
use Rattle.sj_base.specs.declared.ids.Task.{Task}
use Rattle.sj_base.specs.declared.ids.Worker.{Worker}
use Rattle.sj_base.specs.declared.program.Program.{Program}
use Rattle.sj_base.specs.Array.{Array}
use Rattle.sj_core.specs.declared.progress.Progress.TheVariants.{Running}
use Rattle.sj_codelet.specs.Kernel.{Equations}
use Rattle.sj_core.specs.Fold.{given}
use Rattle.sj_core.specs.Machine.{State, done_in, progress}
use Rattle.sj_core.specs.Program.{dims_of, tasks_of}
use Rattle.sj_board.specs.Delivery.{delivered_cell, is_deliver_task}
use Rattle.sj_board.specs.declared.delivered.Handed.{Handed}

-- ---- a list with room

-- what contracts see of the arrays that were handed over: pairs of a task and an array, and for how many more there is room
pub record Deliveries : Type 0 where
  pub pairs : List (Task × Array)
  pub spare : ℕ

abbrev pub deliveries : List (Task × Array) → ℕ → Deliveries
deliveries pairs n = record { pairs = pairs; spare = n }

-- a task and its array
abbrev pub pair_of : Handed → Task × Array
pair_of h = (h.task, h.tile.value)

-- ---- what was handed over

-- what a task hands over, as a list of one pair or none
abbrev pub handed : Task → Option Array → List (Task × Array)
handed t gift = elim gift [ None ↦ [] | Some a ↦ (t, a) ∷ [] ]

-- how often the task has handed an array over
abbrev pub times_delivered : List (Task × Array) → Task → ℕ
times_delivered pairs t = count_by (λ d. nat_eq d.0.0 t.0) pairs

-- each pair's task is a deliver task, and each deliver task has one; its array has the dimensions of the task's cell and,
-- where all disks tell, is what all tasks before it leave there, one after another on plain arrays
pub record DeliversEach (eq : Equations) (p : Program) (Tells : Type 0) (pairs : List (Task × Array)) : Type 0 where
  pub only : All (λ d. IsTrue (is_deliver_task p d.0)) pairs
  pub once : (t : Task) → IsTrue (is_deliver_task p t) → times_delivered pairs t ≡ 1
  pub dims : All (λ d. d.1.dims ≡ dims_of p (delivered_cell p d.0)) pairs
  pub arrays : Tells → All (λ d. d.1 ≡ given eq p d.0) pairs

-- the same of those deliver tasks that are done; the others have no pair yet
pub record DeliversDone (eq : Equations) (p : Program) (s : State) (Tells : Type 0) (pairs : List (Task × Array)) : Type 0 where
  pub only : All (λ d. IsTrue (is_deliver_task p d.0)) pairs
  pub once : (t : Task) → IsTrue (is_deliver_task p t) → times_delivered pairs t ≡ (if done_in s t then 1 else 0)
  pub dims : All (λ d. d.1.dims ≡ dims_of p (delivered_cell p d.0)) pairs
  pub arrays : Tells → All (λ d. d.1 ≡ given eq p d.0) pairs

-- ---- what running tasks are to hand over

-- the array has the dimensions of a deliver task's cell and, where all disks tell, is the one that the task is to hand over
pub record IsDeliveryOf (eq : Equations) (p : Program) (Tells : Type 0) (t : Task) (a : Array) : Type 0 where
  pub dims : a.dims ≡ dims_of p (delivered_cell p t)
  pub array : Tells → a ≡ given eq p t

-- such an array for a deliver task, none for another
pub record IsKeptFor (eq : Equations) (p : Program) (Tells : Type 0) (t : Task) (gift : Option Array) : Type 0 where
  pub some : IsTrue (is_deliver_task p t) → IsSomeAnd gift (IsDeliveryOf eq p Tells t)
  pub none : is_deliver_task p t ≡ false → gift ≡ None

-- what is kept for a worker's running task
abbrev pub gift_in : List (Option Array) → Worker → Option Array
gift_in gifts w = slice_index_or gifts w.0 None

-- what each running task is to hand over is kept for its worker
pub record KeepsGifts (eq : Equations) (p : Program) (s : State) (Tells : Type 0) (gifts : List (Option Array)) : Type 0 where
  pub every_worker : length gifts ≡ p.workers
  pub kept : (w : Worker) (t : Task) → progress s t ≡ Running w → IsKeptFor eq p Tells t (gift_in gifts w)

-- how many deliver tasks aren't done
abbrev pub undelivered : Program → State → ℕ
undelivered p s = count_by (λ t. is_deliver_task p t && not (done_in s t)) (tasks_of p)
