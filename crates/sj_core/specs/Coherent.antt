-- When a state is coherent: ten facts that hold at every moment of a legal run
-- (CCPE 2011, "Data management": the states of replicas).
use Rattle.std.specs.Prelude.{◌≡◌, ◌≢◌, ℕ, ◌+◌, ◌<◌, ◌≤◌, Bool, true, false, not, ◌&&◌, IsTrue, nat_eq, Some, List, filter, length, sum_by, All, count_by}
use Rattle.std.specs.List.{list_any}
use Rattle.sj_base.specs.declared.ids.Cell.{Cell}
use Rattle.sj_base.specs.declared.ids.Task.{Task}
use Rattle.sj_base.specs.declared.ids.Node.{Node}
use Rattle.sj_base.specs.declared.ids.Worker.{Worker}
use Rattle.sj_base.specs.declared.ids.DiskNo.{DiskNo}
use Rattle.sj_base.specs.declared.ids.Place.{Place}
use Rattle.sj_base.specs.declared.ids.Place.TheVariants.{Node as AtNode, Disk as OnDisk}
use Rattle.sj_base.specs.declared.program.Program.{Program}
use Rattle.sj_base.specs.declared.program.Machine.{Machine}
use Rattle.sj_core.specs.Program.{same_cell, has_cell, task_of, tasks_of, cells_of_program}
use Rattle.sj_core.specs.Needs.{node_of, node_size, tile_bytes, scratch_bytes}
use Rattle.sj_core.specs.declared.progress.Progress.{Progress}
use Rattle.sj_core.specs.declared.progress.Progress.TheVariants.{Waiting, Claimed, Running}
use Rattle.sj_core.specs.declared.progress.Transfer.{Transfer}
use Rattle.sj_deps.specs.Conflict.{Conflict}
use Rattle.sj_core.specs.Operands.{cells_of, written_cells, commuting_cells}
use Rattle.sj_replica.specs.declared.mark.Mark.TheVariants.{Invalid, Valid}
use Rattle.sj_core.specs.Machine.{State, progress, mark, on_disk, writes, order, pins, scratch, victims_of, transfer, is_valid, is_entry, is_leaving, is_leaving_by, is_coming_by, is_claimed_by, is_running_on, is_task_of, worker_of, done_in, done_by, workers_at, used, moves}
use Rattle.sj_core.specs.Step.{EarlierAreDone, disk_of, has_copy}

-- ---- who writes a cell

-- a running task writes the cell
abbrev pub is_being_written : Program → State → Cell → Bool
is_being_written p s c = list_any (λ t. is_running_on (worker_of (progress s t)) (progress s t) && has_cell (written_cells p t (worker_of (progress s t))) c) (tasks_of p)

-- the task is done, and wrote the cell
abbrev pub has_written : Program → State → Cell → Task → Bool
has_written p s c t = done_in s t && has_cell (written_cells p t (done_by s t)) c

-- ---- the state's own form

-- a row for each task, cell, node and worker, and in a cell's row a mark for each node
pub record HasRows (p : Program) (m : Machine) (s : State) : Type 0 where
  pub tasks : length s.tasks ≡ length p.tasks
  pub cells : length s.cells ≡ length p.cells
  pub orders : length s.orders ≡ length m.nodes
  pub workers : length s.workers ≡ m.workers
  pub marks : All (λ row. length row.marks ≡ length m.nodes) s.cells

-- a node's order has each cell that is valid or coming there once, and no other
pub record HasEntries (s : State) : Type 0 where
  pub entries : (n : Node) (c : Cell) → has_cell (order s n) c ≡ is_entry (mark s c n)
  pub once : (n : Node) (c : Cell) → count_by (λ d. same_cell d c) (order s n) ≤ 1

-- a cell whose block is a copy has its disk, and a transfer to a disk goes to the one of the cell's block
pub record HasBlocks (p : Program) (m : Machine) (s : State) : Type 0 where
  pub home : (c : Cell) → IsTrue (on_disk s c) → (d : DiskNo) × (disk_of p m c ≡ Some d)
  pub aimed : (w : Worker) (x : Transfer) (d : DiskNo) → transfer s w ≡ Some x → x.to ≡ OnDisk d → disk_of p m x.cell ≡ Some d

-- the task is claimed, running or done
abbrev pub is_begun : Progress → Bool
is_begun Waiting = false
is_begun _ = true

-- each task that isn't waiting has a worker of the program
pub record HasWorkers (p : Program) (s : State) : Type 0 where
  pub staffed : (t : Task) → IsTrue (is_begun (progress s t)) → (worker_of (progress s t)).0 < p.workers

-- a state of the program and the machine
pub record IsStateOf (p : Program) (m : Machine) (s : State) : Type 0 where
  pub rows : HasRows p m s
  pub entries : HasEntries s
  pub blocks : HasBlocks p m s
  pub staff : HasWorkers p s

-- ---- 1: a writer's cells

-- the cell's one copy is on the worker's node, pinned by the worker, and in no transfer
pub record IsOwnedBy (m : Machine) (s : State) (c : Cell) (w : Worker) : Type 0 where
  pub valid : mark s c (node_of m w) ≡ Valid
  pub only : (n : Node) → n ≢ node_of m w → mark s c n ≡ Invalid
  pub unstored : on_disk s c ≡ false
  pub pinned : IsTrue (has_cell (pins s w) c)
  pub unmoved : (v : Worker) → moves s v c ≡ false

-- each cell that a running task writes is its worker's own
pub record WritersOwn (p : Program) (m : Machine) (s : State) : Type 0 where
  pub owned : (t : Task) (w : Worker) (c : Cell) → progress s t ≡ Running w → IsTrue (has_cell (written_cells p t w) c) → IsOwnedBy m s c w

-- ---- 2: owner or shared

-- each cell that has been written, and that no running task writes, has a copy
pub record WrittenIsKept (p : Program) (m : Machine) (s : State) : Type 0 where
  pub somewhere : (c : Cell) → 0 < writes s c → is_being_written p s c ≡ false → (q : Place) × IsTrue (has_copy p m s c q)

-- ---- 3: a task's cells are there

pub record TasksHaveCells (p : Program) (m : Machine) (s : State) : Type 0 where
  pub running : (t : Task) (w : Worker) (c : Cell) → progress s t ≡ Running w → IsTrue (has_cell (cells_of p t w) c) → IsTrue (is_valid (mark s c (node_of m w)))
  pub claimed : (t : Task) (w : Worker) (c : Cell) → progress s t ≡ Claimed w → IsTrue (has_cell (cells_of p t w) c) → IsTrue (is_entry (mark s c (node_of m w)))
  pub pinned : (t : Task) (w : Worker) (c : Cell) → IsTrue (is_task_of w (progress s t)) → IsTrue (has_cell (cells_of p t w) c) → IsTrue (has_cell (pins s w) c)

-- ---- 4: pins and claims

-- a cell of the worker's claimed task
pub record IsClaimed (p : Program) (s : State) (w : Worker) (c : Cell) : Type 0 where
  pub task : Task
  pub claimed : progress s task ≡ Claimed w
  pub cell : IsTrue (has_cell (cells_of p task w) c)

-- a cell of the worker's claimed or running task
pub record IsHeld (p : Program) (s : State) (w : Worker) (c : Cell) : Type 0 where
  pub task : Task
  pub has : IsTrue (is_task_of w (progress s task))
  pub cell : IsTrue (has_cell (cells_of p task w) c)

-- a pinned replica stays, and is one of the worker's task; one that is coming is on its worker's node, claimed and pinned
pub record PinsHold (p : Program) (m : Machine) (s : State) : Type 0 where
  pub stays : (w : Worker) (c : Cell) → IsTrue (has_cell (pins s w) c) → is_leaving (mark s c (node_of m w)) ≡ false
  pub own : (w : Worker) (c : Cell) → IsTrue (has_cell (pins s w) c) → IsHeld p s w c
  pub coming_here : (w : Worker) (c : Cell) (n : Node) → IsTrue (is_coming_by w (mark s c n)) → n ≡ node_of m w
  pub coming_claimed : (w : Worker) (c : Cell) (n : Node) → IsTrue (is_coming_by w (mark s c n)) → IsClaimed p s w c
  pub coming_pinned : (w : Worker) (c : Cell) (n : Node) → IsTrue (is_coming_by w (mark s c n)) → IsTrue (has_cell (pins s w) c)

-- ---- 5: transfers

-- no copy is leaving by the worker's claim
abbrev pub NoneLeavesBy : State → Worker → Type 0
NoneLeavesBy s w = (c : Cell) (n : Node) → is_leaving_by w (mark s c n) ≡ false

-- what a transfer of a worker brings where: a cell of its claim into its node, once all its victims are gone, or a victim of
-- its claim from a node out to the disk, where there is no copy yet
abbrev pub IsTransferTo : Machine → State → Worker → Cell → Place → Place → Type 0
IsTransferTo m s w c from (AtNode n) = (n ≡ node_of m w) × IsTrue (is_coming_by w (mark s c n)) × NoneLeavesBy s w
IsTransferTo m s w c (AtNode k) (OnDisk d) = IsTrue (is_leaving_by w (mark s c k)) × (on_disk s c ≡ false)
IsTransferTo m s w c (OnDisk e) (OnDisk d) = IsTrue false

pub record TransfersAreSound (p : Program) (m : Machine) (s : State) : Type 0 where
  pub source : (w : Worker) (x : Transfer) → transfer s w ≡ Some x → IsTrue (has_copy p m s x.cell x.from)
  pub target : (w : Worker) (x : Transfer) → transfer s w ≡ Some x → IsTransferTo m s w x.cell x.from x.to
  pub apart : (v w : Worker) (x y : Transfer) (d e : DiskNo) → transfer s v ≡ Some x → transfer s w ≡ Some y → x.to ≡ OnDisk d → y.to ≡ OnDisk e → x.cell ≡ y.cell → v ≡ w

-- ---- 6: bytes

-- the cells of the program whose copy on the node is leaving by the worker's claim
abbrev pub leaving_by : Program → State → Worker → Node → List Cell
leaving_by p s w n = filter (λ c. is_leaving_by w (mark s c n)) (cells_of_program p)

-- the entries of the node that aren't coming by the worker's claim
abbrev pub entries_beside : State → Worker → Node → List Cell
entries_beside s w n = filter (λ c. not (is_coming_by w (mark s c n))) (order s n)

-- the workers of the node but this one
abbrev pub others_at : Machine → Node → Worker → List Worker
others_at m n w = filter (λ v. not (nat_eq v.0 w.0)) (workers_at m n)

-- the bytes on the node while the worker's victims leave: they, the entries that it doesn't bring, and the others' scratch
abbrev pub used_while_leaving : Program → Machine → State → Worker → Node → ℕ
used_while_leaving p m s w n =
    sum_by (tile_bytes p) (leaving_by p s w n) + sum_by (tile_bytes p) (entries_beside s w n) + sum_by (scratch s) (others_at m n w)

pub record NodesSuffice (p : Program) (m : Machine) (s : State) : Type 0 where
  pub entries : (n : Node) → used p m s n ≤ node_size m n
  pub leaving : (n : Node) (w : Worker) (c : Cell) → IsTrue (is_leaving_by w (mark s c n)) → used_while_leaving p m s w n ≤ node_size m n

-- ---- 7: who holds what

-- a copy that is leaving by the worker's claim: the worker is the node's, has a claimed task, and the cell is its victim
pub record IsEvictedBy (m : Machine) (s : State) (w : Worker) (c : Cell) (n : Node) : Type 0 where
  pub here : n ≡ node_of m w
  pub claims : (t : Task) × IsTrue (is_claimed_by w (progress s t))
  pub victim : IsTrue (has_cell (victims_of s w) c)

-- a worker without a task holds no scratch; one with a task holds that task's
pub record HoldsOwnScratch (p : Program) (s : State) (w : Worker) : Type 0 where
  pub own : (t : Task) → IsTrue (is_task_of w (progress s t)) → scratch s w ≡ scratch_bytes p (task_of p t)
  pub none : ((t : Task) → is_task_of w (progress s t) ≡ false) → scratch s w ≡ 0

pub record WorkersAreSound (p : Program) (m : Machine) (s : State) : Type 0 where
  pub evicted : (w : Worker) (c : Cell) (n : Node) → IsTrue (is_leaving_by w (mark s c n)) → IsEvictedBy m s w c n
  pub one_evicts : (v w : Worker) (c d : Cell) (n : Node) → IsTrue (is_leaving_by v (mark s c n)) → IsTrue (is_leaving_by w (mark s d n)) → v ≡ w
  pub one_task : (t u : Task) (w : Worker) → IsTrue (is_task_of w (progress s t)) → IsTrue (is_task_of w (progress s u)) → t ≡ u
  pub moves_for_claim : (w : Worker) (x : Transfer) → transfer s w ≡ Some x → (t : Task) × IsTrue (is_claimed_by w (progress s t))
  pub scratch : (w : Worker) → HoldsOwnScratch p s w

-- ---- 8: order

-- the task is claimed or running
abbrev pub is_active : Progress → Bool
is_active x = is_task_of (worker_of x) x

-- two tasks share a cell to which the first contributes in any order
pub record SharesCommuting (p : Program) (s : State) (t u : Task) : Type 0 where
  pub cell : Cell
  pub commuting : IsTrue (has_cell (commuting_cells p t) cell)
  pub shared : IsTrue (has_cell (cells_of p u (worker_of (progress s u))) cell)

pub record OrderIsKept (p : Program) (s : State) : Type 0 where
  pub earlier : (t : Task) → IsTrue (is_begun (progress s t)) → EarlierAreDone p s t
  pub apart : (t u : Task) → IsTrue (is_active (progress s t)) → IsTrue (is_active (progress s u)) → u.0 < t.0 → ¬ Conflict p u.0 t.0
  pub commuting : (t u : Task) → IsTrue (is_active (progress s t)) → IsTrue (is_active (progress s u)) → t ≢ u → ¬ SharesCommuting p s t u

-- ---- 9: write counts

-- the write count of a cell is the number of done tasks that wrote it
pub record WritesAreCounted (p : Program) (s : State) : Type 0 where
  pub counted : (c : Cell) → writes s c ≡ count_by (has_written p s c) (tasks_of p)

-- ---- all ten, of a state of the program and the machine

pub record Coherent (p : Program) (m : Machine) (s : State) : Type 0 where
  pub state : IsStateOf p m s
  pub writers : WritersOwn p m s
  pub copies : WrittenIsKept p m s
  pub cells : TasksHaveCells p m s
  pub pins : PinsHold p m s
  pub transfers : TransfersAreSound p m s
  pub bytes : NodesSuffice p m s
  pub workers : WorkersAreSound p m s
  pub order : OrderIsKept p s
  pub counts : WritesAreCounted p s
