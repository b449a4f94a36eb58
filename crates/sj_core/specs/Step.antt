-- The legal steps of a run: for each kind of event what it needs (`May`), and the state that it leaves (`after`)
-- (StarPU Handbook, "Data Management" and "Out Of Core"; CCPE 2011, "Data management").
use Rattle.std.specs.Prelude.{◌≡◌, ℕ, ◌+◌, ◌<◌, ◌≤◌, Bool, false, not, ◌&&◌, ◌||◌, IsTrue, nat_eq, Option, Some, None, List, [], ◌∷◌, filter, fold, length, sum_by, unwrap_or, is_some, slice_get, option_map, option_and_then, if◌then◌else◌}
use Rattle.std.specs.List.{slice_set, list_any, list_all, range_with_len, position}
use Rattle.sj_base.specs.declared.ids.Cell.{Cell}
use Rattle.sj_base.specs.declared.ids.Task.{Task}
use Rattle.sj_base.specs.declared.ids.Node.{Node}
use Rattle.sj_base.specs.declared.ids.Worker.{Worker}
use Rattle.sj_base.specs.declared.ids.DiskNo.{DiskNo}
use Rattle.sj_base.specs.declared.ids.Place.{Place}
use Rattle.sj_base.specs.declared.ids.Place.TheVariants.{Node as AtNode, Disk as OnDisk}
use Rattle.sj_base.specs.declared.trace.Event.{Event}
use Rattle.sj_base.specs.declared.trace.Event.TheVariants.{Claim, Move, Moved, Drop, Run, End}
use Rattle.sj_base.specs.declared.program.Program.{Program}
use Rattle.sj_base.specs.declared.program.Machine.{Machine}
pub use Rattle.sj_base.specs.Ids.{same_place}
use Rattle.sj_core.specs.Program.{same_cell, has_cell, distinct, task_of, tasks_of}
use Rattle.sj_core.specs.Needs.{node_of, node_size, tile_bytes, scratch_bytes, footprint, place}
use Rattle.sj_core.specs.Victims.{victims}
use Rattle.sj_core.specs.declared.progress.Progress.TheVariants.{Waiting, Claimed, Running, Done}
use Rattle.sj_core.specs.declared.progress.Transfer.{Transfer}
use Rattle.sj_deps.specs.Conflict.{Conflict, Ready}
use Rattle.sj_core.specs.Operands.{cells_of, written_cells, fresh_cells, commuting_cells}
use Rattle.sj_replica.specs.declared.mark.Mark.{Mark}
use Rattle.sj_replica.specs.declared.mark.Mark.TheVariants.{Invalid, Coming, Valid, Leaving}
use Rattle.sj_replica.specs.Replica.{is_elsewhere_in, owned_at, stored, with_mark, written_once_more}
use Rattle.sj_core.specs.Machine.{State, CellState, WorkerState, progress, cell_state, mark, mark_in, on_disk, order, transfer, victims_of, with_row, with_cells, with_orders, with_transfer, claimant_of, is_valid, is_leaving, is_leaving_by, is_coming_by, is_claimed_by, is_task_of, is_idle, worker_of, done_in, is_pinned, free, moves_in, has_room}

-- ---- words on where copies are

-- the disk on which the cell's block lies; none where the blocks don't fit the machine's disks
abbrev pub disk_of : Program → Machine → Cell → Option DiskNo
disk_of p m c = option_map (λ b. b.disk) (option_and_then (λ blocks. slice_get blocks c.0) (place p m.disks))

-- the cell's block lies on this disk
abbrev pub is_home : Program → Machine → Cell → DiskNo → Bool
is_home p m c d = elim (disk_of p m c) [ None ↦ false | Some e ↦ nat_eq e.0 d.0 ]

-- the cell has a copy at the place
abbrev pub has_copy : Program → Machine → State → Cell → Place → Bool
has_copy p m s c (AtNode n) = is_valid (mark s c n)
has_copy p m s c (OnDisk d) = on_disk s c && is_home p m c d

-- the cell has a copy on a disk, or at another node
abbrev pub is_elsewhere : State → Cell → Node → Bool
is_elsewhere s c n = is_elsewhere_in (cell_state s c) n

-- where a node fetches the cell from: the node with the least number that has a copy, else the disk of its block if it has one
abbrev pub source_of : Program → Machine → State → Cell → Option Place
source_of p m s c =
    elim (position is_valid (cell_state s c).marks) [ None ↦ option_map OnDisk (disk_of p m c) | Some n ↦ Some (AtNode (record { 0 = n })) ]

-- no copy on the node is leaving
abbrev pub none_leaving : State → Node → Bool
none_leaving s n = list_all (λ row. not (is_leaving (mark_in row n))) s.cells

-- a transfer of the cell is under way
abbrev pub is_moving : State → Cell → Bool
is_moving s c = list_any (λ row. moves_in row c) s.workers

-- the transfer in the row reads the cell at that place
abbrev pub reads_in : WorkerState → Cell → Place → Bool
reads_in row c q = elim row.transfer [ None ↦ false | Some move ↦ same_cell move.cell c && same_place move.from q ]

-- a transfer reads the cell at that place
abbrev pub is_read : State → Cell → Place → Bool
is_read s c q = list_any (λ row. reads_in row c q) s.workers

-- ---- words on tasks

-- the tasks that are done, by number
abbrev pub done_tasks : State → List ℕ
done_tasks s = filter (λ n. done_in s (record { 0 = n })) (range_with_len 0 (length s.tasks))

-- every earlier task that conflicts with this one is done
abbrev pub EarlierAreDone : Program → State → Task → Type 0
EarlierAreDone p s t = (u : Task) → u.0 < t.0 → Conflict p u.0 t.0 → IsTrue (done_in s u)

-- the cell is one of a claimed or running task
abbrev pub is_in_use : Program → State → Cell → Bool
is_in_use p s c = list_any (λ t. is_task_of (worker_of (progress s t)) (progress s t) && has_cell (cells_of p t (worker_of (progress s t))) c) (tasks_of p)

-- the worker's claimed task doesn't read the cell's old value
abbrev pub is_fresh : Program → State → Worker → Cell → Bool
is_fresh p s w c = list_any (λ t. is_claimed_by w (progress s t) && has_cell (fresh_cells p t w) c) (tasks_of p)

-- ---- what a claim does

-- the cells of a task without an entry on the node, each once
abbrev pub missing : Program → State → Task → Worker → Node → List Cell
missing p s t w n = filter (λ c. not (has_cell (order s n) c)) (distinct (cells_of p t w))

-- the bytes that a claim brings to the node: its missing cells and its scratch
abbrev pub to_come : Program → State → Task → Worker → Node → ℕ
to_come p s t w n = sum_by (tile_bytes p) (missing p s t w n) + scratch_bytes p (task_of p t)

-- the victims of a claim, with the task's cells taken as pinned; none where all unpinned entries don't make room
abbrev pub victims_for : Program → Machine → State → Task → Worker → Option (List Cell)
victims_for p m s t w =
    let n = node_of m w in
    victims (tile_bytes p) (λ c. not (is_pinned m s n c) && not (has_cell (cells_of p t w) c)) (order s n) (free p m s n) (to_come p s t w n)

-- the order with the cell at its front
abbrev pub to_front : List Cell → Cell → List Cell
to_front order c = c ∷ filter (λ d. not (same_cell d c)) order

-- the order without these cells
abbrev pub without : List Cell → List Cell → List Cell
without gone order = filter (λ c. not (has_cell gone c)) order

abbrev pub leave : Worker → Mark → Mark
leave w Valid = Leaving w
leave w r = r

-- what the cell is at the node after a claim: a victim leaves, a missing cell is coming
abbrev pub claimed_mark : Worker → List Cell → List Cell → Cell → Mark → Mark
claimed_mark w evicted missing c r =
    if has_cell evicted c then leave w r else if has_cell missing c then Coming w else r

-- the state after a claim that evicts these victims
abbrev pub after_claim : Program → Machine → State → Task → Worker → List Cell → State
after_claim p m s t w evicted =
    let n = node_of m w in
    record {
      tasks = slice_set s.tasks t.0 (Claimed w);
      cells = (with_cells s (λ c row. with_mark row n (claimed_mark w evicted (missing p s t w n) c (mark_in row n)))).cells;
      orders = slice_set s.orders n.0 (fold to_front (without evicted (order s n)) (cells_of p t w));
      workers = slice_set s.workers w.0 (record { pins = cells_of p t w; scratch = scratch_bytes p (task_of p t); victims = evicted; transfer = transfer s w });
    }

-- `claim t w`: the worker takes a ready task, pins its cells, and makes room for what it brings
pub record CanClaim (p : Program) (m : Machine) (s : State) (t : Task) (w : Worker) : Type 0 where
  pub worker : w.0 < p.workers
  pub waiting : progress s t ≡ Waiting
  pub ready : Ready p (done_tasks s) t.0
  pub idle : IsTrue (is_idle s w)
  pub fits : footprint p t ≤ node_size m (node_of m w)
  pub settled : IsTrue (none_leaving s (node_of m w))
  pub alone : IsTrue (list_all (λ c. not (is_in_use p s c)) (commuting_cells p t))
  pub room : IsTrue (is_some (victims_for p m s t w))

-- ---- moves and drops

abbrev pub a_transfer : Cell → Place → Place → Transfer
a_transfer c from to = record { cell = c; from = from; to = to }

-- `move c from to` into a node: its worker begins to bring a cell of its claim
pub record CanMoveIn (p : Program) (m : Machine) (s : State) (c : Cell) (from : Place) (n : Node) (w : Worker) : Type 0 where
  pub own_node : n ≡ node_of m w
  pub free : transfer s w ≡ None
  pub coming : IsTrue (is_coming_by w (mark s c n))
  pub old_value_needed : IsTrue (not (is_fresh p s w c))
  pub room : IsTrue (has_room m s w)
  pub source : source_of p m s c ≡ Some from

-- `move c from to` from a node out to a disk: a worker begins to write a victim of its claim that has no other copy
pub record CanMoveOut (p : Program) (m : Machine) (s : State) (c : Cell) (k : Node) (d : DiskNo) (w : Worker) : Type 0 where
  pub free : transfer s w ≡ None
  pub leaving : IsTrue (is_leaving_by w (mark s c k))
  pub only : IsTrue (not (is_elsewhere s c k))
  pub target : disk_of p m c ≡ Some d

-- `drop c n`: a leaving copy that no transfer reads goes, since there is another
pub record CanDrop (s : State) (c : Cell) (n : Node) : Type 0 where
  pub leaving : IsTrue (is_leaving (mark s c n))
  pub unread : IsTrue (not (is_read s c (AtNode n)))
  pub shared : IsTrue (is_elsewhere s c n)

-- ---- run and end

-- the state after `run`: the written cells are the node's own, and no entry of another node
abbrev pub after_run : Program → Machine → State → Task → Worker → State
after_run p m s t w =
    let n = node_of m w in
    let written = written_cells p t w in
    record {
      tasks = slice_set s.tasks t.0 (Running w);
      cells = (with_cells s (λ c row. if has_cell written c then owned_at n row else row)).cells;
      orders = (with_orders s (λ k cs. if nat_eq k.0 n.0 then cs else without written cs)).orders;
      workers = s.workers;
    }

-- each cell of the task whose old value it reads is valid on the node
abbrev pub is_present : Program → State → Task → Worker → Node → Bool
is_present p s t w n = list_all (λ c. has_cell (fresh_cells p t w) c || is_valid (mark s c n)) (cells_of p t w)

-- `run t w`: the kernel of a claimed task begins
pub record CanRun (p : Program) (m : Machine) (s : State) (t : Task) (w : Worker) : Type 0 where
  pub claimed : progress s t ≡ Claimed w
  pub earlier : EarlierAreDone p s t
  pub room : IsTrue (has_room m s w)
  pub present : IsTrue (is_present p s t w (node_of m w))
  pub unmoved : IsTrue (list_all (λ c. not (is_moving s c)) (written_cells p t w))

-- the state after `end`: the written cells are written once more, and the worker's pins and scratch are gone
abbrev pub after_end : Program → Machine → State → Task → Worker → State
after_end p m s t w = record {
  tasks = slice_set s.tasks t.0 (Done w);
  cells = (with_cells s (λ c row. if has_cell (written_cells p t w) c then written_once_more row else row)).cells;
  orders = s.orders;
  workers = slice_set s.workers w.0 (record { pins = []; scratch = 0; victims = victims_of s w; transfer = transfer s w });
}

-- ---- what an event needs

-- the worker of a move, which its event doesn't name: the cell comes to the node, or leaves for the disk, by its claim
abbrev pub mover_of : State → Cell → Place → Place → Worker
mover_of s c from (AtNode n) = claimant_of (mark s c n)
mover_of s c (AtNode k) (OnDisk d) = claimant_of (mark s c k)
mover_of s c (OnDisk e) (OnDisk d) = record { 0 = 0 }

-- what the event needs of the state in which it is legal: no move goes from a disk to a disk, a transfer that ends is the
-- mover's, and a task that ends runs on its worker
abbrev pub May : Program → Machine → State → Event → Type 0
May p m s (Claim t w) = CanClaim p m s t w
May p m s (Move c from (AtNode n)) = CanMoveIn p m s c from n (mover_of s c from (AtNode n))
May p m s (Move c (AtNode k) (OnDisk d)) = CanMoveOut p m s c k d (mover_of s c (AtNode k) (OnDisk d))
May p m s (Move c (OnDisk e) (OnDisk d)) = IsTrue false
May p m s (Moved c from to) = transfer s (mover_of s c from to) ≡ Some (a_transfer c from to)
May p m s (Drop c n) = CanDrop s c n
May p m s (Run t w) = CanRun p m s t w
May p m s (End t w) = progress s t ≡ Running w

-- ---- the state that an event leaves

-- the row of a cell whose copy has arrived at the place
abbrev pub arrived : Place → CellState → CellState
arrived (AtNode n) row = with_mark row n Valid
arrived (OnDisk d) row = stored row

-- the state that the event leaves where it is legal in s
abbrev pub after : Program → Machine → State → Event → State
after p m s (Claim t w) = after_claim p m s t w (unwrap_or (victims_for p m s t w) [])
after p m s (Move c from to) = with_transfer s (mover_of s c from to) (Some (a_transfer c from to))
after p m s (Moved c from to) = with_transfer (with_row s c (arrived to (cell_state s c))) (mover_of s c from to) None
after p m s (Drop c n) = with_row s c (with_mark (cell_state s c) n Invalid)
after p m s (Run t w) = after_run p m s t w
after p m s (End t w) = after_end p m s t w

-- what the event makes of the row of one cell
abbrev pub cell_after : Program → Machine → State → Event → Cell → CellState → CellState
cell_after p m s (Claim t w) c row =
    let n = node_of m w in
    with_mark row n (claimed_mark w (unwrap_or (victims_for p m s t w) []) (missing p s t w n) c (mark_in row n))
cell_after p m s (Move x from to) c row = row
cell_after p m s (Moved x from to) c row = if same_cell x c then arrived to row else row
cell_after p m s (Drop x n) c row = if same_cell x c then with_mark row n Invalid else row
cell_after p m s (Run t w) c row = if has_cell (written_cells p t w) c then owned_at (node_of m w) row else row
cell_after p m s (End t w) c row = if has_cell (written_cells p t w) c then written_once_more row else row
