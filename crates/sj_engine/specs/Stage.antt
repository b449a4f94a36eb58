-- How far a worker is, as its row tells: what it has between two of its turns.
use Rattle.std.specs.Prelude.{◌≡◌, ◌<◌, ℕ, false, true, Option, Some, None, List, IsSomeAnd, length, map, ◌++◌, All, FitsSigned, Result}
use Rattle.std.specs.Int.{w64}
use Rattle.std.specs.List.{AllZip}
use Rattle.sj_base.specs.declared.ids.Cell.{Cell}
use Rattle.sj_base.specs.declared.ids.Task.{Task}
use Rattle.sj_base.specs.declared.ids.Worker.{Worker}
use Rattle.sj_base.specs.declared.program.Program.{Program}
use Rattle.sj_base.specs.declared.trace.Event.{Event}
use Rattle.sj_base.specs.Array.{Array, area}
use Rattle.sj_disk.specs.declared.refusal.DiskRefusal.{DiskRefusal}
use Rattle.sj_disk.specs.Units.{UnitFetches, UnitState, UnitStores}
use Rattle.sj_codelet.specs.Frame.{Frame, Slot, arrays}
use Rattle.sj_codelet.specs.Kernel.{out}
use Rattle.sj_core.specs.declared.progress.Progress.TheVariants.{Claimed, Running}
use Rattle.sj_core.specs.declared.progress.Transfer.{Transfer}
use Rattle.sj_core.specs.Operands.{cells_of, results}
use Rattle.sj_core.specs.Program.{dims_of, task_of, written_operands}
use Rattle.sj_desk.specs.Seats.{DeskFacts, IsWaiting, SeatFacts}
use Rattle.sj_board.specs.Shares.{IsShare}
use Rattle.sj_board.specs.Board.{BoardState, empty_hand}
use Rattle.sj_board.specs.BoardRow.{BoardKey, BoardRow, row_of_number}
use Rattle.sj_engine.specs.Operands.{AreSharesOf, HasRoomForOperands, held_for, read_operands}
use Rattle.sj_engine.specs.Outcome.{AllDisksTell}
use Rattle.sj_engine.specs.declared.noted_board.NotedBoard.{NotedBoard}
use Rattle.sj_board.specs.declared.hand.Hand.{Hand}

-- ---- rows

-- it has nothing in hand, and goes on
abbrev pub IsFreeRow : {D : Type 0} → BoardRow D → Type 0
IsFreeRow r = r.hand ≡ empty_hand

-- it has stopped, with nothing in hand
abbrev pub stopped_hand : Hand
stopped_hand = record { given = None; task = None; unit = None; has_stopped = true }

abbrev pub IsStoppedRow : {D : Type 0} → BoardRow D → Type 0
IsStoppedRow r = r.hand ≡ stopped_hand

-- it has this task in hand
abbrev pub busy_hand : Task → Hand
busy_hand t = record { given = None; task = Some t; unit = None; has_stopped = false }

-- and beside it the disk with the block of this cell
abbrev pub holding_hand : Task → Cell → Hand
holding_hand t c = record { given = None; task = Some t; unit = Some c; has_stopped = false }

-- it was given this task
abbrev pub given_hand : Task → Hand
given_hand t = record { given = Some t; task = None; unit = None; has_stopped = false }

-- it has claimed the task, and no transfer of it is under way
pub record HasClaimedRow {D : Type 0} (w : Worker) (t : Task) (r : BoardRow D) : Type 0 where
  pub hand : r.hand ≡ busy_hand t
  pub phase : r.phase ≡ Some (Claimed w)
  pub rests : r.holds.transfer ≡ None

-- it has claimed the task, and this transfer is under way
pub record MovesRow {D : Type 0} (w : Worker) (t : Task) (x : Transfer) (r : BoardRow D) : Type 0 where
  pub hand : r.hand ≡ busy_hand t
  pub phase : r.phase ≡ Some (Claimed w)
  pub transfer : r.holds.transfer ≡ Some x

-- the same, and it has the unit of the transfer's cell in hand, which was this as it was taken out
pub record HoldsRow {D : Type 0} (w : Worker) (t : Task) (x : Transfer) (before : UnitState D) (r : BoardRow D) : Type 0 where
  pub hand : r.hand ≡ holding_hand t x.cell
  pub unit : r.unit ≡ Some before
  pub phase : r.phase ≡ Some (Claimed w)
  pub transfer : r.holds.transfer ≡ Some x

-- its task runs
pub record RunsRow {D : Type 0} (w : Worker) (t : Task) (r : BoardRow D) : Type 0 where
  pub hand : r.hand ≡ busy_hand t
  pub phase : r.phase ≡ Some (Running w)

-- ---- arrays

-- the array is the one that the worker's transfer carries, with its cell's dimensions; it is told where all disks tell
pub record IsCarried {D : Type 0} (held : D → Option (List ℕ)) (k : BoardKey D) (x : Transfer) (r : BoardRow D) (a : Array) : Type 0 where
  pub dims : a.dims ≡ dims_of k.program x.cell
  pub told : AllDisksTell held k.opened → r.carries ≡ Some a

-- the transfer's tile was stored through the unit, which the worker has in hand, with this outcome
pub record IsStoredThrough {D A : Type 0} (size faults mismatches : D → ℕ) (held : D → Option (List ℕ)) (k : BoardKey D) (w : Worker) (t : Task) (x : Transfer) (r : BoardRow D) (u : UnitState D) (result : Result A DiskRefusal) : Type 0 where
  pub before : UnitState D
  pub holds : HoldsRow w t x before r
  pub array : Array
  pub carried : IsCarried held k x r array
  pub fits : All (FitsSigned w64) array.elements
  pub count : ℕ
  pub counts : r.writes ≡ Some count
  pub stores : UnitStores size faults mismatches held count array.elements result before u

-- the elements of the array were fetched through the unit, which the worker has in hand, with this outcome
pub record IsFetchedThrough {D A : Type 0} (size faults mismatches : D → ℕ) (held : D → Option (List ℕ)) (k : BoardKey D) (w : Worker) (t : Task) (x : Transfer) (r : BoardRow D) (u : UnitState D) (result : Result A DiskRefusal) (array : Array) : Type 0 where
  pub before : UnitState D
  pub holds : HoldsRow w t x before r
  pub dims : array.dims ≡ dims_of k.program x.cell
  pub whole : length array.elements ≡ area array.dims
  pub count : ℕ
  pub counts : r.writes ≡ Some count
  pub fetches : UnitFetches size faults mismatches held count array.elements result before u

-- the row has these arrays in the cells of the running task
abbrev pub HoldsCells : {D : Type 0} → Program → Worker → Task → BoardRow D → (Cell → Array) → Type 0
HoldsCells p w t r holds = r.operands ≡ Some (map holds (cells_of p t w))

-- shares of the operands whose old value the running task reads; what they hold is told where all disks tell
pub record HoldShares {D : Type 0} (p : Program) (w : Worker) (t : Task) (r : BoardRow D) (slots : List Slot) : Type 0 where
  pub holds : Cell → Array
  pub cells : HoldsCells p w t r holds
  pub shares : arrays slots ≡ held_for p w holds (read_operands p t)

pub record AreLent {D : Type 0} (held : D → Option (List ℕ)) (k : BoardKey D) (w : Worker) (t : Task) (r : BoardRow D) (slots : List Slot) : Type 0 where
  pub inside : t.0 < length k.program.tasks
  pub shares : AreSharesOf k.program t slots
  pub told : AllDisksTell held k.opened → HoldShares k.program w t r slots

-- the task runs, and the frame has shares of the operands that it reads, and room for the others
abbrev pub HasOperands : {D : Type 0} → (D → Option (List ℕ)) → BoardKey D → Worker → Task → BoardRow D → Frame → Type 0
HasOperands held k w t r f = RunsRow w t r × AreLent held k w t r f.slots × HasRoomForOperands k.program t f

-- shares of the running task's results; what they hold is told where all disks tell
pub record HoldResults {D : Type 0} (p : Program) (w : Worker) (t : Task) (r : BoardRow D) (slots : List Slot) : Type 0 where
  pub holds : Cell → Array
  pub cells : HoldsCells p w t r holds
  pub results : arrays slots ≡ results out p t w holds

pub record AreDone {D : Type 0} (held : D → Option (List ℕ)) (k : BoardKey D) (w : Worker) (t : Task) (r : BoardRow D) (slots : List Slot) : Type 0 where
  pub shares : AllZip (IsShare k.program) (written_operands (task_of k.program t)) slots
  pub told : AllDisksTell held k.opened → HoldResults k.program w t r slots

-- ---- boards, in a turn

-- the events begin with these
abbrev pub BeginsWith : List Event → List Event → Type 0
BeginsWith events first = (rest : List Event) × (events ≡ first ++ rest)

-- the row of the worker
abbrev pub row_in : {D : Type 0} → BoardState D → Worker → BoardRow D
row_in b w = row_of_number b w.0

-- the claim, run and end events of the worker begin with all those that they began with
abbrev pub KeepsEvents : {D : Type 0} → Worker → BoardState D → BoardState D → Type 0
KeepsEvents w old new = BeginsWith (row_in new w).events (row_in old w).events

-- ---- seats, between turns

-- the worker is one of the program of the desk's board
pub record IsDeskOf {D : Type 0} (p : Program) (w : Worker) (desk : DeskFacts (NotedBoard D)) : Type 0 where
  pub program : desk.opening.board.run.program ≡ p
  pub known : w.0 < p.workers

-- the seat is the worker's at this desk, isn't in its turn, and left a row of which this is true
pub record IsAt {D : Type 0} (desk : DeskFacts (NotedBoard D)) (w : Worker) (P : BoardRow D → Type 0) (s : SeatFacts (NotedBoard D)) : Type 0 where
  pub waiting : IsWaiting desk s
  pub number : s.number ≡ w.0
  pub row : IsSomeAnd s.left (λ b. P (row_in b.board w))

-- the worker's seat at this desk isn't in its turn, and left this board with these notes
pub record HasLeft {D : Type 0} (desk : DeskFacts (NotedBoard D)) (w : Worker) (b : NotedBoard D) (s : SeatFacts (NotedBoard D)) : Type 0 where
  pub waiting : IsWaiting desk s
  pub number : s.number ≡ w.0
  pub left : s.left ≡ Some b

-- the events in the row that the seat left begin with these
abbrev pub HasBegun : {D : Type 0} → Worker → List Event → SeatFacts (NotedBoard D) → Type 0
HasBegun w first s = IsSomeAnd s.left (λ b. BeginsWith (row_in b.board w).events first)

-- whatever they began with, they still do
abbrev pub GoesOn : {D : Type 0} → Worker → SeatFacts (NotedBoard D) → SeatFacts (NotedBoard D) → Type 0
GoesOn w old new = (first : List Event) → HasBegun w first old → HasBegun w first new
