-- What a turn of a worker leaves on the board.
use Rattle.std.specs.Prelude.{◌≡◌, ◌≢◌, ◌<◌, ◌++◌, ◌∷◌, [], ◌⊎◌, ℕ, Option, None, List, length}
use Rattle.sj_base.specs.declared.ids.Worker.{Worker}
use Rattle.sj_base.specs.declared.trace.Event.{Event}
use Rattle.sj_desk.specs.Seats.{DeskFacts}
use Rattle.sj_disk.specs.Holding.{CountsStay}
use Rattle.sj_board.specs.Board.{BoardState, GivesUnitBack, HasTakenReleased}
use Rattle.sj_board.specs.Units.{OthersKeepUnits}
use Rattle.sj_board.specs.BoardRow.{key_of, row_of_number}
use Rattle.sj_board.specs.BoardSound.{IsSoundBoard}
use Rattle.sj_engine.specs.Stage.{KeepsEvents}
use Rattle.sj_engine.specs.declared.noted_board.NotedBoard.{NotedBoard}

-- between two turns: the board is sound, each worker has taken away what its ends released, and no fault is swallowed: as long as
-- none is kept, no count of a disk has changed
pub record IsSharedSound {D : Type 0} (size faults mismatches : D → ℕ) (held : D → Option (List ℕ)) (b : BoardState D) : Type 0 where
  pub board : IsSoundBoard size faults mismatches held b
  pub taken : (w : Worker) → HasTakenReleased b w
  pub counts : b.fault ≡ None → CountsStay faults mismatches b.run.opened b.run.disks.disks

-- the event has happened, and no other
abbrev pub Happens : {D : Type 0} → Event → BoardState D → BoardState D → Type 0
Happens e old new = new.run.trace ≡ old.run.trace ++ e ∷ []

-- no event has happened
abbrev pub NothingHappens : {D : Type 0} → BoardState D → BoardState D → Type 0
NothingHappens old new = new.run.trace ≡ old.run.trace

-- the trace is as it was, or one event longer
abbrev pub OneHappensAtMost : {D : Type 0} → BoardState D → BoardState D → Type 0
OneHappensAtMost old new = NothingHappens old new ⊎ ((e : Event) × Happens e old new)

-- a turn of the worker: the key is as it was, and the rows of all others; one event happens at most, and the worker's own events
-- go on; where no fault is kept after it, none was before, and no count of a disk has changed; and where the worker had taken
-- away what its ends released, it has still
pub record IsTurnOf {D : Type 0} (faults mismatches : D → ℕ) (w : Worker) (old new : BoardState D) : Type 0 where
  pub key : key_of new ≡ key_of old
  pub others : (n : ℕ) → n ≢ w.0 → row_of_number new n ≡ row_of_number old n
  pub one_event : OneHappensAtMost old new
  pub events : KeepsEvents w old new
  pub no_fault : new.fault ≡ None → old.fault ≡ None
  pub counts : new.fault ≡ None → CountsStay faults mismatches old.run.disks.disks new.run.disks.disks
  pub taken : HasTakenReleased old w → HasTakenReleased new w

-- the worker is one of the program of the board
abbrev pub IsWorkerOf : {D : Type 0} → BoardState D → Worker → Type 0
IsWorkerOf b w = w.0 < b.run.program.workers

-- the worker's turn, in which it found this board, may end with that one: the notes of those that rest are as they were found,
-- with a place for each worker's
pub record MayLeave {D : Type 0} (size faults mismatches : D → ℕ) (held : D → Option (List ℕ)) (desk : DeskFacts (NotedBoard D)) (w : Worker) (b found : NotedBoard D) : Type 0 where
  pub turn : IsTurnOf faults mismatches w found.board b.board
  pub sound : IsSharedSound size faults mismatches held found.board
  pub key : key_of found.board ≡ key_of desk.opening.board
  pub notes : b.sleepers ≡ found.sleepers
  pub staffed : length found.sleepers ≡ found.board.run.program.workers
  pub known : IsWorkerOf found.board w

-- the worker has put its unit back: the disks alone have changed, and the worker's hand
pub record PutsUnitBack {D : Type 0} (w : Worker) (old new : BoardState D) : Type 0 where
  pub back : GivesUnitBack w old new
  pub others : OthersKeepUnits w old new
