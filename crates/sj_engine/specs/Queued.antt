-- What a worker's row tells after it has tried a number from the shared queues, and what has happened.
use Rattle.std.specs.Prelude.{◌≡◌, ◌<◌, ◌++◌, ◌∷◌, [], ◌⊎◌, All, IsSomeAnd, IsTrue, List, is_some}
use Rattle.sj_base.specs.declared.ids.Task.{Task}
use Rattle.sj_base.specs.declared.ids.Worker.{Worker}
use Rattle.sj_base.specs.declared.trace.Event.TheVariants.{Claim, End}
use Rattle.sj_core.specs.Needs.{footprint}
use Rattle.sj_board.specs.Board.{BoardState, room_of}
use Rattle.sj_board.specs.BoardRow.{BoardRow}
use Rattle.sj_board.specs.Claimable.{IsClaimable}
use Rattle.sj_board.specs.Releasing.{BecomeReady}
use Rattle.sj_desk.specs.Seats.{HasRowLeft, SeatFacts}
use Rattle.sj_board.specs.Standing.{state, with_event}
use Rattle.sj_engine.specs.Looking.{CannotClaim}
use Rattle.sj_engine.specs.Noted.{noted_row}
use Rattle.sj_engine.specs.Picking.{PickMakes}
use Rattle.sj_engine.specs.Ready.{LosesNone, PutsAll}
use Rattle.sj_engine.specs.Stage.{HasClaimedRow, IsFreeRow}
use Rattle.sj_engine.specs.Turn.{Happens, NothingHappens}
use Rattle.sj_engine.specs.declared.picking.Picked.{Picked}
use Rattle.sj_engine.specs.declared.noted_board.NotedBoard.{NotedBoard}
use Rattle.sj_engine.specs.declared.picking.Picked.TheVariants.{Task as HasFound, Nothing, Over, Failed as HasFailed}
use Rattle.sj_engine.specs.declared.queued.Tried.{Tried}
use Rattle.sj_engine.specs.declared.ready.ReadyFrom.{ReadyFrom}
use Rattle.sj_engine.specs.declared.queued.Tried.TheVariants.{Claimed, Dropped, Kept, Failed}

-- it has claimed the task, or has nothing in hand
abbrev pub AfterTrying : {D : Type 0} → Worker → Task → BoardRow D → Tried → Type 0
AfterTrying w t r Claimed = HasClaimedRow w t r
AfterTrying w t r Dropped = IsFreeRow r
AfterTrying w t r Kept = IsFreeRow r
AfterTrying w t r Failed = IsFreeRow r

-- its claim has happened, or nothing
abbrev pub TryingMakes : {D : Type 0} → Worker → Task → BoardState D → BoardState D → Tried → Type 0
TryingMakes w t old new Claimed = Happens (Claim t w) old new
TryingMakes w t old new _ = NothingHappens old new

-- the worker's node is too small for the task, or it can't claim it now
abbrev pub CannotHave : {D : Type 0} → BoardState D → Worker → Task → Type 0
CannotHave b w t = (room_of b w < footprint b.run.program t) ⊎ CannotClaim b w t

-- the task isn't ready, or doesn't wait any more; or a fault is kept, and nobody claims any
abbrev pub IsNotNeeded : {D : Type 0} → BoardState D → Task → Type 0
IsNotNeeded b t = (¬ IsClaimable b t) ⊎ IsTrue (is_some b.fault)

-- what a look at the queues makes; where a number couldn't be put back, a claim may have happened before
abbrev pub PicksOrFails : {D : Type 0} → Worker → BoardState D → BoardState D → Picked → Type 0
PicksOrFails w old new HasFailed = NothingHappens old new ⊎ ((t : Task) × Happens (Claim t w) old new)
PicksOrFails w old new picked = PickMakes w old new picked

-- ---- numbers

-- the task that it has claimed
abbrev pub claimed_by : Picked → List Task
claimed_by (HasFound t) = t ∷ []
claimed_by _ = []

-- the look ended neither by a fault nor since the run is over
abbrev pub IsLookOf : Picked → Type 0
IsLookOf (HasFound t) = Unit {0}
IsLookOf Nothing = Unit {0}
IsLookOf HasFailed = ⊥
IsLookOf Over = ⊥

-- what a look at this board does with the numbers that it takes: each is among those that it still keeps, or that of the task
-- that was claimed, or isn't needed, or was put back
pub record AccountsForNumbers {D : Type 0} (b : BoardState D) (old : ReadyFrom) (kept : List Task) (picked : Picked) (new : ReadyFrom) : Type 0 where
  pub dropped : List Task
  pub not_needed : All (IsNotNeeded b) dropped
  pub balance : LosesNone old (kept ++ dropped ++ claimed_by picked) new

-- the end of the worker's task on this board has released the tasks by which the second list is longer
pub record HasReleased {D : Type 0} (b : BoardState D) (t : Task) (w : Worker) (before after : List Task) : Type 0 where
  pub ready : List Task
  pub become : BecomeReady b.run.program (state b.run) (state (with_event b.run (End t w))) ready
  pub listed : after ≡ before ++ ready

-- the board that the seat left keeps a fault
abbrev pub LeavesFault : {D : Type 0} → SeatFacts (NotedBoard D) → Type 0
LeavesFault s = IsSomeAnd s.left (λ b. IsTrue (is_some b.board.fault))

-- a look in a turn of the seat has put back all numbers that it has taken, but that of the task that was claimed, and those that
-- weren't needed on the board that it found
pub record HasLookedThrough {D : Type 0} (s : SeatFacts (NotedBoard D)) (old : ReadyFrom) (picked : Picked) (new : ReadyFrom) : Type 0 where
  pub found : NotedBoard D
  pub own_row : HasRowLeft noted_row found s
  pub numbers : AccountsForNumbers found.board old [] picked new

-- the worker's task has ended in a turn of the seat, and what this has released on the board that it found is listed, unless a
-- fault is kept
pub record ListsReleased {D : Type 0} (t : Task) (w : Worker) (before after : List Task) (s s' : SeatFacts (NotedBoard D)) : Type 0 where
  pub found : NotedBoard D
  pub own_row : HasRowLeft noted_row found s
  pub released : LeavesFault s' ⊎ HasReleased found.board t w before after

-- and all of it was put
pub record PutsReleased {D : Type 0} (t : Task) (w : Worker) (s s' : SeatFacts (NotedBoard D)) (old new : ReadyFrom) : Type 0 where
  pub found : NotedBoard D
  pub own_row : HasRowLeft noted_row found s
  pub released : LeavesFault s' ⊎ ((ts : List Task) × HasReleased found.board t w [] ts × PutsAll old ts new)
