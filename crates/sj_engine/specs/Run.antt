-- How a run begins and what it leaves: the board as it opens, the seats of its workers, and the outcome.
use Rattle.std.specs.Prelude.{◌≡◌, ◌<◌, ℕ, Option, None, List, Result, All, IfErr, IsOk, length, slice_index_or}
use Rattle.sj_base.specs.declared.ids.Task.{Task}
use Rattle.sj_base.specs.declared.ids.Worker.{Worker}
use Rattle.sj_base.specs.declared.program.Program.{Program}
use Rattle.sj_base.specs.declared.program.Machine.{Machine}
use Rattle.sj_base.specs.declared.trace.Event.{Event}
use Rattle.sj_base.specs.Array.{Array}
use Rattle.sj_codelet.specs.Kernel.{out}
use Rattle.sj_core.specs.Legal.{IsFinished, IsLegal}
use Rattle.sj_desk.specs.Seats.{DeskFacts, SeatFacts}
use Rattle.sj_disk.specs.Holding.{CountsStay}
use Rattle.sj_edge.specs.GivenBack.{AreGivenBack}
use Rattle.sj_board.specs.declared.fault.RunFault.{RunFault}
use Rattle.sj_board.specs.Board.{BoardState, HasTakenReleased}
use Rattle.sj_board.specs.BoardRow.{BoardRow}
use Rattle.sj_board.specs.Delivered.{DeliversEach}
use Rattle.sj_board.specs.Preparing.{first_hands}
use Rattle.sj_board.specs.declared.hand.Hand.{Hand}
use Rattle.sj_engine.specs.Outcome.{AllDisksTell, HoldBlocks, IsCausedBy, WantsLastWritten}
use Rattle.sj_engine.specs.Stage.{IsAt, stopped_hand}
use Rattle.sj_engine.specs.declared.noted_board.NotedBoard.{NotedBoard}
use Rattle.sj_base.specs.Ids.{worker}

-- ---- the board

-- the board of the program on the machine and these disks, as it opens: every hand is empty, nothing is released, and there is no
-- fault
pub record IsOpened {D : Type 0} (p : Program) (m : Machine) (disks : List D) (b : BoardState D) : Type 0 where
  pub program : b.run.program ≡ p
  pub machine : b.run.machine ≡ m
  pub opened : b.run.opened ≡ disks
  pub disks_are : b.run.disks.disks ≡ disks
  pub hands : b.hands ≡ first_hands p
  pub taken : (w : Worker) → HasTakenReleased b w
  pub no_fault : b.fault ≡ None

-- no worker has a task
abbrev pub NoneHasTask : List Hand → Type 0
NoneHasTask hands = All (λ hand. hand.task ≡ None) hands

-- all workers have stopped, with nothing in hand
abbrev pub AllStopped : List Hand → Type 0
AllStopped hands = All (λ hand. hand ≡ stopped_hand) hands

-- no worker has a disk in hand
abbrev pub NoneHasUnit : List Hand → Type 0
NoneHasUnit hands = All (λ hand. hand.unit ≡ None) hands

-- ---- seats

-- the seats are the desk's, each at the place of its number, and each left a row of which this is true
pub record AreAt {D : Type 0} (desk : DeskFacts (NotedBoard D)) (P : BoardRow D → Type 0) (seats : List (SeatFacts (NotedBoard D))) : Type 0 where
  pub count : length seats ≡ desk.seats
  pub each : (k : ℕ) (d : SeatFacts (NotedBoard D)) → k < desk.seats → IsAt desk (worker k) P (slice_index_or seats k d)

-- ---- the outcome

-- what is true of a run of the program on the machine with these disks: its result, what it delivered, its events, and the
-- disks as they come back
pub record IsOutcome {D A : Type 0} (size faults mismatches : D → ℕ) (held : D → Option (List ℕ)) (p : Program) (m : Machine) (disks : List D) (result : Result A RunFault) (pairs : List (Task × Array)) (events : List Event) (back : List D) : Type 0 where
  pub legal : IsLegal p m events
  pub given_back : AreGivenBack size faults mismatches held disks back
  pub finished : IsOk result → IsFinished p m events
  pub delivers : IsOk result → DeliversEach out p (AllDisksTell held disks) pairs
  pub no_fault_is_swallowed : IsOk result → CountsStay faults mismatches disks back
  pub blocks : AllDisksTell held disks → HoldBlocks held out p m events back
  pub cause : IfErr result (IsCausedBy faults mismatches held disks back)
  pub wanted : IfErr result (WantsLastWritten p m events)
