-- A worker's seat: its worker may keep the turn, so that no other seat has one between two of its own.
use Rattle.std.specs.Prelude.{◌≡◌, ℕ, Bool, true, false, Option, Some, None, List}
use Rattle.sj_desk.specs.Seats.{DeskFacts, SeatFacts}
use Rattle.sj_engine.specs.Noted.{IsNotedSound, noted_key}
use Rattle.sj_engine.specs.declared.noted_board.NotedBoard.{NotedBoard}

-- what the worker knows of its seat, which is outside of a turn for it also where it keeps the turn; and whether it does
pub record WorkerSeatFacts (D : Type 0) : Type 0 where
  pub facts : SeatFacts (NotedBoard D)
  pub keeps_turn : Bool

module _ {D : Type 0} where
  -- the seat as it is before its turn
  abbrev pub before_turn : SeatFacts (NotedBoard D) → SeatFacts (NotedBoard D)
  before_turn s = record { desk = s.desk; number = s.number; refusals = s.refusals; heard = s.heard; rings = s.rings; left = s.left; found = None }

  -- a seat that keeps its turn, with the board, or doesn't
  abbrev pub seen_by_worker : SeatFacts (NotedBoard D) → Option (NotedBoard D) → WorkerSeatFacts D
  seen_by_worker s None = record { facts = s; keeps_turn = false }
  seen_by_worker s (Some b) = record { facts = before_turn s; keeps_turn = true }

  -- the seat is in a turn in which it found the board just as it had left it
  pub record IsKeptTurn (size faults mismatches : D → ℕ) (held : D → Option (List ℕ)) (s : SeatFacts (NotedBoard D)) (b : NotedBoard D) : Type 0 where
    pub found : s.found ≡ Some b
    pub left : s.left ≡ Some b
    pub key : (desk : DeskFacts (NotedBoard D)) → s.desk ≡ Some desk → noted_key b ≡ noted_key desk.opening
    pub sound : IsNotedSound size faults mismatches held b
