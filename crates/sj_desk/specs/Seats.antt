-- What contracts see of a desk and of its seats.
use Rattle.std.specs.Prelude.{◌≡◌, ◌≢◌, ℕ, ◌+◌, ◌<◌, List, [], ◌∷◌, ◌++◌, map, length, slice_index_or, Option, Some, None, All, Contains}
use Rattle.std.specs.Option.{IsSomeAnd}
use Rattle.std.specs.List.{range_with_len}
use Rattle.atomic_table.specs.Seated.{TableId}
use Rattle.sj_desk.specs.declared.view.Heard.{Heard}

-- a desk: its table, the value that it opened with, and how many seats it has
pub record DeskFacts (T : Type 0) : Type 0 where
  pub table : TableId
  pub opening : T
  pub seats : ℕ

-- a seat: its desk, its number, how many of its tries found the turn taken, the bell that it heard and hasn't rested on yet, with
-- its count, the bells that it rang, one after the other, the value that it left last, and in its turn the value that it found
pub record SeatFacts (T : Type 0) : Type 0 where
  pub desk : Option (DeskFacts T)
  pub number : ℕ
  pub refusals : ℕ
  pub heard : Option Heard
  pub rings : List ℕ
  pub left : Option T
  pub found : Option T

module _ {T : Type 0} where
  -- a seat of the desk that has had no turn yet: its row is that of the opening value
  abbrev pub new_seat : DeskFacts T → ℕ → SeatFacts T
  new_seat desk number = record { desk = Some desk; number = number; refusals = 0; heard = None; rings = []; left = Some desk.opening; found = None }

  -- the seats of the desk, each with its place for its number
  abbrev pub new_seats : DeskFacts T → List (SeatFacts T)
  new_seats desk = map (new_seat desk) (range_with_len 0 desk.seats)

  -- the seat, after a try that found the turn taken
  abbrev pub after_refusal : SeatFacts T → SeatFacts T
  after_refusal s = record { desk = s.desk; number = s.number; refusals = s.refusals + 1; heard = s.heard; rings = s.rings; left = s.left; found = s.found }

  -- the seat in its turn, in which it found the value, after so many tries that found the turn taken
  abbrev pub in_turn : SeatFacts T → T → ℕ → SeatFacts T
  in_turn s value refusals = record { desk = s.desk; number = s.number; refusals = refusals; heard = s.heard; rings = s.rings; left = s.left; found = Some value }

  -- the seat after its turn, in which it left the value
  abbrev pub after_turn : SeatFacts T → T → SeatFacts T
  after_turn s value = record { desk = s.desk; number = s.number; refusals = s.refusals; heard = s.heard; rings = s.rings; left = Some value; found = None }

  -- the seat that has heard a bell at some count, and the seat that has rested since
  abbrev pub hearing : SeatFacts T → Option Heard → SeatFacts T
  hearing s heard = record { desk = s.desk; number = s.number; refusals = s.refusals; heard = heard; rings = s.rings; left = s.left; found = s.found }

  abbrev pub rested : SeatFacts T → SeatFacts T
  rested s = hearing s None

  -- the seat after it rang this bell
  abbrev pub rung : SeatFacts T → ℕ → SeatFacts T
  rung s bell = record { desk = s.desk; number = s.number; refusals = s.refusals; heard = s.heard; rings = s.rings ++ bell ∷ []; left = s.left; found = s.found }

  -- the value has the seat's row as the seat left it
  abbrev pub HasRowLeft : {R : Type 0} → (T → ℕ → R) → T → SeatFacts T → Type 0
  HasRowLeft row_of value s = IsSomeAnd s.left (λ left. row_of value s.number ≡ row_of left s.number)

  -- the seat is in its turn, and the value has the rows of all other seats as the seat found them
  abbrev pub KeepsOtherRows : {R : Type 0} → (T → ℕ → R) → DeskFacts T → SeatFacts T → T → Type 0
  KeepsOtherRows row_of desk s value = IsSomeAnd s.found (λ found. (n : ℕ) → n < desk.seats → n ≢ s.number → row_of value n ≡ row_of found n)

  -- each number of the desk's seats is that of a seat of the list
  abbrev pub HasEachNumber : DeskFacts T → List (SeatFacts T) → Type 0
  HasEachNumber desk seats = (n : ℕ) → n < desk.seats → (s : SeatFacts T) × Contains seats s × (s.number ≡ n)

  -- the seat after some tries: nothing but their number has changed
  abbrev pub retried : SeatFacts T → ℕ → SeatFacts T
  retried s refusals = record { desk = s.desk; number = s.number; refusals = refusals; heard = s.heard; rings = s.rings; left = s.left; found = s.found }

  -- the seat is of the desk, and isn't in its turn
  abbrev pub IsWaiting : DeskFacts T → SeatFacts T → Type 0
  IsWaiting desk s = (s.desk ≡ Some desk) × (s.found ≡ None)

  -- the desk's seats, each at the place of its number
  pub record AreInPlace (desk : DeskFacts T) (seats : List (SeatFacts T)) : Type 0 where
    pub count : length seats ≡ desk.seats
    pub waiting : All (IsWaiting desk) seats
    pub numbers : (k : ℕ) (d : SeatFacts T) → k < desk.seats → (slice_index_or seats k d).number ≡ k
