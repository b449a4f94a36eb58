-- What a seat knows, as the rule of the turn sees it.
use Rattle.std.specs.Prelude.{◌≡◌, ℕ, ◌+◌, ◌-◌, ◌<◌, List, [], ◌∷◌, ◌++◌, map, Option, Some, None, Contains}
use Rattle.std.specs.List.{range_with_len, AllZip}
use Rattle.atomic_table.specs.Seated.{TableId}
use Rattle.atomic_table.specs.Table.{Me}
use Rattle.sj_desk.specs.declared.view.View.{View}
use Rattle.sj_desk.specs.declared.view.Opening.{Opening}
use Rattle.sj_desk.specs.declared.view.Tally.{Tally}
use Rattle.sj_desk.specs.declared.view.Heard.{Heard}
use Rattle.sj_desk.specs.Seats.{DeskFacts, SeatFacts}

-- a table with a word for the turn and one for each of 256 bells, and one slot, for at least one seat
abbrev pub IsOneTurn : TableId → ℕ → Type 0
IsOneTurn table seats = (table.words ≡ 272) × (table.slots ≡ 1) × (0 < seats)

-- this bell, heard at this count
abbrev pub heard_at : ℕ → ℕ → Heard
heard_at bell count = record { bell = bell; count = count }

-- so many tries found the turn taken, this bell was heard, and these were rung
abbrev pub tally : ℕ → Option Heard → List ℕ → Tally
tally refusals heard rings = record { refusals = refusals; heard = heard; rings = rings }

abbrev pub no_tally : Tally
no_tally = tally 0 None []

abbrev pub one_refusal_more : Tally → Tally
one_refusal_more c = tally (c.refusals + 1) c.heard c.rings

abbrev pub hearing_tally : Tally → Option Heard → Tally
hearing_tally c heard = tally c.refusals heard c.rings

abbrev pub rung_tally : Tally → ℕ → Tally
rung_tally c bell = tally c.refusals c.heard (c.rings ++ bell ∷ [])

module _ {T : Type 0} where
  abbrev pub view : Option (Opening T) → List (ℕ × T) → Option T → Tally → ℕ → View T
  view opening rows found c stage = record { opening = opening; rows = rows; found = found; tally = c; stage = stage }

  -- a seat that isn't in its turn: before the desk opens the stage is 0, with the slot taken it is 1, and then 2
  abbrev pub sitting : Opening T → List (ℕ × T) → Tally → ℕ → View T
  sitting k rows c stage = view (Some k) rows None c stage

  -- the view of a seat that was joined to another
  abbrev pub ended : View T
  ended = view None [] None no_tally 2

  -- n rows of the opening value, from the number a on
  abbrev pub opening_rows : T → ℕ → ℕ → List (ℕ × T)
  opening_rows value a n = map (λ i. (i, value)) (range_with_len a n)

  -- the first view, which answers for all rows
  abbrev pub first_view : Opening T → View T
  first_view k = sitting k (opening_rows k.value 0 k.seats) no_tally 0

  abbrev pub at_stage : ℕ → View T → View T
  at_stage stage v = view v.opening v.rows v.found v.tally stage

  -- after a try that found the turn taken
  abbrev pub refused_view : View T → View T
  refused_view v = view v.opening v.rows v.found (one_refusal_more v.tally) v.stage

  -- after it heard a bell, or after it rested
  abbrev pub hearing_view : View T → Option Heard → View T
  hearing_view v heard = view v.opening v.rows v.found (hearing_tally v.tally heard) v.stage

  -- after it rang a bell
  abbrev pub rung_view : View T → ℕ → View T
  rung_view v bell = view v.opening v.rows v.found (rung_tally v.tally bell) v.stage

  -- in its turn
  abbrev pub found_view : View T → T → View T
  found_view v value = view v.opening v.rows (Some value) v.tally v.stage

  abbrev pub row_left : List (ℕ × T) → T → List (ℕ × T)
  row_left [] value = []
  row_left (r ∷ rs) value = (r.0, value) ∷ rs

  -- after its turn
  abbrev pub left_view : View T → T → View T
  left_view v value = view v.opening (row_left v.rows value) None v.tally v.stage

  -- the same, with the value that is in the slot
  abbrev pub left_in : View T → Option T → View T
  left_in v None = v
  left_in v (Some value) = left_view v value

  abbrev pub left_by : View T → List (ℕ × Option T) → View T
  left_by v [] = v
  left_by v (x ∷ xs) = left_in v x.1

  -- in the next turn of the same seat, which begins with the value that it left
  abbrev pub renewed_view : View T → T → View T
  renewed_view v value = found_view (left_view v value) value

  -- the same, with the value that is in the slot
  abbrev pub renewed_in : View T → Option T → View T
  renewed_in v None = v
  renewed_in v (Some value) = renewed_view v value

  abbrev pub renewed_by : View T → List (ℕ × Option T) → View T
  renewed_by v [] = v
  renewed_by v (x ∷ xs) = renewed_in v x.1

  abbrev pub first_row : List (ℕ × T) → List (ℕ × T)
  first_row [] = []
  first_row (r ∷ rs) = r ∷ []

  abbrev pub later_rows : List (ℕ × T) → List (ℕ × T)
  later_rows [] = []
  later_rows (r ∷ rs) = rs

  -- the dealing seat after it has dealt one, and the seat that was dealt
  abbrev pub dealing : View T → View T
  dealing v = view v.opening (later_rows v.rows) v.found v.tally v.stage

  abbrev pub dealt : View T → View T
  dealt v = view v.opening (first_row v.rows) None no_tally v.stage

  -- a seat that answers for another's rows too
  abbrev pub joined_seat : View T → View T → View T
  joined_seat v w = view v.opening (w.rows ++ v.rows) v.found v.tally v.stage

  -- the slot is out with a seat in its turn, and empty while the value is with the caller
  abbrev pub slots_of : Option T → List (ℕ × Option T)
  slots_of None = []
  slots_of (Some value) = (0, None) ∷ []

  abbrev pub seated : Opening T → ℕ → T → Option T → Tally → Me (Option T) (View T)
  seated k number left found c = (view (Some k) ((number, left) ∷ []) found c 2, slots_of found)

  -- the seat answers for one row, that of its number, and has heard this
  pub record HasOwnRow (number : ℕ) (heard : Option Heard) (me : Me (Option T) (View T)) : Type 0 where
    pub opening : Opening T
    pub left : T
    pub found : Option T
    pub tally : Tally
    pub hears : tally.heard ≡ heard
    pub me_is : me ≡ seated opening number left found tally

  abbrev pub desk_facts : TableId → Opening T → DeskFacts T
  desk_facts table k = record { table = table; opening = k.value; seats = k.seats }

  abbrev pub desk_of : TableId → Option (Opening T) → Option (DeskFacts T)
  desk_of table None = None
  desk_of table (Some k) = Some (desk_facts table k)

  abbrev pub value_left : List (ℕ × T) → Option T
  value_left [] = None
  value_left (r ∷ rs) = Some r.1

  -- a seat as contracts see it
  abbrev pub seat_facts : TableId → ℕ → View T → SeatFacts T
  seat_facts table number v = record { desk = desk_of table v.opening; number = number; refusals = v.tally.refusals; heard = v.tally.heard; rings = v.tally.rings; left = value_left v.rows; found = v.found }

  abbrev pub opening_of : DeskFacts T → Opening T
  opening_of desk = record { value = desk.opening; seats = desk.seats }

  -- the row that a seat answers for
  abbrev pub IsRowOf : SeatFacts T → ℕ × T → Type 0
  IsRowOf s r = (s.number ≡ r.0) × (s.left ≡ Some r.1)

  -- the first seat of a table, and the seat that still answers for the rows from the number a on
  abbrev pub IsFirst : DeskFacts T → Me (Option T) (View T) → Type 0
  IsFirst desk me = me ≡ (first_view (opening_of desk), [])

  abbrev pub IsDealer : DeskFacts T → ℕ → Me (Option T) (View T) → Type 0
  IsDealer desk a me = me ≡ (sitting (opening_of desk) (opening_rows desk.opening a (desk.seats - a)) no_tally 2, [])

  -- each number of the desk's seats is that of one of the rows
  abbrev pub HasEachRow : DeskFacts T → List (ℕ × T) → Type 0
  HasEachRow desk rows = (n : ℕ) → n < desk.seats → (r : ℕ × T) × Contains rows r × (r.0 ≡ n)

  -- a seat that isn't in its turn, and answers for these rows
  abbrev pub IsOutOfTurn : DeskFacts T → List (ℕ × T) → Me (Option T) (View T) → Type 0
  IsOutOfTurn desk rows me = (c : Tally) × (me ≡ (sitting (opening_of desk) rows c 2, []))

  -- some seats of the list are left, and the rows are those of the others
  abbrev pub Gathered : List (SeatFacts T) → List (SeatFacts T) → List (ℕ × T) → Type 0
  Gathered all left rows = (done : List (SeatFacts T)) × (all ≡ left ++ done) × AllZip IsRowOf done rows
