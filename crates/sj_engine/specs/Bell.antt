-- How a turn minds the bells: what it notes of those that rest, and which bell it rings.
use Rattle.std.specs.Prelude.{◌≡◌, ◌≢◌, ◌+◌, ◌-◌, ◌^◌, ◌⊎◌, ◌++◌, ℕ, Bool, true, Option, Some, IsSomeAnd, List, MatchBool, is_some, length, min, option_to_list}
use Rattle.sj_base.specs.declared.ids.Task.{Task}
use Rattle.sj_base.specs.declared.ids.Worker.{Worker}
use Rattle.sj_base.specs.declared.mode.Policy.TheVariants.{Prio}
use Rattle.sj_base.specs.declared.trace.Event.{Event}
use Rattle.sj_base.specs.declared.trace.Event.TheVariants.{Claim, End}
use Rattle.sj_desk.specs.Seats.{HasRowLeft, SeatFacts}
use Rattle.sj_board.specs.Standing.{state, with_event}
use Rattle.sj_board.specs.Board.{BoardState}
use Rattle.sj_board.specs.Releasing.{BecomeReady}
use Rattle.sj_engine.specs.Noted.{has_ready_in, noted_row}
use Rattle.sj_engine.specs.Resting.{change_of, is_over, noted, noted_at_rest, wakes, wakes_at_rest}
use Rattle.sj_engine.specs.Stage.{row_in}
use Rattle.sj_engine.specs.Turn.{Happens, NothingHappens}
use Rattle.sj_engine.specs.declared.noted_board.NotedBoard.{NotedBoard}
use Rattle.sj_engine.specs.declared.sleepers.Change.{Change}

module _ {D : Type 0} where
  -- where workers share queues, the tasks that are ready and not claimed are counted: a claim takes one away, and the end of a
  -- task adds those that become ready by it
  abbrev pub CountsReady : Event → NotedBoard D → NotedBoard D → Type 0
  CountsReady (Claim t w) old new = old.board.run.machine.policy ≢ Prio → new.waiting ≡ old.waiting - 1
  CountsReady (End t w) old new = old.board.run.machine.policy ≢ Prio
      → (ready : List Task) × BecomeReady old.board.run.program (state old.board.run) (state (with_event old.board.run (End t w))) ready × (new.waiting ≡ min (old.waiting + length ready) (2 ^ 64 - 1))
  CountsReady _ old new = new.waiting ≡ old.waiting

  -- a turn that left this board did this: an event has happened that does, and is counted, or the run is over, when all are woken
  abbrev pub IsChange : NotedBoard D → NotedBoard D → Change → Type 0
  IsChange old new change = ((e : Event) × Happens e old.board new.board × (change ≡ change_of e) × CountsReady e old new) ⊎ (is_over new.board ≡ true)

  -- the worker has a task
  abbrev pub is_claimed : BoardState D → Worker → Bool
  is_claimed b w = is_some (row_in b w).hand.task

  -- the bell that is rung at the end of a turn of the worker that did this, and the board with what is noted then
  abbrev pub wakes_after : Worker → Change → NotedBoard D → Option ℕ
  wakes_after w change v = wakes w.0 change (is_over v.board) (has_ready_in v) v.sleepers

  abbrev pub noted_after : Worker → Change → NotedBoard D → NotedBoard D
  noted_after w change v = record { board = v.board; sleepers = noted w.0 change (is_over v.board) (has_ready_in v) v.sleepers; waiting = v.waiting }

  -- and at the end of one after which the worker rests on a bell
  abbrev pub wakes_for_rest : Worker → Bool → NotedBoard D → Option ℕ
  wakes_for_rest w claimed v = wakes_at_rest w.0 claimed (has_ready_in v) v.sleepers

  abbrev pub noted_for_rest : Worker → ℕ → Bool → NotedBoard D → NotedBoard D
  noted_for_rest w bell claimed v = record { board = v.board; sleepers = noted_at_rest w.0 bell claimed (has_ready_in v) v.sleepers; waiting = v.waiting }

  -- the seat has rung this bell, or none
  abbrev pub HasRung : Option ℕ → SeatFacts (NotedBoard D) → SeatFacts (NotedBoard D) → Type 0
  HasRung bell s t = t.rings ≡ s.rings ++ option_to_list bell

  -- the seat has heard this bell
  abbrev pub HasHeardBell : ℕ → SeatFacts (NotedBoard D) → Type 0
  HasHeardBell bell s = IsSomeAnd s.heard (λ h. h.bell ≡ bell)

  -- the turn in which this was found did something, by which this many tasks are ready and not claimed, and the seat has noted it
  -- and rung as the rule has it
  pub record NotesChange (w : Worker) (found : NotedBoard D) (s t : SeatFacts (NotedBoard D)) : Type 0 where
    pub board : BoardState D
    pub waiting : ℕ
    pub change : Change
    pub did : IsChange found (record { board = board; sleepers = found.sleepers; waiting = waiting }) change
    pub left : t.left ≡ Some (noted_after w change (record { board = board; sleepers = found.sleepers; waiting = waiting }))
    pub rung : HasRung (wakes_after w change (record { board = board; sleepers = found.sleepers; waiting = waiting })) s t

  -- nothing has happened in it, and the seat has noted that its worker rests on a bell, heard it, and rung as the rule has it
  pub record NotesRest (w : Worker) (bell : ℕ) (found : NotedBoard D) (s t : SeatFacts (NotedBoard D)) : Type 0 where
    pub board : BoardState D
    pub nothing : NothingHappens found.board board
    pub left : t.left ≡ Some (noted_for_rest w bell (is_claimed board w) (record { board = board; sleepers = found.sleepers; waiting = found.waiting }))
    pub rung : HasRung (wakes_for_rest w (is_claimed board w) (record { board = board; sleepers = found.sleepers; waiting = found.waiting })) s t
    pub heard : HasHeardBell bell t

  -- the turn of the worker, whose thread sleeps on this bell, minded the bells: in it a board was found that has the worker's row
  -- as it was left
  pub record MindsBell (w : Worker) (bell : ℕ) (rests : Bool) (s t : SeatFacts (NotedBoard D)) : Type 0 where
    pub found : NotedBoard D
    pub own_row : HasRowLeft noted_row found s
    pub rule : MatchBool rests (NotesRest w bell found s t) (NotesChange w found s t)
