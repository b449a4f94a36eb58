-- The board as it passes through the desk, as the desk sees it.
use Rattle.std.specs.Prelude.{◌≡◌, ℕ, Bool, Option, List, length, nat_eq, not}
use Rattle.sj_base.specs.declared.mode.Policy.{Policy}
use Rattle.sj_base.specs.declared.mode.Policy.TheVariants.{Prio}
use Rattle.sj_board.specs.BoardRow.{BoardKey, BoardRow, key_of, row_of_number}
use Rattle.sj_engine.specs.Resting.{has_ready}
use Rattle.sj_engine.specs.Turn.{IsSharedSound}
use Rattle.sj_engine.specs.declared.noted_board.NotedBoard.{NotedBoard}

-- under prio the board tells, else the count
abbrev pub ready_by : Policy → Bool → ℕ → Bool
ready_by Prio told waiting = told
ready_by _ told waiting = not (nat_eq waiting 0)

module _ {D : Type 0} where
  abbrev pub noted_key : NotedBoard D → BoardKey D
  noted_key v = key_of v.board

  abbrev pub noted_row : NotedBoard D → ℕ → BoardRow D
  noted_row v n = row_of_number v.board n

  -- a task is ready that nobody was given; but under prio, one that was released and not claimed, as the count has it
  abbrev pub has_ready_in : NotedBoard D → Bool
  has_ready_in v = ready_by v.board.run.machine.policy (has_ready v.board) v.waiting

  -- the board is sound, and there is a place for the note of each worker
  pub record IsNotedSound (size faults mismatches : D → ℕ) (held : D → Option (List ℕ)) (v : NotedBoard D) : Type 0 where
    pub board : IsSharedSound size faults mismatches held v.board
    pub staffed : length v.sleepers ≡ v.board.run.program.workers
