-- What a worker has at hand for the whole run.
use Rattle.sj_base.specs.declared.mode.Policy.{Policy}
use Rattle.sj_core.specs.Proper.{Proper}
use Rattle.sj_board.specs.BoardRow.{BoardKey, BoardRow, key_of}
use Rattle.sj_engine.specs.Stage.{IsAt, IsDeskOf}
use Rattle.sj_engine.specs.declared.workplace.Workplace.{Workplace}
use Rattle.sj_engine.specs.WorkerSeats.{WorkerSeatFacts}

module _ {R D : Type 0} where
  -- the program is that of the desk's board, and the worker is one of it
  abbrev pub IsWorkplace : Workplace R D → Type 0
  IsWorkplace at = IsDeskOf at.program.now at.worker at.desk.now

  -- the same, and the program is proper
  pub record IsProperWorkplace (at : Workplace R D) : Type 0 where
    pub workplace : IsWorkplace at
    pub proper : Proper at.program.now

  -- the key of the desk's board
  abbrev pub board_key : Workplace R D → BoardKey D
  board_key at = key_of at.desk.now.opening.board

  -- the policy of its machine
  abbrev pub policy_here : Workplace R D → Policy
  policy_here at = (board_key at).machine.policy

  -- the worker's seat at the desk isn't in its turn, and left a row of which this is true
  abbrev pub IsSeated : Workplace R D → (BoardRow D → Type 0) → WorkerSeatFacts D → Type 0
  IsSeated at P s = IsAt at.desk.now at.worker P s.facts
