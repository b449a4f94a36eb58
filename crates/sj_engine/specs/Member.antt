-- Workers between two stretches of their work: how far each is, and where it works.
use Rattle.std.specs.Prelude.{◌≡◌, ◌<◌, Bool, true, false, Option, is_some}
use Rattle.sj_base.specs.declared.program.Program.{Program}
use Rattle.sj_base.specs.declared.ids.Worker.{Worker}
use Rattle.sj_codelet.specs.declared.kernel.Kernel.{Kernel}
use Rattle.sj_codelet.specs.Kernel.{out}
use Rattle.sj_core.specs.Laws.{IsLawful}
use Rattle.sj_core.specs.Proper.{Proper}
use Rattle.sj_desk.specs.Seats.{DeskFacts, SeatFacts}
use Rattle.sj_steal.specs.Facts.{SharedFacts}
use Rattle.sj_board.specs.BoardRow.{BoardRow}
use Rattle.sj_engine.specs.Ready.{IsPassBy}
use Rattle.sj_engine.specs.Stage.{HasClaimedRow, IsAt, IsFreeRow, IsStoppedRow}
use Rattle.sj_engine.specs.declared.member.SeatedWorker.{SeatedWorker}
use Rattle.sj_engine.specs.declared.member.Stage.{Stage}
use Rattle.sj_engine.specs.declared.member.Stage.TheVariants.{Fresh, Idle, Blocked, Stopped}
use Rattle.sj_engine.specs.declared.noted_board.NotedBoard.{NotedBoard}
use Rattle.sj_base.specs.Ids.{worker}

-- the row of a worker at this stage
abbrev pub IsRowAt : {D : Type 0} → Worker → Stage → BoardRow D → Type 0
IsRowAt w Fresh r = IsFreeRow r
IsRowAt w Idle r = IsFreeRow r
IsRowAt w (Blocked t) r = HasClaimedRow w t r
IsRowAt w Stopped r = IsStoppedRow r

-- the worker has looked and can't go on: it rests next
abbrev pub may_rest : Stage → Bool
may_rest Idle = true
may_rest (Blocked t) = true
may_rest _ = false

module _ {D : Type 0} where
  -- where the worker can't go on, its seat has heard the bell since
  abbrev pub HasHeard : Stage → SeatFacts (NotedBoard D) → Type 0
  HasHeard stage s = may_rest stage ≡ true → is_some s.heard ≡ true

  -- a worker of the desk: its row is that of its stage, it keeps no turn, it has its pass of these queues, or none under prio,
  -- and where it can't go on it has heard the bell
  pub record IsMember (desk : DeskFacts (NotedBoard D)) (queues : Option SharedFacts) (m : SeatedWorker D) : Type 0 where
    pub known : m.seat.facts.number < desk.seats
    pub row : IsAt desk (worker m.seat.facts.number) (IsRowAt (worker m.seat.facts.number) m.stage) m.seat.facts
    pub outside : m.seat.keeps_turn ≡ false
    pub pass : IsPassBy queues desk.opening.board.run.machine.policy m.seat.facts.number m.pass
    pub heard : HasHeard m.stage m.seat.facts

  -- a seat of the desk whose worker left such a row
  pub record IsSeatOf (desk : DeskFacts (NotedBoard D)) (P : BoardRow D → Type 0) (s : SeatFacts (NotedBoard D)) : Type 0 where
    pub known : s.number < desk.seats
    pub row : IsAt desk (worker s.number) P s

  -- the program is that of the desk's board, with a seat for each of its workers
  pub record MayWork (has : Kernel → Bool) (p : Program) (desk : DeskFacts (NotedBoard D)) : Type 0 where
    pub program : desk.opening.board.run.program ≡ p
    pub workers : desk.seats ≡ p.workers
    pub proper : Proper p
    pub lawful : IsLawful out has p
