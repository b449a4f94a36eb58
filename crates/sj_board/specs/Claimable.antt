-- Whether a worker may claim a task whose number comes from outside the board.
use Rattle.std.specs.Prelude.{◌≡◌, ◌≢◌, ◌≤◌, ◌<◌, None}
use Rattle.sj_base.specs.declared.ids.Task.{Task}
use Rattle.sj_base.specs.declared.ids.Worker.{Worker}
use Rattle.sj_base.specs.declared.mode.Policy.TheVariants.{Prio}
use Rattle.sj_codelet.specs.Kernel.{Equations}
use Rattle.sj_core.specs.Machine.{progress}
use Rattle.sj_core.specs.Needs.{footprint}
use Rattle.sj_core.specs.declared.progress.Progress.TheVariants.{Waiting}
use Rattle.sj_machine.specs.ReadyTasks.{IsToBeTaken}
use Rattle.sj_board.specs.Standing.{state}
use Rattle.sj_board.specs.Board.{BoardBy, WasGiven, hand_of, room_of}
use Rattle.sj_board.specs.declared.claimable.Claimable.{Claimable}
use Rattle.sj_board.specs.declared.claimable.Claimable.TheVariants.{Yes, Stale, TooBig, Closed}

module _ {D : Type 0} {eq : Equations} where
  -- the task is ready, and waits
  abbrev pub IsClaimable : BoardBy eq D → Task → Type 0
  IsClaimable b t = IsToBeTaken b.run.program (state b.run) t

  -- the worker's node is large enough for it
  abbrev pub FitsNode : BoardBy eq D → Task → Worker → Type 0
  FitsNode b t w = footprint b.run.program t ≤ room_of b w

  -- the worker may begin with a task: it has none, and no fault is kept
  abbrev pub MayBegin : BoardBy eq D → Worker → Type 0
  MayBegin b w = ((hand_of b w).task ≡ None) × (b.fault ≡ None)

  -- the worker may ask to claim it: under prio it was given the task, and else the task is ready, waits and fits its node
  pub record MayAsk (b : BoardBy eq D) (w : Worker) (t : Task) : Type 0 where
    pub given : b.run.machine.policy ≡ Prio → WasGiven b w t
    pub outside : b.run.machine.policy ≢ Prio → IsClaimable b t × FitsNode b t w

  -- as long as it waits it is so; it may have been claimed before it was taken away
  abbrev pub IsReadyWhereItWaits : BoardBy eq D → Task → Type 0
  IsReadyWhereItWaits b t = progress (state b.run) t ≡ Waiting → IsClaimable b t

  -- what the board tells of the task: exactly one of these is true
  abbrev pub TellsOf : BoardBy eq D → Task → Worker → Claimable → Type 0
  TellsOf b t w Yes = IsClaimable b t × FitsNode b t w × MayBegin b w
  TellsOf b t w Stale = ¬ IsClaimable b t
  TellsOf b t w TooBig = IsClaimable b t × (room_of b w < footprint b.run.program t)
  TellsOf b t w Closed = IsClaimable b t × FitsNode b t w × (¬ MayBegin b w)
