-- What a worker's row tells after it has looked for a task, and what has happened.
use Rattle.std.specs.Prelude.{Bool, true, false}
use Rattle.sj_base.specs.declared.ids.Worker.{Worker}
use Rattle.sj_base.specs.declared.trace.Event.TheVariants.{Claim}
use Rattle.sj_board.specs.Board.{BoardState}
use Rattle.sj_board.specs.BoardRow.{BoardRow}
use Rattle.sj_engine.specs.declared.picking.Picked.{Picked}
use Rattle.sj_engine.specs.declared.picking.Picked.TheVariants.{Task, Nothing, Failed, Over}
use Rattle.sj_engine.specs.Stage.{HasClaimedRow, IsFreeRow, IsStoppedRow}
use Rattle.sj_engine.specs.Turn.{Happens, NothingHappens}

-- it has claimed the task, or has nothing in hand, or has stopped
abbrev pub AfterPick : {D : Type 0} → Worker → BoardRow D → Picked → Type 0
AfterPick w r (Task t) = HasClaimedRow w t r
AfterPick w r Nothing = IsFreeRow r
AfterPick w r Failed = IsFreeRow r
AfterPick w r Over = IsStoppedRow r

-- the same where it hasn't stopped
abbrev pub AfterClaim : {D : Type 0} → Worker → BoardRow D → Picked → Type 0
AfterClaim w r (Task t) = HasClaimedRow w t r
AfterClaim w r Nothing = IsFreeRow r
AfterClaim w r Failed = IsFreeRow r
AfterClaim w r Over = ⊥

-- where it has claimed a task, its claim has happened; else nothing
abbrev pub PickMakes : {D : Type 0} → Worker → BoardState D → BoardState D → Picked → Type 0
PickMakes w old new (Task t) = Happens (Claim t w) old new
PickMakes w old new Nothing = NothingHappens old new
PickMakes w old new Failed = NothingHappens old new
PickMakes w old new Over = NothingHappens old new

-- there was nothing that it may claim now
abbrev pub finds_nothing : Picked → Bool
finds_nothing Nothing = true
finds_nothing _ = false

-- it has claimed a task
abbrev pub finds_task : Picked → Bool
finds_task (Task t) = true
finds_task _ = false
