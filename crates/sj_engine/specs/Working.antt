-- What a worker's row tells after it has gone on with its claim.
use Rattle.std.specs.Prelude.{ℕ, Option, List}
use Rattle.sj_base.specs.declared.ids.Task.{Task}
use Rattle.sj_base.specs.declared.ids.Worker.{Worker}
use Rattle.sj_board.specs.BoardRow.{BoardKey, BoardRow}
use Rattle.sj_engine.specs.declared.work.Prepared.{Prepared}
use Rattle.sj_engine.specs.declared.work.Prepared.TheVariants.{Begun, Further, Waits, Failed, Stopped}
use Rattle.sj_engine.specs.Stage.{HasClaimedRow, HasOperands, IsFreeRow, IsStoppedRow}

-- its kernel has begun, or it still has its claim, or has let it go, or has stopped
abbrev pub AfterPrepare : {D : Type 0} → (D → Option (List ℕ)) → BoardKey D → Worker → Task → BoardRow D → Prepared → Type 0
AfterPrepare held k w t r (Begun frame) = HasOperands held k w t r frame
AfterPrepare held k w t r Further = HasClaimedRow w t r
AfterPrepare held k w t r Waits = HasClaimedRow w t r
AfterPrepare held k w t r Failed = IsFreeRow r
AfterPrepare held k w t r Stopped = IsStoppedRow r
