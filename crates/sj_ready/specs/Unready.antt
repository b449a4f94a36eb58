-- Why a job isn't made ready, by what refused it.
use Rattle.sj_job.specs.declared.reason.LimitKind.TheVariants.{Cells, Tasks}
use Rattle.sj_job.specs.declared.reason.ReadRefusal.{ReadRefusal}
use Rattle.sj_job.specs.declared.reason.ReadRefusal.TheVariants as reading
use Rattle.sj_job.specs.declared.reason.Reason.TheVariants.{Limit}
use Rattle.sj_lower.specs.declared.lower.LowerRefusal.{LowerRefusal}
use Rattle.sj_lower.specs.declared.lower.LowerRefusal.TheVariants as lowering
use Rattle.sj_ready.specs.declared.unready.Unready.{Unready}
use Rattle.sj_ready.specs.declared.unready.Unready.TheVariants.{Refused, OutOfMemory}

abbrev pub after_reading : ReadRefusal → Unready
after_reading (reading.Refused line reason) = Refused line reason
after_reading reading.OutOfMemory = OutOfMemory

-- the limit and the line that first exceeds it
abbrev pub after_lowering : LowerRefusal → Unready
after_lowering (lowering.TooManyCells line) = Refused line (Limit Cells)
after_lowering (lowering.TooManyTasks line) = Refused line (Limit Tasks)
after_lowering lowering.OutOfMemory = OutOfMemory
