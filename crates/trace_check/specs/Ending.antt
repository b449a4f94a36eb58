-- With which code the program ends.
use Rattle.std.specs.Prelude.{ℕ, Result, Ok, Err}
use Rattle.sj_check.specs.declared.check.CheckRefusal.{CheckRefusal}
use Rattle.sj_check.specs.declared.check.CheckRefusal.TheVariants as checking
use Rattle.sj_needs.specs.declared.shortage.Shortage.TheVariants as fitting
use Rattle.sj_ready.specs.declared.unready.Unready.{Unready}
use Rattle.sj_ready.specs.declared.unready.Unready.TheVariants as preparing
use Rattle.sj_trace.specs.declared.read.TraceRefusal.TheVariants as reading
use Rattle.sj_judge.specs.declared.refusal.JudgeRefusal.{JudgeRefusal}
use Rattle.sj_judge.specs.declared.refusal.JudgeRefusal.TheVariants as refusal

-- the job can't be run: 2, or 10 for want of memory
abbrev pub code_of_unready : Unready → ℕ
code_of_unready preparing.OutOfMemory = 10
code_of_unready (preparing.Short fitting.OutOfMemory) = 10
code_of_unready _ = 2

-- the trace isn't legal, or not complete: 1, or 10 for want of memory
abbrev pub code_of_check : CheckRefusal → ℕ
code_of_check checking.OutOfMemory = 10
code_of_check _ = 1

-- 0 where the trace is legal and complete, 1 where it isn't, 2 where job or trace aren't read or the job can't be run, 10 for
-- want of memory
abbrev pub code_of_outcome : {A : Type 0} → Result A JudgeRefusal → ℕ
code_of_outcome (Ok _) = 0
code_of_outcome (Err (refusal.Unready why)) = code_of_unready why
code_of_outcome (Err (refusal.Wrong why)) = code_of_check why
code_of_outcome (Err refusal.TooLong) = 2
code_of_outcome (Err (refusal.Unread (reading.BadLine line))) = 2
code_of_outcome (Err (refusal.Unread reading.OutOfMemory)) = 10
code_of_outcome (Err refusal.OutOfMemory) = 10
