-- From what refuses a job or a trace to its cause.
use Rattle.std.proofs.Common.{◌<◌, ◌^◌, Bool, ℕ, List, length, subst}
use Rattle.sj_base.specs.declared.program.Machine.{Machine}
use Rattle.sj_base.specs.declared.program.Program.{Program}
use Rattle.sj_base.specs.declared.trace.Event.{Event}
use Rattle.sj_check.specs.Refusal.{IsCheckRefusal}
use Rattle.sj_check.specs.declared.check.CheckRefusal.{CheckRefusal}
use Rattle.sj_check.specs.declared.check.CheckRefusal.TheVariants as checking
use Rattle.sj_codelet.specs.declared.kernel.Kernel.{Kernel}
use Rattle.sj_ready.proofs.Fitting.{ready-room}
use Rattle.sj_ready.specs.Ready.{IsReady}
use Rattle.sj_ready.specs.Work.{WorkOrRefusal, Work, program_of}
use Rattle.sj_ready.specs.declared.ready.ReadyJob.{ReadyJob}
use Rattle.sj_trace.specs.Reading.{IsTraceRefusal}
use Rattle.sj_trace.specs.declared.read.TraceRefusal.{TraceRefusal}
use Rattle.sj_trace.specs.declared.read.TraceRefusal.TheVariants as reading
use Rattle.sj_judge.specs.Judged.{AreEventsFor, CanBeRun, RefusalHasCause}
use Rattle.sj_judge.specs.declared.refusal.JudgeRefusal.TheVariants.{Unread, Wrong}

module _ (has : Kernel → Bool) (asked : WorkOrRefusal) (r : ReadyJob) (ready : IsReady has asked r) where
  -- what is true of the program and the machine that are ready is true of those of the work
  pub of-work : (P : Program → Machine → Type 0) → P r.program.value r.machine → P (program_of ready.work) ready.work.machine
  of-work P h = subst (λ (m : Machine). P (program_of ready.work) m) ready.machine_is (subst (λ (p : Program). P p r.machine) ready.program_is h)

  pub can-be-run : CanBeRun asked ready.work
  can-be-run = record { asked_for = ready.asked_for; has_room = ready-room has asked r ready }

module _ (asked : WorkOrRefusal) (text : List ℕ) where
  pub reading-cause : (w : Work) (refusal : TraceRefusal) → CanBeRun asked w → length text < 2 ^ 32 → IsTraceRefusal refusal text → RefusalHasCause asked text (Unread refusal)
  reading-cause w (reading.BadLine line) can short h = record { work = w; can_be_run = can; not_too_long = short; first = h }
  reading-cause w reading.OutOfMemory can short h = tt

  pub checking-cause : (w : Work) (events : List Event) (refusal : CheckRefusal) → AreEventsFor asked text w events → IsCheckRefusal (program_of w) w.machine events refusal → RefusalHasCause asked text (Wrong refusal)
  checking-cause w events (checking.BadEvent index) read h = record { work = w; events = events; read = read; first = h }
  checking-cause w events checking.Unfinished read h = record { work = w; events = events; read = read; unfinished = h }
  checking-cause w events checking.OutOfMemory read h = tt
