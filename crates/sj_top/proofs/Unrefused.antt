-- The job of an application is never refused.
use Rattle.std.proofs.Common.{◌≡◌, ℕ, List, Ok, Err}
use Rattle.sj_apps.specs.Application.{IsSized, job_for}
use Rattle.sj_apps.specs.declared.application.Application.{Application}
use Rattle.sj_base.specs.declared.trace.Event.{Event}
use Rattle.sj_base.proofs.Options.{the}
use Rattle.sj_job.specs.Reading.{Refusal}
use Rattle.sj_ready.specs.Work.{Work, WorkOrRefusal, asked_by, work_with}
use Rattle.sj_ready.proofs.Bounding.{application-within}
use Rattle.sj_ready.proofs.Refusing.{within}
use Rattle.sj_words.specs.declared.options.Options.{Options}
use Rattle.sj_top.specs.declared.status.Status.{Status}
use Rattle.sj_top.specs.declared.status.Status.TheVariants.{Done, Usage, Refused, TooLarge, SwapTooSmall, DiskFault, Damaged, SourceFault, SinkFault, OutOfMemory}
use Rattle.sj_top.specs.Answers.{AnsweredText}
use Rattle.sj_top.specs.Device.{Device}
use Rattle.sj_top.specs.Top.{IsNotRefused}

not-both : (x : WorkOrRefusal) (w : Work) (e : Refusal) → x ≡ Ok w → x ≡ Err e → ⊥
not-both x w e ok err = the ⊥ cc

pub unrefused : (o : Options) (sizes : List ℕ) (a : Application) → IsSized a → (Tells : Type 0) (status : Status) (out out' : Device) (trace : List Event) → AnsweredText (asked_by o sizes (Ok (job_for a))) Tells status out out' trace → IsNotRefused status
unrefused o sizes a sized Tells (Refused line reason) out out' trace answered =
    let w = work_with o sizes (job_for a) in
    not-both (asked_by o sizes (Ok (job_for a))) w (record { line = line; reason = reason }) (within w (application-within a w.machine.workers sized)) answered.0
unrefused o sizes a sized Tells Done out out' trace answered = tt
unrefused o sizes a sized Tells Usage out out' trace answered = tt
unrefused o sizes a sized Tells (TooLarge line bytes) out out' trace answered = tt
unrefused o sizes a sized Tells (SwapTooSmall needed have) out out' trace answered = tt
unrefused o sizes a sized Tells (DiskFault number) out out' trace answered = tt
unrefused o sizes a sized Tells (Damaged number want found) out out' trace answered = tt
unrefused o sizes a sized Tells SourceFault out out' trace answered = tt
unrefused o sizes a sized Tells SinkFault out out' trace answered = tt
unrefused o sizes a sized Tells OutOfMemory out out' trace answered = tt
