-- Nothing but want of memory stands against a trace that is whole.
use Rattle.std.proofs.Common.{◌≡◌, ◌∙◌, ℕ, ◌+◌, List, Ok, Err, IsOkAnd, refl, subst, sym}
use Rattle.sj_base.specs.declared.program.Machine.{Machine}
use Rattle.sj_base.specs.declared.program.Program.{Program}
use Rattle.sj_base.specs.declared.trace.Event.{Event}
use Rattle.sj_check.proofs.Traces.{fronts-legal}
use Rattle.sj_check.specs.Refusal.{IsCheckRefusal}
use Rattle.sj_check.specs.declared.check.CheckRefusal.{CheckRefusal}
use Rattle.sj_check.specs.declared.check.CheckRefusal.TheVariants as checking
use Rattle.sj_core.specs.Legal.{IsFinished}
use Rattle.sj_needs.specs.Shortage.{IsShortage}
use Rattle.sj_needs.specs.declared.shortage.Shortage.{Shortage}
use Rattle.sj_ready.proofs.Fitting.{room-no-shortage}
use Rattle.sj_ready.specs.Ready.{IsUnready}
use Rattle.sj_ready.specs.Work.{Work, WorkOrRefusal, program_of}
use Rattle.sj_ready.specs.declared.unready.Unready.{Unready}
use Rattle.sj_ready.specs.declared.unready.Unready.TheVariants as preparing
use Rattle.sj_judge.specs.Judged.{IsWantOfMemory, TraceIsWhole}
use Rattle.sj_judge.specs.declared.refusal.JudgeRefusal.TheVariants as refusal

pub checked-whole : (p : Program) (m : Machine) (events : List Event) (wrong : CheckRefusal) → IsFinished p m events → IsCheckRefusal p m events wrong → IsWantOfMemory (refusal.Wrong wrong)
checked-whole p m events (checking.BadEvent index) finished h = absurd (h.bad (fronts-legal p m events finished.legal (index + 1)))
checked-whole p m events checking.Unfinished finished h = absurd (h.undone finished)
checked-whole p m events checking.OutOfMemory finished h = tt

work-same : (asked : WorkOrRefusal) (w v : Work) → asked ≡ Ok w → asked ≡ Ok v → w ≡ v
work-same asked w v is other = cc

module _ (asked : WorkOrRefusal) (text : List ℕ) (whole : TraceIsWhole asked text) where
  abbrev w : Work
  w = whole.work

  -- what is said of the work that is asked for is said of the trace's
  of-asked : (P : Work → Type 0) → IsOkAnd asked P → P w
  of-asked P h = subst (λ (a : WorkOrRefusal). IsOkAnd a P) whole.read.can_be_run.asked_for h

  pub finished-by : (v : Work) (events : List Event) → asked ≡ Ok v → events ≡ whole.events → IsFinished (program_of v) v.machine events
  finished-by v events is same =
      subst (λ (u : Work). IsFinished (program_of u) u.machine events) (work-same asked w v whole.read.can_be_run.asked_for is)
      (subst (λ (es : List Event). IsFinished (program_of w) w.machine es) (sym same) whole.finished)

  pub prepared-whole : (unready : Unready) → IsUnready asked unready → IsWantOfMemory (refusal.Unready unready)
  prepared-whole (preparing.Refused line reason) h = let is = whole.read.can_be_run.asked_for in absurd (let no : ⊥ = cc in no)
  prepared-whole (preparing.Short what) h =
      let none = room-no-shortage w what whole.read.can_be_run.has_room (of-asked (λ v. IsShortage (program_of v) v.machine what) h) in
      subst (λ (x : Shortage). IsWantOfMemory (refusal.Unready (preparing.Short x))) (sym none) tt
  prepared-whole preparing.OutOfMemory h = tt
