-- A job that is made ready, and why one isn't.
use Rattle.std.specs.Prelude.{◌≡◌, Bool, IsTrue, Ok, Err, IsOkAnd}
use Rattle.sj_codelet.specs.declared.kernel.Kernel.{Kernel}
use Rattle.sj_codelet.specs.declared.kernel.Kernel.TheVariants.{Load, LoadFill, Paste, Deliver}
use Rattle.sj_codelet.specs.Kernel.{out}
use Rattle.sj_core.specs.Laws.{IsLawful}
use Rattle.sj_core.specs.Needs.{AreFootprints}
use Rattle.sj_core.specs.Proper.{HasSwapFor, IsMachineFor, Proper}
use Rattle.sj_lower.specs.Delivering.{DeliversPrinted, NamesDeliverTasks}
use Rattle.sj_needs.specs.Shortage.{FitRoom, IsShortage}
use Rattle.sj_ready.specs.declared.ready.ReadyJob.{ReadyJob}
use Rattle.sj_ready.specs.declared.unready.Unready.{Unready}
use Rattle.sj_ready.specs.declared.unready.Unready.TheVariants.{Refused, Short, OutOfMemory}
use Rattle.sj_ready.specs.Work.{Work, WorkOrRefusal, program_of}

-- the set has the codelets to which registrations, plan lines and print statements are lowered
pub record HasOwnCodelets (has : Kernel → Bool) : Type 0 where
  pub load : IsTrue (has Load)
  pub loadfill : IsTrue (has LoadFill)
  pub paste : IsTrue (has Paste)
  pub deliver : IsTrue (has Deliver)

-- the program is that of the work that is asked for, can be run on its machine by the codelets of a set, and has these footprints
pub record IsReady (has : Kernel → Bool) (asked : WorkOrRefusal) (r : ReadyJob) : Type 0 where
  pub work : Work
  pub asked_for : asked ≡ Ok work
  pub program_is : r.program.value ≡ program_of work
  pub machine_is : r.machine ≡ work.machine
  pub summary_is : r.shows_summary ≡ work.shows_summary
  pub trace_is : r.shows_trace ≡ work.shows_trace
  pub proper : Proper r.program.value
  pub lawful : IsLawful out has r.program.value
  pub machine_for : IsMachineFor r.program.value r.machine
  pub tasks_fit : FitRoom r.program.value r.machine
  pub blocks_have_places : HasSwapFor r.program.value r.machine
  pub footprints : AreFootprints r.program.value r.footprints.items
  pub prints : DeliversPrinted r.roots r.program.value work.statements
  pub named : NamesDeliverTasks r.program.value

-- the reason is that of the work that is asked for, or want of memory
abbrev pub IsUnready : WorkOrRefusal → Unready → Type 0
IsUnready asked (Refused line reason) = asked ≡ Err (record { line = line; reason = reason })
IsUnready asked (Short what) = IsOkAnd asked (λ w. IsShortage (program_of w) w.machine what)
IsUnready asked OutOfMemory = Unit {0}
