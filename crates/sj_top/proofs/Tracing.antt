-- The trace of a job that wasn't run.
use Rattle.std.proofs.Common.{◌≡◌, List, [], Ok, Err, subst, sym}
use Rattle.sj_base.specs.declared.trace.Event.{Event}
use Rattle.sj_base.specs.declared.program.Machine.{Machine}
use Rattle.sj_base.specs.declared.program.Program.{Program}
use Rattle.sj_core.specs.Legal.{IsLegal}
use Rattle.sj_top.specs.Traces.{Began}
use Rattle.sj_ready.specs.Work.{WorkOrRefusal, program_of}

-- the trace without events is legal
pub nothing-legal : (p : Program) (m : Machine) (trace : List Event) → trace ≡ [] → IsLegal p m trace
nothing-legal p m trace e = subst (IsLegal p m) (sym e) tt

pub began_empty : (asked : WorkOrRefusal) (trace : List Event) → trace ≡ [] → Began trace asked
began_empty (Ok w) trace e = nothing-legal (program_of w) w.machine trace e
began_empty (Err refusal) trace e = e
