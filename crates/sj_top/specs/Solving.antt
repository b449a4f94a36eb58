-- What the output of an application says.
use Rattle.std.specs.Prelude.{Option, Some, None, IfSome, List, [], ◌++◌, if◌then◌else◌}
use Rattle.std.specs.Io.KnownBytes.{Appends}
use Rattle.sj_apps.specs.Solution.{IsSolution}
use Rattle.sj_base.specs.declared.trace.Event.{Event}
use Rattle.sj_edge.specs.declared.disk.Disk.{Ghosts as DiskOf}
use Rattle.sj_engine.specs.Outcome.{AllDisksTell}
use Rattle.sj_meaning.specs.Meaning.{Printed}
use Rattle.sj_trace.specs.Text.{text_of as text_of_trace}
use Rattle.sj_words.specs.Options.{options}
use Rattle.sj_words.specs.Spelling.{Text}
use Rattle.sj_words.specs.declared.options.Options.{Options}
use Rattle.sj_top.specs.declared.status.Status.{Status}
use Rattle.sj_top.specs.declared.status.Status.TheVariants.{Done}
use Rattle.sj_top.specs.Device.{Device, Devices}
use Rattle.sj_top.specs.Output.{output}

-- where options ask for an application, and it is done, the sink took the text of its answer, or its summary, and the text of the
-- trace, each where it is asked for
abbrev pub TakesAnswer : Option Options → Status → Device → Device → List Event → Type 0
TakesAnswer None status out out' trace = Unit {0}
TakesAnswer (Some o) Done out out' trace =
    IfSome o.application (λ a. (ps : List Printed) × IsSolution a ps × Appends out.bytes out'.bytes (output o.summary ps ++ (if o.trace then text_of_trace trace else [])))
TakesAnswer (Some o) _ out out' trace = Unit {0}

-- the same by the words of a command line, where all disks tell
abbrev pub Solves : {D : Type 0} → {disk : DiskOf D} → List Text → Devices disk → Devices disk → Status → List Event → Type 0
Solves {D} {disk} words before after status trace =
    AllDisksTell disk.held before.disks → TakesAnswer (options words) status before.out after.out trace
