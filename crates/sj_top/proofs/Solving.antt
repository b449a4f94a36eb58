-- An application's output is the text of its answer.
use Rattle.std.proofs.Common.{ℕ, List, Option, Some, None, IfSome}
use Rattle.std.specs.Prelude.{option_map}
use Rattle.sj_apps.specs.Application.{IsSized, statements_for}
use Rattle.sj_apps.specs.declared.application.Application.{Application}
use Rattle.sj_apps.proofs.Solving.{solution}
use Rattle.sj_base.specs.declared.trace.Event.{Event}
use Rattle.sj_meaning.specs.Meaning.{printed}
use Rattle.sj_ready.specs.Work.{said_by}
use Rattle.sj_words.specs.declared.options.Options.{Options}
use Rattle.sj_top.specs.declared.status.Status.{Status}
use Rattle.sj_top.specs.declared.status.Status.TheVariants.{Done, Usage, Refused, TooLarge, SwapTooSmall, DiskFault, Damaged, SourceFault, SinkFault, OutOfMemory}
use Rattle.sj_top.specs.Device.{Device}
use Rattle.sj_top.specs.Solving.{TakesAnswer}
use Rattle.sj_top.specs.Top.{TakesText}
use Rattle.sj_top.specs.Work.{job_by, told}
use Rattle.std.specs.Io.KnownBytes.{Appends}
use Rattle.sj_apps.specs.Solution.{IsSolution}
use Rattle.sj_meaning.specs.Meaning.{Printed}
use Rattle.sj_trace.specs.Text.{text_of as text_of_trace}
use Rattle.sj_top.specs.Output.{output}
use Rattle.std.specs.Prelude.{[], ◌++◌, if◌then◌else◌}

module _ (o : Options) (sizes : List ℕ) (left : Option (List ℕ)) (out out' : Device) (trace : List Event) where
  abbrev Says : Option Application → Type 0
  Says x = TakesText (told (option_map (said_by o sizes) (job_by x left))) Done out out' trace

  by_application : (x : Option Application) → IfSome x IsSized → Says x
      → IfSome x (λ a. (ps : List Printed) × IsSolution a ps × Appends out.bytes out'.bytes (output o.summary ps ++ (if o.trace then text_of_trace trace else [])))
  by_application None sized text = tt
  by_application (Some a) sized text = (printed (statements_for a), solution a sized, text)

  -- from the text of what is said to the text of the answer
  pub solved : (status : Status) → IfSome o.application IsSized → TakesText (told (option_map (said_by o sizes) (job_by o.application left))) status out out' trace → TakesAnswer (Some o) status out out' trace
  solved Done sized text = by_application o.application sized text
  solved Usage sized text = tt
  solved (Refused line reason) sized text = tt
  solved (TooLarge line bytes) sized text = tt
  solved (SwapTooSmall needed have) sized text = tt
  solved (DiskFault number) sized text = tt
  solved (Damaged number want found) sized text = tt
  solved SourceFault sized text = tt
  solved SinkFault sized text = tt
  solved OutOfMemory sized text = tt
