-- The line that is written to `err` for a status.
use Rattle.std.specs.Prelude.{ℕ, ◌≤◌, List, [], ◌∷◌, ◌++◌, codes, decimal, flat_map}
use Rattle.std.specs.Io.KnownBytes.{Appends}
use Rattle.sj_base.specs.declared.ids.DiskNo.{DiskNo}
use Rattle.sj_base.specs.declared.ids.Line.{Line}
use Rattle.sj_disk.specs.declared.header.Header.{Header}
use Rattle.sj_edge.specs.Faults.{Rose}
use Rattle.sj_job.specs.declared.reason.Reason.{Reason}
use Rattle.sj_job.specs.declared.reason.Reason.TheVariants.{Header as NoHeader, Word, Number, UnknownName, TakenName, UnknownCodelet, OperandCount, Shape, Part, Aliased, NoValue, NoReduction, NotLawful, MixedOutputs, Limit, EndedName}
use Rattle.sj_job.specs.declared.reason.LimitKind.{LimitKind}
use Rattle.sj_job.specs.declared.reason.LimitKind.TheVariants.{Text, Statements, Workers, Nodes, NodeBytes, Names, Elements, Parts, Priority, Cells, Tasks}
use Rattle.sj_top.specs.declared.status.Status.{Status}
use Rattle.sj_top.specs.declared.status.Status.TheVariants.{Done, Usage, Refused, TooLarge, SwapTooSmall, DiskFault, Damaged, SourceFault, SinkFault, OutOfMemory}
use Rattle.sj_top.specs.Device.{Device}
use Rattle.sj_top.specs.Streams.{TakesPrefix}

abbrev pub limit_name : LimitKind → List ℕ
limit_name Text = codes "Text"
limit_name Statements = codes "Statements"
limit_name Workers = codes "Workers"
limit_name Nodes = codes "Nodes"
limit_name NodeBytes = codes "NodeBytes"
limit_name Names = codes "Names"
limit_name Elements = codes "Elements"
limit_name Parts = codes "Parts"
limit_name Priority = codes "Priority"
limit_name Cells = codes "Cells"
limit_name Tasks = codes "Tasks"

-- a reason in words; a limit's name follows
abbrev pub reason_word : Reason → List ℕ
reason_word NoHeader = codes "header"
reason_word Word = codes "word"
reason_word Number = codes "number"
reason_word UnknownName = codes "unknown name"
reason_word TakenName = codes "taken name"
reason_word UnknownCodelet = codes "unknown codelet"
reason_word OperandCount = codes "operand count"
reason_word Shape = codes "shape"
reason_word Part = codes "part"
reason_word Aliased = codes "aliased"
reason_word NoValue = codes "no value"
reason_word NoReduction = codes "no reduction"
reason_word NotLawful = codes "not lawful"
reason_word MixedOutputs = codes "mixed outputs"
reason_word (Limit kind) = codes "limit "
reason_word EndedName = codes "ended name"

abbrev pub limit_word : Reason → List ℕ
limit_word (Limit kind) = limit_name kind
limit_word _ = []

abbrev pub usage_line : List ℕ
usage_line = codes "starjob: usage: starjob [--workers N] [--sched P] [--node BYTES] [--nodes K] [--swap PATH] [--swap-size BYTES] [--trace] [--summary] [--app product|paths --n N --tile T --seed S]\n"

-- pieces one behind another
abbrev pub in_a_row : List (List ℕ) → List ℕ
in_a_row = flat_map (λ piece. piece)

abbrev pub too_large_line : Line → ℕ → List ℕ
too_large_line line bytes =
    in_a_row (codes "starjob: line " ∷ decimal line.0 ∷ codes ": task needs " ∷ decimal bytes ∷ codes " bytes on one node\n" ∷ [])

abbrev pub swap_line : ℕ → ℕ → List ℕ
swap_line needed have =
    in_a_row (codes "starjob: swap needs " ∷ decimal needed ∷ codes " bytes, has " ∷ decimal have ∷ codes "\n" ∷ [])

abbrev pub disk_line : DiskNo → List ℕ
disk_line disk = in_a_row (codes "starjob: disk " ∷ decimal disk.0 ∷ codes " failed\n" ∷ [])

abbrev pub damage_line : DiskNo → Header → Header → List ℕ
damage_line disk want found = in_a_row (
    codes "starjob: disk " ∷ decimal disk.0
    ∷ codes " damaged: wanted cell " ∷ decimal want.cell ∷ codes " writes " ∷ decimal want.writes ∷ codes " length " ∷ decimal want.length
    ∷ codes ", found cell " ∷ decimal found.cell ∷ codes " writes " ∷ decimal found.writes ∷ codes " length " ∷ decimal found.length
    ∷ codes "\n" ∷ [])

-- the line for a status; none where the job is done
abbrev pub status_line : Status → List ℕ
status_line Done = []
status_line Usage = usage_line
status_line (Refused line reason) =
    codes "starjob: line " ++ decimal line.0 ++ codes ": " ++ reason_word reason ++ limit_word reason
    ++ codes "\n"
status_line (TooLarge line bytes) = too_large_line line bytes
status_line (SwapTooSmall needed have) = swap_line needed have
status_line (DiskFault disk) = disk_line disk
status_line (Damaged disk want found) = damage_line disk want found
status_line SourceFault = codes "starjob: reading failed\n"
status_line SinkFault = codes "starjob: writing failed\n"
status_line OutOfMemory = codes "starjob: out of memory\n"

-- a sink took a front of a line, and all of it where its count of faults didn't rise
pub record TakesLine (err err' : Device) (line : List ℕ) : Type 0 where
  pub front : TakesPrefix err.bytes err'.bytes line
  pub whole : (Rose err.faults err'.faults → ⊥) → Appends err.bytes err'.bytes line
  pub count_never_falls : err.faults ≤ err'.faults
