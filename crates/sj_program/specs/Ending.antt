-- How the process ends.
use Rattle.std.specs.Prelude.{◌≡◌, ◌≤◌, ◌⊎◌, ℕ, Bool, true, false, List, [], ◌∷◌, Option, None, IsSome}
use Rattle.std.specs.Io.KnownBytes.{Appends}
use Rattle.std.specs.Process.{exit_status}
use Rattle.std.specs.declared.process.ExitCode.{ExitCode}
use Rattle.sj_base.specs.declared.trace.Event.{Event}
use Rattle.sj_edge.specs.declared.disk.Disk.{Ghosts as DiskOf}
use Rattle.sj_words.specs.Machine.{swap_by}
use Rattle.sj_words.specs.Options.{options}
use Rattle.sj_words.specs.Spelling.{Text}
use Rattle.sj_top.specs.declared.status.Status.{Status}
use Rattle.sj_top.specs.declared.status.Status.TheVariants.{Usage, SwapTooSmall, DiskFault, OutOfMemory}
use Rattle.sj_top.specs.Device.{Device, Devices}
use Rattle.sj_top.specs.Report.{TakesLine, status_line}
use Rattle.sj_top.specs.Solving.{Solves}
use Rattle.sj_top.specs.Status.{code_of}
use Rattle.sj_top.specs.Top.{Answers, Prints, WhatIsDueComes, WritesNothing}
use Rattle.sj_top.specs.Work.{reads_source}

-- the code is that of this status
abbrev pub IsCodeOf : Status → ExitCode → Type 0
IsCodeOf status code = exit_status code ≡ code_of status

-- ---- standard error

-- beside this status's line a person may be told more
abbrev pub has_remark : Status → Bool
has_remark Usage = true
has_remark (SwapTooSmall needed have) = true
has_remark (DiskFault number) = true
has_remark _ = false

-- the sink took some text, and none where this is so
pub record TakesRemark (IsSilent : Type 0) (err err' : Device) : Type 0 where
  pub text : List ℕ
  pub takes : Appends err.bytes err'.bytes text
  pub count_never_falls : err.faults ≤ err'.faults
  pub none_in_silence : IsSilent → text ≡ []

-- the sink took a remark, or none, and last the status's line: a front of it, and all of it where no write of it failed
pub record TakesStatusLine (status : Status) (err err' : Device) : Type 0 where
  pub between : Device
  pub remark : TakesRemark (has_remark status ≡ false) err between
  pub line_comes_last : TakesLine between err' (status_line status)

-- ---- after a call

-- the code is that of a status by which a call with this trace ended, that found the devices so and left them so: the status has
-- its cause, the one that is due comes, and the output took what is printed where the job is done; and standard error its line
pub record EndsByAStatus {D : Type 0} {disk : DiskOf D} (words : List Text) (before : Devices disk) (source out err err' : Device) (code : ExitCode) : Type 0 where
  pub status : Status
  pub trace : List Event
  pub disks : List D
  pub is_its_code : IsCodeOf status code
  pub has_its_cause : Answers words before (record { source = source; out = out; disks = disks }) status trace
  pub what_is_due_comes : WhatIsDueComes words before (record { source = source; out = out; disks = disks }) status
  pub prints : Prints words before (record { source = source; out = out; disks = disks }) status trace
  pub solves : Solves words before (record { source = source; out = out; disks = disks }) status trace
  pub source_stays : reads_source (options words) ≡ false → source ≡ before.source
  pub out_stays : WritesNothing words before status → out ≡ before.out
  pub err_takes_its_line : TakesStatusLine status err err'

-- a swap disk as the words wish for: with so many bytes, which it tells where it isn't to be a file
pub record IsWished {D : Type 0} (disk : DiskOf D) (words : List Text) (d : D) : Type 0 where
  pub has_the_size : disk.size d ≡ (swap_by words).size
  pub tells_in_memory : (swap_by words).path ≡ None → IsSome (disk.held d)

-- a call was made with a swap disk of this kind as the words wish for, and its status is the end
pub record EndsOnADisk {D : Type 0} (disk : DiskOf D) (words : List Text) (source out err source' out' err' : Device) (code : ExitCode) : Type 0 where
  pub swap : D
  pub is_wished : IsWished disk words swap
  pub ends : EndsByAStatus {disk = disk} words (record { source = source; out = out; disks = swap ∷ [] }) source' out' err err' code

-- ---- before a call

-- memory runs out, or a path is wished for, and the program's one disk can't be had there
abbrev pub IsBeforeACall : Option (List ℕ) → Status → Type 0
IsBeforeACall path OutOfMemory = Unit {0}
IsBeforeACall path (DiskFault number) = IsSome path × (number ≡ record { 0 = 0 })
IsBeforeACall path _ = ⊥

-- the code is that of such a status, and standard error took its line
pub record EndsWithoutADisk (path : Option (List ℕ)) (err err' : Device) (code : ExitCode) : Type 0 where
  pub status : Status
  pub cause : IsBeforeACall path status
  pub is_its_code : IsCodeOf status code
  pub err_takes_its_line : TakesStatusLine status err err'

-- no call was made: memory ran out, or the words wish for a swap file, and there is none
pub record EndsBeforeACall (words : List Text) (source out err source' out' err' : Device) (code : ExitCode) : Type 0 where
  pub ends : EndsWithoutADisk (swap_by words).path err err' code
  pub source_stays : source' ≡ source
  pub out_stays : out' ≡ out

-- ---- both

-- the process that was given these words ends by the status of a call with a swap disk in memory or in a file, or before a call
abbrev pub EndsAsWished : {M F : Type 0} → DiskOf M → DiskOf F → List Text → (source out err source' out' err' : Device) → ExitCode → Type 0
EndsAsWished memory file words source out err source' out' err' code =
    EndsOnADisk memory words source out err source' out' err' code
    ⊎ (EndsOnADisk file words source out err source' out' err' code ⊎ EndsBeforeACall words source out err source' out' err' code)
