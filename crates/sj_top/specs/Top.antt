-- What the program's call promises: what it prints, what each status means, and which status comes.
use Rattle.std.specs.Prelude.{◌≡◌, ◌≢◌, ◌<◌, ◌⊎◌, ℕ, Bool, false, Err, List, [], ◌++◌, if◌then◌else◌, map}
use Rattle.std.specs.Io.KnownBytes.{Appends, IsAtEnd}
use Rattle.sj_base.specs.declared.ids.DiskNo.{DiskNo}
use Rattle.sj_base.specs.declared.ids.Line.{Line}
use Rattle.sj_base.specs.declared.trace.Event.{Event}
use Rattle.sj_disk.specs.declared.header.Header.{Header}
use Rattle.sj_disk.specs.Holding.{CountsStay}
use Rattle.sj_edge.specs.declared.disk.Disk.{Ghosts as DiskOf}
use Rattle.sj_edge.specs.GivenBack.{AreGivenBack, AreUntouched}
use Rattle.sj_engine.specs.Outcome.{AllDisksTell, HoldBlocks}
use Rattle.sj_job.specs.declared.reason.Reason.{Reason}
use Rattle.sj_board.specs.Headers.{IsLastWritten}
use Rattle.sj_codelet.specs.Kernel.{out}
use Rattle.sj_core.specs.Legal.{state_of}
use Rattle.sj_meaning.specs.Meaning.{printed}
use Rattle.sj_needs.specs.Shortage.{IsSwapTooSmall, IsTooLarge}
use Rattle.sj_ready.specs.Work.{HasRoom, Work, program_of}
use Rattle.sj_trace.specs.Text.{text_of as text_of_trace}
use Rattle.sj_words.specs.Options.{options}
use Rattle.sj_words.specs.Spelling.{Text}
use Rattle.sj_top.specs.declared.status.Status.{Status}
use Rattle.sj_top.specs.declared.status.Status.TheVariants.{Done, Usage, Refused, TooLarge, SwapTooSmall, DiskFault, Damaged, SourceFault, SinkFault, OutOfMemory}
use Rattle.sj_top.specs.Device.{Device, Devices, HasFailed, NeverFailed, in_use}
use Rattle.sj_top.specs.Disks.{NoneRose, RoseAt}
use Rattle.sj_top.specs.Output.{output}
use Rattle.sj_top.specs.Streams.{IsRead, TakesPrefix}
use Rattle.sj_top.specs.Traces.{BeganAsked, BeganWork, RanWhole}
use Rattle.sj_top.specs.Work.{Asked, Unaccepted, Told, IfAsked, IfTold, IsToldAnd, asked_of, reads_source, work_said}

-- A device tells where contracts can name its bytes, as one in memory does: those left in a source, those taken by a sink, those
-- held by a disk. The job is the text that its source tells; where the source doesn't tell, the job is untold.

-- ---- what is printed

-- the text of what the statements print when they are run one after another on plain arrays, or its summary, and the text of the
-- trace, each where it is asked for
abbrev pub answer_text : List Event → Work → List ℕ
answer_text trace w = output w.shows_summary (printed w.statements) ++ (if w.shows_trace then text_of_trace trace else [])

-- the sink took this text: the whole of it where the job is done, and a front of it where a call of the sink failed
abbrev pub TakesText : Asked → Status → Device → Device → List Event → Type 0
TakesText said Done out out' trace = IfTold said (λ w. Appends out.bytes out'.bytes (answer_text trace w))
TakesText said SinkFault out out' trace = IfTold said (λ w. TakesPrefix out.bytes out'.bytes (answer_text trace w))
TakesText said _ out out' trace = Unit {0}

-- ---- what a status means

-- Asked is what words and job text ask for, within the limits of lowering, or the refusal. IfAsked asked P: the words are
-- accepted, and P holds of it where it is told. IfTold asked P: the same, and it is work, which isn't refused. IsToldAnd asked P:
-- it is told, and is work with P. So of an untold job the first two say only that the words are accepted, and the last is false.
-- A source that isn't read, as the words ask for no text, counts as one at its end that never fails.
module _ {D : Type 0} {disk : DiskOf D} (asked : Asked) (before after : Devices disk) (trace : List Event) where
  -- the run came to its end: there was room, each task ran once, no disk failed, and the blocks are on the disks
  pub record RunIsWhole : Type 0 where
    pub had_room : IfTold asked HasRoom
    pub each_task_ran_once : IfTold asked (RanWhole trace)
    pub no_disk_failed : CountsStay disk.faults disk.mismatches before.disks after.disks
    pub blocks : AllDisksTell disk.held before.disks → IfTold asked (λ w. HoldBlocks disk.held out (program_of w) w.machine trace after.disks)
    pub read : IsRead before.source after.source

  -- the run broke off: there was room, and its events begin a legal run
  pub record RunBrokeOff : Type 0 where
    pub had_room : IfTold asked HasRoom
    pub began : IfTold asked (BeganWork trace)
    pub read : IsRead before.source after.source

  -- nothing ran; the source was read to its end, or to the byte that makes the text too long, and never failed
  pub record NothingRan : Type 0 where
    pub no_event : trace ≡ []
    pub read : IsRead before.source after.source

  -- the source was read to its end, each task ran once, and neither source, sink nor disk failed
  pub record JobIsDone : Type 0 where
    pub run : RunIsWhole
    pub read_to_the_end : IsAtEnd after.source.bytes
    pub out_never_failed : after.out.faults ≡ before.out.faults

  -- the words aren't accepted, and nothing ran
  pub record WordsAreUnaccepted : Type 0 where
    pub cause : asked ≡ Unaccepted
    pub nothing_ran : trace ≡ []

  -- this is the job's first bad line and the first reason against it, or the limit that it exceeds and the line that first does
  pub record JobIsRefused (line : Line) (reason : Reason) : Type 0 where
    pub cause : IfAsked asked (λ w. w ≡ Err (record { line = line; reason = reason }))
    pub nothing_ran : NothingRan

  -- this is the line and the need of the first task that fits no node with a worker
  pub record JobIsTooLarge (line : Line) (bytes : ℕ) : Type 0 where
    pub cause : IfTold asked (λ w. IsTooLarge (program_of w) w.machine line bytes)
    pub nothing_ran : NothingRan

  -- each task fits, and the blocks have no places on the disks: these are the bytes that all blocks need, and those that all
  -- disks have together, which may be more than needed where there are several, since a block lies on one disk
  pub record SwapIsTooSmall (needed have : ℕ) : Type 0 where
    pub cause : IfTold asked (λ w. IsSwapTooSmall (program_of w) w.machine needed have)
    pub nothing_ran : NothingRan

  -- the count of faults of the disk with this number rose; of the other disks nothing is said
  pub record DiskHasFailed (number : DiskNo) : Type 0 where
    pub cause : RoseAt number.0 (map disk.faults before.disks) (map disk.faults after.disks)
    pub run : RunBrokeOff

  -- the disk's count of mismatches rose, where another header was found than the one last written; never where all disks tell
  pub record DiskIsDamaged (number : DiskNo) (want found : Header) : Type 0 where
    pub cause : RoseAt number.0 (map disk.mismatches before.disks) (map disk.mismatches after.disks)
    pub other_header : want ≢ found
    pub last_written : IfTold asked (λ w. IsLastWritten (program_of w) w.machine (state_of (program_of w) w.machine trace) number want)
    pub untold : ¬ AllDisksTell disk.held before.disks
    pub run : RunBrokeOff

  -- exactly one call of the source failed
  pub record SourceHasFailed : Type 0 where
    pub cause : HasFailed before.source after.source
    pub nothing_ran : trace ≡ []

  -- exactly one call of the sink failed, when each task had run once
  pub record SinkHasFailed : Type 0 where
    pub cause : HasFailed before.out after.out
    pub run : RunIsWhole

  -- the free answer, which nothing ties to a refused allocation: the events begin a legal run, and the source didn't fail
  pub record MemoryRanOut : Type 0 where
    pub began : BeganAsked trace asked
    pub source_never_failed : after.source.faults ≡ before.source.faults

  -- a call that ended so had this cause
  abbrev pub StatusHasCause : Status → Type 0
  StatusHasCause Done = JobIsDone
  StatusHasCause Usage = WordsAreUnaccepted
  StatusHasCause (Refused line reason) = JobIsRefused line reason
  StatusHasCause (TooLarge line bytes) = JobIsTooLarge line bytes
  StatusHasCause (SwapTooSmall needed have) = SwapIsTooSmall needed have
  StatusHasCause (DiskFault number) = DiskHasFailed number
  StatusHasCause (Damaged number want found) = DiskIsDamaged number want found
  StatusHasCause SourceFault = SourceHasFailed
  StatusHasCause SinkFault = SinkHasFailed
  StatusHasCause OutOfMemory = MemoryRanOut

-- ---- which status comes

-- no count of a device rose
pub record NothingFailed {D : Type 0} {disk : DiskOf D} (before after : Devices disk) : Type 0 where
  pub source : NeverFailed before.source after.source
  pub out : NeverFailed before.out after.out
  pub faults : NoneRose (map disk.faults before.disks) (map disk.faults after.disks)
  pub mismatches : NoneRose (map disk.mismatches before.disks) (map disk.mismatches after.disks)

module _ {D : Type 0} {disk : DiskOf D} (asked : Asked) (before after : Devices disk) where
  -- the work is told, with this true of it, and the source never failed
  abbrev IsReadAnd : (Work → Type 0) → Type 0
  IsReadAnd P = IsToldAnd asked P × NeverFailed before.source after.source

  -- the status that is due: by what is asked for, where devices didn't fail; and a fault of source or sink where its count of
  -- faults is greater. A disk's fault is never due, nor is want of memory; of an untold job only Usage and such a fault can be
  abbrev pub IsDue : Status → Type 0
  IsDue Usage = asked ≡ Unaccepted
  IsDue (Refused line reason) = (asked ≡ Told (Err (record { line = line; reason = reason }))) × NeverFailed before.source after.source
  IsDue (TooLarge line bytes) = IsReadAnd (λ w. IsTooLarge (program_of w) w.machine line bytes)
  IsDue (SwapTooSmall needed have) = IsReadAnd (λ w. IsSwapTooSmall (program_of w) w.machine needed have)
  IsDue Done = IsToldAnd asked HasRoom × NothingFailed before after
  IsDue SourceFault = before.source.faults < after.source.faults
  IsDue SinkFault = before.out.faults < after.out.faults
  IsDue _ = ⊥

-- ---- what stays

-- the statements print nothing, and the trace isn't asked for
pub record PrintsNothing (w : Work) : Type 0 where
  pub no_array : printed w.statements ≡ []
  pub no_trace : w.shows_trace ≡ false

-- there was nothing to write: the status comes before writing, or the work prints nothing
abbrev pub IsSilent : Asked → Status → Type 0
IsSilent asked Done = IsToldAnd asked PrintsNothing
IsSilent asked SinkFault = IsToldAnd asked PrintsNothing
IsSilent asked _ = Unit {0}

-- the status refuses no text
abbrev pub IsNotRefused : Status → Type 0
IsNotRefused (Refused line reason) = ⊥
IsNotRefused _ = Unit {0}

-- the run hadn't begun
abbrev pub IsBeforeTheRun : Status → Type 0
IsBeforeTheRun Usage = Unit {0}
IsBeforeTheRun (Refused line reason) = Unit {0}
IsBeforeTheRun (TooLarge line bytes) = Unit {0}
IsBeforeTheRun (SwapTooSmall needed have) = Unit {0}
IsBeforeTheRun SourceFault = Unit {0}
IsBeforeTheRun _ = ⊥

-- the disks come back in their order, each with its size and no count lower; before the run begins each is as it was: its size,
-- its counts and the bytes that it tells
pub record ComeBack {D : Type 0} (disk : DiskOf D) (old new : List D) (status : Status) : Type 0 where
  pub given_back : AreGivenBack disk.size disk.faults disk.mismatches disk.held old new
  pub untouched : IsBeforeTheRun status → AreUntouched disk.size disk.faults disk.mismatches disk.held old new

-- ---- the same by the words of a command line

-- What is said is what words and job text say by themselves; what is asked for is that within the limits of lowering, of cells
-- and of tasks, or else the refusal that names the limit.
module _ {D : Type 0} {disk : DiskOf D} (words : List Text) (before : Devices disk) where
  -- they ask for a job that is read
  abbrev asks_for_a_job : Bool
  asks_for_a_job = reads_source (options words)

  -- where all disks tell, the sink took the text of what the job says
  abbrev pub Prints : Devices disk → Status → List Event → Type 0
  Prints after status trace = AllDisksTell disk.held before.disks → TakesText (work_said words before) status before.out after.out trace

  -- the status has its cause, in what is asked for or in a device that is used
  abbrev pub Answers : Devices disk → Status → List Event → Type 0
  Answers after status trace = StatusHasCause (asked_of words before) (in_use asks_for_a_job before) (in_use asks_for_a_job after) trace status

  -- the status that is due comes, unless memory runs out
  abbrev pub WhatIsDueComes : Devices disk → Status → Type 0
  WhatIsDueComes after status = (due : Status) → IsDue (asked_of words before) (in_use asks_for_a_job before) (in_use asks_for_a_job after) due → (status ≡ due) ⊎ (status ≡ OutOfMemory)

  -- there is nothing to write
  abbrev pub WritesNothing : Status → Type 0
  WritesNothing status = IsSilent (asked_of words before) status
