-- What the parts of the call say to one another: of a run, of its disks, and of the answer to a text.
use Rattle.std.specs.Prelude.{◌≡◌, ◌≢◌, ℕ, Result, Ok, Err, IsOkAnd, List, [], Vec, map}
use Rattle.std.specs.declared.alloc.Global.{Global}
use Rattle.std.specs.Io.KnownBytes.{Appends}
use Rattle.sj_codelet.specs.Kernel.{out}
use Rattle.sj_base.specs.declared.ids.DiskNo.{DiskNo}
use Rattle.sj_base.specs.declared.trace.Event.{Event}
use Rattle.sj_disk.specs.declared.header.Header.{Header}
use Rattle.sj_disk.specs.Holding.{CountsStay}
use Rattle.sj_edge.specs.declared.disk.Disk.{Ghosts as DiskOf}
use Rattle.sj_engine.specs.Outcome.{AllDisksTell, HoldBlocks, WantsLastWritten}
use Rattle.sj_board.specs.declared.fault.RunFault.{RunFault}
use Rattle.sj_board.specs.declared.fault.RunFault.TheVariants as running
use Rattle.sj_needs.specs.declared.shortage.Shortage.{Shortage}
use Rattle.sj_needs.specs.declared.shortage.Shortage.TheVariants as fitting
use Rattle.sj_ready.specs.Ready.{IsUnready}
use Rattle.sj_ready.specs.declared.unready.Unready.{Unready}
use Rattle.sj_ready.specs.declared.unready.Unready.TheVariants as preparing
use Rattle.sj_top.specs.declared.status.Status.{Status}
use Rattle.sj_top.specs.declared.status.Status.TheVariants as status
use Rattle.sj_top.specs.declared.stop.Stop.{Stop}
use Rattle.sj_top.specs.declared.stop.Stop.TheVariants as stop
use Rattle.sj_top.specs.Device.{Device, HasFailed}
use Rattle.sj_top.specs.Disks.{RoseAt}
use Rattle.sj_top.specs.Streams.{TakesPrefix}
use Rattle.sj_top.specs.Top.{ComeBack, PrintsNothing, answer_text}
use Rattle.sj_top.specs.Traces.{Began, BeganWork, RanWhole}
use Rattle.sj_ready.specs.Work.{HasRoom, Work, WorkOrRefusal, program_of}

-- ---- the status of a job without a text

abbrev pub status_of_shortage : Shortage → Status
status_of_shortage (fitting.TooLarge line bytes) = status.TooLarge line bytes
status_of_shortage (fitting.SwapTooSmall needed have) = status.SwapTooSmall needed have
status_of_shortage fitting.OutOfMemory = status.OutOfMemory

abbrev pub status_of_unready : Unready → Status
status_of_unready (preparing.Refused line reason) = status.Refused line reason
status_of_unready (preparing.Short what) = status_of_shortage what
status_of_unready preparing.OutOfMemory = status.OutOfMemory

abbrev pub status_of_fault : RunFault → Status
status_of_fault (running.DiskFault disk) = status.DiskFault disk
status_of_fault (running.Damaged disk want found) = status.Damaged disk want found
status_of_fault running.OutOfMemory = status.OutOfMemory

abbrev pub status_of_stop : Stop → Status
status_of_stop (stop.Unready why) = status_of_unready why
status_of_stop (stop.Broken fault) = status_of_fault fault
status_of_stop stop.OutOfMemory = status.OutOfMemory

abbrev pub status_of : {A : Type 0} → Result A Stop → Status
status_of (Ok _) = status.Done
status_of (Err why) = status_of_stop why

-- ---- a run

-- there was room for the work, and its run began; the header that a damaged block was to have is the one last written there
pub record BrokeOff (fault : RunFault) (trace : List Event) (w : Work) : Type 0 where
  pub had_room : HasRoom w
  pub began : BeganWork trace w
  pub wanted : WantsLastWritten (program_of w) w.machine trace fault

-- why there is no text: the work wasn't made ready, and nothing ran; or its run broke off; or memory ran out beside it
abbrev pub StopsWith : WorkOrRefusal → Stop → List Event → Type 0
StopsWith asked (stop.Unready why) trace = IsUnready asked why × (trace ≡ [])
StopsWith asked (stop.Broken fault) trace = IsOkAnd asked (BrokeOff fault trace)
StopsWith asked stop.OutOfMemory trace = Began trace asked

-- the text is the work's, where all disks tell; whether they do or not there was room, the trace is whole, and where nothing is
-- printed there is no text
pub record IsAnswerText (Tells : Type 0) (trace : List Event) (text : List ℕ) (w : Work) : Type 0 where
  pub told : Tells → text ≡ answer_text trace w
  pub had_room : HasRoom w
  pub ran : RanWhole trace w
  pub silent : PrintsNothing w → text ≡ []

-- a run gives the text to write and a whole trace, or the reason why there is none
abbrev pub RunsWork : WorkOrRefusal → Type 0 → Result (Vec ℕ Global) Stop → List Event → Type 0
RunsWork asked Tells (Ok text) trace = IsOkAnd asked (IsAnswerText Tells trace text.items)
RunsWork asked Tells (Err why) trace = StopsWith asked why trace

-- ---- the disks

-- the run had come to its end
abbrev pub IsBehindTheRun : Status → Type 0
IsBehindTheRun status.Done = Unit {0}
IsBehindTheRun status.SinkFault = Unit {0}
IsBehindTheRun _ = ⊥

-- another header was found than the one wanted, which never comes where all disks tell
pub record IsDamage (Tells : Type 0) (disk : DiskNo) (want found : Header) (mismatches mismatches' : List ℕ) : Type 0 where
  pub count_rose : RoseAt disk.0 mismatches mismatches'
  pub other_header : want ≢ found
  pub untold : ¬ Tells

-- how disks come back, by the status
pub record LeavesDisks {D : Type 0} (disk : DiskOf D) (asked : WorkOrRefusal) (ended : Status) (trace : List Event) (old new : List D) : Type 0 where
  pub come_back : ComeBack disk old new ended
  pub counts_stay : IsBehindTheRun ended → CountsStay disk.faults disk.mismatches old new
  pub blocks : IsBehindTheRun ended → AllDisksTell disk.held old → IsOkAnd asked (λ w. HoldBlocks disk.held out (program_of w) w.machine trace new)
  pub fault : (number : DiskNo) → ended ≡ status.DiskFault number → RoseAt number.0 (map disk.faults old) (map disk.faults new)
  pub damage : (number : DiskNo) (want found : Header) → ended ≡ status.Damaged number want found → IsDamage (AllDisksTell disk.held old) number want found (map disk.mismatches old) (map disk.mismatches new)

-- ---- the answer to a text

-- the sink took the work's text so, where all disks tell; whether they do or not there was room, and the trace is whole
pub record IsWritten (Tells : Type 0) (Takes : List ℕ → Type 0) (trace : List Event) (w : Work) : Type 0 where
  pub told : Tells → Takes (answer_text trace w)
  pub had_room : HasRoom w
  pub ran : RanWhole trace w

-- what a text that was read, the sink and the trace have to do with the status
abbrev pub AnsweredText : WorkOrRefusal → Type 0 → Status → Device → Device → List Event → Type 0
AnsweredText asked Tells status.Done out out' trace = IsOkAnd asked (IsWritten Tells (Appends out.bytes out'.bytes) trace) × (out'.faults ≡ out.faults)
AnsweredText asked Tells status.SinkFault out out' trace = IsOkAnd asked (IsWritten Tells (TakesPrefix out.bytes out'.bytes) trace) × HasFailed out out'
AnsweredText asked Tells (status.Refused line reason) out out' trace = StopsWith asked (stop.Unready (preparing.Refused line reason)) trace
AnsweredText asked Tells (status.TooLarge line bytes) out out' trace = StopsWith asked (stop.Unready (preparing.Short (fitting.TooLarge line bytes))) trace
AnsweredText asked Tells (status.SwapTooSmall needed have) out out' trace = StopsWith asked (stop.Unready (preparing.Short (fitting.SwapTooSmall needed have))) trace
AnsweredText asked Tells (status.DiskFault disk) out out' trace = IsOkAnd asked (BrokeOff (running.DiskFault disk) trace)
AnsweredText asked Tells (status.Damaged disk want found) out out' trace = IsOkAnd asked (BrokeOff (running.Damaged disk want found) trace)
AnsweredText asked Tells status.OutOfMemory out out' trace = Began trace asked
AnsweredText asked Tells status.Usage out out' trace = ⊥
AnsweredText asked Tells status.SourceFault out out' trace = ⊥

-- the text was written whole, or a front of it where a call of the sink failed
abbrev pub WritesText : List ℕ → Status → Device → Device → Type 0
WritesText text status.Done out out' = Appends out.bytes out'.bytes text × (out'.faults ≡ out.faults)
WritesText text status.SinkFault out out' = TakesPrefix out.bytes out'.bytes text × HasFailed out out'
WritesText text _ out out' = ⊥
