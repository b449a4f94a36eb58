-- From the text that was read and what was written to what the call promises.
use Rattle.std.proofs.Common.{◌≡◌, ℕ, List, [], refl, ap, sym, subst, Option, Some, None, Result, Ok, Err, IfSome, IsOk, IsOkAnd}
use Rattle.std.specs.Prelude.{option_map}
use Rattle.std.specs.Io.KnownBytes.{Appends, IsAtEnd}
use Rattle.sj_base.specs.declared.trace.Event.{Event}
use Rattle.sj_disk.specs.Holding.{CountsStay}
use Rattle.sj_edge.specs.declared.disk.Disk.{Ghosts as DiskOf}
use Rattle.sj_engine.specs.Outcome.{AllDisksTell, HoldBlocks}
use Rattle.sj_meaning.specs.Job.{Job}
use Rattle.sj_job.specs.Reading.{Refusal}
use Rattle.sj_lower.specs.Limits.{late_limit}
use Rattle.sj_codelet.specs.Kernel.{out}
use Rattle.sj_core.specs.Legal.{state_of}
use Rattle.sj_board.specs.Headers.{IsLastWritten}
use Rattle.sj_board.specs.declared.fault.RunFault.{RunFault}
use Rattle.sj_board.specs.declared.fault.RunFault.TheVariants as running
use Rattle.sj_needs.specs.Shortage.{IsSwapTooSmall, IsTooLarge}
use Rattle.sj_needs.specs.declared.shortage.Shortage.TheVariants as fitting
use Rattle.sj_ready.specs.Work.{HasRoom, Work, WorkOrRefusal, asked_by, lowerable, program_of, said_by}
use Rattle.sj_ready.specs.declared.unready.Unready.TheVariants as preparing
use Rattle.sj_ready.proofs.Refusing.{limited}
use Rattle.sj_words.specs.declared.options.Options.{Options}
use Rattle.sj_top.specs.declared.status.Status.{Status}
use Rattle.sj_top.specs.declared.status.Status.TheVariants.{Done, Usage, Refused, TooLarge, SwapTooSmall, DiskFault, Damaged, SourceFault, SinkFault, OutOfMemory}
use Rattle.sj_top.specs.declared.stop.Stop.{Stop}
use Rattle.sj_top.specs.declared.stop.Stop.TheVariants as stops
use Rattle.sj_top.specs.Answers.{AnsweredText, BrokeOff, IsAnswerText, IsWritten, LeavesDisks, StopsWith, WritesText, status_of_stop}
use Rattle.sj_top.specs.Device.{Device, Devices}
use Rattle.sj_top.specs.Streams.{IsRead, TakesPrefix}
use Rattle.sj_top.specs.Top.{StatusHasCause, IsSilent, MemoryRanOut, PrintsNothing, RunBrokeOff, RunIsWhole, TakesText, answer_text}
use Rattle.sj_top.specs.Traces.{Began, BeganAsked, BeganWork, RanWhole}
use Rattle.sj_top.specs.Work.{Asked, Unaccepted, Untold, Told, IfAsked, IfTold, IsToldAnd, told}
use Rattle.sj_top.proofs.Shown.{broke-began}
use Rattle.sj_top.proofs.Tracing.{began_empty}

-- ---- what was asked for

-- what follows for the work of what is asked for
of-work : (P Q : Work → Type 0) → ((w : Work) → P w → Q w) → (asked : WorkOrRefusal) → IsOkAnd asked P → IsOkAnd asked Q
of-work P Q to (Ok w) h = to w h
of-work P Q to (Err e) h = absurd h

ok-of : (P : Work → Type 0) (asked : WorkOrRefusal) → IsOkAnd asked P → IsOk asked
ok-of P (Ok w) h = refl
ok-of P (Err e) h = absurd h

-- work that isn't refused comes of a job that isn't
job-ok : (o : Options) (disks : List ℕ) (job : Result Job Refusal) → IsOk (asked_by o disks job) → IsOk job
job-ok o disks (Ok j) h = refl
job-ok o disks (Err e) h = h

unlimited : (P : Work → Type 0) (w : Work) (late : Option Refusal) → IsOkAnd (limited w late) P → P w
unlimited P w None h = h
unlimited P w (Some e) h = absurd h

-- what is asked for is what is said, where it isn't refused
said-of : (P : Work → Type 0) (said : WorkOrRefusal) → IsOkAnd (lowerable said) P → IsOkAnd said P
said-of P (Ok w) h = unlimited P w (late_limit w.machine.workers w.statements) h
said-of P (Err e) h = absurd h

module _ (o : Options) (sizes : List ℕ) (jobs : Option (Result Job Refusal)) (job : Result Job Refusal) (same : IfSome jobs (λ whole. whole ≡ job)) where
  -- what is true of the job that was found asks for is true of what is told of it
  told-of : (P : WorkOrRefusal → Type 0) → P (asked_by o sizes job) → IfAsked (told (option_map (asked_by o sizes) jobs)) P
  told-of P h = by_jobs jobs same
    where
      by_jobs : (b : Option (Result Job Refusal)) → IfSome b (λ whole. whole ≡ job) → IfAsked (told (option_map (asked_by o sizes) b)) P
      by_jobs None s = tt
      by_jobs (Some whole) s = subst P (sym (ap (asked_by o sizes) s)) h

  -- the same of what it says
  said-told : (P : Work → Type 0) → IsOkAnd (asked_by o sizes job) P → IfTold (told (option_map (said_by o sizes) jobs)) P
  said-told P h = by_jobs jobs same
    where
      by_jobs : (b : Option (Result Job Refusal)) → IfSome b (λ whole. whole ≡ job) → IfTold (told (option_map (said_by o sizes) b)) P
      by_jobs None s = tt
      by_jobs (Some whole) s = subst (λ (w : WorkOrRefusal). IsOkAnd w P) (sym (ap (said_by o sizes) s)) (said-of P (said_by o sizes job) h)

  -- what is told prints nothing where what was found of it does
  nothing-by : IsToldAnd (told (option_map (asked_by o sizes) jobs)) PrintsNothing → IsOkAnd (asked_by o sizes job) PrintsNothing
  nothing-by h = by_jobs jobs same h
    where
      by_jobs : (b : Option (Result Job Refusal)) → IfSome b (λ whole. whole ≡ job) → IsToldAnd (told (option_map (asked_by o sizes) b)) PrintsNothing → IsOkAnd (asked_by o sizes job) PrintsNothing
      by_jobs None s n = absurd n
      by_jobs (Some whole) s n = subst (λ (w : WorkOrRefusal). IsOkAnd w PrintsNothing) (ap (asked_by o sizes) s) n

  pub silent-by : (status : Status) → IsSilent (told (option_map (asked_by o sizes) jobs)) status → IsSilent (Told (asked_by o sizes job)) status
  silent-by Done h = nothing-by h
  silent-by SinkFault h = nothing-by h
  silent-by Usage h = tt
  silent-by (Refused line reason) h = tt
  silent-by (TooLarge line bytes) h = tt
  silent-by (SwapTooSmall needed have) h = tt
  silent-by (DiskFault number) h = tt
  silent-by (Damaged number want found) h = tt
  silent-by SourceFault h = tt
  silent-by OutOfMemory h = tt

  -- ---- what was printed

  pub printed-by : (Tells : Type 0) (status : Status) (out out' : Device) (trace : List Event) → AnsweredText (asked_by o sizes job) Tells status out out' trace → Tells → TakesText (told (option_map (said_by o sizes) jobs)) status out out' trace
  printed-by Tells Done out out' trace a tells =
      said-told (λ w. Appends out.bytes out'.bytes (answer_text trace w)) (of-work (IsWritten Tells (Appends out.bytes out'.bytes) trace) (λ w. Appends out.bytes out'.bytes (answer_text trace w)) (λ w h. h.told tells) (asked_by o sizes job) a.0)
  printed-by Tells SinkFault out out' trace a tells =
      said-told (λ w. TakesPrefix out.bytes out'.bytes (answer_text trace w)) (of-work (IsWritten Tells (TakesPrefix out.bytes out'.bytes) trace) (λ w. TakesPrefix out.bytes out'.bytes (answer_text trace w)) (λ w h. h.told tells) (asked_by o sizes job) a.0)
  printed-by Tells Usage out out' trace a tells = tt
  printed-by Tells (Refused line reason) out out' trace a tells = tt
  printed-by Tells (TooLarge line bytes) out out' trace a tells = tt
  printed-by Tells (SwapTooSmall needed have) out out' trace a tells = tt
  printed-by Tells (DiskFault number) out out' trace a tells = tt
  printed-by Tells (Damaged number want found) out out' trace a tells = tt
  printed-by Tells SourceFault out out' trace a tells = tt
  printed-by Tells OutOfMemory out out' trace a tells = tt

  -- ---- what a status means

  abbrev work : WorkOrRefusal
  work = asked_by o sizes job

  module _ {D : Type 0} (disk : DiskOf D) (before after : Devices disk) (trace : List Event)
      (read : IsRead before.source after.source) (end : IsOk job → IsAtEnd after.source.bytes) where
    abbrev asked : Asked
    asked = told (option_map (asked_by o sizes) jobs)

    holds : (P : Work → Type 0) → IsOkAnd work P → IfTold asked P
    holds P h = told-of (λ w. IsOkAnd w P) h

    whole : (Takes : List ℕ → Type 0) → IsOkAnd work (IsWritten (AllDisksTell disk.held before.disks) Takes trace) → CountsStay disk.faults disk.mismatches before.disks after.disks → (AllDisksTell disk.held before.disks → IsOkAnd work (λ w. HoldBlocks disk.held out (program_of w) w.machine trace after.disks)) → RunIsWhole asked before after trace
    whole Takes h stay blocks =
        let W = IsWritten (AllDisksTell disk.held before.disks) Takes trace in
        record {
          had_room = holds HasRoom (of-work W HasRoom (λ w is. is.had_room) work h);
          each_task_ran_once = holds (RanWhole trace) (of-work W (RanWhole trace) (λ w is. is.ran) work h);
          no_disk_failed = stay;
          blocks = λ tells. holds (λ w. HoldBlocks disk.held out (program_of w) w.machine trace after.disks) (blocks tells);
          read = read;
        }

    broken : (fault : RunFault) → IsOkAnd work (BrokeOff fault trace) → RunBrokeOff asked before after trace
    broken fault h = record {
      had_room = holds HasRoom (of-work (BrokeOff fault trace) HasRoom (λ w is. is.had_room) work h);
      began = holds (BeganWork trace) (of-work (BrokeOff fault trace) (BeganWork trace) (λ w is. is.began) work h);
      read = read;
    }

    began-asked : Began trace work → BeganAsked trace asked
    began-asked h = by_jobs jobs same
      where
        by_jobs : (b : Option (Result Job Refusal)) → IfSome b (λ whole. whole ≡ job) → BeganAsked trace (told (option_map (asked_by o sizes) b))
        by_jobs None s = tt
        by_jobs (Some whole) s = subst (Began trace) (sym (ap (asked_by o sizes) s)) h

    pub caused-by : (status : Status) → AnsweredText work (AllDisksTell disk.held before.disks) status before.out after.out trace → LeavesDisks disk work status trace before.disks after.disks → StatusHasCause asked before after trace status
    caused-by Done a d = record {
      run = whole (Appends before.out.bytes after.out.bytes) a.0 (d.counts_stay tt) (d.blocks tt);
      read_to_the_end = end (job-ok o sizes job (ok-of (IsWritten (AllDisksTell disk.held before.disks) (Appends before.out.bytes after.out.bytes) trace) work a.0));
      out_never_failed = a.1;
    }
    caused-by Usage a d = absurd a
    caused-by (Refused line reason) a d = record { cause = told-of (λ w. w ≡ Err (record { line = line; reason = reason })) a.0; nothing_ran = record { no_event = a.1; read = read } }
    caused-by (TooLarge line bytes) a d = record { cause = holds (λ w. IsTooLarge (program_of w) w.machine line bytes) a.0; nothing_ran = record { no_event = a.1; read = read } }
    caused-by (SwapTooSmall needed have) a d = record { cause = holds (λ w. IsSwapTooSmall (program_of w) w.machine needed have) a.0; nothing_ran = record { no_event = a.1; read = read } }
    caused-by (DiskFault number) a d = record { cause = d.fault number refl; run = broken (running.DiskFault number) a }
    caused-by (Damaged number want found) a d =
        let damage = d.damage number want found refl in
        let fault : RunFault = running.Damaged number want found in
        let Last = λ (w : Work). IsLastWritten (program_of w) w.machine (state_of (program_of w) w.machine trace) number want in
        record {
          cause = damage.count_rose;
          other_header = damage.other_header;
          last_written = holds Last (of-work (BrokeOff fault trace) Last (λ w is. is.wanted) work a);
          untold = damage.untold;
          run = broken fault a;
        }
    caused-by SourceFault a d = absurd a
    caused-by SinkFault a d = record { cause = a.1; run = whole (TakesPrefix before.out.bytes after.out.bytes) a.0 (d.counts_stay tt) (d.blocks tt) }
    caused-by OutOfMemory a d = record { began = began-asked a; source_never_failed = read.never_failed }

-- memory ran out before anything was read, or in reading
pub unread-memory : {D : Type 0} {disk : DiskOf D} (asked : Asked) (before after : Devices disk) (trace : List Event) → trace ≡ [] → after.source.faults ≡ before.source.faults → MemoryRanOut asked before after trace
unread-memory asked before after trace e same = record { began = by_asked asked; source_never_failed = same }
  where
    by_asked : (a : Asked) → BeganAsked trace a
    by_asked Unaccepted = e
    by_asked Untold = tt
    by_asked (Told w) = began_empty w trace e

-- ---- what was written

pub text-answered : (asked : WorkOrRefusal) (Tells : Type 0) (text : List ℕ) (trace : List Event) (status : Status) (out out' : Device) → IsOkAnd asked (IsAnswerText Tells trace text) → WritesText text status out out' → AnsweredText asked Tells status out out' trace
text-answered (Ok w) Tells text trace Done out out' is written = (record { told = λ tells. subst (Appends out.bytes out'.bytes) (is.told tells) written.0; had_room = is.had_room; ran = is.ran }, written.1)
text-answered (Ok w) Tells text trace SinkFault out out' is written = (record { told = λ tells. subst (TakesPrefix out.bytes out'.bytes) (is.told tells) written.0; had_room = is.had_room; ran = is.ran }, written.1)
text-answered (Err e) Tells text trace status out out' is written = absurd is
text-answered (Ok w) Tells text trace Usage out out' is written = absurd written
text-answered (Ok w) Tells text trace (Refused line reason) out out' is written = absurd written
text-answered (Ok w) Tells text trace (TooLarge line bytes) out out' is written = absurd written
text-answered (Ok w) Tells text trace (SwapTooSmall needed have) out out' is written = absurd written
text-answered (Ok w) Tells text trace (DiskFault disk) out out' is written = absurd written
text-answered (Ok w) Tells text trace (Damaged disk want found) out out' is written = absurd written
text-answered (Ok w) Tells text trace SourceFault out out' is written = absurd written
text-answered (Ok w) Tells text trace OutOfMemory out out' is written = absurd written

pub stop-answered : (asked : WorkOrRefusal) (Tells : Type 0) (stop : Stop) (trace : List Event) (out : Device) → StopsWith asked stop trace → AnsweredText asked Tells (status_of_stop stop) out out trace
stop-answered asked Tells (stops.Unready (preparing.Refused line reason)) trace out h = h
stop-answered asked Tells (stops.Unready (preparing.Short (fitting.TooLarge line bytes))) trace out h = h
stop-answered asked Tells (stops.Unready (preparing.Short (fitting.SwapTooSmall needed have))) trace out h = h
stop-answered asked Tells (stops.Unready (preparing.Short fitting.OutOfMemory)) trace out h = began_empty asked trace h.1
stop-answered asked Tells (stops.Unready preparing.OutOfMemory) trace out h = began_empty asked trace h.1
stop-answered asked Tells (stops.Broken (running.DiskFault disk)) trace out h = h
stop-answered asked Tells (stops.Broken (running.Damaged disk want found)) trace out h = h
stop-answered asked Tells (stops.Broken running.OutOfMemory) trace out h = broke-began asked running.OutOfMemory trace h
stop-answered asked Tells stops.OutOfMemory trace out h = h

-- where nothing is printed there is no text
pub silent-text : (asked : WorkOrRefusal) (Tells : Type 0) (trace : List Event) (text : List ℕ) (status : Status) (out out' : Device) → IsOkAnd asked (IsAnswerText Tells trace text) → WritesText text status out out' → IsSilent (Told asked) status → text ≡ []
silent-text (Ok w) Tells trace text Done out out' is written nothing = is.silent nothing
silent-text (Ok w) Tells trace text SinkFault out out' is written nothing = is.silent nothing
silent-text (Err e) Tells trace text status out out' is written nothing = absurd is
silent-text (Ok w) Tells trace text Usage out out' is written nothing = absurd written
silent-text (Ok w) Tells trace text (Refused line reason) out out' is written nothing = absurd written
silent-text (Ok w) Tells trace text (TooLarge line bytes) out out' is written nothing = absurd written
silent-text (Ok w) Tells trace text (SwapTooSmall needed have) out out' is written nothing = absurd written
silent-text (Ok w) Tells trace text (DiskFault disk) out out' is written nothing = absurd written
silent-text (Ok w) Tells trace text (Damaged disk want found) out out' is written nothing = absurd written
silent-text (Ok w) Tells trace text SourceFault out out' is written nothing = absurd written
silent-text (Ok w) Tells trace text OutOfMemory out out' is written nothing = absurd written
