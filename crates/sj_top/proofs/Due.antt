-- The status that is due comes, unless memory runs out.
use Rattle.std.proofs.Common.{◌≡◌, ◌<◌, ◌≤◌, ◌⊎◌, inl, inr, ℕ, refl, ap, sym, subst, ◌∙◌, arith, Option, Some, None, Result, Ok, Err, List}
use Rattle.std.specs.Prelude.{option_map}
use Rattle.std.proofs.lemmas.Option.{same_Some}
use Rattle.sj_base.specs.declared.ids.Line.{Line}
use Rattle.sj_base.specs.declared.ids.Task.{Task}
use Rattle.sj_base.specs.declared.program.Machine.{Machine}
use Rattle.sj_base.specs.declared.program.Program.{Program}
use Rattle.sj_base.specs.declared.trace.Event.{Event}
use Rattle.sj_base.proofs.Options.{the}
use Rattle.sj_core.specs.Needs.{footprint}
use Rattle.sj_core.specs.Program.{task_of}
use Rattle.sj_edge.specs.declared.disk.Disk.{Ghosts as DiskOf}
use Rattle.sj_meaning.specs.Job.{Job}
use Rattle.sj_job.specs.Reading.{Refusal}
use Rattle.sj_needs.specs.Shortage.{IsShortage, IsSwapTooSmall, IsTooLarge}
use Rattle.sj_needs.specs.declared.shortage.Shortage.{Shortage}
use Rattle.sj_needs.specs.declared.shortage.Shortage.TheVariants as fitting
use Rattle.sj_ready.proofs.Fitting.{room-no-shortage, too-large-fits}
use Rattle.sj_ready.specs.Work.{HasRoom, Work, WorkOrRefusal, program_of}
use Rattle.sj_words.specs.declared.options.Options.{Options}
use Rattle.sj_top.specs.declared.status.Status.{Status}
use Rattle.sj_top.specs.declared.status.Status.TheVariants.{Done, Usage, Refused, TooLarge, SwapTooSmall, DiskFault, Damaged, SourceFault, SinkFault, OutOfMemory}
use Rattle.sj_top.specs.Device.{Devices, NeverFailed, in_use}
use Rattle.sj_top.specs.Top.{StatusHasCause, IsDue, IsSilent, NothingFailed}
use Rattle.sj_top.specs.Work.{Asked, Unaccepted, Untold, Told, IfAsked, IsToldAnd, asked_through, job_by, reads_source, told}

-- ---- one cause excludes the others

-- a count that stayed isn't greater
stayed : {n m : ℕ} → n ≡ m → m < n → ⊥
stayed e less = omega (arith, e, less)

below : {n m : ℕ} → n ≤ m → m < n → ⊥
below le less = omega (arith, le, less)

-- what has room lacks nothing
roomy : (w : Work) (what : Shortage) → (what ≡ fitting.OutOfMemory → ⊥) → HasRoom w → IsShortage (program_of w) w.machine what → ⊥
roomy w what other room h = other (room-no-shortage w what room h)

no-room-large : (w : Work) (line : Line) (bytes : ℕ) → IsTooLarge (program_of w) w.machine line bytes → HasRoom w → ⊥
no-room-large w line bytes h room = roomy w (fitting.TooLarge line bytes) (λ e. the ⊥ cc) room h

no-room-swap : (w : Work) (needed have : ℕ) → IsSwapTooSmall (program_of w) w.machine needed have → HasRoom w → ⊥
no-room-swap w needed have h room = roomy w (fitting.SwapTooSmall needed have) (λ e. the ⊥ cc) room h

-- one task is the first that is too large
same-large : (p : Program) (m : Machine) (line line' : Line) (bytes bytes' : ℕ) → IsTooLarge p m line bytes → IsTooLarge p m line' bytes' → TooLarge line bytes ≡ TooLarge line' bytes'
same-large p m line line' bytes bytes' a b =
    let task : a.task ≡ b.task = same_Some a.task b.task (sym a.first ∙ b.first) in
    let lines : line ≡ line' = a.from_line ∙ ap (λ (t : Task). (task_of p t).line) task ∙ sym b.from_line in
    let needs : bytes ≡ bytes' = a.needs ∙ ap (footprint p) task ∙ sym b.needs in
    ap (λ (l : Line). TooLarge l bytes) lines ∙ ap (λ (n : ℕ). TooLarge line' n) needs

same-swap : (p : Program) (m : Machine) (needed needed' have have' : ℕ) → IsSwapTooSmall p m needed have → IsSwapTooSmall p m needed' have' → SwapTooSmall needed have ≡ SwapTooSmall needed' have'
same-swap p m needed needed' have have' a b =
    let blocks : needed ≡ needed' = a.all_blocks ∙ sym b.all_blocks in
    let disks : have ≡ have' = a.all_disks ∙ sym b.all_disks in
    ap (λ (n : ℕ). SwapTooSmall n have) blocks ∙ ap (λ (n : ℕ). SwapTooSmall needed' n) disks

same-refused : (e f : Refusal) → IfAsked (Told (Err e)) (λ x. x ≡ Err f) → Refused e.line e.reason ≡ Refused f.line f.reason
same-refused e f same = ap (λ (x : WorkOrRefusal). elim x as (λ _. Status) [ Ok w ↦ Done | Err r ↦ Refused r.line r.reason ]) same

-- ---- each status by what is asked for

module _ {D : Type 0} {disk : DiskOf D} (before after : Devices disk) (trace : List Event) where
  abbrev IsOr : Status → Status → Type 0
  IsOr status due = (status ≡ due) ⊎ (status ≡ OutOfMemory)

  usage-comes : (status : Status) → StatusHasCause Unaccepted before after trace status → NeverFailed before.source after.source → IsOr status Usage
  usage-comes Usage a well = inl refl
  usage-comes OutOfMemory a well = inr refl
  usage-comes SourceFault a well = absurd (well a.cause.count_rose)
  usage-comes Done a well = absurd a.run.had_room
  usage-comes (Refused line reason) a well = absurd a.cause
  usage-comes (TooLarge line bytes) a well = absurd a.cause
  usage-comes (SwapTooSmall needed have) a well = absurd a.cause
  usage-comes (DiskFault number) a well = absurd a.run.had_room
  usage-comes (Damaged number want found) a well = absurd a.run.had_room
  usage-comes SinkFault a well = absurd a.run.had_room

  refusal-comes : (e : Refusal) (status : Status) → StatusHasCause (Told (Err e)) before after trace status → NeverFailed before.source after.source → IsOr status (Refused e.line e.reason)
  refusal-comes e (Refused line reason) a well = inl (sym (same-refused e (record { line = line; reason = reason }) a.cause))
  refusal-comes e OutOfMemory a well = inr refl
  refusal-comes e SourceFault a well = absurd (well a.cause.count_rose)
  refusal-comes e Usage a well = absurd (let is : Told (Err e) ≡ Unaccepted = a.cause in the ⊥ cc)
  refusal-comes e Done a well = absurd a.run.had_room
  refusal-comes e (TooLarge line bytes) a well = absurd a.cause
  refusal-comes e (SwapTooSmall needed have) a well = absurd a.cause
  refusal-comes e (DiskFault number) a well = absurd a.run.had_room
  refusal-comes e (Damaged number want found) a well = absurd a.run.had_room
  refusal-comes e SinkFault a well = absurd a.run.had_room

  module _ (w : Work) where
    not-usage : Told (Ok w) ≡ Unaccepted → ⊥
    not-usage is = cc

    not-refused : (e : Refusal) → IfAsked (Told (Ok w)) (λ x. x ≡ Err e) → ⊥
    not-refused e is = cc

    large-comes : (line : Line) (bytes : ℕ) (status : Status) → IsTooLarge (program_of w) w.machine line bytes → StatusHasCause (Told (Ok w)) before after trace status → NeverFailed before.source after.source → IsOr status (TooLarge line bytes)
    large-comes line bytes (TooLarge l b) is a well = inl (same-large (program_of w) w.machine l line b bytes a.cause is)
    large-comes line bytes OutOfMemory is a well = inr refl
    large-comes line bytes SourceFault is a well = absurd (well a.cause.count_rose)
    large-comes line bytes Usage is a well = absurd (not-usage a.cause)
    large-comes line bytes (Refused l reason) is a well = absurd (not-refused (record { line = l; reason = reason }) a.cause)
    large-comes line bytes (SwapTooSmall needed have) is a well = absurd (too-large-fits (program_of w) w.machine line bytes a.cause.tasks_fit is)
    large-comes line bytes Done is a well = absurd (no-room-large w line bytes is a.run.had_room)
    large-comes line bytes (DiskFault number) is a well = absurd (no-room-large w line bytes is a.run.had_room)
    large-comes line bytes (Damaged number want found) is a well = absurd (no-room-large w line bytes is a.run.had_room)
    large-comes line bytes SinkFault is a well = absurd (no-room-large w line bytes is a.run.had_room)

    swap-comes : (needed have : ℕ) (status : Status) → IsSwapTooSmall (program_of w) w.machine needed have → StatusHasCause (Told (Ok w)) before after trace status → NeverFailed before.source after.source → IsOr status (SwapTooSmall needed have)
    swap-comes needed have (SwapTooSmall n h) is a well = inl (same-swap (program_of w) w.machine n needed h have a.cause is)
    swap-comes needed have OutOfMemory is a well = inr refl
    swap-comes needed have SourceFault is a well = absurd (well a.cause.count_rose)
    swap-comes needed have Usage is a well = absurd (not-usage a.cause)
    swap-comes needed have (Refused line reason) is a well = absurd (not-refused (record { line = line; reason = reason }) a.cause)
    swap-comes needed have (TooLarge line bytes) is a well = absurd (too-large-fits (program_of w) w.machine line bytes is.tasks_fit a.cause)
    swap-comes needed have Done is a well = absurd (no-room-swap w needed have is a.run.had_room)
    swap-comes needed have (DiskFault number) is a well = absurd (no-room-swap w needed have is a.run.had_room)
    swap-comes needed have (Damaged number want found) is a well = absurd (no-room-swap w needed have is a.run.had_room)
    swap-comes needed have SinkFault is a well = absurd (no-room-swap w needed have is a.run.had_room)

    done-comes : (status : Status) → HasRoom w → StatusHasCause (Told (Ok w)) before after trace status → NothingFailed before after → IsOr status Done
    done-comes Done room a well = inl refl
    done-comes OutOfMemory room a well = inr refl
    done-comes SourceFault room a well = absurd (well.source a.cause.count_rose)
    done-comes SinkFault room a well = absurd (well.out a.cause.count_rose)
    done-comes (DiskFault number) room a well = absurd (well.faults number.0 a.cause)
    done-comes (Damaged number want found) room a well = absurd (well.mismatches number.0 a.cause)
    done-comes Usage room a well = absurd (not-usage a.cause)
    done-comes (Refused line reason) room a well = absurd (not-refused (record { line = line; reason = reason }) a.cause)
    done-comes (TooLarge line bytes) room a well = absurd (no-room-large w line bytes a.cause room)
    done-comes (SwapTooSmall needed have) room a well = absurd (no-room-swap w needed have a.cause room)

  -- a source that failed ends the call, and a sink that failed
  module _ (asked : Asked) where
    source-comes : (status : Status) → StatusHasCause asked before after trace status → (asked ≡ Unaccepted → NeverFailed before.source after.source) → before.source.faults < after.source.faults → IsOr status SourceFault
    source-comes SourceFault a unread rose = inl refl
    source-comes OutOfMemory a unread rose = inr refl
    source-comes Usage a unread rose = absurd (unread a.cause (λ le. absurd (below le rose)))
    source-comes Done a unread rose = absurd (stayed a.run.read.never_failed rose)
    source-comes (Refused line reason) a unread rose = absurd (stayed a.nothing_ran.read.never_failed rose)
    source-comes (TooLarge line bytes) a unread rose = absurd (stayed a.nothing_ran.read.never_failed rose)
    source-comes (SwapTooSmall needed have) a unread rose = absurd (stayed a.nothing_ran.read.never_failed rose)
    source-comes (DiskFault number) a unread rose = absurd (stayed a.run.read.never_failed rose)
    source-comes (Damaged number want found) a unread rose = absurd (stayed a.run.read.never_failed rose)
    source-comes SinkFault a unread rose = absurd (stayed a.run.read.never_failed rose)

    sink-comes : (status : Status) → StatusHasCause asked before after trace status → (IsSilent asked status → after.out.faults ≡ before.out.faults) → before.out.faults < after.out.faults → IsOr status SinkFault
    sink-comes SinkFault a quiet rose = inl refl
    sink-comes Done a quiet rose = absurd (stayed a.out_never_failed rose)
    sink-comes OutOfMemory a quiet rose = absurd (stayed (quiet tt) rose)
    sink-comes Usage a quiet rose = absurd (stayed (quiet tt) rose)
    sink-comes (Refused line reason) a quiet rose = absurd (stayed (quiet tt) rose)
    sink-comes (TooLarge line bytes) a quiet rose = absurd (stayed (quiet tt) rose)
    sink-comes (SwapTooSmall needed have) a quiet rose = absurd (stayed (quiet tt) rose)
    sink-comes (DiskFault number) a quiet rose = absurd (stayed (quiet tt) rose)
    sink-comes (Damaged number want found) a quiet rose = absurd (stayed (quiet tt) rose)
    sink-comes SourceFault a quiet rose = absurd (stayed (quiet tt) rose)

  -- ---- by the status that is due

  module _ (status : Status) where
    -- from what is told to what is asked for
    of-told : (asked : Asked) (P : Work → Type 0) (due : Status) → IsToldAnd asked P → ((w : Work) → P w → StatusHasCause (Told (Ok w)) before after trace status → IsOr status due) → StatusHasCause asked before after trace status → IsOr status due
    of-told (Told (Ok w)) P due h to a = to w h a
    of-told (Told (Err e)) P due h to a = absurd h
    of-told Untold P due h to a = absurd h
    of-told Unaccepted P due h to a = absurd h

    abbrev Caused : Asked → Type 0
    Caused asked = StatusHasCause asked before after trace status

    pub due-comes : (asked : Asked) → Caused asked → (asked ≡ Unaccepted → NeverFailed before.source after.source) → (IsSilent asked status → after.out.faults ≡ before.out.faults) → (due : Status) → IsDue asked before after due → IsOr status due
    due-comes asked a unread quiet Usage is = usage-comes status (subst Caused is a) (unread is)
    due-comes asked a unread quiet (Refused line reason) is = refusal-comes (record { line = line; reason = reason }) status (subst Caused is.0 a) is.1
    due-comes asked a unread quiet (TooLarge line bytes) is =
        of-told asked (λ w. IsTooLarge (program_of w) w.machine line bytes) (TooLarge line bytes) is.0 (λ w h b. large-comes w line bytes status h b is.1) a
    due-comes asked a unread quiet (SwapTooSmall needed have) is =
        of-told asked (λ w. IsSwapTooSmall (program_of w) w.machine needed have) (SwapTooSmall needed have) is.0 (λ w h b. swap-comes w needed have status h b is.1) a
    due-comes asked a unread quiet Done is = of-told asked HasRoom Done is.0 (λ w h b. done-comes w status h b is.1) a
    due-comes asked a unread quiet (DiskFault number) is = absurd is
    due-comes asked a unread quiet (Damaged number want found) is = absurd is
    due-comes asked a unread quiet SourceFault is = source-comes asked status a unread is
    due-comes asked a unread quiet SinkFault is = sink-comes asked status a quiet is
    due-comes asked a unread quiet OutOfMemory is = absurd is

-- ---- no source is read for words that aren't accepted

told-accepted : (o : Option WorkOrRefusal) → told o ≡ Unaccepted → ⊥
told-accepted None e = cc
told-accepted (Some w) e = cc

-- a source that isn't read doesn't fail
pub unread-stays : {D : Type 0} {disk : DiskOf D} (o : Option Options) (reading : Options → Result Job Refusal → WorkOrRefusal) (bytes : Option (List ℕ)) (before after : Devices disk) → asked_through reading o bytes ≡ Unaccepted → NeverFailed (in_use (reads_source o) before).source (in_use (reads_source o) after).source
unread-stays None reading bytes before after e = λ rose. let at_last = rose (omega arith) in the ⊥ (omega (arith, at_last.0))
unread-stays (Some o) reading bytes before after e = absurd (told-accepted (option_map (reading o) (job_by o.application bytes)) e)
