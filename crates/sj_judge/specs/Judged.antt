-- What the check of a trace's text promises: what is said of its events, and each reason with its cause.
use Rattle.std.specs.Prelude.{◌≡◌, ℕ, ◌<◌, ◌≤◌, ◌^◌, Result, Ok, List, [], ◌∷◌, length}
use Rattle.sj_base.specs.declared.ids.Line.{Line}
use Rattle.sj_base.specs.declared.trace.Event.{Event}
use Rattle.sj_check.specs.Refusal.{IsFirstBad, IsUnfinished}
use Rattle.sj_check.specs.declared.check.CheckRefusal.TheVariants as checking
use Rattle.sj_core.specs.Legal.{IsFinished}
use Rattle.sj_minplus.specs.Has.{library_has}
use Rattle.sj_needs.specs.declared.shortage.Shortage.TheVariants as fitting
use Rattle.sj_ready.specs.Ready.{IsUnready}
use Rattle.sj_ready.specs.Input.{work_in}
use Rattle.sj_ready.specs.Work.{HasRoom, Work, WorkOrRefusal, program_of}
use Rattle.sj_ready.specs.declared.input.Input.{Input}
use Rattle.sj_ready.specs.declared.unready.Unready.TheVariants as preparing
use Rattle.sj_trace.specs.Reading.{IsFirstBadLine, IsTextOf}
use Rattle.sj_trace.specs.declared.read.TraceRefusal.TheVariants as reading
use Rattle.sj_words.specs.declared.options.Options.{Options}
use Rattle.sj_judge.specs.declared.refusal.JudgeRefusal.{JudgeRefusal}
use Rattle.sj_judge.specs.declared.refusal.JudgeRefusal.TheVariants as refusal

-- what options and a job text, or an application, ask for, of the codelets of the program and one disk of this size
abbrev pub work_asked_for : Options → ℕ → Input → WorkOrRefusal
work_asked_for o swap job = work_in library_has o (swap ∷ []) job

-- ---- why the trace isn't read

-- this work is asked for, and the machine has room for it
pub record CanBeRun (asked : WorkOrRefusal) (w : Work) : Type 0 where
  pub asked_for : asked ≡ Ok w
  pub has_room : HasRoom w

-- the job can be run, and the trace's text is too long
pub record TextIsTooLong (asked : WorkOrRefusal) (text : List ℕ) : Type 0 where
  pub work : Work
  pub can_be_run : CanBeRun asked work
  pub too_long : 2 ^ 32 ≤ length text

-- the job can be run, and this line of the trace's text, which isn't too long, is the first that no event is written as
pub record LineIsNoEvent (asked : WorkOrRefusal) (text : List ℕ) (line : Line) : Type 0 where
  pub work : Work
  pub can_be_run : CanBeRun asked work
  pub not_too_long : length text < 2 ^ 32
  pub first : IsFirstBadLine text line.0

-- ---- what the check comes to

-- the job can be run, and the trace's text, which isn't too long, is that of these events
pub record AreEventsFor (asked : WorkOrRefusal) (text : List ℕ) (w : Work) (events : List Event) : Type 0 where
  pub can_be_run : CanBeRun asked w
  pub not_too_long : length text < 2 ^ 32
  pub written : IsTextOf text events

-- the events are a legal run of the work's program on its machine, from its start to its end
pub record TraceIsWhole (asked : WorkOrRefusal) (text : List ℕ) : Type 0 where
  pub work : Work
  pub events : List Event
  pub read : AreEventsFor asked text work events
  pub finished : IsFinished (program_of work) work.machine events

-- the event of this number, from 0, is the first that isn't legal
pub record EventIsBad (asked : WorkOrRefusal) (text : List ℕ) (index : ℕ) : Type 0 where
  pub work : Work
  pub events : List Event
  pub read : AreEventsFor asked text work events
  pub first : IsFirstBad (program_of work) work.machine events index

-- each event is legal, and a task isn't done after the last
pub record TraceIsCutShort (asked : WorkOrRefusal) (text : List ℕ) : Type 0 where
  pub work : Work
  pub events : List Event
  pub read : AreEventsFor asked text work events
  pub unfinished : IsUnfinished (program_of work) work.machine events

-- ---- the same by the answer

-- the reason has its cause: in the job, and else in the trace's text or its events; want of memory needs none
abbrev pub RefusalHasCause : WorkOrRefusal → List ℕ → JudgeRefusal → Type 0
RefusalHasCause asked text (refusal.Unready why) = IsUnready asked why
RefusalHasCause asked text refusal.TooLong = TextIsTooLong asked text
RefusalHasCause asked text (refusal.Unread (reading.BadLine line)) = LineIsNoEvent asked text line
RefusalHasCause asked text (refusal.Wrong (checking.BadEvent index)) = EventIsBad asked text index
RefusalHasCause asked text (refusal.Wrong checking.Unfinished) = TraceIsCutShort asked text
RefusalHasCause asked text (refusal.Unread reading.OutOfMemory) = Unit {0}
RefusalHasCause asked text (refusal.Wrong checking.OutOfMemory) = Unit {0}
RefusalHasCause asked text refusal.OutOfMemory = Unit {0}

-- an allocation was refused, wherever
abbrev pub IsWantOfMemory : JudgeRefusal → Type 0
IsWantOfMemory (refusal.Unready preparing.OutOfMemory) = Unit {0}
IsWantOfMemory (refusal.Unready (preparing.Short fitting.OutOfMemory)) = Unit {0}
IsWantOfMemory (refusal.Unread reading.OutOfMemory) = Unit {0}
IsWantOfMemory (refusal.Wrong checking.OutOfMemory) = Unit {0}
IsWantOfMemory refusal.OutOfMemory = Unit {0}
IsWantOfMemory _ = ⊥
