-- What the call is asked to do, by the words of its command line, a job text and the sizes of its disks.
use Rattle.std.specs.Prelude.{ℕ, Bool, false, Option, Some, None, is_none, Result, Ok, IsOkAnd, List, option_map}
use Rattle.sj_apps.specs.Application.{job_for}
use Rattle.sj_apps.specs.declared.application.Application.{Application}
use Rattle.sj_meaning.specs.Job.{Job}
use Rattle.sj_job.specs.Reading.{Refusal, job_of}
use Rattle.sj_minplus.specs.Has.{library_has}
use Rattle.sj_ready.specs.Work.{Work, WorkOrRefusal, asked_by, said_by}
use Rattle.sj_words.specs.Options.{options}
use Rattle.sj_words.specs.Spelling.{Text}
use Rattle.sj_words.specs.declared.options.Options.{Options}
use Rattle.sj_top.specs.Device.{Devices, sizes}
use Rattle.sj_edge.specs.declared.disk.Disk.{Ghosts as DiskOf}

-- what is asked for: nothing, by words that aren't accepted; where a source that is read doesn't tell its bytes, it isn't told;
-- and else it is work, or the refusal of the job text
pub data Asked : Type 0 where
  Unaccepted : Asked
  Untold : Asked
  Told : WorkOrRefusal → Asked

-- of a source that may not tell
abbrev pub told : Option WorkOrRefusal → Asked
told None = Untold
told (Some w) = Told w

-- the job of an application, or what the text of the source says, where it is told
abbrev pub job_by : Option Application → Option (List ℕ) → Option (Result Job Refusal)
job_by None source = option_map (job_of library_has) source
job_by (Some a) source = Some (Ok (job_for a))

-- what is asked for through options and a job, of which the first function says what they come to
abbrev pub asked_through : (Options → Result Job Refusal → WorkOrRefusal) → Option Options → Option (List ℕ) → Asked
asked_through reading None source = Unaccepted
asked_through reading (Some o) source = told (option_map (reading o) (job_by o.application source))

-- a text is read: words that aren't accepted, or that ask for an application, need none
abbrev pub reads_source : Option Options → Bool
reads_source None = false
reads_source (Some o) = is_none o.application

module _ {D : Type 0} {disk : DiskOf D} (words : List Text) (before : Devices disk) where
  -- what the words and the job text say, by themselves
  abbrev pub work_said : Asked
  work_said = asked_through (λ o. said_by o (sizes before)) (options words) before.source.bytes

  -- what they ask for: what they say, within the limits of lowering
  abbrev pub asked_of : Asked
  asked_of = asked_through (λ o. asked_by o (sizes before)) (options words) before.source.bytes

-- if it is told, then this is true of it; and words that aren't accepted are excluded
abbrev pub IfAsked : Asked → (WorkOrRefusal → Type 0) → Type 0
IfAsked Unaccepted P = ⊥
IfAsked Untold P = Unit {0}
IfAsked (Told w) P = P w

-- if it is told, then it is work, and this is true of it
abbrev pub IfTold : Asked → (Work → Type 0) → Type 0
IfTold asked P = IfAsked asked (λ w. IsOkAnd w P)

-- it is told, and it is work, and this is true of it
abbrev pub IsToldAnd : Asked → (Work → Type 0) → Type 0
IsToldAnd Unaccepted P = ⊥
IsToldAnd Untold P = ⊥
IsToldAnd (Told w) P = IsOkAnd w P
