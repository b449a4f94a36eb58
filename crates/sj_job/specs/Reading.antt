-- What a job text says: its settings and statements, or its first bad line and the first reason against it.
use Rattle.std.specs.Prelude.{◌≡◌, ℕ, ◌+◌, Bool, not, ◌&&◌, nat_lt, Option, Some, None, Result, Ok, Err, List, [], ◌∷◌, length, if◌then◌else◌}
use Rattle.std.specs.List.{list_all}
use Rattle.sj_base.specs.declared.ids.Line.{Line}
use Rattle.sj_codelet.specs.declared.kernel.Kernel.{Kernel}
use Rattle.sj_meaning.specs.Act.{Act}
use Rattle.sj_meaning.specs.Act.{Statement}
use Rattle.sj_meaning.specs.Job.{Job, job}
use Rattle.sj_job.specs.Verdict.{Verdict, Skipped, Does, Bad}
use Rattle.sj_job.specs.Verdict.{Front, Passes, Begins, Stops}
use Rattle.sj_job.specs.declared.form.SettingForm.{SettingForm}
use Rattle.sj_meaning.specs.declared.settings.Settings.{Settings}
use Rattle.sj_job.specs.Settings.{setting_of, set_by}
use Rattle.sj_meaning.specs.Settings.{unset}
use Rattle.sj_job.specs.declared.reason.Reason.{Reason}
use Rattle.sj_job.specs.declared.reason.Objection.{Objection}
use Rattle.sj_job.specs.declared.reason.Objection.TheVariants.{Bad as Objected, OutOfMemory as NoMemory}
use Rattle.sj_job.specs.declared.reason.ReadRefusal.{ReadRefusal}
use Rattle.sj_job.specs.declared.reason.ReadRefusal.TheVariants.{Refused, OutOfMemory}
use Rattle.sj_job.specs.declared.reason.Reason.TheVariants.{Header, Word, Limit}
use Rattle.sj_job.specs.declared.reason.LimitKind.TheVariants.{Text}
use Rattle.sj_job.specs.Word.{lines, words, is_allowed, is_skipped}
use Rattle.sj_job.specs.Sentence.{said, is_header}
use Rattle.sj_meaning.specs.State.{JobState, start}
use Rattle.sj_meaning.specs.Meaning.{apply}
use Rattle.sj_job.specs.Judge.{Scope, scope_of, judged}

-- a bad line and its first reason
pub record Refusal : Type 0 where
  pub line : Line
  pub reason : Reason

abbrev pub refusal : ℕ → Reason → Refusal
refusal n why = record { line = record { 0 = n }; reason = why }

-- what words do: what they say, where no reason stands against it
abbrev pub act_in : (Kernel → Bool) → Scope → List (List ℕ) → Result (Act (List ℕ)) Reason
act_in set scope words = elim (said words) [ Err why ↦ Err why | Ok f ↦ judged set scope f ]

-- what a line does where the reasons see this scope
abbrev pub statement_in : (Kernel → Bool) → Scope → List ℕ → Result (Act (List ℕ)) Reason
statement_in set scope line =
    if not (list_all is_allowed line) then Err Word else act_in set scope (words line)

abbrev pub statement : ℕ → Act (List ℕ) → Statement (List ℕ)
statement n act = record { line = record { 0 = n }; act = act }

-- a statement before what the further lines say
abbrev pub before : Statement (List ℕ) → Result (List (Statement (List ℕ))) Refusal → Result (List (Statement (List ℕ))) Refusal
before s (Ok ss) = Ok (s ∷ ss)
before s (Err e) = Err e

-- a line says nothing, or does something, or is bad
abbrev pub verdict_of : (Kernel → Bool) → Scope → List ℕ → Verdict
verdict_of set scope line =
    if is_skipped (words line) then Skipped
    else (elim (statement_in set scope line) [ Err why ↦ Bad why | Ok act ↦ Does act ])

-- what the statement lines from line n on say, after so many statements, which leave the state S
abbrev pub reading : (Kernel → Bool) → ℕ → JobState → ℕ → List (List ℕ) → Result (List (Statement (List ℕ))) Refusal
reading set k S n [] = Ok []
reading set k S n (l ∷ ls) = elim (verdict_of set (scope_of k S) l) [
  | Skipped ↦ reading set k S (n + 1) ls
  | Bad why ↦ Err (refusal n why)
  | Does act ↦ before (statement n act) (reading set (k + 1) (apply act S) (n + 1) ls)
]

-- ---- the lines in front of the statements

-- the settings line that a line is; one with a byte that no line has is none
abbrev pub setting_in : List ℕ → Option SettingForm
setting_in line = if list_all is_allowed line then setting_of (words line) else None

-- what comes of a line behind these settings, before the first statement
abbrev pub front_of : Settings → List ℕ → Front
front_of g line =
    if is_skipped (words line) then Passes g
    else (elim (setting_in line) [
      | None ↦ Begins
      | Some f ↦ (elim (set_by g f) [ Err why ↦ Stops why | Ok h ↦ Passes h ])
    ])

-- the settings, and what the lines behind them say
abbrev pub with_settings : Settings → Result (List (Statement (List ℕ))) Refusal → Result Job Refusal
with_settings g (Ok ss) = Ok (job g ss)
with_settings g (Err e) = Err e

-- what the lines from line n on say, before which these settings were made and no statement: the first line that is
-- no settings line begins the statements
abbrev pub reading_settings : (Kernel → Bool) → Settings → ℕ → List (List ℕ) → Result Job Refusal
reading_settings set g n [] = Ok (job g [])
reading_settings set g n (l ∷ ls) = elim (front_of g l) [
  | Passes h ↦ reading_settings set h (n + 1) ls
  | Begins ↦ with_settings g (reading set 0 start n (l ∷ ls))
  | Stops why ↦ Err (refusal n why)
]

-- the same from before the header on, which is the first line that isn't skipped
abbrev pub reading_header : (Kernel → Bool) → ℕ → List (List ℕ) → Result Job Refusal
reading_header set n [] = Err (refusal n Header)
reading_header set n (l ∷ ls) =
    if is_skipped (words l) then reading_header set (n + 1) ls
    else if list_all is_allowed l && is_header (words l) then reading_settings set unset (n + 1) ls
    else Err (refusal n Header)

-- the longest text that is read
abbrev pub text_limit : ℕ
text_limit = 67108864

-- what a text says, with the codelets of a set
abbrev pub job_of : (Kernel → Bool) → List ℕ → Result Job Refusal
job_of set text =
    if nat_lt text_limit (length text) then Err (refusal 0 (Limit Text))
    else reading_header set 1 (lines text)

-- the answer to a bad line, or to want of memory
abbrev pub refused : ℕ → Objection → ReadRefusal
refused n (Objected why) = Refused (record { 0 = n }) why
refused n NoMemory = OutOfMemory

-- a line is bad for a reason, or memory ran out
abbrev pub IsBad : Objection → Verdict → Type 0
IsBad NoMemory v = Unit {0}
IsBad (Objected why) v = v ≡ Bad why

-- the same of a line in front of the statements
abbrev pub IsStopped : Objection → Front → Type 0
IsStopped NoMemory v = Unit {0}
IsStopped (Objected why) v = v ≡ Stops why

-- a text is refused at its first bad line for its first reason, or memory ran out
abbrev pub IsReadRefusal : {A : Type 0} → ReadRefusal → Result A Refusal → Type 0
IsReadRefusal OutOfMemory job = Unit {0}
IsReadRefusal (Refused line reason) job = job ≡ Err (record { line = line; reason = reason })
