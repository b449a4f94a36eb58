-- The limits that are counted in lowering: how many cells and tasks a job may have.
use Rattle.std.specs.Prelude.{ℕ, nat_lt, Option, Some, None, List, [], ◌∷◌, length, map, if◌then◌else◌}
use Rattle.std.specs.List.{last_or}
use Rattle.sj_base.specs.declared.ids.Line.{Line}
use Rattle.sj_meaning.specs.Act.{Statement}
use Rattle.sj_meaning.specs.State.{JobState, start}
use Rattle.sj_meaning.specs.Meaning.{apply}
use Rattle.sj_job.specs.declared.reason.LimitKind.{LimitKind}
use Rattle.sj_job.specs.declared.reason.LimitKind.TheVariants.{Cells, Tasks}
use Rattle.sj_job.specs.declared.reason.Reason.TheVariants.{Limit}
use Rattle.sj_job.specs.Reading.{Refusal}
use Rattle.sj_lower.specs.Lowering.{Lowering, nothing, lower_one, lower_from, finished}

-- the most cells, and the most tasks
abbrev pub most : ℕ
most = 262144

abbrev pub cells_in : Lowering → ℕ
cells_in L = length L.cells.rows

abbrev pub tasks_in : Lowering → ℕ
tasks_in L = length L.tasks

-- the line of the first statement with which there are too many of what is counted
abbrev pub first_above : ℕ → (Lowering → ℕ) → JobState → Lowering → List (Statement (List ℕ)) → Option Line
first_above workers count S L [] = None
first_above workers count S L (s ∷ ss) =
    if nat_lt most (count (lower_one workers S s L)) then Some s.line
    else first_above workers count (apply s.act S) (lower_one workers S s L) ss

-- the line of the last statement, if what closes the open phases at the end makes too many tasks
abbrev pub above_at_end : ℕ → List (Statement (List ℕ)) → Option Line
above_at_end workers ss =
    if nat_lt most (tasks_in (finished workers (lower_from workers start nothing ss))) then last_or None (map (λ s. s.line) ss)
    else None

abbrev pub over : LimitKind → Line → Refusal
over kind line = record { line = line; reason = Limit kind }

-- a job has too many tasks, or not
abbrev pub late_tasks : Option Line → Option Refusal
late_tasks None = None
late_tasks (Some line) = Some (over Tasks line)

-- too many cells win, also where their line is the later one
abbrev pub late_cells : Option Line → Option Refusal → Option Refusal
late_cells None tasks = tasks
late_cells (Some line) tasks = Some (over Cells line)

-- the first of two lines that there is
abbrev pub line_or : Option Line → Option Line → Option Line
line_or None at_end = at_end
line_or (Some line) at_end = Some line

-- the limit that statements exceed, and the line that first does; tasks at the end count for the last statement
abbrev pub late_limit : ℕ → List (Statement (List ℕ)) → Option Refusal
late_limit workers ss =
    late_cells (first_above workers cells_in start nothing ss)
    (late_tasks (line_or (first_above workers tasks_in start nothing ss) (above_at_end workers ss)))
