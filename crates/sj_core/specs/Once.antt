-- That each task of a program ran once: how often a trace says that a task is claimed, begins to run and ends.
use Rattle.std.specs.Prelude.{◌≡◌, ◌<◌, Bool, false, nat_eq, List, length, count_by}
use Rattle.sj_base.specs.declared.ids.Task.{Task}
use Rattle.sj_base.specs.declared.trace.Event.{Event}
use Rattle.sj_base.specs.declared.trace.Event.TheVariants.{Claim, Run, End}
use Rattle.sj_base.specs.declared.program.Program.{Program}

-- the event is a claim of the task, by whichever worker
abbrev pub is_claim_of : Task → Event → Bool
is_claim_of t (Claim u w) = nat_eq u.0 t.0
is_claim_of t _ = false

-- the event is the beginning of a run of the task, on whichever worker
abbrev pub is_run_of : Task → Event → Bool
is_run_of t (Run u w) = nat_eq u.0 t.0
is_run_of t _ = false

-- the event is the end of a run of the task, on whichever worker
abbrev pub is_end_of : Task → Event → Bool
is_end_of t (End u w) = nat_eq u.0 t.0
is_end_of t _ = false

-- the trace has exactly one claim, one run and one end of the task
pub record RanOnce (trace : List Event) (t : Task) : Type 0 where
  pub claimed_once : count_by (is_claim_of t) trace ≡ 1
  pub run_once : count_by (is_run_of t) trace ≡ 1
  pub ended_once : count_by (is_end_of t) trace ≡ 1

-- it is so of each task of the program
abbrev pub EachRanOnce : Program → List Event → Type 0
EachRanOnce p trace = (t : Task) → t.0 < length p.tasks → RanOnce trace t
