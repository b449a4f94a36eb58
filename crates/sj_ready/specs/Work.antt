-- What options, a job text and the sizes of disks ask for: statements to run and a machine to run them on.
use Rattle.std.specs.Prelude.{ℕ, Bool, Some, None, Result, Ok, Err, List}
use Rattle.sj_base.specs.declared.program.Machine.{Machine}
use Rattle.sj_base.specs.declared.program.Program.{Program}
use Rattle.sj_core.specs.Proper.{HasSwapFor}
use Rattle.sj_meaning.specs.Act.{Statement}
use Rattle.sj_meaning.specs.Job.{Job}
use Rattle.sj_job.specs.Reading.{Refusal}
use Rattle.sj_meaning.specs.Settings.{nodes_of, policy_set, worker_count}
use Rattle.sj_meaning.specs.declared.settings.Settings.{Settings}
use Rattle.sj_lower.specs.Limits.{late_limit}
use Rattle.sj_lower.specs.Lowering.{lowered}
use Rattle.sj_needs.specs.Shortage.{FitRoom}
use Rattle.sj_words.specs.Machine.{machine_by}
use Rattle.sj_words.specs.declared.options.Options.{Options}

-- statements, the machine that is to run them, whether a line is printed of each array in place of its elements, and whether the
-- trace's text is to follow
pub record Work : Type 0 where
  pub statements : List (Statement (List ℕ))
  pub machine : Machine
  pub shows_summary : Bool
  pub shows_trace : Bool

-- the program that is to be run: that of the statements, for as many workers as the machine has
abbrev pub program_of : Work → Program
program_of w = lowered w.statements w.machine.workers

-- the number of workers, the nodes and the policy that words ask for, else a job's settings; and disks of these sizes
abbrev pub machine_for : Options → List ℕ → Settings → Machine
machine_for o disks g = machine_by o (worker_count g) (nodes_of g) (policy_set g) disks

-- work, or the first bad line of the job text and the first reason against it
abbrev pub WorkOrRefusal : Type 0
WorkOrRefusal = Result Work Refusal

-- work that exceeds a limit of lowering, for as many workers as the machine has, is refused at the line that first does
abbrev pub within_limits : Work → WorkOrRefusal
within_limits w = elim (late_limit w.machine.workers w.statements) [ None ↦ Ok w | Some e ↦ Err e ]

-- the work that options make of a job, with disks of these sizes
abbrev pub work_with : Options → List ℕ → Job → Work
work_with o disks job = record {
  statements = job.statements;
  machine = machine_for o disks job.settings;
  shows_summary = o.summary;
  shows_trace = o.trace;
}

-- what a job says, before it is looked at how it is lowered
abbrev pub said_by : Options → List ℕ → Result Job Refusal → WorkOrRefusal
said_by o disks (Ok job) = Ok (work_with o disks job)
said_by o disks (Err e) = Err e

-- the same within the limits of lowering, before which a bad line stands
abbrev pub lowerable : WorkOrRefusal → WorkOrRefusal
lowerable (Ok w) = within_limits w
lowerable (Err e) = Err e

abbrev pub asked_by : Options → List ℕ → Result Job Refusal → WorkOrRefusal
asked_by o disks job = lowerable (said_by o disks job)

-- the machine has room for the work: each task fits a node that has a worker, and the blocks have their places on the disks
pub record HasRoom (w : Work) : Type 0 where
  pub tasks_fit : FitRoom (program_of w) w.machine
  pub blocks_have_places : HasSwapFor (program_of w) w.machine
