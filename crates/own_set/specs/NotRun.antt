-- What is ready to be run, and why a text isn't run.
use Rattle.std.specs.Prelude.{◌≡◌, ℕ, IsOkAnd, List, Option, Result}
use Rattle.sj_codelet.specs.Kernel.{out}
use Rattle.sj_core.specs.Laws.{IsLawful}
use Rattle.sj_core.specs.Needs.{AreFootprints}
use Rattle.sj_core.specs.Proper.{HasSwapFor, IsMachineFor, Proper}
use Rattle.sj_engine.specs.Outcome.{IsCausedBy}
use Rattle.sj_meaning.specs.Job.{Job}
use Rattle.sj_job.specs.Reading.{IsReadRefusal, Refusal}
use Rattle.sj_lower.specs.Limits.{late_limit}
use Rattle.sj_lower.specs.Progress.{IsLate}
use Rattle.sj_needs.specs.Shortage.{IsShortage}
use Rattle.own_set.specs.declared.NotReady.{NotReady}
use Rattle.own_set.specs.declared.NotReady.TheVariants.{Text, Limit, Codelet, Lacking, OutOfMemory}
use Rattle.own_set.specs.declared.NotRun.{NotRun}
use Rattle.own_set.specs.declared.NotRun.TheVariants as not_run
use Rattle.own_set.specs.declared.SetRun.{SetRun}
use Rattle.own_set.specs.Turns.{HasCodelets, small_program, small_machine, turns_has}

-- the program is that of the job, can be run by the set of the example on its machine with disks of these sizes, and has these
-- footprints
pub record IsSetRun (job : Result Job Refusal) (disks : List ℕ) (r : SetRun) : Type 0 where
  pub program : IsOkAnd job (λ j. r.program.value ≡ small_program j.statements)
  pub machine : r.machine ≡ small_machine disks
  pub proper : Proper r.program.value
  pub lawful : IsLawful out turns_has r.program.value
  pub machine_for : IsMachineFor r.program.value r.machine
  pub swap : HasSwapFor r.program.value r.machine
  pub footprints : AreFootprints r.program.value r.footprints.items

-- a line of it is bad, or its statements exceed a limit of lowering, or the set lacks one of its codelets, or the machine lacks
-- room for it, or memory ran out
abbrev pub IsNotReady : NotReady → Result Job Refusal → List ℕ → Type 0
IsNotReady (Text e) job disks = IsReadRefusal e job
IsNotReady (Limit e) job disks = IsOkAnd job (λ j. IsLate e (late_limit (small_machine disks).workers j.statements))
IsNotReady Codelet job disks = IsOkAnd job (λ j. ¬ HasCodelets (small_program j.statements))
IsNotReady (Lacking s) job disks = IsOkAnd job (λ j. IsShortage (small_program j.statements) (small_machine disks) s)
IsNotReady OutOfMemory job disks = Unit {0}

-- it isn't ready, or its run broke off for this cause: of a fault the count of a disk rose between the disks as they were handed
-- in and as they come back
abbrev pub IsNotRun : {D : Type 0} → (D → ℕ) → (D → ℕ) → (D → Option (List ℕ)) → NotRun → Result Job Refusal → List ℕ → List D → List D → Type 0
IsNotRun faults mismatches held (not_run.Unready e) job sizes old new = IsNotReady e job sizes
IsNotRun faults mismatches held (not_run.Fault f) job sizes old new = IsCausedBy faults mismatches held old new f
