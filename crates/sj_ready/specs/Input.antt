-- The job that an input asks for.
use Rattle.std.specs.Prelude.{ℕ, Bool, IsTrue, Result, Ok, List}
use Rattle.sj_codelet.specs.declared.kernel.Kernel.{Kernel}
use Rattle.sj_apps.specs.Application.{IsSized, job_for}
use Rattle.sj_apps.specs.declared.application.Application.{Application}
use Rattle.sj_meaning.specs.Job.{Job}
use Rattle.sj_job.specs.Reading.{Refusal, job_of}
use Rattle.sj_words.specs.declared.options.Options.{Options}
use Rattle.sj_ready.specs.Work.{WorkOrRefusal, asked_by}
use Rattle.sj_ready.specs.declared.input.Input.{Input}
use Rattle.sj_ready.specs.declared.input.Input.TheVariants.{Text, Generated}

-- what a text says, or the job of an application
abbrev pub job_in : (Kernel → Bool) → Input → Result Job Refusal
job_in has (Text text) = job_of has text.items
job_in has (Generated a) = Ok (job_for a)

-- what an input asks for
abbrev pub work_in : (Kernel → Bool) → Options → List ℕ → Input → WorkOrRefusal
work_in has o disks input = asked_by o disks (job_in has input)

-- an application's numbers lie in their ranges, and a set has all codelets
pub record CanBeGenerated (has : Kernel → Bool) (a : Application) : Type 0 where
  pub size : IsSized a
  pub every : (k : Kernel) → IsTrue (has k)

-- any text can be read
abbrev pub HasJob : (Kernel → Bool) → Input → Type 0
HasJob has (Text text) = Unit {0}
HasJob has (Generated a) = CanBeGenerated has a
