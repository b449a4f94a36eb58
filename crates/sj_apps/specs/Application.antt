-- The job of an application.
use Rattle.std.specs.Prelude.{List, ℕ}
use Rattle.sj_meaning.specs.Act.{Statement}
use Rattle.sj_meaning.specs.Job.{Job}
use Rattle.sj_meaning.specs.Settings.{unset}
use Rattle.sj_apps.specs.declared.application.Application.{Application}
use Rattle.sj_apps.specs.declared.application.Problem.TheVariants.{Product, Paths}
use Rattle.sj_apps.specs.Generated.{product_statements, paths_statements, IsSize}

-- its numbers lie in their ranges
abbrev pub IsSized : Application → Type 0
IsSized a = IsSize a.n a.tile a.seed

-- the statements of its job
abbrev pub statements_for : Application → List (Statement (List ℕ))
statements_for a = elim a.problem [
  | Product ↦ product_statements a.n a.tile a.seed
  | Paths ↦ paths_statements a.n a.tile a.seed
]

-- its job, which sets nothing
abbrev pub job_for : Application → Job
job_for a = record { settings = unset; statements = statements_for a }
