-- The statements of an application print its answer.
use Rattle.sj_meaning.specs.Meaning.{printed}
use Rattle.sj_apps.specs.Application.{IsSized, statements_for}
use Rattle.sj_apps.specs.declared.application.Application.{Application}
use Rattle.sj_apps.specs.declared.application.Problem.{Problem}
use Rattle.sj_apps.specs.declared.application.Problem.TheVariants.{Product, Paths}
use Rattle.sj_apps.specs.Solution.{IsSolution}
use Rattle.sj_apps.proofs.Multiplying.{product-printed}
use Rattle.sj_apps.proofs.Walking.{paths-print}

pub solution : (a : Application) → IsSized a → IsSolution a (printed (statements_for a))
solution a size = by_problem a.problem
  where
    by_problem : (x : Problem) → IsSolution (record a { problem = x }) (printed (statements_for (record a { problem = x })))
    by_problem Product = product-printed a.n a.tile a.seed size
    by_problem Paths = let p = paths-print a.n a.tile a.seed size in (p.lengths, p.alone, p.shortest)
