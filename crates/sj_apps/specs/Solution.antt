-- What the jobs of applications print: the answers of their problems.
use Rattle.std.specs.Prelude.{◌≡◌, ℕ, List, [], ◌∷◌}
use Rattle.sj_base.specs.Array.{Array}
use Rattle.sj_meaning.specs.Act.{Statement}
use Rattle.sj_meaning.specs.Meaning.{Printed, printed}
use Rattle.sj_meaning.specs.declared.job.Kind.TheVariants.{Matrix}
use Rattle.sj_apps.specs.declared.application.Application.{Application}
use Rattle.sj_apps.specs.declared.application.Problem.TheVariants.{Product, Paths}
use Rattle.sj_apps.specs.Generated.{name_C, name_D, weight}
use Rattle.sj_apps.specs.Product.{factor_A, factor_B, matrix_product}
use Rattle.sj_apps.specs.Shortest.{AreShortest}

-- a matrix is printed under this name, and nothing else
abbrev pub IsAlone : List Printed → List ℕ → Array → Type 0
IsAlone ps name a = ps ≡ record { name = name; kind = Matrix; array = a } ∷ []

-- the statements print the product of the two factors, and nothing else
abbrev pub PrintsProduct : ℕ → ℕ → List (Statement (List ℕ)) → Type 0
PrintsProduct n seed statements = IsAlone (printed statements) name_C (matrix_product n (factor_A n seed) (factor_B n))

-- of the product, that of the two factors; of the walks, the lengths of shortest ones on the ring with chords
abbrev pub IsSolution : Application → List Printed → Type 0
IsSolution a ps = elim a.problem [
  | Product ↦ IsAlone ps name_C (matrix_product a.n (factor_A a.n a.seed) (factor_B a.n))
  | Paths ↦ (lengths : Array) × IsAlone ps name_D lengths × AreShortest a.n (weight a.n a.seed) lengths
]
