-- What a job of walks prints, whatever the weights: the lengths of shortest walks.
use Rattle.std.specs.Prelude.{◌≡◌, ℕ, ◌*◌, ◌<◌, ℤ, pos, List, [], ◌∷◌, ◌++◌, length, map}
use Rattle.sj_base.specs.Array.{Array, element}
use Rattle.sj_meaning.specs.declared.job.Init.TheVariants.{Values}
use Rattle.sj_meaning.specs.declared.job.Kind.TheVariants.{Matrix}
use Rattle.sj_meaning.specs.Act.{Act, Invalidate, Plan, Print, Redux, Register, Statement, Task, Unregister}
use Rattle.sj_meaning.specs.Meaning.{printed}
use Rattle.sj_apps.specs.Generated.{matrix_act, square, walk_steps_of}
use Rattle.sj_apps.specs.Walks.{IsShortest}

-- a matrix is cut into p by p tiles and has these elements first; then come the steps of all blocks, and it is printed
abbrev pub walk_acts : List ℕ → ℕ → ℕ → List ℤ → List (Act (List ℕ))
walk_acts name n p xs = matrix_act name n p (Values xs) ∷ (walk_steps_of name p ++ Print name ∷ [])

-- an act, with no priority of its own
abbrev pub unhurried : Act (List ℕ) → Act (List ℕ)
unhurried (Register r) = Register r
unhurried (Plan name parts) = Plan name parts
unhurried (Redux name by) = Redux name by
unhurried (Task t) = Task (record { codelet = t.codelet; args = t.args; operands = t.operands; priority = pos 0 })
unhurried (Print name) = Print name
unhurried (Invalidate name) = Invalidate name
unhurried (Unregister name) = Unregister name

-- what statements do, whatever their lines and priorities
abbrev pub acts_of : List (Statement (List ℕ)) → List (Act (List ℕ))
acts_of statements = map (λ s. unhurried s.act) statements

-- a matrix of n by n with the length of a shortest walk from i to j in row i and column j
pub record AreShortest (n : ℕ) (W : ℕ → ℕ → ℤ) (a : Array) : Type 0 where
  pub dims : a.dims ≡ square n
  pub whole : length a.elements ≡ n * n
  pub shortest : (i j : ℕ) → i < n → j < n → IsShortest n W i j (element a i j)

-- the statements print that matrix under this name, and nothing else
pub record PrintsShortest (name : List ℕ) (n : ℕ) (W : ℕ → ℕ → ℤ) (statements : List (Statement (List ℕ))) : Type 0 where
  pub lengths : Array
  pub alone : printed statements ≡ record { name = name; kind = Matrix; array = lengths } ∷ []
  pub shortest : AreShortest n W lengths
