-- The jobs of the applications: their statements, for matrices of n by n that are cut into tiles.
use Rattle.std.specs.Prelude.{ℕ, ◌≤◌, ◌+◌, ◌-◌, ◌/◌, ◌%◌, not, nat_eq, ℤ, pos, negsuc, List, [], ◌∷◌, ◌++◌, map, codes, if◌then◌else◌}
use Rattle.std.specs.List.{range_with_len, flat_map, filter}
use Rattle.sj_base.specs.declared.tile.Dims.{Dims}
use Rattle.sj_base.specs.declared.mode.Mode.{Mode}
use Rattle.sj_base.specs.declared.mode.Mode.TheVariants.{R, RW, Commute}
use Rattle.sj_base.specs.Window.{table}
use Rattle.sj_codelet.specs.declared.kernel.Kernel.{Kernel}
use Rattle.sj_codelet.specs.declared.kernel.Kernel.TheVariants.{Gemm, MinGemm, FwDiag, FwRow, FwCol}
use Rattle.sj_codelet.specs.Kernel.{codelet_of}
use Rattle.sj_codelet.specs.MinPlus.{inf}
use Rattle.sj_plan.specs.declared.parts.Parts.{Parts}
use Rattle.sj_meaning.specs.declared.job.Kind.TheVariants.{Matrix}
use Rattle.sj_meaning.specs.declared.job.Init.{Init}
use Rattle.sj_meaning.specs.declared.job.Init.TheVariants.{Values, Fill}
use Rattle.sj_meaning.specs.Statement.{Operand}
use Rattle.sj_meaning.specs.Act.{Act, Register, Task, Print, Statement}

-- into how many parts n rows are cut, at most `tile` of them in each
abbrev pub part_count : ℕ → ℕ → ℕ
part_count n tile = (n + (tile - 1)) / tile

-- 0, .., p - 1
abbrev pub upto : ℕ → List ℕ
upto p = range_with_len 0 p

-- the same without k
abbrev pub others : ℕ → ℕ → List ℕ
others p k = filter (λ j. not (nat_eq j k)) (upto p)

abbrev pub square : ℕ → Dims
square n = record { rows = n; cols = n }

-- a plan of p by p parts
abbrev pub cut : ℕ → Parts
cut p = record { r = p; c = p }

-- `matrix NAME n n by p p INIT`
abbrev pub matrix_act : List ℕ → ℕ → ℕ → Init → Act (List ℕ)
matrix_act name n p init = Register (record { name = name; kind = Matrix; dims = square n; parts = cut p; init = init })

-- `NAME[i,j]:MODE`
abbrev pub tile_operand : List ℕ → ℕ → ℕ → Mode → Operand (List ℕ)
tile_operand name i j mode = record { name = name; place = (i, j); mode = mode }

-- `task CODELET OPERANDS`
abbrev pub task_act : Kernel → List (Operand (List ℕ)) → Act (List ℕ)
task_act kernel operands = Task (record { codelet = codelet_of kernel; args = []; operands = operands; priority = pos 0 })

-- acts in the lines from this one on
abbrev pub numbered : ℕ → List (Act (List ℕ)) → List (Statement (List ℕ))
numbered line [] = []
numbered line (a ∷ rest) = record { line = record { 0 = line }; act = a } ∷ numbered (line + 1) rest

-- the line behind those of the header, the workers, the node and the policy
abbrev pub first_line : ℕ
first_line = 5

-- ---- the product of two matrices

abbrev pub name_A : List ℕ
name_A = codes "A"

abbrev pub name_B : List ℕ
name_B = codes "B"

abbrev pub name_C : List ℕ
name_C = codes "C"

-- the product of a tile of A and a tile of B comes to the tile [i, j] of C
abbrev pub gemm_act : ℕ → ℕ → ℕ → Act (List ℕ)
gemm_act i j k = task_act Gemm (tile_operand name_A i k R ∷ tile_operand name_B k j R ∷ tile_operand name_C i j Commute ∷ [])

abbrev pub gemms_at : ℕ → ℕ → ℕ → List (Act (List ℕ))
gemms_at p i j = map (gemm_act i j) (upto p)

abbrev pub gemms_in_row : ℕ → ℕ → List (Act (List ℕ))
gemms_in_row p i = flat_map (gemms_at p i) (upto p)

abbrev pub gemms : ℕ → List (Act (List ℕ))
gemms p = flat_map (gemms_in_row p) (upto p)

-- A counts up from the seed's last two digits, B down from 5 by twos, and C is zero
abbrev pub factors : ℕ → ℕ → ℕ → List (Act (List ℕ))
factors n p seed =
    matrix_act name_A n p (Fill (pos (seed % 100)) (pos 1)) ∷ matrix_act name_B n p (Fill (pos 5) (negsuc 1))
    ∷ matrix_act name_C n p (Fill (pos 0) (pos 0)) ∷ []

abbrev pub product_acts : ℕ → ℕ → ℕ → List (Act (List ℕ))
product_acts n p seed = factors n p seed ++ (gemms p ++ Print name_C ∷ [])

abbrev pub product_statements : ℕ → ℕ → ℕ → List (Statement (List ℕ))
product_statements n tile seed = numbered first_line (product_acts n (part_count n tile) seed)

-- ---- the lengths of shortest walks

abbrev pub name_D : List ℕ
name_D = codes "D"

-- the weight of the step from i to j on a ring with chords: none stays, one goes on costs 3, seven on 5 to 9; there is no other
abbrev pub weight : ℕ → ℕ → ℕ → ℕ → ℤ
weight n seed i j =
    if nat_eq j i then pos 0
    else if nat_eq j ((i + 1) % n) then pos 3
    else if nat_eq j ((i + 7) % n) then pos (5 + seed % 5)
    else inf

abbrev pub weights : ℕ → ℕ → List ℤ
weights n seed = table (square n) (weight n seed)

-- ways through the diagonal tile of block k, within it, of the matrix of that name
abbrev pub diagonal_of : List ℕ → ℕ → Act (List ℕ)
diagonal_of name k = task_act FwDiag (tile_operand name k k RW ∷ [])

-- the same in a tile of its row
abbrev pub beside_of : List ℕ → ℕ → ℕ → Act (List ℕ)
beside_of name k j = task_act FwRow (tile_operand name k k R ∷ tile_operand name k j RW ∷ [])

-- in a tile of its column
abbrev pub below_of : List ℕ → ℕ → ℕ → Act (List ℕ)
below_of name k i = task_act FwCol (tile_operand name k k R ∷ tile_operand name i k RW ∷ [])

-- and in another tile
abbrev pub apart_of : List ℕ → ℕ → ℕ → ℕ → Act (List ℕ)
apart_of name k i j = task_act MinGemm (tile_operand name i k R ∷ tile_operand name k j R ∷ tile_operand name i j RW ∷ [])

abbrev pub aparts_of : List ℕ → ℕ → ℕ → ℕ → List (Act (List ℕ))
aparts_of name p k i = map (apart_of name k i) (others p k)

-- the tasks of block k: afterwards walks may go through its vertices too
abbrev pub walk_step_of : List ℕ → ℕ → ℕ → List (Act (List ℕ))
walk_step_of name p k =
    diagonal_of name k ∷ (map (beside_of name k) (others p k) ++ (map (below_of name k) (others p k) ++ flat_map (aparts_of name p k) (others p k)))

abbrev pub walk_steps_of : List ℕ → ℕ → List (Act (List ℕ))
walk_steps_of name p = flat_map (walk_step_of name p) (upto p)

-- the same of D
abbrev pub diagonal : ℕ → Act (List ℕ)
diagonal k = diagonal_of name_D k

abbrev pub beside : ℕ → ℕ → Act (List ℕ)
beside k j = beside_of name_D k j

abbrev pub below : ℕ → ℕ → Act (List ℕ)
below k i = below_of name_D k i

abbrev pub apart : ℕ → ℕ → ℕ → Act (List ℕ)
apart k i j = apart_of name_D k i j

abbrev pub aparts_in_row : ℕ → ℕ → ℕ → List (Act (List ℕ))
aparts_in_row p k i = aparts_of name_D p k i

abbrev pub walk_step : ℕ → ℕ → List (Act (List ℕ))
walk_step p k = walk_step_of name_D p k

abbrev pub walk_steps : ℕ → List (Act (List ℕ))
walk_steps p = walk_steps_of name_D p

abbrev pub paths_acts : ℕ → ℕ → ℕ → List (Act (List ℕ))
paths_acts n p seed = matrix_act name_D n p (Values (weights n seed)) ∷ (walk_steps p ++ Print name_D ∷ [])

abbrev pub paths_statements : ℕ → ℕ → ℕ → List (Statement (List ℕ))
paths_statements n tile seed = numbered first_line (paths_acts n (part_count n tile) seed)

-- ---- what the generators are given

-- n from 1 to 2048, tiles of 1 to n rows of which at most 48 make a column, and a seed of at most nine digits
pub record IsSize (n tile seed : ℕ) : Type 0 where
  pub some : 1 ≤ n
  pub most : n ≤ 2048
  pub tile_some : 1 ≤ tile
  pub tile_most : tile ≤ n
  pub few : part_count n tile ≤ 48
  pub seed_most : seed ≤ 999999999
