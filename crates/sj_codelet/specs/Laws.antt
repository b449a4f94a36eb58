-- The laws of a set of codelets, whatever its equations are: its runs make tiles, which of them may change places, and what a
-- reduction combines.
use Rattle.std.specs.Prelude.{◌≡◌, Bool, ◌&&◌, IsTrue, ℤ, List, [], ◌∷◌, ◌++◌, map, length, FitsSigned}
use Rattle.std.specs.Int.{w64}
use Rattle.std.specs.List.{All, filter}
use Rattle.sj_base.specs.declared.mode.Reduction.{Reduction}
use Rattle.sj_base.specs.declared.tile.Dims.{Dims}
use Rattle.sj_base.specs.Array.{Array, area, zeros}
use Rattle.sj_codelet.specs.declared.kernel.Kernel.{Kernel}
use Rattle.sj_codelet.specs.Formal.{is_output, outputs_among}
use Rattle.sj_codelet.specs.Kernel.{Equations, codelet_of, fits, formals_of, operand, init_of, combine_of, commutes_of, contributes_of, has_reduction}

-- an array as a tile holds it: as many elements as its dimensions say, each an i64
pub record IsTile (a : Array) : Type 0 where
  pub whole : length a.elements ≡ area a.dims
  pub in_range : All (FitsSigned w64) a.elements

-- arguments and operands that a codelet takes
pub record IsCall (k : Kernel) (args : List ℤ) (ins : List Array) : Type 0 where
  pub fits : IsTrue (fits k args (map (λ a. a.dims) ins))
  pub tiles : All IsTile ins

-- each run has an array for each operand that it writes, a tile as large as the operand
pub record MakesTiles (eq : Equations) (k : Kernel) : Type 0 where
  pub count : (args : List ℤ) (ins : List Array) → length (eq (codelet_of k) args ins) ≡ length (filter is_output (formals_of k))
  pub tiles : (args : List ℤ) (ins : List Array) → All (FitsSigned w64) args → IsCall k args ins → All IsTile (eq (codelet_of k) args ins)
  pub dims : (args : List ℤ) (ins : List Array) → IsCall k args ins → map (λ a. a.dims) (eq (codelet_of k) args ins) ≡ outputs_among (formals_of k) (map (λ a. a.dims) ins)

-- what a codelet makes of v, its last operand and the one that it writes, from the operands before it
abbrev pub result_of : Equations → Kernel → List ℤ → List Array → Array → Array
result_of eq k args before v = operand (eq (codelet_of k) args (before ++ v ∷ [])) 0

-- two runs on one array give the same in either order
pub record DoCommute (eq : Equations) (k : Kernel) : Type 0 where
  pub either_order : (args args' : List ℤ) (before before' : List Array) (v : Array) → IsCall k args (before ++ v ∷ []) → IsCall k args' (before' ++ v ∷ []) → result_of eq k args' before' (result_of eq k args before v) ≡ result_of eq k args before (result_of eq k args' before' v)

-- the unit of a reduction, of these dimensions
abbrev pub unit_of : Equations → Reduction → Dims → Array
unit_of eq by d = operand (eq (codelet_of (init_of by)) [] (zeros d ∷ [])) 0

-- v with the partial copy u combined into it
abbrev pub combined : Equations → Reduction → Array → Array → Array
combined eq by u v = operand (eq (codelet_of (combine_of by)) [] (u ∷ v ∷ [])) 0

-- a run on v gives what combining gives with a run on the unit
pub record DoesContribute (eq : Equations) (k : Kernel) (by : Reduction) : Type 0 where
  pub through_unit : (args : List ℤ) (before : List Array) (v : Array) → IsCall k args (before ++ v ∷ []) → result_of eq k args before v ≡ combined eq by (result_of eq k args before (unit_of eq by v.dims)) v

-- partial copies may be combined in any order and any grouping, and the unit changes nothing
pub record IsReduction (eq : Equations) (by : Reduction) : Type 0 where
  pub associative : (u v w : Array) → IsTile u → IsTile v → IsTile w → u.dims ≡ v.dims → v.dims ≡ w.dims → combined eq by (combined eq by u v) w ≡ combined eq by u (combined eq by v w)
  pub commutative : (u v : Array) → IsTile u → IsTile v → u.dims ≡ v.dims → combined eq by u v ≡ combined eq by v u
  pub unit : (v : Array) → IsTile v → combined eq by (unit_of eq by v.dims) v ≡ v

-- the laws of a set that has these codelets
abbrev pub AllMakeTiles : Equations → (Kernel → Bool) → Type 0
AllMakeTiles eq has = (k : Kernel) → IsTrue (has k) → MakesTiles eq k

abbrev pub CommutingCommute : Equations → (Kernel → Bool) → Type 0
CommutingCommute eq has = (k : Kernel) → IsTrue (has k && commutes_of k) → DoCommute eq k

abbrev pub ContributingContribute : Equations → (Kernel → Bool) → Type 0
ContributingContribute eq has =
    (k : Kernel) (by : Reduction) → IsTrue (has k && contributes_of k by && has_reduction has by) → DoesContribute eq k by

abbrev pub ReductionsReduce : Equations → (Kernel → Bool) → Type 0
ReductionsReduce eq has = (by : Reduction) → IsTrue (has_reduction has by) → IsReduction eq by
