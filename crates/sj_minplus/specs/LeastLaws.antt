-- Why the codelets of `least` meet the laws of a set.
use Rattle.std.proofs.Common.{◌≡◌, true, ◌&&◌, ◌+◌, ◌≤ℤ◌, List, [], ◌∷◌, ◌++◌, ℤ, pos, negsuc, length, sym, arith, FitsSigned}
use Rattle.std.specs.Int.{w64}
use Rattle.std.proofs.lemmas.Int.{ints}
use Rattle.std.proofs.lemmas.Bool.{false≢true}
use Rattle.sj_base.specs.declared.mode.Reduction.{Reduction}
use Rattle.sj_base.specs.declared.mode.Reduction.TheVariants.{Least}
use Rattle.sj_base.specs.Array.{Array, at}
use Rattle.sj_codelet.specs.declared.kernel.Kernel.TheVariants.{Lowest, MinGemm}
use Rattle.sj_codelet.specs.declared.kernel.Kernel.{Kernel}
use Rattle.sj_codelet.specs.Kernel.{is_min_plus, commutes_of, contributes_of, out}
use Rattle.sj_codelet.specs.MinPlus.{inf}
use Rattle.sj_codelet.specs.Laws.{IsTile, IsCall, result_of, unit_of, combined, DoCommute, DoesContribute, IsReduction}
use Rattle.sj_codelet.proofs.Operands.{operands_before}
use Rattle.sj_minplus.specs.LeastArrays.{IsBelowInf, lowest_comm, lowest_assoc, lowest_unit, lowest_swap, lowest_contributes, mingemm_swap, mingemm_contributes}

pub below_inf : (z : ℤ) → FitsSigned w64 z → z ≤ℤ inf
below_inf (pos n) h = let f = h.sfits in omega (arith, ints)
below_inf (negsuc n) h = omega (arith, ints)

tile_below : (x : Array) → IsTile x → IsBelowInf x
tile_below x t = record {
  below = λ p l. below_inf (at x.elements p) (t.in_range p (pos 0) (omega (arith, t.whole)));
  whole = t.whole;
}

-- ---- lowest

lowest_order : (args args' : List ℤ) (before before' : List Array) (v : Array) → length before + 1 ≡ 2 → length before' + 1 ≡ 2 → result_of out Lowest args' before' (result_of out Lowest args before v) ≡ result_of out Lowest args before (result_of out Lowest args' before' v)
lowest_order args args' (x ∷ []) (y ∷ []) v e f = lowest_swap x y v
lowest_order args args' [] before' v e f = absurd (omega arith)
lowest_order args args' (x ∷ y ∷ before) before' v e f = absurd (omega arith)
lowest_order args args' (x ∷ []) [] v e f = absurd (omega arith)
lowest_order args args' (x ∷ []) (y ∷ z ∷ before') v e f = absurd (omega arith)

lowest_commutes : DoCommute out Lowest
lowest_commutes = record {
  either_order = λ args args' before before' v c c'. lowest_order args args' before before' v (operands_before Lowest args before v c) (operands_before Lowest args' before' v c');
}

lowest_through : (args : List ℤ) (before : List Array) (v : Array) → length before + 1 ≡ 2 → IsCall Lowest args (before ++ v ∷ []) → result_of out Lowest args before v ≡ combined out Least (result_of out Lowest args before (unit_of out Least v.dims)) v
lowest_through args (x ∷ []) v e c = lowest_contributes x v (tile_below v (c.tiles 1 v (omega arith)))
lowest_through args [] v e c = absurd (omega arith)
lowest_through args (x ∷ y ∷ before) v e c = absurd (omega arith)

lowest_adds : DoesContribute out Lowest Least
lowest_adds = record { through_unit = λ args before v c. lowest_through args before v (operands_before Lowest args before v c) c }

-- ---- mingemm

mingemm_order : (args args' : List ℤ) (before before' : List Array) (v : Array) → length before + 1 ≡ 3 → length before' + 1 ≡ 3 → result_of out MinGemm args' before' (result_of out MinGemm args before v) ≡ result_of out MinGemm args before (result_of out MinGemm args' before' v)
mingemm_order args args' (a ∷ b ∷ []) (d ∷ e ∷ []) v h f = mingemm_swap a b d e v
mingemm_order args args' [] before' v h f = absurd (omega arith)
mingemm_order args args' (a ∷ []) before' v h f = absurd (omega arith)
mingemm_order args args' (a ∷ b ∷ g ∷ before) before' v h f = absurd (omega arith)
mingemm_order args args' (a ∷ b ∷ []) [] v h f = absurd (omega arith)
mingemm_order args args' (a ∷ b ∷ []) (d ∷ []) v h f = absurd (omega arith)
mingemm_order args args' (a ∷ b ∷ []) (d ∷ e ∷ g ∷ before') v h f = absurd (omega arith)

mingemm_commutes : DoCommute out MinGemm
mingemm_commutes = record {
  either_order = λ args args' before before' v c c'. mingemm_order args args' before before' v (operands_before MinGemm args before v c) (operands_before MinGemm args' before' v c');
}

mingemm_through : (args : List ℤ) (before : List Array) (v : Array) → length before + 1 ≡ 3 → IsCall MinGemm args (before ++ v ∷ []) → result_of out MinGemm args before v ≡ combined out Least (result_of out MinGemm args before (unit_of out Least v.dims)) v
mingemm_through args (a ∷ b ∷ []) v h c = mingemm_contributes a b v (tile_below v (c.tiles 2 v (omega arith)))
mingemm_through args [] v h c = absurd (omega arith)
mingemm_through args (a ∷ []) v h c = absurd (omega arith)
mingemm_through args (a ∷ b ∷ g ∷ before) v h c = absurd (omega arith)

mingemm_adds : DoesContribute out MinGemm Least
mingemm_adds = record { through_unit = λ args before v c. mingemm_through args before v (operands_before MinGemm args before v c) c }

-- ---- of a codelet of min-plus

pub least_commuting : (k : Kernel) → (is_min_plus k && commutes_of k) ≡ true → DoCommute out k
least_commuting Lowest h = lowest_commutes
least_commuting MinGemm h = mingemm_commutes
least_commuting k h = absurd (false≢true h)

pub least_contributing : (k : Kernel) (by : Reduction) → (is_min_plus k && contributes_of k by) ≡ true → DoesContribute out k by
least_contributing Lowest Least h = lowest_adds
least_contributing MinGemm Least h = mingemm_adds
least_contributing k by h = absurd (false≢true h)

-- ---- the reduction

pub least_reduces : IsReduction out Least
least_reduces = record {
  associative = λ u v w tu tv tw d e. sym (lowest_assoc u v w e);
  commutative = λ u v tu tv d. lowest_comm u v d;
  unit = λ v t. lowest_unit v (tile_below v t);
}
