-- What one line says of an array's elements.
use Rattle.std.specs.Prelude.{◌≡◌, ℕ, ℤ, pos, ◌+ℤ◌, not, List, All, FitsSigned, ◌++◌, Option, Some, None, length, filter, codes, decimal}
use Rattle.std.specs.Fmt.{signed_decimal}
use Rattle.std.specs.Int.{int_min, int_max, w64}
use Rattle.std.specs.List.{fold, reduce}
use Rattle.sj_base.specs.declared.tile.Dims.{Dims}
use Rattle.sj_base.specs.Array.{Array}
use Rattle.sj_codelet.specs.MinPlus.{inf, is_inf, least}
use Rattle.sj_codelet.specs.Ring.{wrap}

-- the numbers among elements: those that aren't `inf`
abbrev pub numbers : List ℤ → List ℤ
numbers xs = filter (λ x. not (is_inf x)) xs

-- how many elements are `inf`
abbrev pub count_of_inf : List ℤ → ℕ
count_of_inf xs = length (filter is_inf xs)

-- the exact sum of numbers; 0 where there is none
abbrev pub exact_sum : List ℤ → ℤ
exact_sum xs = fold (λ a x. a +ℤ x) (pos 0) xs

-- the least and the greatest of numbers, where there is one
abbrev pub minimum : List ℤ → Option ℤ
minimum xs = reduce int_min xs

abbrev pub maximum : List ℤ → Option ℤ
maximum xs = reduce int_max xs

-- a number in decimal, or `-` where there is none
abbrev pub bound_text : Option ℤ → List ℕ
bound_text None = codes "-"
bound_text (Some z) = signed_decimal z

-- `NAME R C: sum S min A max B inf K` and LF
abbrev pub tallied_line : List ℕ → Dims → ℤ → Option ℤ → Option ℤ → ℕ → List ℕ
tallied_line name dims sum lowest highest infs =
    name ++ codes " " ++ decimal dims.rows ++ codes " " ++ decimal dims.cols ++ codes ": sum " ++ signed_decimal sum
    ++ codes " min " ++ bound_text lowest ++ codes " max " ++ bound_text highest ++ codes " inf " ++ decimal infs ++ codes "\n"

-- the line of an array: the numbers among its elements are summed, with wrapping, and have a least and a greatest; the others
-- count
abbrev pub summary_line : List ℕ → Array → List ℕ
summary_line name a =
    tallied_line name a.dims (wrap (exact_sum (numbers a.elements))) (minimum (numbers a.elements)) (maximum (numbers a.elements))
    (count_of_inf a.elements)

-- ---- on the way through the elements

-- what is known of the elements xs, each an i64: without a number among them `lowest` is `inf`, and `highest` the least i64
pub record AreTallied (xs : List ℤ) (infs : ℕ) (sum lowest highest : ℤ) : Type 0 where
  pub fit : All (FitsSigned w64) xs
  pub infs_are : infs ≡ count_of_inf xs
  pub sum_is : sum ≡ wrap (exact_sum (numbers xs))
  pub lowest_is : lowest ≡ fold int_min inf (numbers xs)
  pub highest_is : highest ≡ fold int_max least (numbers xs)
