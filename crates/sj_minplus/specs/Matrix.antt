-- Lists as matrices.
use Rattle.std.specs.Prelude.{ℕ, ℤ}
use Rattle.sj_base.specs.Array.{Array, element}
use Rattle.sj_codelet.specs.MinPlus.{plus, least_below}

-- an element of the min-plus product, and of c
abbrev pub least_entry : Array → Array → Array → ℕ → ℕ → ℤ
least_entry a b c i j =
    least_below a.dims.cols (element c i j) (λ l. plus (element a i l) (element b l j))
