-- The product of two matrices of i64.
use Rattle.std.specs.Prelude.{ℕ, ◌*◌, ◌+◌, ℤ, pos, negsuc, ◌+ℤ◌, ◌*ℤ◌, ◌%◌}
use Rattle.sj_base.specs.Array.{Array, element, grid}
use Rattle.sj_codelet.specs.Ring.{wrap, sum_below}
use Rattle.sj_apps.specs.Generated.{square}

-- in row i and column j the wrapping sum over k of a[i,k] · b[k,j], for matrices of n by n
abbrev pub matrix_product : ℕ → Array → Array → Array
matrix_product n a b = grid (square n) (λ i j. wrap (sum_below n (λ k. element a i k *ℤ element b k j)))

-- the matrix of n by n whose element at row-major position p is first + step · p
abbrev pub counted_matrix : ℕ → ℤ → ℤ → Array
counted_matrix n first step = grid (square n) (λ i j. wrap (first +ℤ (step *ℤ pos (i * n + j))))

-- the first factor of the application's product
abbrev pub factor_A : ℕ → ℕ → Array
factor_A n seed = counted_matrix n (pos (seed % 100)) (pos 1)

-- and the second
abbrev pub factor_B : ℕ → Array
factor_B n = counted_matrix n (pos 5) (negsuc 1)
