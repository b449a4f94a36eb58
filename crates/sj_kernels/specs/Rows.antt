-- One row of a kernel that works row by row.
use Rattle.std.specs.Prelude.{ℕ, ◌+◌, ◌*◌, ℤ, ◌+ℤ◌, ◌*ℤ◌, List, length}
use Rattle.sj_base.specs.Array.{at}
use Rattle.sj_codelet.specs.Ring.{wrap, sum_below}

-- the element in column j of c + a b, where a and c are rows and b has n columns
abbrev pub row_product : ℕ → List ℤ → List ℤ → List ℤ → ℕ → ℤ
row_product n a b c j = wrap (at c j +ℤ sum_below (length a) (λ l. at a l *ℤ at b (l * n + j)))
