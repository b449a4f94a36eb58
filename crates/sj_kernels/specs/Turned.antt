-- A transposed matrix, some columns at a time.
use Rattle.std.specs.Prelude.{ℕ, ◌+◌, ◌*◌, ◌/◌, ◌%◌, ℤ, List, if◌then◌else◌}
use Rattle.sj_base.specs.Array.{at}
use Rattle.sj_base.specs.Window.{is_within}

-- the element at a position of the transposed matrix, which has m columns, of a matrix with n columns
abbrev pub turned : ℕ → ℕ → List ℤ → ℕ → ℤ
turned m n a p = at a (p % m * n + p / m)

-- the same in some columns alone; b stays in the others
abbrev pub turned_within : ℕ → ℕ → ℕ → ℕ → List ℤ → List ℤ → ℕ → ℤ
turned_within first len m n a b p = if is_within (p % m) first len then turned m n a p else at b p
