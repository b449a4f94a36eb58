-- Vectors of eight lanes.
use Rattle.std.specs.Prelude.{◌≡◌, ℤ, List, length, FitsSigned}
use Rattle.std.specs.Int.{w64}
use Rattle.std.specs.List.{All}

-- eight numbers, each an i64
pub record AreLanes (xs : List ℤ) : Type 0 where
  pub long : length xs ≡ 8
  pub fit : All (FitsSigned w64) xs
