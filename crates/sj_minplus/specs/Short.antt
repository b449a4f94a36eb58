-- Numbers whose sums of min-plus need no clamp, and numbers that are held 2^63 lower, where no sum of two is too great.
use Rattle.std.specs.Prelude.{◌≡◌, ◌⊎◌, ℤ, pos, ◌-ℤ◌, ◌≤ℤ◌, ◌<ℤ◌}
use Rattle.sj_codelet.specs.MinPlus.{inf, least}

-- `inf`, or from 0 below 2^62: the sum of two that aren't `inf` is below `inf`
pub record IsShort (z : ℤ) : Type 0 where
  pub start : pos 0 ≤ℤ z
  pub stop : (z ≡ inf) ⊎ (z <ℤ pos 4611686018427387904)

abbrev pub NotNegative : ℤ → Type 0
NotNegative z = pos 0 ≤ℤ z

abbrev pub IsNegative : ℤ → Type 0
IsNegative z = z <ℤ pos 0

-- the number that is held 2^63 lower as z
abbrev pub raised : ℤ → ℤ
raised z = z -ℤ least
