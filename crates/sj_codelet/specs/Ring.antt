-- Ring arithmetic: i64 with wrapping, and exact sums that wrap at the end.
use Rattle.std.specs.Prelude.{ℕ, zero, suc, ℤ, pos, ◌+ℤ◌}
use Rattle.std.specs.Int.{int_wrap, w64}

-- the i64 that is z up to a multiple of 2^64
abbrev pub wrap : ℤ → ℤ
wrap z = int_wrap w64 z

-- the exact sum of f 0, .., f (n - 1)
abbrev pub sum_below : ℕ → (ℕ → ℤ) → ℤ
sum_below zero f = pos 0
sum_below (suc n) f = sum_below n f +ℤ f n
