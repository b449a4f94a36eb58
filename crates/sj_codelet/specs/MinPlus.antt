-- Min-plus arithmetic: the lesser of two numbers, and a sum in which `inf` absorbs.
use Rattle.std.specs.Prelude.{ℕ, zero, suc, Bool, ◌||◌, ℤ, pos, negsuc, ◌+ℤ◌, if◌then◌else◌}
use Rattle.std.specs.Int.{int_min, int_max}
use Rattle.std.specs.Int.RustNames.{int_le}

-- no way: the greatest i64
abbrev pub inf : ℤ
inf = pos 9223372036854775807

-- the greatest number that isn't `inf`
abbrev pub greatest : ℤ
greatest = pos 9223372036854775806

-- the least i64
abbrev pub least : ℤ
least = negsuc 9223372036854775807

-- of an i64: that it is `inf`
abbrev pub is_inf : ℤ → Bool
is_inf a = int_le inf a

-- the sum of min-plus: `inf` with `inf`, else the exact sum, kept between the least i64 and the greatest below `inf`
abbrev pub plus : ℤ → ℤ → ℤ
plus a b = if is_inf a || is_inf b then inf else int_max least (int_min greatest (a +ℤ b))

-- the least of z, f 0, .., f (n - 1)
abbrev pub least_below : ℕ → ℤ → (ℕ → ℤ) → ℤ
least_below zero z f = z
least_below (suc n) z f = int_min (least_below n z f) (f n)
