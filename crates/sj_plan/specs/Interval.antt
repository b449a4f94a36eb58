-- Intervals of indices, and how items are split into parts, one after another.
use Rattle.std.specs.Prelude.{ℕ, zero, suc, ◌+◌, ◌-◌, ◌/◌, ◌%◌, ◌<◌, ◌≤◌, min, max, nat_lt, if◌then◌else◌}
use Rattle.std.specs.List.{count_by, range_with_len, sum_by}
use Rattle.sj_plan.specs.declared.interval.Interval.{Interval}

-- x is an index of the interval
abbrev pub Lies : ℕ → Interval → Type 0
Lies x v = (v.first ≤ x) × (x < v.first + v.len)

-- how many of n items part k of p has: the first `n % p` parts have one more than the others
abbrev pub part_len : ℕ → ℕ → ℕ → ℕ
part_len n p k = if nat_lt k (n % p) then n / p + 1 else n / p

-- the first index of part k: each part begins where the one before it ends
abbrev pub part_first : ℕ → ℕ → ℕ → ℕ
part_first n p zero = 0
part_first n p (suc k) = part_first n p k + part_len n p k

-- part k of n items that are split into p parts
abbrev pub part : ℕ → ℕ → ℕ → Interval
part n p k = record { first = part_first n p k; len = part_len n p k }

-- the indices that two intervals share, none where they have none in common
abbrev pub overlap : Interval → Interval → Interval
overlap a b =
    let first = max a.first b.first in
    record { first = first; len = min (a.first + a.len) (b.first + b.len) - first }

-- how many of p parts of n items share an index with an interval
abbrev pub meeting : ℕ → ℕ → Interval → ℕ
meeting n p v = count_by (λ k. nat_lt 0 (overlap (part n p k) v).len) (range_with_len 0 p)

-- how many pairs of one of p parts and one of q parts share an index
abbrev pub meetings : ℕ → ℕ → ℕ → ℕ
meetings n p q = sum_by (λ k. meeting n p (part n q k)) (range_with_len 0 q)
