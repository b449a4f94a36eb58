-- How a count of faults, or of mismatches, goes over a call.
use Rattle.std.specs.Prelude.{◌≡◌, ℕ, ◌+◌, ◌-◌, ◌^◌, ◌≤◌, min, Bool, if◌then◌else◌}

-- the last value of a count that is kept as a u64, where it stays
abbrev pub last_count : ℕ
last_count = 2 ^ 64 - 1

-- a count of n, and one more
abbrev pub one_more : ℕ → ℕ
one_more n = min (n + 1) last_count

-- a count over one call: one more where what it counts came, and else as it was
abbrev pub counted : ℕ → Bool → ℕ
counted n came = if came then one_more n else n

-- the count rose: it is greater, unless it stood at its last value and stands there
abbrev pub Rose : ℕ → ℕ → Type 0
Rose old new = new ≤ old → (old ≡ last_count) × (new ≡ last_count)

-- a count over a call: it never falls, and what it counts came only where it rose
pub record Counts (old new : ℕ) (came : Type 0) : Type 0 where
  pub never_falls : old ≤ new
  pub only_where_it_rose : came → Rose old new
