-- The bytes that a disk holds, where it tells them.
use Rattle.std.specs.Prelude.{◌≡◌, ℕ, ◌+◌, List, ◌++◌, length, take, drop, slice_range, Option, IfSome, option_map}

-- where they are told, there are n bytes
abbrev pub Fills : Option (List ℕ) → ℕ → Type 0
Fills held n = IfSome held (λ xs. length xs ≡ n)

-- where the held bytes are told, `got` is those from `at` on
abbrev pub GivesHeld : Option (List ℕ) → ℕ → List ℕ → Type 0
GivesHeld held at got = IfSome held (λ xs. got ≡ slice_range xs at (at + length got))

-- xs with zs in place of the bytes from `at` on
abbrev pub written : ℕ → List ℕ → List ℕ → List ℕ
written at zs xs = take at xs ++ zs ++ drop (at + length zs) xs

-- the n bytes from `at` on may be any now, and the others are as they were
abbrev pub HoldsAnyIn : ℕ → ℕ → Option (List ℕ) → Option (List ℕ) → Type 0
HoldsAnyIn at n old new = (zs : List ℕ) × (length zs ≡ n) × (new ≡ option_map (written at zs) old)
