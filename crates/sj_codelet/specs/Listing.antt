-- A list given element by element.
use Rattle.std.specs.Prelude.{ℕ, ℤ, List, map}
use Rattle.std.specs.List.{range_with_len}

-- f 0, .., f (n - 1)
unfoldable pub listing : ℕ → (ℕ → ℤ) → List ℤ
listing n f = map f (range_with_len 0 n)
