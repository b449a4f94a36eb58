-- Places on several disks, each from its first byte on.
use Rattle.std.specs.Prelude.{ℕ, ◌+◌, nat_le, Option, List}
use Rattle.std.specs.List.{zip, position}

-- the first disk that has so many bytes beside those already taken on it
abbrev pub first_fit : List ℕ → List ℕ → ℕ → Option ℕ
first_fit sizes taken need = position (λ d. nat_le (d.1 + need) d.0) (zip sizes taken)
