-- Tables: lists whose rows are read and written by number.
use Rattle.std.specs.Prelude.{ℕ, List, map}
use Rattle.std.specs.List.{enumerate_from}

-- the table in which each row is f of its number and of the row before
abbrev pub renewed : {X : Type 0} → (ℕ → X → X) → List X → List X
renewed f xs = map (λ row. f row.0 row.1) (enumerate_from 0 xs)
