-- A list with room as contracts see it: its items in order, and for how many more it has room.
use Rattle.std.specs.Prelude.{ℕ, List}

pub record Roomed (T : Type 0) : Type 0 where
  pub items : List T
  pub spare : ℕ

abbrev pub roomed : {T : Type 0} → List T → ℕ → Roomed T
roomed xs n = record { items = xs; spare = n }
