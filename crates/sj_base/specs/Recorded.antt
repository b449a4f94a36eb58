-- A trace as contracts see it: its events in order, and for how many more it has room.
use Rattle.std.specs.Prelude.{ℕ, List}
use Rattle.sj_base.specs.declared.trace.Event.{Event}

pub record Recorded : Type 0 where
  pub events : List Event
  pub spare : ℕ

abbrev pub recorded : List Event → ℕ → Recorded
recorded es n = record { events = es; spare = n }
