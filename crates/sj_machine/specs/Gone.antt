-- How many of each worker's victims are gone, of those that go first.
use Rattle.std.specs.Prelude.{ℕ, not, IsTrue, List, reverse, slice_index_or, take}
use Rattle.std.specs.List.{list_all}
use Rattle.sj_base.specs.declared.ids.Cell.{Cell}
use Rattle.sj_base.specs.declared.ids.Node.{Node}
use Rattle.sj_base.specs.declared.ids.Worker.{Worker}
use Rattle.sj_base.specs.declared.program.Machine.{Machine}
use Rattle.sj_core.specs.Machine.{State, is_gone, victims_of}
use Rattle.sj_machine.specs.Choosing.{leaves_in}
use Rattle.sj_replica.specs.Replica.{CellState}

-- in the rows: of the victims that go first, so many don't leave any more
abbrev pub AreGoneIn : List CellState → Node → Worker → List Cell → ℕ → Type 0
AreGoneIn rows n w victims count = IsTrue (list_all (λ c. not (leaves_in rows n w c)) (take count (reverse victims)))

-- so many of the worker's victims are gone, those that go first
abbrev pub AreGone : Machine → State → Worker → ℕ → Type 0
AreGone m s w count = IsTrue (list_all (is_gone m s w) (take count (reverse (victims_of s w))))

-- of each worker's victims so many are gone, those that go first; where no count is given, none is said to be
abbrev pub KnownGone : Machine → State → List ℕ → Type 0
KnownGone m s counts = (w : Worker) → AreGone m s w (slice_index_or counts w.0 0)
