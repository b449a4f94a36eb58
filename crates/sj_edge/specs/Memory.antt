-- What contracts see of the devices in memory.
use Rattle.std.specs.Prelude.{ℕ, List}
use Rattle.sj_edge.specs.Called.{Called}

-- a source: the bytes left, and its calls
pub record Reading : Type 0 where
  pub left : List ℕ
  pub called : Called

abbrev pub reading_of : List ℕ → Called → Reading
reading_of xs c = record { left = xs; called = c }

-- a sink: the bytes taken, how many more it has room for, and its calls
pub record Writing : Type 0 where
  pub taken : List ℕ
  pub room : ℕ
  pub called : Called

abbrev pub writing : List ℕ → ℕ → Called → Writing
writing xs n c = record { taken = xs; room = n; called = c }

-- a disk: its bytes, the checks that differed, and its calls
pub record Keeping : Type 0 where
  pub bytes : List ℕ
  pub mismatches : ℕ
  pub called : Called

abbrev pub keeping : List ℕ → ℕ → Called → Keeping
keeping xs n c = record { bytes = xs; mismatches = n; called = c }

-- a disk with no faults: its bytes, and the checks that differed
pub record Kept : Type 0 where
  pub bytes : List ℕ
  pub mismatches : ℕ

abbrev pub kept : List ℕ → ℕ → Kept
kept xs n = record { bytes = xs; mismatches = n }
