-- The disks that were handed in, as the call found and left them.
use Rattle.std.specs.Prelude.{◌<◌, ℕ, List, length}
use Rattle.std.specs.List.{slice_index_or}
use Rattle.sj_edge.specs.Faults.{Rose}

-- the count of disk d rose
pub record RoseAt (d : ℕ) (old new : List ℕ) : Type 0 where
  pub is_disk : d < length old
  pub count_rose : Rose (slice_index_or old d 0) (slice_index_or new d 0)

-- no count rose
abbrev pub NoneRose : List ℕ → List ℕ → Type 0
NoneRose old new = (d : ℕ) → ¬ RoseAt d old new
