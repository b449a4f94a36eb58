-- What is true of every set of disks, of its parts.
use Rattle.std.specs.Prelude.{◌≡◌, ℕ, ◌^◌, ◌<◌, ◌≤◌, List, length, map, Option, Some, slice_get}
use Rattle.std.specs.List.{slice_index_or}
use Rattle.sj_edge.specs.Held.{Fills}
use Rattle.sj_disk.specs.declared.directory.Extent.{Extent}
use Rattle.sj_disk.specs.Directory.{IsLaidOut}
use Rattle.sj_disk.specs.Holding.{HaveHeaders}

-- where a disk tells its bytes, it tells as many as it has
abbrev pub AreFilled : {D : Type 0} → (D → ℕ) → (D → Option (List ℕ)) → List D → Type 0
AreFilled {D} size held disks = (k : ℕ) (x : D) → slice_get disks k ≡ Some x → Fills (held x) (size x)

pub record AreSoundDisks {D : Type 0} (size : D → ℕ) (held : D → Option (List ℕ)) (disks : List D) (sizes taken : List ℕ) (directory : List (Option Extent)) : Type 0 where
  pub few : length disks ≤ 16
  pub sized : sizes ≡ map size disks
  pub bounded : (k : ℕ) → slice_index_or sizes k 0 < 2 ^ 64
  pub filled : AreFilled size held disks
  pub laid_out : IsLaidOut sizes taken directory
  pub headers : HaveHeaders held disks directory
