-- What the disks of a set hold, and how a store or a fetch changes them. The function `held` is the
-- member of that name of the disks' type.
use Rattle.std.specs.Prelude.{◌≡◌, ◌≢◌, ℕ, ◌+◌, ◌≤◌, List, length, Option, Some, IsSome, IsTrue, slice_get, map}
use Rattle.sj_edge.specs.Held.{GivesHeld}
use Rattle.sj_disk.specs.declared.directory.Extent.{Extent}
use Rattle.sj_disk.specs.declared.directory.LastStore.{LastStore}
use Rattle.sj_disk.specs.Block.{block_bytes, header, header_bytes}
use Rattle.sj_disk.specs.Directory.{extent_of}

-- of the disks that at place d alone changed, and P says how
pub record ChangesAt {D : Type 0} (d : ℕ) (P : D → D → Type 0) (old new : List D) : Type 0 where
  pub as_many : length new ≡ length old
  pub others_stay : (k : ℕ) → k ≢ d → slice_get new k ≡ slice_get old k
  pub there : (x y : D) → slice_get old d ≡ Some x → slice_get new d ≡ Some y → P x y

-- where the disk of an extent tells its bytes, these stand at its position
abbrev pub Holds : {D : Type 0} → (D → Option (List ℕ)) → List D → Extent → List ℕ → Type 0
Holds {D} held disks e bytes = (x : D) → slice_get disks e.disk.0 ≡ Some x → GivesHeld (held x) e.position bytes

-- the disk of an extent tells its bytes
abbrev pub TellsBytes : {D : Type 0} → (D → Option (List ℕ)) → List D → Extent → Type 0
TellsBytes {D} held disks e = (x : D) → slice_get disks e.disk.0 ≡ Some x → IsSome (held x)

-- the block of so many elements in an extent lies within its disk
abbrev pub IsInside : {D : Type 0} → (D → ℕ) → List D → Extent → ℕ → Type 0
IsInside {D} size disks e n = (x : D) → slice_get disks e.disk.0 ≡ Some x → e.position + block_bytes n ≤ size x

-- what stands in the block of an extent still stands there
abbrev pub KeepsBlock : {D : Type 0} → (D → Option (List ℕ)) → Extent → List D → List D → Type 0
KeepsBlock held e old new =
    (bytes : List ℕ) → length bytes ≡ block_bytes e.length → Holds held old e bytes → Holds held new e bytes

-- both counts of each disk are as they were
abbrev pub CountsStay : {D : Type 0} → (D → ℕ) → (D → ℕ) → List D → List D → Type 0
CountsStay faults mismatches old new = (map faults new ≡ map faults old) × (map mismatches new ≡ map mismatches old)

-- a cell whose last store ended well has its header there
abbrev pub HaveHeaders : {D : Type 0} → (D → Option (List ℕ)) → List D → List (Option Extent) → Type 0
HaveHeaders held disks directory =
    (c : ℕ) (e : Extent) (s : LastStore) → extent_of directory c ≡ Some e → e.last_store ≡ Some s
    → IsTrue s.ended_ok → Holds held disks e (header_bytes (header c s.writes e.length))
