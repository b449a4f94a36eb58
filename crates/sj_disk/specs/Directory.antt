-- Where each cell's block lies, and what was last stored there.
use Rattle.std.specs.Prelude.{◌≡◌, ◌≢◌, ℕ, ◌+◌, ◌<◌, ◌≤◌, ◌⊎◌, Bool, Option, Some, None, List, length}
use Rattle.std.specs.List.{slice_index_or, position}
pub use Rattle.sj_base.specs.FirstFit.{first_fit}
use Rattle.sj_disk.specs.declared.directory.Extent.{Extent}
use Rattle.sj_disk.specs.declared.directory.LastStore.{LastStore}
use Rattle.sj_disk.specs.Block.{block_bytes}

-- what contracts see of a set of disks: the disks, how many bytes of each are given to blocks, and
-- the extent of each cell by its number
pub record DiskState (D : Type 0) : Type 0 where
  pub disks : List D
  pub taken : List ℕ
  pub directory : List (Option Extent)

abbrev pub disk_state : {D : Type 0} → List D → List ℕ → List (Option Extent) → DiskState D
disk_state disks taken directory = record { disks = disks; taken = taken; directory = directory }

-- the extent of the cell with this number, where it has one
abbrev pub extent_of : List (Option Extent) → ℕ → Option Extent
extent_of directory c = slice_index_or directory c None

-- the extent behind what is taken of a disk, with nothing stored there
abbrev pub extent_at : ℕ → ℕ → ℕ → Extent
extent_at d position n = record { disk = record { 0 = d }; position = position; length = n; last_store = None }

abbrev pub last_store : ℕ → Bool → LastStore
last_store writes ended_ok = record { writes = writes; ended_ok = ended_ok }

-- the extent after a store
abbrev pub with_store : Extent → ℕ → Bool → Extent
with_store e writes ended_ok = record { disk = e.disk; position = e.position; length = e.length; last_store = Some (last_store writes ended_ok) }

-- neither block reaches into the other
abbrev pub AreApart : Extent → Extent → Type 0
AreApart e f = (e.position + block_bytes e.length ≤ f.position) ⊎ (f.position + block_bytes f.length ≤ e.position)

-- each block lies on one of the disks of these sizes, in what is taken there, and apart from the others
pub record IsLaidOut (sizes taken : List ℕ) (directory : List (Option Extent)) : Type 0 where
  pub as_many : length taken ≡ length sizes
  pub within : (d : ℕ) → slice_index_or taken d 0 ≤ slice_index_or sizes d 0
  pub on_a_disk : (c : ℕ) (e : Extent) → extent_of directory c ≡ Some e → e.disk.0 < length sizes
  pub inside :
      (c : ℕ) (e : Extent) → extent_of directory c ≡ Some e
      → e.position + block_bytes e.length ≤ slice_index_or taken e.disk.0 0
  pub apart :
      (b c : ℕ) (e f : Extent) → b ≢ c → extent_of directory b ≡ Some e → extent_of directory c ≡ Some f
      → e.disk ≡ f.disk → AreApart e f
