-- Blocks of cells on disks by first fit.
use Rattle.std.specs.Prelude.{◌≡◌, ℕ, Option, List, [], IfSome, IsSomeAnd, length, replicate}
use Rattle.sj_base.specs.declared.ids.Cell.{Cell}
use Rattle.sj_base.specs.declared.ids.DiskNo.{DiskNo}
use Rattle.sj_base.specs.declared.program.Program.{Program}
use Rattle.sj_base.specs.declared.program.Machine.{Machine}
use Rattle.sj_disk.specs.Calls.{Reserves}
use Rattle.sj_disk.specs.Directory.{DiskState, extent_of}
use Rattle.sj_disk.specs.declared.directory.Extent.{Extent}
use Rattle.sj_board.specs.Sound.{IsBlock, block_of}

-- nothing is reserved on the disks of the set
pub record IsEmptySet {D : Type 0} (set : DiskState D) : Type 0 where
  pub nothing_taken : set.taken ≡ replicate (length set.disks) 0
  pub no_extent : set.directory ≡ []

-- the cell with this number got a block of so many elements
abbrev pub ReservesSome : {D : Type 0} → (D → ℕ) → ℕ → ℕ → DiskState D → DiskState D → Type 0
ReservesSome size c n old new = (d : DiskNo) × Reserves size c n d old new

-- each cell that has a block on the machine's disks by first fit has that block
abbrev pub ArePlaced : Program → Machine → List (Option Extent) → Type 0
ArePlaced p m directory = (c : Cell) → IfSome (block_of p m c) (λ b. IsSomeAnd (extent_of directory c.0) (IsBlock p c b))
