-- What a run of workers leaves: why it failed, and what the disks hold as they come back.
use Rattle.std.specs.Prelude.{◌≡◌, ◌≢◌, ℕ, Option, Some, List, All, IsSome, IsSomeAnd, IsTrue, slice_get}
use Rattle.sj_base.specs.declared.ids.Cell.{Cell}
use Rattle.sj_base.specs.declared.ids.DiskNo.{DiskNo}
use Rattle.sj_base.specs.declared.ids.Place.TheVariants.{Disk as OnDisk}
use Rattle.sj_base.specs.declared.program.Program.{Program}
use Rattle.sj_base.specs.declared.program.Machine.{Machine}
use Rattle.sj_base.specs.declared.trace.Event.{Event}
use Rattle.sj_codelet.specs.Kernel.{Equations}
use Rattle.sj_core.specs.Arrays.{Arrays, arrays_of}
use Rattle.sj_core.specs.Legal.{state_of}
use Rattle.sj_core.specs.Machine.{State, writes}
use Rattle.sj_core.specs.Needs.{Block}
use Rattle.sj_core.specs.Step.{has_copy}
use Rattle.sj_disk.specs.Block.{block}
use Rattle.sj_edge.specs.Held.{GivesHeld}
use Rattle.sj_board.specs.Cause.{HasRisen}
use Rattle.sj_board.specs.Headers.{IsLastWritten}
use Rattle.sj_board.specs.Sound.{block_of}
use Rattle.sj_board.specs.declared.fault.RunFault.{RunFault}
use Rattle.sj_board.specs.declared.fault.RunFault.TheVariants.{Damaged, DiskFault, OutOfMemory}

-- all disks tell their bytes; the function is the member `held` of their type
abbrev pub AllDisksTell : {D : Type 0} → (D → Option (List ℕ)) → List D → Type 0
AllDisksTell held disks = All (λ x. IsSome (held x)) disks

-- the cause of a fault: the disk's count rose between the disks as they were handed in and as they come back; where it
-- held another header, not all disks tell, and the headers differ. Want of memory has no cause that is told
abbrev pub IsCausedBy : {D : Type 0} → (D → ℕ) → (D → ℕ) → (D → Option (List ℕ)) → List D → List D → RunFault → Type 0
IsCausedBy faults mismatches held old new (DiskFault d) = HasRisen faults old new d.0
IsCausedBy faults mismatches held old new (Damaged d want found) = HasRisen mismatches old new d.0 × (want ≢ found) × ¬ AllDisksTell held old
IsCausedBy faults mismatches held old new OutOfMemory = Unit {0}

-- the header that was wanted of a disk is the one last written there of a cell with a copy on it, in the state that the events
-- leave
abbrev pub WantsLastWritten : Program → Machine → List Event → RunFault → Type 0
WantsLastWritten p m trace (DiskFault d) = Unit {0}
WantsLastWritten p m trace (Damaged d want found) = IsLastWritten p m (state_of p m trace) d want
WantsLastWritten p m trace OutOfMemory = Unit {0}

-- the block has the cell's header and its elements, as the arrays have them on the disk, where that disk tells
abbrev pub HoldsBlockAt : {D : Type 0} → (D → Option (List ℕ)) → List D → State → Arrays → Cell → DiskNo → Block → Type 0
HoldsBlockAt {D} held disks s A c d b =
    (x : D) → slice_get disks b.disk.0 ≡ Some x → GivesHeld (held x) b.position (block c.0 (writes s c) (A c (OnDisk d)).elements)

-- each cell that has a copy on a disk in the state that the events leave has its block in its place there, with its write
-- count and its array, where that disk tells
abbrev pub HoldBlocks : {D : Type 0} → (D → Option (List ℕ)) → Equations → Program → Machine → List Event → List D → Type 0
HoldBlocks held eq p m trace disks =
    (c : Cell) (d : DiskNo) → IsTrue (has_copy p m (state_of p m trace) c (OnDisk d))
    → IsSomeAnd (block_of p m c) (HoldsBlockAt held disks (state_of p m trace) (arrays_of eq p m trace) c d)
