-- What is true of every run between two calls.
use Rattle.std.specs.Prelude.{◌≡◌, ◌+◌, ◌*◌, ◌≤◌, Bool, ℕ, All, FitsSigned, length, Option, true, Some, IsTrue, IfSome, IsSomeAnd, List, slice_get, option_and_then}
use Rattle.std.specs.Int.{w64}
use Rattle.sj_base.specs.declared.ids.Cell.{Cell}
use Rattle.sj_base.specs.declared.ids.DiskNo.{DiskNo}
use Rattle.sj_base.specs.declared.ids.Worker.{Worker}
use Rattle.sj_base.specs.declared.ids.Place.{Place}
use Rattle.sj_base.specs.declared.ids.Place.TheVariants.{Disk as OnDisk}
use Rattle.sj_base.specs.declared.program.Program.{Program}
use Rattle.sj_base.specs.declared.program.Machine.{Machine}
use Rattle.sj_base.specs.Array.{Array, area}
use Rattle.sj_codelet.specs.declared.kernel.Kernel.{Kernel}
use Rattle.sj_codelet.specs.Kernel.{Equations}
use Rattle.sj_core.specs.Arrays.{Arrays, HoldsContent}
use Rattle.sj_core.specs.Bound.{operands}
use Rattle.sj_core.specs.Coherent.{Coherent}
use Rattle.sj_core.specs.Laws.{IsLawful}
use Rattle.sj_core.specs.Legal.{IsLegal}
use Rattle.sj_core.specs.Machine.{State, transfer, writes}
use Rattle.sj_core.specs.Needs.{Block, place}
use Rattle.sj_core.specs.Program.{dims_of}
use Rattle.sj_core.specs.Proper.{HasSwapFor, IsMachineFor, Proper}
use Rattle.sj_core.specs.Step.{has_copy}
use Rattle.sj_edge.specs.GivenBack.{AreGivenBack}
use Rattle.sj_disk.specs.declared.directory.Extent.{Extent}
use Rattle.sj_disk.specs.Block.{block}
use Rattle.sj_disk.specs.Directory.{DiskState, extent_of, last_store}
use Rattle.sj_disk.specs.Holding.{Holds}
use Rattle.sj_machine.specs.Rows.{Rows}
use Rattle.sj_board.specs.Standing.{AllTell, StandingBy, run_arrays, state}
use Rattle.sj_board.specs.Tiles.{HasTiles}

-- ---- the disks

-- the block that the cell gets on the machine's disks
abbrev pub block_of : Program → Machine → Cell → Option Block
block_of p m c = option_and_then (λ blocks. slice_get blocks c.0) (place p m.disks)

-- the extent is that block, of the cell's elements
pub record IsBlock (p : Program) (c : Cell) (b : Block) (e : Extent) : Type 0 where
  pub disk : e.disk ≡ b.disk
  pub position : e.position ≡ b.position
  pub whole : e.length ≡ area (dims_of p c)

-- where all disks tell: the block holds the cell's array at the disk, with its dimensions, in 64 bits each
pub record HoldsArray {D : Type 0} (held : D → Option (List ℕ)) (disks : List D) (p : Program) (s : State) (A : Arrays) (c : Cell) (q : Place) (e : Extent) : Type 0 where
  pub dims : (A c q).dims ≡ dims_of p c
  pub whole : length (A c q).elements ≡ e.length
  pub fits : All (FitsSigned w64) (A c q).elements
  pub told : Holds held disks e (block c.0 (writes s c) (A c q).elements)

-- the last store of the cell ended well, with the cell's write count
pub record IsStored (s : State) (c : Cell) (e : Extent) : Type 0 where
  pub last : e.last_store ≡ Some (last_store (writes s c) true)

-- each cell has its block, and where a disk has a copy of it the last store ended well with the cell's write count;
-- what the block holds is said where all disks tell
pub record HoldsBlocks {D : Type 0} (held : D → Option (List ℕ)) (p : Program) (m : Machine) (s : State) (A : Arrays) (Tells : Type 0) (disks : DiskState D) : Type 0 where
  pub placed : (c : Cell) → IfSome (block_of p m c) (λ b. IsSomeAnd (extent_of disks.directory c.0) (IsBlock p c b))
  pub stored : (c : Cell) (d : DiskNo) → IsTrue (has_copy p m s c (OnDisk d)) → IsSomeAnd (extent_of disks.directory c.0) (IsStored s c)
  pub blocks :
      Tells → (c : Cell) (d : DiskNo) → IsTrue (has_copy p m s c (OnDisk d))
      → IsSomeAnd (extent_of disks.directory c.0) (HoldsArray held disks.disks p s A c (OnDisk d))

-- ---- all of it

-- the program is proper, with codelets of a set that obeys the laws of a set by these equations, and the machine is one for
-- it, with room for its blocks
pub record IsRunnableOn (eq : Equations) (p : Program) (m : Machine) : Type 0 where
  pub proper : Proper p
  pub has : Kernel → Bool
  pub lawful : IsLawful eq has p
  pub machine : IsMachineFor p m
  pub swap : HasSwapFor p m

-- the trace is legal and its state coherent, its arrays are what the tasks leave, the disks hold their blocks, and came back
-- from each call
pub record IsSoundRun {D : Type 0} {eq : Equations} (size faults mismatches : D → ℕ) (held : D → Option (List ℕ)) (b : StandingBy eq D) : Type 0 where
  pub run : IsRunnableOn eq b.program b.machine
  pub legal : IsLegal b.program b.machine b.trace
  pub coherent : Coherent b.program b.machine (state b)
  pub content : HoldsContent eq b.program b.machine (state b) (run_arrays b)
  pub blocks : HoldsBlocks held b.program b.machine (state b) (run_arrays b) (AllTell held b) b.disks
  pub given_back : AreGivenBack size faults mismatches held b.opened b.disks.disks

-- the rows of the run
abbrev pub rows_of : {D : Type 0} {eq : Equations} → StandingBy eq D → Rows
rows_of b = record { program = b.program; machine = b.machine; state = state b }

-- how many events a run of the program has at most
abbrev pub most_events : Program → ℕ
most_events p = 3 * length p.tasks + 5 * operands p

-- the run is sound, the rows are those of its state, its tiles are there, and the trace has room for all events that are to
-- come
pub record Keeps {D : Type 0} {eq : Equations} (size faults mismatches : D → ℕ) (held : D → Option (List ℕ)) (b : StandingBy eq D) (r : Rows) (places : List (List (Option Array))) (spare : ℕ) : Type 0 where
  pub sound : IsSoundRun size faults mismatches held b
  pub rows : r ≡ rows_of b
  pub tiles : HasTiles b.program b.machine (state b) (run_arrays b) (AllTell held b) places
  pub room : most_events b.program ≤ length b.trace + spare

-- a run of the program can be made on the machine with these disks: each cell has its block
pub record CanStart {D : Type 0} (eq : Equations) (p : Program) (m : Machine) (disks : DiskState D) : Type 0 where
  pub run : IsRunnableOn eq p m
  pub placed : (c : Cell) → IfSome (block_of p m c) (λ b. IsSomeAnd (extent_of disks.directory c.0) (IsBlock p c b))

-- ---- disk transfers

-- the last store of the cell ended well, and is its array at a place
pub record IsBlockCopyOf {D : Type 0} {eq : Equations} (held : D → Option (List ℕ)) (b : StandingBy eq D) (c : Cell) (q : Place) (e : Extent) : Type 0 where
  pub last : IsStored (state b) c e
  pub array : AllTell held b → HoldsArray held b.disks.disks b.program (state b) (run_arrays b) c q e

-- the block of the cell of the worker's transfer is what stands at its source
abbrev pub IsWrittenOut : {D : Type 0} {eq : Equations} → (D → Option (List ℕ)) → StandingBy eq D → Worker → Type 0
IsWrittenOut held b w = IfSome (transfer (state b) w) (λ x. IsSomeAnd (extent_of b.disks.directory x.cell.0) (IsBlockCopyOf held b x.cell x.from))

-- no event has happened: the disks alone may have changed
abbrev pub OnlyDisksChange : {D : Type 0} {eq : Equations} → StandingBy eq D → StandingBy eq D → Type 0
OnlyDisksChange old new = new ≡ record old { disks = new.disks; out = new.out }
