-- Disk units: a worker with a transfer to a disk or from one takes that disk out of the run, with the block of the transfer's
-- cell, works on it while others use the run, and puts it back. The four functions are the members `size`, `faults`, `mismatches`
-- and `held` of the disks' type.
use Rattle.std.specs.Prelude.{◌≡◌, ℕ, ◌⊎◌, true, false, List, length, Option, Some, IfSome, All, FitsSigned, Result}
use Rattle.std.specs.Int.{w64}
use Rattle.std.specs.List.{slice_set}
use Rattle.sj_base.specs.declared.ids.Worker.{Worker}
use Rattle.sj_base.specs.Array.{Array, area}
use Rattle.sj_codelet.specs.Kernel.{Equations}
use Rattle.sj_core.specs.Machine.{transfer, writes}
use Rattle.sj_core.specs.Program.{dims_of}
use Rattle.sj_disk.specs.declared.refusal.DiskRefusal.{DiskRefusal}
use Rattle.sj_disk.specs.Directory.{last_store}
use Rattle.sj_disk.specs.Lending.{IsInFor, IsTaken, LendingState, lending}
use Rattle.sj_disk.specs.Rack.{is_out}
use Rattle.sj_disk.specs.Units.{UnitFetches, UnitState, UnitStores}
use Rattle.sj_board.specs.Standing.{HasDimsMoved, IsFetching, IsMovingOut, IsTileMoved, StandingBy, is_node, state}

-- the run's disks as a set that lends them
abbrev pub lent : {D : Type 0} {eq : Equations} → StandingBy eq D → LendingState D
lent b = lending b.disks b.out

-- ---- the unit of a worker's transfer

-- a disk takes part in the worker's transfer
abbrev pub IsDiskMove : {D : Type 0} {eq : Equations} → StandingBy eq D → Worker → Type 0
IsDiskMove b w = IsMovingOut b w ⊎ IsFetching b w

-- the disk on which the cell of the worker's transfer has its block is in
abbrev pub HasItsDiskIn : {D : Type 0} {eq : Equations} → StandingBy eq D → Worker → Type 0
HasItsDiskIn b w = IfSome (transfer (state b) w) (λ x. IsInFor (lent b) x.cell.0)

-- the unit is that of the cell of the worker's transfer, as it was taken out
pub record IsUnitOf {D : Type 0} {eq : Equations} (b : StandingBy eq D) (w : Worker) (u : UnitState D) : Type 0 where
  pub taken : IsTaken (lent b) u
  pub cell : IfSome (transfer (state b) w) (λ x. u.cell ≡ x.cell)

-- its block is as long as the cell and, where the cell comes from there, was last stored well, with the cell's write count
pub record HasBlockOf {D : Type 0} {eq : Equations} (b : StandingBy eq D) (w : Worker) (u : UnitState D) : Type 0 where
  pub whole : IfSome (transfer (state b) w) (λ x. u.extent.length ≡ area (dims_of b.program x.cell))
  pub stored : IfSome (transfer (state b) w) (λ x. is_node x.from ≡ false → u.extent.last_store ≡ Some (last_store (writes (state b) x.cell) true))

-- the worker's unit was taken out, and nothing else has changed
pub record TakesUnit {D : Type 0} {eq : Equations} (w : Worker) (u : UnitState D) (old new : StandingBy eq D) : Type 0 where
  pub is_its_unit : IsUnitOf new w u
  pub was_in : is_out old.out u.extent.disk.0 ≡ false
  pub nothing_else : new ≡ record old { out = slice_set old.out u.extent.disk.0 true }

-- the array of the worker's transfer was stored through its unit, with this outcome
pub record HasStoredMoved {D A : Type 0} {eq : Equations} (size faults mismatches : D → ℕ) (held : D → Option (List ℕ)) (b : StandingBy eq D) (w : Worker) (u : UnitState D) (result : Result A DiskRefusal) : Type 0 where
  pub before : UnitState D
  pub is_its_unit : IsUnitOf b w before
  pub array : Array
  pub is_moved : IsTileMoved held b w array
  pub fits : All (FitsSigned w64) array.elements
  pub stores : IfSome (transfer (state b) w) (λ x. UnitStores size faults mismatches held (writes (state b) x.cell) array.elements result before u)

-- the elements of this array, which has the dimensions of the transfer's cell, were fetched through the unit, with this outcome
pub record HasFetchedMoved {D A : Type 0} {eq : Equations} (size faults mismatches : D → ℕ) (held : D → Option (List ℕ)) (b : StandingBy eq D) (w : Worker) (u : UnitState D) (result : Result A DiskRefusal) (array : Array) : Type 0 where
  pub before : UnitState D
  pub is_its_unit : IsUnitOf b w before
  pub dims : HasDimsMoved b w array.dims
  pub whole : length array.elements ≡ area array.dims
  pub fetches : IfSome (transfer (state b) w) (λ x. UnitFetches size faults mismatches held (writes (state b) x.cell) array.elements result before u)
