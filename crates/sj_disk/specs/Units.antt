-- A disk in a worker's hand, with the block of one cell on it. The four functions are the members
-- `size`, `faults`, `mismatches` and `held` of the disks' type.
use Rattle.std.specs.Prelude.{◌≡◌, ℕ, ℤ, ◌+◌, ◌^◌, ◌<◌, ◌≤◌, false, List, length, Option, Some, IsSome, IfErr, IsTrue, OnOk, Result, All, FitsSigned, is_ok}
use Rattle.std.specs.Int.{w64}
use Rattle.sj_base.specs.declared.ids.Cell.{Cell}
use Rattle.sj_edge.specs.GivenBack.{IsGivenBack}
use Rattle.sj_edge.specs.Held.{Fills, GivesHeld, HoldsAnyIn}
use Rattle.sj_disk.specs.declared.directory.Extent.{Extent}
use Rattle.sj_disk.specs.declared.directory.LastStore.{LastStore}
use Rattle.sj_disk.specs.declared.refusal.DiskRefusal.{DiskRefusal}
use Rattle.sj_disk.specs.declared.refusal.DiskRefusal.TheVariants.{DiskFault}
use Rattle.sj_disk.specs.Block.{block, block_bytes, header, header_bytes}
use Rattle.sj_disk.specs.Directory.{with_store}
use Rattle.sj_disk.specs.Refusals.{is_damage, is_fault, RefusesFor}
use Rattle.sj_disk.specs.Transfers.{Looks, Writes}

-- what contracts see of a unit: the disk, the cell whose block may be used, and its extent
pub record UnitState (D : Type 0) : Type 0 where
  pub disk : D
  pub cell : Cell
  pub extent : Extent

abbrev pub unit_state : {D : Type 0} → D → Cell → Extent → UnitState D
unit_state disk cell extent = record { disk = disk; cell = cell; extent = extent }

-- the block lies in the disk, and where its last store ended well its header stands there
pub record IsSoundUnit {D : Type 0} (size : D → ℕ) (held : D → Option (List ℕ)) (u : UnitState D) : Type 0 where
  pub inside : u.extent.position + block_bytes u.extent.length ≤ size u.disk
  pub fits : u.extent.position + block_bytes u.extent.length < 2 ^ 64
  pub filled : Fills (held u.disk) (size u.disk)
  pub headed :
      (s : LastStore) → u.extent.last_store ≡ Some s → IsTrue s.ended_ok
      → GivesHeld (held u.disk) u.extent.position (header_bytes (header u.cell.0 s.writes u.extent.length))

-- ---- what is done with a unit

-- no byte beside the block changed, and the disk would be given back
pub record IsWorkedOn {D : Type 0} (size faults mismatches : D → ℕ) (held : D → Option (List ℕ)) (old new : UnitState D) : Type 0 where
  pub cell_stays : new.cell ≡ old.cell
  pub disk_number_stays : new.extent.disk ≡ old.extent.disk
  pub position_stays : new.extent.position ≡ old.extent.position
  pub length_stays : new.extent.length ≡ old.extent.length
  pub disk_is_given_back : IsGivenBack size faults mismatches held old.disk new.disk
  pub changes_no_byte_outside : HoldsAnyIn old.extent.position (block_bytes old.extent.length) (held old.disk) (held new.disk)

-- a store of these elements, with the cell's write count
pub record UnitStores {D A : Type 0} (size faults mismatches : D → ℕ) (held : D → Option (List ℕ)) (writes : ℕ) (xs : List ℤ) (result : Result A DiskRefusal) (old new : UnitState D) : Type 0 where
  pub fills_the_block : length xs ≡ old.extent.length
  pub writes_the_block : Writes size faults mismatches held old.extent.position (block old.cell.0 writes xs) result old.disk new.disk
  pub holds_the_block_where_it_ended_well : OnOk result (GivesHeld (held new.disk) old.extent.position (block old.cell.0 writes xs))
  pub notes_how_it_ended : new.extent ≡ with_store old.extent writes (is_ok result)
  pub refused_by_its_disk : IfErr result (λ r. r ≡ DiskFault old.extent.disk)
  pub is_worked_on : IsWorkedOn size faults mismatches held old new

-- a fetch of the cell that was written so often, whose elements were then xs
pub record UnitFetches {D A : Type 0} (size faults mismatches : D → ℕ) (held : D → Option (List ℕ)) (writes : ℕ) (xs : List ℤ) (result : Result A DiskRefusal) (old new : UnitState D) : Type 0 where
  pub looks_at_its_disk : Looks size faults mismatches held (is_fault result) (is_damage result) old.disk new.disk
  pub gives_what_is_held : OnOk result (GivesHeld (held old.disk) old.extent.position (block old.cell.0 writes xs))
  pub gives_what_was_stored :
      OnOk result ((ys : List ℤ) → All (FitsSigned w64) ys → length ys ≡ old.extent.length → IsSome (held old.disk) → GivesHeld (held old.disk) old.extent.position (block old.cell.0 writes ys) → xs ≡ ys)
  pub extent_stays : new.extent ≡ old.extent
  pub refused_by_its_disk : RefusesFor old.extent.disk (header old.cell.0 writes old.extent.length) result
  pub undamaged_where_it_tells : IsSome (held old.disk) → is_damage result ≡ false
  pub is_worked_on : IsWorkedOn size faults mismatches held old new
