-- A set of disks that lends them: each disk is in, or out in a worker's hand. The four functions are
-- the members `size`, `faults`, `mismatches` and `held` of the disks' type.
use Rattle.std.specs.Prelude.{◌≡◌, ℕ, ℤ, Bool, true, false, List, Option, Some, IsSomeAnd, IfSome, Result, slice_get}
use Rattle.std.specs.List.{slice_set}
use Rattle.sj_base.specs.declared.ids.Cell.{Cell}
use Rattle.sj_disk.specs.declared.refusal.DiskRefusal.{DiskRefusal}
use Rattle.sj_disk.specs.Calls.{Fetches, Stores}
use Rattle.sj_disk.specs.Directory.{DiskState, extent_of}
use Rattle.sj_disk.specs.Rack.{is_out}
use Rattle.sj_disk.specs.Units.{IsWorkedOn, UnitFetches, UnitState, UnitStores}

-- what contracts see of it: the set of disks, and for each disk whether it is out. A disk that is out,
-- and the extents on it, are as they were when it was taken out
pub record LendingState (D : Type 0) : Type 0 where
  pub set : DiskState D
  pub out : List Bool

abbrev pub lending : {D : Type 0} → DiskState D → List Bool → LendingState D
lending set out = record { set = set; out = out }

-- no disk is out
abbrev pub NoneIsOut : {D : Type 0} → LendingState D → Type 0
NoneIsOut s = (d : ℕ) → is_out s.out d ≡ false

-- the disk on which the block of this cell lies is in
abbrev pub IsInFor : {D : Type 0} → LendingState D → ℕ → Type 0
IsInFor s c = IfSome (extent_of s.set.directory c) (λ e. is_out s.out e.disk.0 ≡ false)

-- the disk on which the block of this cell lies is out
abbrev pub IsOutFor : {D : Type 0} → LendingState D → ℕ → Type 0
IsOutFor s c = IsSomeAnd (extent_of s.set.directory c) (λ e. is_out s.out e.disk.0 ≡ true)

-- the unit's disk is out, and the unit is as it was taken out
pub record IsTaken {D : Type 0} (s : LendingState D) (u : UnitState D) : Type 0 where
  pub its_extent : extent_of s.set.directory u.cell.0 ≡ Some u.extent
  pub its_disk : slice_get s.set.disks u.extent.disk.0 ≡ Some u.disk
  pub its_disk_is_out : is_out s.out u.extent.disk.0 ≡ true

-- the unit of this cell, whose disk was in, was taken out, and nothing else changed
pub record TakesOut {D : Type 0} (c : Cell) (u : UnitState D) (old new : LendingState D) : Type 0 where
  pub of_the_cell : u.cell ≡ c
  pub was_in : is_out old.out u.extent.disk.0 ≡ false
  pub taken : IsTaken new u
  pub nothing_else : new ≡ record old { out = slice_set old.out u.extent.disk.0 true }

-- the unit was taken out of the set, and worked on since
pub record ComesFrom {D : Type 0} (size faults mismatches : D → ℕ) (held : D → Option (List ℕ)) (s : LendingState D) (u : UnitState D) : Type 0 where
  pub before : UnitState D
  pub taken : IsTaken s before
  pub worked : IsWorkedOn size faults mismatches held before u

-- the set with the unit in its place again
abbrev pub has_back : {D : Type 0} → LendingState D → UnitState D → LendingState D
has_back s u = record {
  set = record s.set { disks = slice_set s.set.disks u.extent.disk.0 u.disk; directory = slice_set s.set.directory u.cell.0 (Some u.extent) };
  out = slice_set s.out u.extent.disk.0 false;
}

-- what a store did through the unit, from when it was taken out, the set has now done
abbrev pub HasStored : {D : Type 0} → (D → ℕ) → (D → ℕ) → (D → ℕ) → (D → Option (List ℕ)) → UnitState D → LendingState D → LendingState D → Type 0
HasStored {D} size faults mismatches held u old new =
    (before : UnitState D) (writes : ℕ) (xs : List ℤ) (result : Result (Unit {0}) DiskRefusal) → IsTaken old before
    → UnitStores size faults mismatches held writes xs result before u
    → Stores size faults mismatches held before.cell.0 writes xs result old.set new.set before.extent

-- what a fetch did through the unit, from when it was taken out, the set has now done
abbrev pub HasFetched : {D : Type 0} → (D → ℕ) → (D → ℕ) → (D → ℕ) → (D → Option (List ℕ)) → UnitState D → LendingState D → LendingState D → Type 0
HasFetched {D} size faults mismatches held u old new =
    (before : UnitState D) (writes : ℕ) (xs : List ℤ) (result : Result (Unit {0}) DiskRefusal) → IsTaken old before
    → UnitFetches size faults mismatches held writes xs result before u
    → Fetches size faults mismatches held before.cell.0 writes xs result old.set new.set before.extent
