-- What a store or a fetch of a board counts, and the fault that its refusal is.
use Rattle.std.specs.Prelude.{◌≡◌, ℕ, Bool, false, nat_eq, Some, List, length, slice_get, Result, Ok, Err}
use Rattle.sj_disk.specs.declared.refusal.DiskRefusal.{DiskRefusal}
use Rattle.sj_disk.specs.declared.refusal.DiskRefusal.TheVariants.{Damaged, DiskFault}
use Rattle.sj_edge.specs.Faults.{counted}
use Rattle.sj_board.specs.declared.fault.RunFault.{RunFault}
use Rattle.sj_board.specs.declared.fault.RunFault.TheVariants.{Damaged as RunDamaged, DiskFault as RunDiskFault}

-- the disk with this number failed
abbrev pub failed_at : {A : Type 0} → Result A DiskRefusal → ℕ → Bool
failed_at (Ok _) k = false
failed_at (Err (DiskFault d)) k = nat_eq d.0 k
failed_at (Err (Damaged d want found)) k = false

-- the disk with this number held another header
abbrev pub differed_at : {A : Type 0} → Result A DiskRefusal → ℕ → Bool
differed_at (Ok _) k = false
differed_at (Err (DiskFault d)) k = false
differed_at (Err (Damaged d want found)) k = nat_eq d.0 k

-- one fault more where the disk failed, and one mismatch more where it differed; else the counts are as they were
pub record CountsFaults {D : Type 0} (faults mismatches : D → ℕ) (failed differed : Bool) (old new : D) : Type 0 where
  pub of_faults : faults new ≡ counted (faults old) failed
  pub of_mismatches : mismatches new ≡ counted (mismatches old) differed

-- each disk has counted what the call answers of it
pub record AreCounted {D A : Type 0} (faults mismatches : D → ℕ) (result : Result A DiskRefusal) (old new : List D) : Type 0 where
  pub as_many : length new ≡ length old
  pub each : (k : ℕ) (x y : D) → slice_get old k ≡ Some x → slice_get new k ≡ Some y → CountsFaults faults mismatches (failed_at result k) (differed_at result k) x y

-- the fault of a run that a refusal is
abbrev pub fault_of : DiskRefusal → RunFault
fault_of (DiskFault d) = RunDiskFault d
fault_of (Damaged d want found) = RunDamaged d want found
