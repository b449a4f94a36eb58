-- The cause of a fault of a run.
use Rattle.std.specs.Prelude.{◌≢◌, ℕ, Option, IsSomeAnd, List, slice_get}
use Rattle.sj_codelet.specs.Kernel.{Equations}
use Rattle.sj_edge.specs.Faults.{Rose}
use Rattle.sj_board.specs.Headers.{IsLastWritten}
use Rattle.sj_board.specs.Standing.{AllTell, StandingBy, state}
use Rattle.sj_board.specs.declared.fault.RunFault.{RunFault}
use Rattle.sj_board.specs.declared.fault.RunFault.TheVariants.{Damaged, DiskFault, OutOfMemory}

-- the count of the disk with this number is above what it was, or stood at its last value
abbrev pub HasRisen : {D : Type 0} → (D → ℕ) → List D → List D → ℕ → Type 0
HasRisen count old new d = IsSomeAnd (slice_get old d) (λ x. IsSomeAnd (slice_get new d) (λ y. Rose (count x) (count y)))

-- the fault has its cause: a disk of which a count rose since the run was made; where it held another header, not all disks tell,
-- and the one that was wanted is the one last written there of a cell with a copy on that disk
abbrev pub HasCause : {D : Type 0} {eq : Equations} → (D → ℕ) → (D → ℕ) → (D → Option (List ℕ)) → StandingBy eq D → RunFault → Type 0
HasCause faults mismatches held b (DiskFault d) = HasRisen faults b.opened b.disks.disks d.0
HasCause faults mismatches held b (Damaged d want found) = HasRisen mismatches b.opened b.disks.disks d.0 × (want ≢ found) × ¬ AllTell held b × IsLastWritten b.program b.machine (state b) d want
HasCause faults mismatches held b OutOfMemory = Unit {0}
