-- The devices of a call, as it found them or left them.
use Rattle.std.specs.Prelude.{◌≡◌, ℕ, Bool, List, [], Option, Some, map, if◌then◌else◌}
use Rattle.sj_edge.specs.Faults.{Rose, one_more}
use Rattle.sj_edge.specs.declared.disk.Disk.{Ghosts as DiskOf}
use Rattle.sj_edge.specs.declared.sink.Sink.{Ghosts as SinkOf}
use Rattle.sj_edge.specs.declared.source.Source.{Ghosts as SourceOf}

-- a source or a sink: the bytes that are left or were taken, where the device tells them, and its count of faults
pub record Device : Type 0 where
  pub bytes : Option (List ℕ)
  pub faults : ℕ

-- a device by its trait's words for both
abbrev pub seen : {X : Type 0} → (X → Option (List ℕ)) → (X → ℕ) → X → Device
seen bytes faults x = record { bytes = bytes x; faults = faults x }

-- one call of the device failed
pub record HasFailed (device device' : Device) : Type 0 where
  pub count_rose : Rose device.faults device'.faults
  pub by_one : device'.faults ≡ one_more device.faults

-- no call of it failed
abbrev pub NeverFailed : Device → Device → Type 0
NeverFailed device device' = ¬ Rose device.faults device'.faults

-- where the job text comes from, where the printed text goes, and the disks, by the words of their trait
pub record Devices {D : Type 0} (disk : DiskOf D) : Type 0 where
  pub source : Device
  pub out : Device
  pub disks : List D

-- devices by the words of their traits
abbrev pub devices : {S O D : Type 0} → SourceOf S → SinkOf O → (disk : DiskOf D) → S → O → List D → Devices disk
devices a b disk source out disks = record { source = seen a.left a.faults source; out = seen b.taken b.faults out; disks = disks }

-- the same, where the source is read; else it is as one that is at its end and doesn't fail
abbrev pub in_use : {D : Type 0} → {disk : DiskOf D} → Bool → Devices disk → Devices disk
in_use reads now = record { source = if reads then now.source else record { bytes = Some []; faults = 0 }; out = now.out; disks = now.disks }

-- the disks' sizes
abbrev pub sizes : {D : Type 0} → {disk : DiskOf D} → Devices disk → List ℕ
sizes {D} {disk} now = map disk.size now.disks
