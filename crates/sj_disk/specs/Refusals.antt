-- What a refusal of a store or a fetch says.
use Rattle.std.specs.Prelude.{◌≡◌, ◌≢◌, Bool, true, false, Result, Ok, Err}
use Rattle.sj_base.specs.declared.ids.DiskNo.{DiskNo}
use Rattle.sj_disk.specs.declared.header.Header.{Header}
use Rattle.sj_disk.specs.declared.refusal.DiskRefusal.{DiskRefusal}
use Rattle.sj_disk.specs.declared.refusal.DiskRefusal.TheVariants.{DiskFault, Damaged}

-- the disk refused a call
abbrev pub is_fault : {A : Type 0} → Result A DiskRefusal → Bool
is_fault (Ok _) = false
is_fault (Err (DiskFault d)) = true
is_fault (Err (Damaged d want found)) = false

-- the disk holds another header
abbrev pub is_damage : {A : Type 0} → Result A DiskRefusal → Bool
is_damage (Ok _) = false
is_damage (Err (DiskFault d)) = false
is_damage (Err (Damaged d want found)) = true

-- a refusal names this disk and, where it holds another header, the wanted one and the one found
abbrev pub RefusesFor : {A : Type 0} → DiskNo → Header → Result A DiskRefusal → Type 0
RefusesFor number want (Ok _) = Unit {0}
RefusesFor number want (Err (DiskFault d)) = d ≡ number
RefusesFor number want (Err (Damaged d w found)) = (d ≡ number) × (w ≡ want) × (found ≢ want)
