-- The places of disks, of which some may be out.
use Rattle.std.specs.Prelude.{ℕ, Bool, false, List}
use Rattle.std.specs.List.{slice_index_or}

-- the place of one disk: the disk, as it was taken out where it is out
pub record Shelved (D : Type 0) : Type 0 where
  pub disk : D
  pub out : Bool

abbrev pub shelved : {D : Type 0} → D → Bool → Shelved D
shelved disk out = record { disk = disk; out = out }

-- the disks in their order, and for each whether it is out
pub record Racked (D : Type 0) : Type 0 where
  pub disks : List D
  pub out : List Bool

abbrev pub racked : {D : Type 0} → List D → List Bool → Racked D
racked disks out = record { disks = disks; out = out }

-- whether the disk with this number is out
abbrev pub is_out : List Bool → ℕ → Bool
is_out out d = slice_index_or out d false
