-- Disks that were lent and came back. The four functions are the members `size`, `faults`,
-- `mismatches` and `held` of their type.
use Rattle.std.specs.Prelude.{◌≡◌, ℕ, ◌≤◌, List, Option, is_some}
use Rattle.std.specs.List.{AllZip}

-- the disk has its size, tells or doesn't as it did, and no count of it fell
pub record IsGivenBack {D : Type 0} (size faults mismatches : D → ℕ) (held : D → Option (List ℕ))
    (old new : D) : Type 0 where
  pub size_stays : size new ≡ size old
  pub tells_as_before : is_some (held new) ≡ is_some (held old)
  pub faults_never_fall : faults old ≤ faults new
  pub mismatches_never_fall : mismatches old ≤ mismatches new

-- the disk has its size, the bytes that it tells, and its counts
pub record IsUntouched {D : Type 0} (size faults mismatches : D → ℕ) (held : D → Option (List ℕ))
    (old new : D) : Type 0 where
  pub size_stays : size new ≡ size old
  pub told_bytes_stay : held new ≡ held old
  pub faults_stay : faults new ≡ faults old
  pub mismatches_stay : mismatches new ≡ mismatches old

-- as many disks in the same order, each of them given back
abbrev pub AreGivenBack :
    {D : Type 0} → (D → ℕ) → (D → ℕ) → (D → ℕ) → (D → Option (List ℕ)) → List D → List D → Type 0
AreGivenBack size faults mismatches held old new =
    AllZip (IsGivenBack size faults mismatches held) old new

-- as many disks in the same order, each of them untouched
abbrev pub AreUntouched :
    {D : Type 0} → (D → ℕ) → (D → ℕ) → (D → ℕ) → (D → Option (List ℕ)) → List D → List D → Type 0
AreUntouched size faults mismatches held old new =
    AllZip (IsUntouched size faults mismatches held) old new
