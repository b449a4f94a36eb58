-- What a check of a disk answers.
use Rattle.std.specs.Prelude.{◌≡◌, ◌≢◌, ℕ, ◌+◌, List, slice_range, Option, IfSome, Result, Ok, Err, Bool, true, false, ⊤}
use Rattle.sj_edge.specs.declared.disk.CheckFault.{CheckFault}
use Rattle.sj_edge.specs.declared.disk.CheckFault.TheVariants.{Failed, Differs}

-- the disk refused the check
abbrev pub has_failed : {A : Type 0} → Result A CheckFault → Bool
has_failed (Ok _) = false
has_failed (Err Failed) = true
has_failed (Err (Differs _)) = false

-- the disk holds other bytes
abbrev pub has_differed : {A : Type 0} → Result A CheckFault → Bool
has_differed (Ok _) = false
has_differed (Err Failed) = false
has_differed (Err (Differs _)) = true

-- what it carries, where it differs, is not what was wanted
abbrev pub CarriesOther : {A : Type 0} → Result A CheckFault → List ℕ → Type 0
CarriesOther (Ok _) want = ⊤
CarriesOther (Err Failed) want = ⊤
CarriesOther (Err (Differs found)) want = found ≢ want

-- these are the bytes from `at` on
abbrev pub Finds : {A : Type 0} → List ℕ → Result A CheckFault → List ℕ → Type 0
Finds there (Ok _) want = there ≡ want
Finds there (Err Failed) want = ⊤
Finds there (Err (Differs found)) want = (found ≡ there) × (there ≢ want)

-- where the held bytes are told: ok only where those from `at` on are wanted, and differs only
-- where they aren't, with them
abbrev pub Compares : {A : Type 0} → Option (List ℕ) → ℕ → List ℕ → Result A CheckFault → Type 0
Compares held at want r = IfSome held (λ xs. Finds (slice_range xs at (at + 24)) r want)
