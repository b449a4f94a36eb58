-- The sizes of disks.
use Rattle.std.specs.Prelude.{ℕ, ◌≤◌, List, All}

-- each of the disks has at most so many bytes
abbrev pub AreWithin : {D : Type 0} → (D → ℕ) → ℕ → List D → Type 0
AreWithin size limit disks = All (λ d. size d ≤ limit) disks
