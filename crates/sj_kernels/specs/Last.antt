-- A codelet that writes the last of its operands, and no other, which stands apart from those before it.
use Rattle.std.specs.Prelude.{◌≡◌, Bool, true, false, ℤ, List, [], ◌∷◌, ◌++◌, length}
use Rattle.sj_base.specs.Array.{Array, area}
use Rattle.sj_codelet.specs.declared.formal.Formal.{Formal}
use Rattle.sj_codelet.specs.declared.formal.Formal.TheVariants.{R, W, RW}
use Rattle.sj_codelet.specs.declared.kernel.Kernel.{Kernel}
use Rattle.sj_codelet.specs.Frame.{Slot, own, arrays}
use Rattle.sj_codelet.specs.Kernel.{new_arrays}
use Rattle.sj_codelet.specs.Runs.{IsReadyOf}

-- the last operand is written, and those before it are only read
abbrev pub writes_last_alone : List Formal → Bool
writes_last_alone (R ∷ fs) = writes_last_alone fs
writes_last_alone (W ∷ []) = true
writes_last_alone (RW ∷ []) = true
writes_last_alone _ = false

-- the operands are ready with this last one, which has all its elements
pub record CanWriteLast (k : Kernel) (args : List ℤ) (before : List Slot) (last : Array) : Type 0 where
  pub ready : IsReadyOf k args (before ++ own last ∷ [])
  pub whole : length last.elements ≡ area last.dims

-- the last operand holds the codelet's new array
pub record WritesLast (k : Kernel) (args : List ℤ) (before : List Slot) (old new : Array) : Type 0 where
  pub made : new_arrays k args (arrays (before ++ own old ∷ [])) ≡ new ∷ []
  pub dims : new.dims ≡ old.dims
