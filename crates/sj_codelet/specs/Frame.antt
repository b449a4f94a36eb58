-- A task's operands as contracts see them.
use Rattle.std.specs.Prelude.{◌≡◌, ℕ, Bool, true, false, IsTrue, List, [], ◌∷◌, map}
use Rattle.sj_base.specs.declared.tile.Dims.{Dims}
use Rattle.sj_base.specs.Array.{Array, zeros}
use Rattle.sj_codelet.specs.declared.formal.Formal.{Formal}
use Rattle.sj_codelet.specs.declared.formal.Formal.TheVariants.{R, W, RW, Scratch}

-- an operand: its array, and whether the task owns it, or shares it to read
pub record Slot : Type 0 where
  pub owned : Bool
  pub array : Array

abbrev pub shared : Array → Slot
shared a = record { owned = false; array = a }

abbrev pub own : Array → Slot
own a = record { owned = true; array = a }

-- the operands in order, and for how many more there is room
pub record Frame : Type 0 where
  pub slots : List Slot
  pub spare : ℕ

abbrev pub frame : List Slot → ℕ → Frame
frame slots n = record { slots = slots; spare = n }

abbrev pub arrays : List Slot → List Array
arrays slots = map (λ s. s.array) slots

abbrev pub all_dims : List Slot → List Dims
all_dims slots = map (λ s. s.array.dims) slots

-- an operand is as its formal needs it before a run
abbrev pub SuitsFormal : Formal → Slot → Type 0
SuitsFormal R s = Unit {0}
SuitsFormal RW s = IsTrue s.owned
SuitsFormal W s = IsTrue s.owned × (s.array ≡ zeros s.array.dims)
SuitsFormal Scratch s = IsTrue s.owned × (s.array ≡ zeros s.array.dims)

-- written and scratch operands are the task's own, and those whose old value isn't read are zeros
abbrev pub AreReady : List Formal → List Slot → Type 0
AreReady [] slots = Unit {0}
AreReady (f ∷ fs) [] = Unit {0}
AreReady (f ∷ fs) (s ∷ slots) = SuitsFormal f s × AreReady fs slots

-- the arrays of the written operands in order
abbrev pub written_arrays : List Formal → List Slot → List Array
written_arrays [] slots = []
written_arrays (f ∷ fs) [] = []
written_arrays (R ∷ fs) (s ∷ slots) = written_arrays fs slots
written_arrays (Scratch ∷ fs) (s ∷ slots) = written_arrays fs slots
written_arrays (W ∷ fs) (s ∷ slots) = s.array ∷ written_arrays fs slots
written_arrays (RW ∷ fs) (s ∷ slots) = s.array ∷ written_arrays fs slots

-- an operand after a run: what is only read stays, and each keeps its dimensions and its owner
abbrev pub KeepsOperand : Formal → Slot → Slot → Type 0
KeepsOperand R old new = new ≡ old
KeepsOperand W old new = (new.owned ≡ old.owned) × (new.array.dims ≡ old.array.dims)
KeepsOperand RW old new = (new.owned ≡ old.owned) × (new.array.dims ≡ old.array.dims)
KeepsOperand Scratch old new = (new.owned ≡ old.owned) × (new.array.dims ≡ old.array.dims)

abbrev pub AllKeep : List Formal → List Slot → List Slot → Type 0
AllKeep [] [] [] = Unit {0}
AllKeep (f ∷ fs) (s ∷ old) (t ∷ new) = KeepsOperand f s t × AllKeep fs old new
AllKeep _ _ _ = ⊥

-- the last operand is the task's own
abbrev pub ends_owned : List Slot → Bool
ends_owned [] = false
ends_owned (s ∷ []) = s.owned
ends_owned (s ∷ t ∷ slots) = ends_owned (t ∷ slots)
