-- What a run of a codelet needs of its frame, and what it makes of it.
use Rattle.std.specs.Prelude.{◌≡◌, Bool, IsTrue, Option, Some, None, ℤ, List, [], if◌then◌else◌}
use Rattle.sj_base.specs.declared.program.Codelet.{Codelet}
use Rattle.sj_codelet.specs.declared.kernel.Kernel.{Kernel}
use Rattle.sj_codelet.specs.declared.formal.Formal.{Formal}
use Rattle.sj_codelet.specs.declared.formal.Shape.{Shape}
use Rattle.sj_codelet.specs.Kernel.{kernel_of, arguments_of, formals_of, fits, new_arrays, out}
use Rattle.sj_codelet.specs.Frame.{Slot, Frame, arrays, all_dims, AreReady, written_arrays, AllKeep}

-- the shape of a codelet
abbrev pub shape_of : Kernel → Shape
shape_of k = record { args = arguments_of k; formals = formals_of k }

-- the same of an id in a set that has these codelets
abbrev pub shape_in : (Kernel → Bool) → Codelet → Option Shape
shape_in has id = elim (kernel_of id) [ None ↦ None | Some k ↦ if has k then Some (shape_of k) else None ]

-- the modes of the operands of an id
abbrev pub formals_in : Codelet → List Formal
formals_in id = elim (kernel_of id) [ None ↦ [] | Some k ↦ formals_of k ]

-- the written and the scratch operands are the task's own, and those whose old value isn't read are zeros
pub record IsReadyFor (id : Codelet) (slots : List Slot) : Type 0 where
  pub ready : AreReady (formals_in id) slots

-- the written operands hold the codelet's new arrays, and the others what `AllKeep` says
pub record IsRun (id : Codelet) (args : List ℤ) (old new : Frame) : Type 0 where
  pub written : written_arrays (formals_in id) new.slots ≡ out id args (arrays old.slots)
  pub kept : AllKeep (formals_in id) old.slots new.slots
  pub room : new.spare ≡ old.spare

-- the same two of a row of the table: operands and arguments go together and are ready
pub record IsReadyOf (k : Kernel) (args : List ℤ) (slots : List Slot) : Type 0 where
  pub fits : IsTrue (fits k args (all_dims slots))
  pub ready : AreReady (formals_of k) slots

pub record IsRunOf (k : Kernel) (args : List ℤ) (old new : Frame) : Type 0 where
  pub written : written_arrays (formals_of k) new.slots ≡ new_arrays k args (arrays old.slots)
  pub kept : AllKeep (formals_of k) old.slots new.slots
  pub room : new.spare ≡ old.spare
