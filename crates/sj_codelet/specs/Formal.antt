-- The modes of a codelet's operands: which of them get new arrays.
use Rattle.std.specs.Prelude.{Bool, true, false, List, [], ◌∷◌, if◌then◌else◌}
use Rattle.sj_codelet.specs.declared.formal.Formal.{Formal}
use Rattle.sj_codelet.specs.declared.formal.Formal.TheVariants.{R, W, RW, Scratch}

-- an operand of this mode gets a new array
abbrev pub is_output : Formal → Bool
is_output R = false
is_output W = true
is_output RW = true
is_output Scratch = false

-- those in the places of operands that get new arrays
abbrev pub outputs_among : {X : Type 0} → List Formal → List X → List X
outputs_among [] xs = []
outputs_among (f ∷ fs) [] = []
outputs_among (f ∷ fs) (x ∷ xs) = if is_output f then x ∷ outputs_among fs xs else outputs_among fs xs
