-- A codelet that writes the last of its operands, and no other.
use Rattle.std.proofs.Common.{◌≡◌, IsTrue, ℕ, ◌+◌, ◌<◌, true, ℤ, List, [], ◌∷◌, ◌++◌, length, get_or, refl, sym, ap, ◌∙◌, subst, arith}
use Rattle.std.proofs.lemmas.Bool.{false≢true}
use Rattle.std.proofs.lemmas.List.{length-append}
use Rattle.sj_base.specs.Array.{Array}
use Rattle.sj_codelet.specs.declared.formal.Formal.{Formal}
use Rattle.sj_codelet.specs.declared.formal.Formal.TheVariants.{R, W, RW, Scratch}
use Rattle.sj_codelet.specs.declared.kernel.Kernel.{Kernel}
use Rattle.sj_codelet.specs.Frame.{Slot, Frame, own, arrays}
use Rattle.sj_codelet.specs.Kernel.{formals_of, new_arrays, operand}
use Rattle.sj_codelet.specs.Runs.{IsReadyOf, IsRunOf}
use Rattle.sj_codelet.proofs.Operands.{writes_last, operands_are, tile_is, last_is, ran}
use Rattle.sj_kernels.specs.Last.{CanWriteLast, WritesLast, writes_last_alone}

pub ready_of : (k' k : Kernel) → k' ≡ k → (args : List ℤ) (before : List Slot) (y : Array) → CanWriteLast k' args before y → CanWriteLast k args before y
ready_of k' k is args before y ready = subst (λ (q : Kernel). CanWriteLast q args before y) is ready

count_before : (k : Kernel) (args : List ℤ) (before : List Slot) (y : Array) → CanWriteLast k args before y → length before + 1 ≡ length (formals_of k)
count_before k args before y r = omega (arith, operands_are k args (before ++ own y ∷ []) r.ready, length-append before (own y ∷ []))

-- an operand before the last one, read behind a reference
pub read_before : (k : Kernel) (args : List ℤ) (before : List Slot) (y : Array) → CanWriteLast k args before y → (i : ℕ) (a : Array) → i + 1 < length (formals_of k) → a ≡ (get_or before i (own a)).array → a ≡ operand (arrays (before ++ own y ∷ [])) i
read_before k args before y r i a l e =
    let n = count_before k args before y r in
    tile_is (before ++ own y ∷ []) before (own y) i a refl (omega arith) e

pub last_itself : (k : Kernel) (args : List ℤ) (before : List Slot) (y : Array) → CanWriteLast k args before y → (i : ℕ) → i + 1 ≡ length (formals_of k) → operand (arrays (before ++ own y ∷ [])) i ≡ y
last_itself k args before y r i e =
    let n = count_before k args before y r in
    last_is (before ++ own y ∷ []) before (own y) i refl (omega arith)

pub written_as : (k' k : Kernel) → k' ≡ k → (args : List ℤ) (before : List Slot) (y z made : Array) → new_arrays k args (arrays (before ++ own y ∷ [])) ≡ made ∷ [] → z ≡ made → z.dims ≡ y.dims → WritesLast k' args before y z
written_as k' k is args before y z made o e d = record {
  made = ap (λ (q : Kernel). new_arrays q args (arrays (before ++ own y ∷ []))) is ∙ o ∙ ap (λ (a : Array). a ∷ []) (sym e);
  dims = d;
}

alone-last : (fs : List Formal) → IsTrue (writes_last_alone fs) → writes_last fs ≡ true
alone-last [] h = absurd (false≢true h)
alone-last (R ∷ fs) h = alone-last fs h
alone-last (W ∷ []) h = refl
alone-last (RW ∷ []) h = refl
alone-last (W ∷ f ∷ fs) h = absurd (false≢true h)
alone-last (RW ∷ f ∷ fs) h = absurd (false≢true h)
alone-last (Scratch ∷ fs) h = absurd (false≢true h)

-- the last operand was taken out, written, and put back
pub ran_last_alone : (k : Kernel) (args : List ℤ) (old new : Frame) (before : List Slot) (y z : Array) → IsTrue (writes_last_alone (formals_of k)) → IsReadyOf k args old.slots → old.slots ≡ before ++ own y ∷ [] → new.slots ≡ before ++ own z ∷ [] → new.spare ≡ old.spare → WritesLast k args before y z → IsRunOf k args old new
ran_last_alone k args old new before y z alone ready e e' room h =
    ran k args old new before y z (alone-last (formals_of k) alone) ready e e' room h.dims (ap (λ (slots : List Slot). new_arrays k args (arrays slots)) e ∙ h.made)
