-- What a kernel has written, taken from the end of its frame.
use Rattle.std.proofs.Common.{◌≡◌, true, false, List, [], ◌∷◌, ◌++◌, map, length, sym, ap, ◌∙◌, refl, arith}
use Rattle.std.proofs.lemmas.Bool.{false≢true}
use Rattle.std.proofs.lemmas.List.{length_push, map-append}
use Rattle.sj_base.specs.Array.{Array}
use Rattle.sj_codelet.specs.declared.formal.Formal.{Formal}
use Rattle.sj_codelet.specs.declared.formal.Formal.TheVariants.{R, W, RW, Scratch}
use Rattle.sj_codelet.specs.Frame.{Slot, shared, written_arrays}
use Rattle.sj_codelet.specs.Formal.{is_output}

-- ---- the written operands of a frame, and one operand more

pub written_output : (fs : List Formal) (slots : List Slot) (f : Formal) (s : Slot) → length fs ≡ length slots → is_output f ≡ true → written_arrays (fs ++ f ∷ []) (slots ++ s ∷ []) ≡ written_arrays fs slots ++ s.array ∷ []
written_output [] [] R s h o = absurd (false≢true o)
written_output [] [] Scratch s h o = absurd (false≢true o)
written_output [] [] W s h o = refl
written_output [] [] RW s h o = refl
written_output [] (x ∷ slots) f s h o = absurd (omega arith)
written_output (g ∷ fs) [] f s h o = absurd (omega arith)
written_output (R ∷ fs) (x ∷ slots) f s h o = written_output fs slots f s (omega arith) o
written_output (Scratch ∷ fs) (x ∷ slots) f s h o = written_output fs slots f s (omega arith) o
written_output (W ∷ fs) (x ∷ slots) f s h o = ap (λ (l : List Array). x.array ∷ l) (written_output fs slots f s (omega arith) o)
written_output (RW ∷ fs) (x ∷ slots) f s h o = ap (λ (l : List Array). x.array ∷ l) (written_output fs slots f s (omega arith) o)

pub written_input : (fs : List Formal) (slots : List Slot) (f : Formal) (s : Slot) → length fs ≡ length slots → is_output f ≡ false → written_arrays (fs ++ f ∷ []) (slots ++ s ∷ []) ≡ written_arrays fs slots
written_input [] [] R s h o = refl
written_input [] [] Scratch s h o = refl
written_input [] [] W s h o = absurd (false≢true (sym o))
written_input [] [] RW s h o = absurd (false≢true (sym o))
written_input [] (x ∷ slots) f s h o = absurd (omega arith)
written_input (g ∷ fs) [] f s h o = absurd (omega arith)
written_input (R ∷ fs) (x ∷ slots) f s h o = written_input fs slots f s (omega arith) o
written_input (Scratch ∷ fs) (x ∷ slots) f s h o = written_input fs slots f s (omega arith) o
written_input (W ∷ fs) (x ∷ slots) f s h o = ap (λ (l : List Array). x.array ∷ l) (written_input fs slots f s (omega arith) o)
written_input (RW ∷ fs) (x ∷ slots) f s h o = ap (λ (l : List Array). x.array ∷ l) (written_input fs slots f s (omega arith) o)

-- ---- one step of taking a frame apart

pub share-skips : (formals before : List Formal) (f : Formal) (slots rest : List Slot) (s : Slot) (new : List Slot) → formals ≡ before ++ f ∷ [] → slots ≡ rest ++ s ∷ [] → length formals ≡ length slots → is_output f ≡ false →
    new ≡ map shared (written_arrays before rest) → new ≡ map shared (written_arrays formals slots)
share-skips formals before f slots rest s new e g n h k =
    let m : length before ≡ length rest = omega (arith, ap length e, ap length g, length_push before f, length_push rest s) in
    let w : written_arrays formals slots ≡ written_arrays before rest = ap (λ (fs : List Formal). written_arrays fs slots) e ∙ ap (written_arrays (before ++ f ∷ [])) g ∙ written_input before rest f s m h in
    k ∙ ap (λ (xs : List Array). map shared xs) (sym w)

pub share-adds : (formals before : List Formal) (f : Formal) (slots rest : List Slot) (s : Slot) (new more : List Slot) (x : Array) → formals ≡ before ++ f ∷ [] → slots ≡ rest ++ s ∷ [] → length formals ≡ length slots → is_output f ≡ true →
    new ≡ map shared (written_arrays before rest) → more ≡ new ++ shared x ∷ [] → x ≡ s.array → more ≡ map shared (written_arrays formals slots)
share-adds formals before f slots rest s new more x e g n h k j i =
    let m : length before ≡ length rest = omega (arith, ap length e, ap length g, length_push before f, length_push rest s) in
    let w : written_arrays formals slots ≡ written_arrays before rest ++ s.array ∷ [] = ap (λ (fs : List Formal). written_arrays fs slots) e ∙ ap (written_arrays (before ++ f ∷ [])) g ∙ written_output before rest f s m h in
    j ∙ ap (λ (l : List Slot). l ++ shared x ∷ []) k
    ∙ ap (λ (a : Array). map shared (written_arrays before rest) ++ shared a ∷ []) i
    ∙ sym (map-append shared (written_arrays before rest) (s.array ∷ []))
    ∙ ap (λ (xs : List Array). map shared xs) (sym w)
