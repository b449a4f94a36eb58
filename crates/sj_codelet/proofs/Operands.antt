-- What a kernel that writes only its last operand needs of a frame, and what it makes of it.
use Rattle.std.proofs.Common.{◌≡◌, ℕ, zero, suc, ◌+◌, ◌<◌, Bool, true, false, ℤ, List, [], ◌∷◌, ◌++◌, map, length, get_or, take, refl, sym, ap, ◌∙◌, arith}
use Rattle.std.proofs.lemmas.List.{length-map, length-append, get_or-map, get_or_append_left, get_or_at, take_at, drop_all, map-append}
use Rattle.std.specs.List.{range_with_len}
use Rattle.std.proofs.lemmas.List.FromFn.{length-map-range_with_len}
use Rattle.std.proofs.lemmas.Bool.Decides.{nat_tests}
use Rattle.sj_base.specs.declared.tile.Dims.{Dims}
use Rattle.sj_base.specs.Array.{Array, array, area, each}
use Rattle.sj_base.specs.Lending.{written_over}
use Rattle.sj_codelet.specs.declared.kernel.Kernel.{Kernel}
use Rattle.sj_codelet.specs.declared.formal.Formal.{Formal}
use Rattle.sj_codelet.specs.declared.formal.Formal.TheVariants.{R, W, RW, Scratch}
use Rattle.sj_codelet.specs.Frame.{Slot, Frame, own, arrays, all_dims, SuitsFormal, AreReady, written_arrays, AllKeep, ends_owned}
use Rattle.sj_codelet.specs.Kernel.{formals_of, dims_fit, dims_at, same, new_arrays, operand}
use Rattle.sj_codelet.specs.Equations.{vector}
use Rattle.sj_codelet.specs.Runs.{IsReadyOf, IsRunOf}
use Rattle.sj_codelet.specs.Laws.{IsCall}

pub ends_owned-push : (before : List Slot) (s : Slot) → ends_owned (before ++ s ∷ []) ≡ s.owned
ends_owned-push [] s = refl
ends_owned-push (t ∷ []) s = refl
ends_owned-push (t ∷ u ∷ before) s = ends_owned-push (u ∷ before) s

-- the last operand is the only one that is written
abbrev pub writes_last : List Formal → Bool
writes_last [] = false
writes_last (RW ∷ []) = true
writes_last (W ∷ []) = true
writes_last (RW ∷ f ∷ fs) = false
writes_last (W ∷ f ∷ fs) = false
writes_last (R ∷ fs) = writes_last fs
writes_last (Scratch ∷ fs) = writes_last fs

-- the last operand is one of the task's own
abbrev pub ends_in_own : List Formal → Bool
ends_in_own [] = false
ends_in_own (R ∷ []) = false
ends_in_own (W ∷ []) = true
ends_in_own (RW ∷ []) = true
ends_in_own (Scratch ∷ []) = true
ends_in_own (f ∷ g ∷ fs) = ends_in_own (g ∷ fs)

pub ends_owned_from_ready : (fs : List Formal) (slots : List Slot) → ends_in_own fs ≡ true → length slots ≡ length fs → AreReady fs slots → ends_owned slots ≡ true
ends_owned_from_ready [] slots w l r = cc
ends_owned_from_ready (f ∷ fs) [] w l r = absurd (omega arith)
ends_owned_from_ready (R ∷ []) (s ∷ []) w l r = cc
ends_owned_from_ready (W ∷ []) (s ∷ []) w l r = r.0.0
ends_owned_from_ready (RW ∷ []) (s ∷ []) w l r = r.0
ends_owned_from_ready (Scratch ∷ []) (s ∷ []) w l r = r.0.0
ends_owned_from_ready (f ∷ []) (s ∷ t ∷ slots) w l r = absurd (omega arith)
ends_owned_from_ready (f ∷ g ∷ fs) (s ∷ []) w l r = absurd (omega arith)
ends_owned_from_ready (f ∷ g ∷ fs) (s ∷ t ∷ slots) w l r = ends_owned_from_ready (g ∷ fs) (t ∷ slots) w (omega arith) r.1

pub ran_last : (fs : List Formal) (before : List Slot) (y z : Array) → writes_last fs ≡ true → length before + 1 ≡ length fs → z.dims ≡ y.dims → (written_arrays fs (before ++ own z ∷ []) ≡ z ∷ []) × AllKeep fs (before ++ own y ∷ []) (before ++ own z ∷ [])
ran_last [] before y z w l d = absurd (omega arith)
ran_last (RW ∷ []) [] y z w l d = (refl, ((refl, d), tt))
ran_last (W ∷ []) [] y z w l d = (refl, ((refl, d), tt))
ran_last (RW ∷ []) (s ∷ before) y z w l d = absurd (omega arith)
ran_last (W ∷ []) (s ∷ before) y z w l d = absurd (omega arith)
ran_last (RW ∷ f ∷ fs) before y z w l d = absurd (cc)
ran_last (W ∷ f ∷ fs) before y z w l d = absurd (cc)
ran_last (R ∷ []) [] y z w l d = absurd (cc)
ran_last (Scratch ∷ []) [] y z w l d = absurd (cc)
ran_last (R ∷ f ∷ fs) [] y z w l d = absurd (omega arith)
ran_last (Scratch ∷ f ∷ fs) [] y z w l d = absurd (omega arith)
ran_last (R ∷ fs) (s ∷ before) y z w l d =
    let rest = ran_last fs before y z w (omega arith) d in
    (rest.0, (refl, rest.1))
ran_last (Scratch ∷ fs) (s ∷ before) y z w l d =
    let rest = ran_last fs before y z w (omega arith) d in
    (rest.0, ((refl, refl), rest.1))

pub operands_are : (k : Kernel) (args : List ℤ) (slots : List Slot) → IsReadyOf k args slots → length slots ≡ length (formals_of k)
operands_are k args slots h =
    let f = h.fits in
    let n = length-map slots (λ (s : Slot). s.array.dims) in
    grind (arith, nat_tests)

pub dims_go : (k : Kernel) (args : List ℤ) (slots : List Slot) → IsReadyOf k args slots → dims_fit k args (all_dims slots) ≡ true
dims_go k args slots h = let f = h.fits in grind (arith, nat_tests)

-- how many operands stand before the last one of a call
pub operands_before : (k : Kernel) (args : List ℤ) (before : List Array) (v : Array) → IsCall k args (before ++ v ∷ []) → length before + 1 ≡ length (formals_of k)
operands_before k args before v call =
    let f = call.fits in
    let n = length-map (before ++ v ∷ []) (λ (a : Array). a.dims) in
    let m = length-append before (v ∷ []) in
    grind (arith, nat_tests)

pub same_dims : (d e : Dims) → same d e ≡ true → d ≡ e
same_dims d e h =
    let r : d.rows ≡ e.rows = grind (arith, nat_tests) in
    let c : d.cols ≡ e.cols = grind (arith, nat_tests) in
    λ i. record { rows = r i; cols = c i }

pub dims_at-all_dims : (slots : List Slot) (i : ℕ) → dims_at (all_dims slots) i ≡ (operand (arrays slots) i).dims
dims_at-all_dims [] i = refl
dims_at-all_dims (s ∷ slots) zero = refl
dims_at-all_dims (s ∷ slots) (suc i) = dims_at-all_dims slots i

-- an operand that was read behind a reference
pub tile_is : (slots before : List Slot) (s : Slot) (i : ℕ) (a : Array) → slots ≡ before ++ s ∷ [] → i < length before → a ≡ (get_or before i (own a)).array → a ≡ operand (arrays slots) i
tile_is slots before s i a e h r =
    let d = array (record { rows = 0; cols = 0 }) [] in
    r ∙ sym (get_or-map (λ (t : Slot). t.array) before i (own a) d h)
    ∙ sym (get_or_append_left (arrays before) (s.array ∷ []) d i (omega (arith, length-map before (λ (t : Slot). t.array))))
    ∙ ap (λ (xs : List Array). get_or xs i d) (sym (map-append (λ (t : Slot). t.array) before (s ∷ [])))
    ∙ ap (λ (xs : List Slot). get_or (arrays xs) i d) (sym e)

pub last_is : (slots before : List Slot) (s : Slot) (i : ℕ) → slots ≡ before ++ s ∷ [] → length before ≡ i → operand (arrays slots) i ≡ s.array
last_is slots before s i e h =
    let d = array (record { rows = 0; cols = 0 }) [] in
    ap (λ (xs : List Slot). get_or (arrays xs) i d) e
    ∙ ap (λ (xs : List Array). get_or xs i d) (map-append (λ (t : Slot). t.array) before (s ∷ []))
    ∙ get_or_at (arrays before) s.array [] d i (length-map before (λ (t : Slot). t.array) ∙ h)

-- a tile whose elements were all written
pub with_all : (y : Array) (xs : List ℤ) → length xs ≡ length y.elements → written_over y xs ≡ array y.dims xs
with_all y xs h =
    ap (λ (zs : List ℤ). array y.dims (take (length y.elements) (xs ++ zs))) (drop_all (length xs) y.elements (omega arith))
    ∙ ap (λ (zs : List ℤ). array y.dims zs) (take_at xs [] (length y.elements) h)

-- the same by a kernel that takes them for a vector
pub each_of_elements : (y : Array) (f : ℕ → ℤ) → length y.elements ≡ area y.dims → written_over y (each (vector y.elements).dims f).elements ≡ each y.dims f
each_of_elements y f h =
    let n = length-map-range_with_len f 0 (area (vector y.elements).dims) in
    let m : area (vector y.elements).dims ≡ area y.dims = omega arith in
    with_all y (each (vector y.elements).dims f).elements (omega arith) ∙ ap (λ (k : ℕ). array y.dims (map f (range_with_len 0 k))) m

pub ran : (k : Kernel) (args : List ℤ) (old new : Frame) (before : List Slot) (y z : Array) → writes_last (formals_of k) ≡ true → IsReadyOf k args old.slots → old.slots ≡ before ++ own y ∷ [] → new.slots ≡ before ++ own z ∷ [] → new.spare ≡ old.spare → z.dims ≡ y.dims → new_arrays k args (arrays old.slots) ≡ z ∷ [] → IsRunOf k args old new
ran k args old new before y z w ready e e' r d o =
    let n = operands_are k args old.slots ready in
    let m = length-append before (own y ∷ []) in
    let both = ran_last (formals_of k) before y z w (omega (arith, ap length e)) d in
    record {
      written = ap (written_arrays (formals_of k)) e' ∙ both.0 ∙ sym o;
      kept = rw (e, e') both.1;
      room = r;
    }

-- what stands before the last operands is ready too
pub ready_before : (fs gs : List Formal) (before after : List Slot) → length before ≡ length fs → AreReady (fs ++ gs) (before ++ after) → AreReady fs before
ready_before [] gs before after l r = tt
ready_before (f ∷ fs) gs [] after l r = absurd (omega arith)
ready_before (f ∷ fs) gs (s ∷ before) after l r = (r.0, ready_before fs gs before after (omega arith) r.1)

pub ready_at : (fs gs : List Formal) (f : Formal) (before after : List Slot) (s : Slot) → length before ≡ length fs → AreReady (fs ++ f ∷ gs) (before ++ s ∷ after) → SuitsFormal f s
ready_at [] gs f [] after s l r = r.0
ready_at [] gs f (t ∷ before) after s l r = absurd (omega arith)
ready_at (g ∷ fs) gs f [] after s l r = absurd (omega arith)
ready_at (g ∷ fs) gs f (t ∷ before) after s l r = ready_at fs gs f before after s (omega arith) r.1

pub operand_shift : (slots before : List Slot) (s : Slot) (i : ℕ) → slots ≡ before ++ s ∷ [] → i < length before → operand (arrays before) i ≡ operand (arrays slots) i
operand_shift slots before s i e h =
    let d = array (record { rows = 0; cols = 0 }) [] in
    sym (get_or_append_left (arrays before) (s.array ∷ []) d i (omega (arith, length-map before (λ (t : Slot). t.array))))
    ∙ ap (λ (xs : List Array). get_or xs i d) (sym (map-append (λ (t : Slot). t.array) before (s ∷ [])))
    ∙ ap (λ (xs : List Slot). get_or (arrays xs) i d) (sym e)
