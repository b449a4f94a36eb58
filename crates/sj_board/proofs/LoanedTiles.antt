-- Shared tiles as arrays, and lists that are written one item after another, or in a loan.
use Rattle.sj_board.proofs.Words.{all_out, ap, Arc, arith, Array, array_in, arrays_in, get_or, inl, inr, length, List, None, Option, refill, refl, replicate, set, subst, suc, sym, zero, ℕ, ◌+◌, ◌<◌, ◌∙◌, ◌∷◌, ◌≡◌}
use Rattle.std.proofs.Math.Seq.{take-append_seam}
use Rattle.std.proofs.lemmas.{Bool.cases_eq, Grind.get_or-set_at, List.ext_get_or, List.get_or-set_other, List.length-map, List.length-set, List.map-set}
use Rattle.sj_board.proofs.TileTables.{out-none}

pub arrays-set : {Z : Type 0} (ts : List (Option (Arc Array Z))) (i : ℕ) (t : Option (Arc Array Z)) → arrays_in (set ts i t) ≡ set (arrays_in ts) i (array_in t)
arrays-set ts i t = map-set array_in ts i t

pub arrays-none : (Z : Type 0) (n : ℕ) → arrays_in {Z = Z} (replicate n None) ≡ replicate n None
arrays-none Z zero = refl
arrays-none Z (suc n) = ap (λ (ts : List (Option Array)). None ∷ ts) (arrays-none Z n)

-- one item more has the value
pub set-more : {X : Type 0} (xs : List X) (i : ℕ) (a : X) → i < length xs → ((k : ℕ) (d : X) → k < i → get_or xs k d ≡ a) → (k : ℕ) (d : X) → k < i + 1 → get_or (set xs i a) k d ≡ a
set-more xs i a inside done k d h =
    elim (cases_eq k i) [
      | inl e ↦ get_or-set_at xs i k a d e inside
      | inr n ↦ get_or-set_other xs i k a d n ∙ done k d (omega arith)
    ]

-- places of which all are empty
pub all-out : (old new : List (Option Array)) → length new ≡ length old → ((k : ℕ) (d : Option Array) → k < length old → get_or new k d ≡ None) → new ≡ all_out old
all-out old new same all =
    ext_get_or None new (all_out old) (same ∙ sym (length-map old (λ x. None))) (λ i inside. all i None (omega (arith, inside, same)) ∙ sym (out-none old (record { 0 = i })))

-- what a loan of as many items leaves is what was written
pub refill-whole : {X : Type 0} (xs ys : List X) → length ys ≡ length xs → refill (length xs) xs ys ≡ ys
refill-whole xs ys same = subst (λ (n : ℕ). refill n xs ys ≡ ys) same (take-append_seam ys _)

-- in a loan of places one was written
pub refill-put : {Z : Type 0} (xs ys : List (Option (Arc Array Z))) (i : ℕ) (t : Option (Arc Array Z)) → ys ≡ xs → arrays_in (refill (length xs) xs (set ys i t)) ≡ set (arrays_in xs) i (array_in t)
refill-put xs ys i t same =
    ap arrays_in (refill-whole xs (set ys i t) (length-set ys i t ∙ ap length same) ∙ ap (λ zs. set zs i t) same) ∙ arrays-set xs i t
