-- The places of disks: what is on each, and whether it is out.
use Rattle.std.proofs.Common.{◌≡◌, ℕ, zero, suc, ◌<◌, Bool, true, false, List, [], ◌∷◌, length, get_or, map, refl, sym, ap, ◌∙◌, subst, arith, Option, Some, None, replicate}
use Rattle.std.specs.Prelude.{slice_get, slice_set, All, IfSome}
use Rattle.std.specs.List.{list_any}
use Rattle.std.proofs.lemmas.List.{length-map}
use Rattle.std.proofs.lemmas.Bool.{or_parts, or_from}
use Rattle.sj_base.proofs.Lists.{set-slice_get}
use Rattle.sj_disk.specs.Rack.{Racked, Shelved, is_out, racked, shelved}

-- ---- whether a disk is out

-- no place is out, where no shelf is
pub none_out : {D : Type 0} (shelves : List (Shelved D)) → list_any (λ s. s.out) shelves ≡ false → (d : ℕ) → is_out (map (λ s. s.out) shelves) d ≡ false
none_out [] none d = refl
none_out (s ∷ shelves) none zero = (or_parts s.out (list_any (λ s. s.out) shelves) none).0
none_out (s ∷ shelves) none (suc d) = none_out shelves (or_parts s.out (list_any (λ s. s.out) shelves) none).1 d

pub none_any : {D : Type 0} (shelves : List (Shelved D)) → ((d : ℕ) → is_out (map (λ s. s.out) shelves) d ≡ false) → list_any (λ s. s.out) shelves ≡ false
none_any [] none = refl
none_any (s ∷ shelves) none = or_from s.out (list_any (λ s. s.out) shelves) (none 0) (none_any shelves (λ d. none (suc d)))

-- and each shelf has its disk
pub none_all : {D : Type 0} (shelves : List (Shelved D)) → ((d : ℕ) → is_out (map (λ s. s.out) shelves) d ≡ false) → All (λ s. s.out ≡ false) shelves
none_all [] none k x lt = absurd (omega arith)
none_all (s ∷ shelves) none zero x lt = none 0
none_all (s ∷ shelves) none (suc k) x lt = none_all shelves (λ d. none (suc d)) k x (omega arith)

-- ---- disks on shelves of their own

on_shelves : {D : Type 0} (disks : List D) → map (λ s. s.disk) (map (λ x. shelved x false) disks) ≡ disks
on_shelves [] = refl
on_shelves (x ∷ disks) = ap (λ ys. x ∷ ys) (on_shelves disks)

in_place : {D : Type 0} (disks : List D) → map (λ s. s.out) (map (λ x. shelved x false) disks) ≡ replicate (length disks) false
in_place [] = refl
in_place (x ∷ disks) = ap (λ ys. false ∷ ys) (in_place disks)

pub all_in : {D : Type 0} (disks : List D) (shelves : List (Shelved D)) → shelves ≡ map (λ x. shelved x false) disks → racked (map (λ s. s.disk) shelves) (map (λ s. s.out) shelves) ≡ racked disks (replicate (length disks) false)
all_in {D} disks shelves e =
    ap (λ (ss : List (Shelved D)). racked (map (λ s. s.disk) ss) (map (λ s. s.out) ss)) e
    ∙ ap (λ ds. racked ds (map (λ s. s.out) (map (λ x. shelved x false) disks))) (on_shelves disks)
    ∙ ap (λ os. racked disks os) (in_place disks)

-- ---- one place

disk_at : {D : Type 0} (shelves : List (Shelved D)) (i : ℕ) (s : Shelved D) → i < length shelves → s ≡ get_or shelves i s → slice_get (map (λ s. s.disk) shelves) i ≡ Some s.disk
disk_at [] i s lt e = absurd (omega arith)
disk_at {D} (x ∷ shelves) zero s lt e = ap (λ (y : Shelved D). Some y.disk) (sym e)
disk_at (x ∷ shelves) (suc i) s lt e = disk_at shelves i s (omega arith) e

out_at : {D : Type 0} (shelves : List (Shelved D)) (i : ℕ) (s : Shelved D) → i < length shelves → s ≡ get_or shelves i s → is_out (map (λ s. s.out) shelves) i ≡ s.out
out_at [] i s lt e = absurd (omega arith)
out_at {D} (x ∷ shelves) zero s lt e = ap (λ (y : Shelved D). y.out) (sym e)
out_at (x ∷ shelves) (suc i) s lt e = out_at shelves i s (omega arith) e

disks_set : {D : Type 0} (shelves : List (Shelved D)) (i : ℕ) (s : Shelved D) → map (λ s. s.disk) (slice_set shelves i s) ≡ slice_set (map (λ s. s.disk) shelves) i s.disk
disks_set [] i s = refl
disks_set (x ∷ shelves) zero s = refl
disks_set (x ∷ shelves) (suc i) s = ap (λ ys. x.disk ∷ ys) (disks_set shelves i s)

outs_set : {D : Type 0} (shelves : List (Shelved D)) (i : ℕ) (s : Shelved D) → map (λ s. s.out) (slice_set shelves i s) ≡ slice_set (map (λ s. s.out) shelves) i s.out
outs_set [] i s = refl
outs_set (x ∷ shelves) zero s = refl
outs_set (x ∷ shelves) (suc i) s = ap (λ ys. x.out ∷ ys) (outs_set shelves i s)

-- a disk that was in, out and in again
pub out_and_in : (out : List Bool) (i : ℕ) → is_out out i ≡ false → slice_set (slice_set out i true) i false ≡ out
out_and_in [] i e = refl
out_and_in (b ∷ out) zero e = ap (λ c. c ∷ out) (sym e)
out_and_in (b ∷ out) (suc i) e = ap (λ bs. b ∷ bs) (out_and_in out i e)

-- a disk that was taken is out, where there is one
taken_out : (out : List Bool) (i : ℕ) → i < length out → is_out (slice_set out i true) i ≡ true
taken_out [] i lt = absurd (omega arith)
taken_out (b ∷ out) zero lt = refl
taken_out (b ∷ out) (suc i) lt = taken_out out i (omega arith)

-- ---- a shelf in the place of another

module _ {D : Type 0} (shelves : List (Shelved D)) (i : ℕ) (r : Racked D) (view : racked (map (λ s. s.disk) shelves) (map (λ s. s.out) shelves) ≡ r) where
  pub shelf_set : (s : Shelved D) (x : D) (b : Bool) → s ≡ shelved x b → racked (map (λ s. s.disk) (slice_set shelves i s)) (map (λ s. s.out) (slice_set shelves i s)) ≡ racked (slice_set r.disks i x) (slice_set r.out i b)
  shelf_set s x b es =
      ap (λ ds. racked ds (map (λ s. s.out) (slice_set shelves i s))) (disks_set shelves i s)
      ∙ ap (λ os. racked (slice_set (map (λ s. s.disk) shelves) i s.disk) os) (outs_set shelves i s)
      ∙ ap (λ (s : Shelved D). racked (slice_set (map (λ s. s.disk) shelves) i s.disk) (slice_set (map (λ s. s.out) shelves) i s.out)) es
      ∙ ap (λ (r : Racked D). racked (slice_set r.disks i x) (slice_set r.out i b)) view

  module _ (s s' : Shelved D) (inside : i < length r.disks) (here : s ≡ get_or shelves i s) (emptied : s' ≡ shelved s.disk true) where
    lt : i < length shelves
    lt = omega (arith, inside, ap (λ (r : Racked D). length r.disks) view, length-map shelves (λ s. s.disk))

    its-disk : slice_get r.disks i ≡ Some s.disk
    its-disk = subst (λ (r : Racked D). slice_get r.disks i ≡ Some s.disk) view (disk_at shelves i s lt here)

    is-out-now : is_out (map (λ s. s.out) (slice_set shelves i s')) i ≡ true
    is-out-now =
        ap (λ os. is_out os i) (outs_set shelves i s' ∙ ap (λ (s : Shelved D). slice_set (map (λ s. s.out) shelves) i s.out) emptied)
        ∙ taken_out (map (λ s. s.out) shelves) i (omega (arith, lt, length-map shelves (λ s. s.out)))

    pub was_in : (result : Option D) → IfSome result (λ x. (x ≡ s.disk) × (s.out ≡ false)) → IfSome result (λ x. (slice_get r.disks i ≡ Some x) × (is_out r.out i ≡ false) × (is_out (map (λ s. s.out) (slice_set shelves i s')) i ≡ true))
    was_in None h = tt
    was_in (Some x) h = (
      its-disk ∙ ap Some (sym h.0),
      subst (λ (r : Racked D). is_out r.out i ≡ false) view (out_at shelves i s lt here ∙ h.1),
      is-out-now,
    )

    pub takes : (result : Option D) → IfSome result (λ _. racked (map (λ s. s.disk) (slice_set shelves i s')) (map (λ s. s.out) (slice_set shelves i s')) ≡ racked r.disks (slice_set r.out i true))
    takes None = tt
    takes (Some x) = shelf_set s' s.disk true emptied ∙ ap (λ ds. racked ds (slice_set r.out i true)) (set-slice_get r.disks i s.disk its-disk)
