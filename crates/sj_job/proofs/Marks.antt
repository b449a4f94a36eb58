-- The form in which a track is kept.
use Rattle.std.proofs.Common.{◌≡◌, ℕ, zero, suc, ◌+◌, ◌<◌, Bool, true, false, not, List, [], ◌∷◌, length, replicate, get_or, refl, sym, ap, subst, ◌∙◌, arith, cond}
use Rattle.std.proofs.Math.ListN.{set}
use Rattle.std.specs.List.{list_all, count_by}
use Rattle.std.proofs.lemmas.List.{get_or-replicate, set-get_or}
use Rattle.std.proofs.lemmas.List.Sums.{sum_by-cons}
use Rattle.sj_plan.specs.declared.parts.Parts.{Parts}
use Rattle.sj_plan.specs.Parts.{IsPlace, children_count, number}
use Rattle.sj_job.specs.declared.track.Marks.{Marks}
use Rattle.sj_job.specs.declared.track.Marks.TheVariants.{All, Blank, Mixed}
use Rattle.sj_job.specs.Track.{Track, AreMarks, AreMixed, all_valued, is_set, none_valued, track_by, with_child_valued}
use Rattle.sj_job.proofs.Children.{number-below}

-- ---- lists of marks

all_true : (n : ℕ) → list_all (λ b. b) (replicate n true) ≡ true
all_true zero = refl
all_true (suc n) = all_true n

none_true : (n : ℕ) → list_all not (replicate n false) ≡ true
none_true zero = refl
none_true (suc n) = none_true n

not_all : (n : ℕ) → 0 < n → list_all (λ b. b) (replicate n false) ≡ false
not_all zero h = absurd (omega (arith, h))
not_all (suc n) h = refl

not_none : (n : ℕ) → 0 < n → list_all not (replicate n true) ≡ false
not_none zero h = absurd (omega (arith, h))
not_none (suc n) h = refl

one_valued : (xs : List Bool) → count_by not (true ∷ xs) ≡ count_by not xs
one_valued xs = refl

one_blank : (xs : List Bool) → count_by not (false ∷ xs) ≡ count_by not xs + 1
one_blank xs = let e : count_by not (false ∷ xs) ≡ 1 + count_by not xs = sum_by-cons (λ b. cond (not b) 1 0) false xs in omega (arith, e)

some_blank : (xs : List Bool) → 0 < count_by not xs → list_all (λ b. b) xs ≡ false
some_blank [] h = absurd (omega (arith, h))
some_blank (true ∷ xs) h = some_blank xs (omega (arith, h, one_valued xs))
some_blank (false ∷ xs) h = refl

some_valued : (xs : List Bool) → count_by not xs < length xs → list_all not xs ≡ false
some_valued [] h = absurd (omega (arith, h))
some_valued (true ∷ xs) h = refl
some_valued (false ∷ xs) h = some_valued xs (omega (arith, h, one_blank xs))

no_blank : (xs : List Bool) → count_by not xs ≡ 0 → xs ≡ replicate (length xs) true
no_blank [] h = refl
no_blank (true ∷ xs) h = ap (λ ys. true ∷ ys) (no_blank xs (omega (arith, h, one_valued xs)))
no_blank (false ∷ xs) h = absurd (omega (arith, h, one_blank xs))

last_blank : (xs : List Bool) (k : ℕ) → k < length xs → get_or xs k false ≡ false → count_by not xs ≡ 1 → set xs k true ≡ replicate (length xs) true
last_blank [] k lt e h = absurd (omega (arith, lt))
last_blank (true ∷ xs) zero lt e h = absurd (cc)
last_blank (false ∷ xs) zero lt e h = ap (λ ys. true ∷ ys) (no_blank xs (omega (arith, h, one_blank xs)))
last_blank (true ∷ xs) (suc k) lt e h = ap (λ ys. true ∷ ys) (last_blank xs k (omega (arith, lt)) e (omega (arith, h, one_valued xs)))
last_blank (false ∷ xs) (suc k) lt e h =
    let none : count_by not xs ≡ 0 = omega (arith, h, one_blank xs) in
    let below : k < length xs = omega (arith, lt) in
    let there : get_or xs k false ≡ true = ap (λ ys. get_or ys k false) (no_blank xs none) ∙ get_or-replicate (length xs) k true false below in
    absurd (cc)

-- ---- whether children have a value

pub is-all : (p : Parts) (m : Marks) (t : Track) → track_by p m ≡ t → m ≡ All → true ≡ all_valued t
is-all p m t v e = sym (all_true (children_count p)) ∙ ap (λ m. all_valued (track_by p m)) (sym e) ∙ ap all_valued v

pub is-none : (p : Parts) (m : Marks) (t : Track) → track_by p m ≡ t → m ≡ Blank → true ≡ none_valued t
is-none p m t v e = sym (none_true (children_count p)) ∙ ap (λ m. none_valued (track_by p m)) (sym e) ∙ ap none_valued v

all_by : (p : Parts) (m : Marks) → AreMarks p m → (m ≡ All → ⊥) → all_valued (track_by p m) ≡ false
all_by p All h not_all = absurd (not_all refl)
all_by p Blank h not = not_all (children_count p) h.0.some
all_by p (Mixed marks blank) h not = some_blank marks.items (omega (arith, h.1.blanks, h.1.some))

none_by : (p : Parts) (m : Marks) → AreMarks p m → (m ≡ Blank → ⊥) → none_valued (track_by p m) ≡ false
none_by p All h not = not_none (children_count p) h.0.some
none_by p Blank h not = absurd (not refl)
none_by p (Mixed marks blank) h not = some_valued marks.items (omega (arith, h.1.blanks, h.1.few, h.1.counted))

pub not-all : (p : Parts) (m : Marks) (t : Track) → AreMarks p m → track_by p m ≡ t → (m ≡ All → ⊥) → false ≡ all_valued t
not-all p m t h v not = sym (all_by p m h not) ∙ ap all_valued v

pub not-none : (p : Parts) (m : Marks) (t : Track) → AreMarks p m → track_by p m ≡ t → (m ≡ Blank → ⊥) → false ≡ none_valued t
not-none p m t h v not = sym (none_by p m h not) ∙ ap none_valued v

below_in : (p : Parts) (m : Marks) (t : Track) (place : ℕ × ℕ) → track_by p m ≡ t → IsPlace t.parts place → number p place < children_count p
below_in p m t place v at = number-below p place (subst (λ (x : Track). IsPlace x.parts place) (sym v) at)

pub set-in-all : (p : Parts) (m : Marks) (t : Track) (place : ℕ × ℕ) → track_by p m ≡ t → m ≡ All → IsPlace t.parts place → true ≡ is_set t place
set-in-all p m t place v e at =
    sym (get_or-replicate (children_count p) (number p place) true false (below_in p m t place v at))
    ∙ ap (λ m. is_set (track_by p m) place) (sym e) ∙ ap (λ (x : Track). is_set x place) v

-- ---- a child that is written

pub wrote-in-all : (p : Parts) (m : Marks) (t : Track) (place : ℕ × ℕ) → track_by p m ≡ t → m ≡ All → IsPlace t.parts place → track_by p m ≡ with_child_valued t place
wrote-in-all p m t place v e at =
    let n = children_count p in
    let k = number p place in
    let track : List Bool → Track = λ xs. record { parts = p; valued = xs } in
    let there = get_or-replicate n k true false (below_in p m t place v at) in
    let same : replicate n true ≡ set (replicate n true) k true = sym (set-get_or (replicate n true) k false) ∙ ap (set (replicate n true) k) there in
    ap (track_by p) e ∙ ap track same ∙ ap (λ m. with_child_valued (track_by p m) place) (sym e) ∙ ap (λ (x : Track). with_child_valued x place) v

pub wrote-last : (p : Parts) (marks : List Bool) (blank : ℕ) (t : Track) (place : ℕ × ℕ) (k : ℕ) → AreMixed p marks blank → (let x : Track = record { parts = p; valued = marks } in x ≡ t) → IsPlace t.parts place → k ≡ number p place → get_or marks k false ≡ false → blank ≡ 1 → track_by p All ≡ with_child_valued t place
wrote-last p marks blank t place k h v at here unset last =
    let track : List Bool → Track = λ xs. record { parts = p; valued = xs } in
    let below = number-below p place (subst (λ (x : Track). IsPlace x.parts place) (sym v) at) in
    let filled : set marks k true ≡ replicate (length marks) true = last_blank marks k (omega (arith, here, below, h.counted)) unset (h.blanks ∙ last) in
    ap track (ap (λ n. replicate n true) (sym h.counted) ∙ sym filled ∙ ap (λ n. set marks n true) here) ∙ ap (λ (x : Track). with_child_valued x place) v
