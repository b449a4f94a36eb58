-- The pastes of a plan's change, as the loops find them.
use Rattle.std.proofs.Common.{◌≡◌, ◌↔◌, ℕ, ◌+◌, ◌<◌, ◌≤◌, ltb, List, [], ◌∷◌, ◌++◌, map, sym, ap, refl, ◌∙◌, arith, inl, inr}
use Rattle.std.specs.List.{filter, flat_map, range_with_len}
use Rattle.std.proofs.lemmas.List.{append-nil, map-append}
use Rattle.std.proofs.lemmas.List.Concat.{flat_map-append}
use Rattle.std.proofs.lemmas.List.Elements.{filter-append}
use Rattle.std.proofs.lemmas.List.Folds.{flat_map-map}
use Rattle.std.proofs.lemmas.Simd.{map-map}
use Rattle.std.proofs.lemmas.Bool.{lt-ltb, le-ltb, and_left, and_right, and_from, cond-true, cond-false, cases_lt}
use Rattle.sj_base.specs.declared.tile.Dims.{Dims}
use Rattle.sj_plan.specs.declared.interval.Interval.{Interval}
use Rattle.sj_plan.specs.declared.parts.Parts.{Parts}
use Rattle.sj_plan.specs.declared.paste.Paste.{Paste}
use Rattle.sj_plan.specs.Interval.{Lies, part, overlap}
use Rattle.sj_plan.specs.Paste.{overlaps, paste_at, pastes_of, pastes_to}
use Rattle.sj_plan.proofs.Lists.{grid_row, nothing_before, nothing_after, filter_none}

-- v has the numbers of the parts of n items in p parts that share an index with an interval
abbrev pub AreOverlapping : ℕ → ℕ → Interval → Interval → Type 0
AreOverlapping n p of v = (k : ℕ) → k < p → (Lies k v ↔ (0 < (overlap (part n p k) of).len))

pub apart : (n p : ℕ) (of v : Interval) (k : ℕ) → AreOverlapping n p of v → k < p → (Lies k v → ⊥) → (overlap (part n p k) of).len ≤ 0
apart n p of v k exactly below outside = elim (cases_lt 0 (overlap (part n p k) of).len) as (λ _. (overlap (part n p k) of).len ≤ 0) [
  | inl meets ↦ absurd (outside ((exactly k below).1 meets))
  | inr none ↦ none
]

-- the pastes to a child from the children of row part k of the old plan
abbrev pub from_row : Dims → Parts → Parts → ℕ → ℕ × ℕ → List ℕ → List Paste
from_row d old new k to xs = filter overlaps (map (λ l. paste_at d old new (k, l) to) xs)

pub from_row-append : (d : Dims) (old new : Parts) (k : ℕ) (to : ℕ × ℕ) (xs ys : List ℕ) → from_row d old new k to (xs ++ ys) ≡ from_row d old new k to xs ++ from_row d old new k to ys
from_row-append d old new k to xs ys =
    ap (filter overlaps) (map-append (λ l. paste_at d old new (k, l) to) xs ys) ∙ filter-append overlaps (map (λ l. paste_at d old new (k, l) to) xs) (map (λ l. paste_at d old new (k, l) to) ys)

abbrev row_meets : Dims → Parts → Parts → ℕ → ℕ → ℕ
row_meets d old new k i = (overlap (part d.rows old.r k) (part d.rows new.r i)).len

abbrev col_meets : Dims → Parts → Parts → ℕ → ℕ → ℕ
col_meets d old new l j = (overlap (part d.cols old.c l) (part d.cols new.c j)).len

from_row-apart : (d : Dims) (old new : Parts) (k : ℕ) (to : ℕ × ℕ) (l : ℕ) → col_meets d old new l to.1 ≤ 0 → from_row d old new k to (l ∷ []) ≡ []
from_row-apart d old new k to l none =
    cond-false (overlaps (paste_at d old new (k, l) to)) _ _ (and_right (ltb 0 (row_meets d old new k to.0)) (ltb 0 (col_meets d old new l to.1)) (le-ltb 0 (col_meets d old new l to.1) none))

pub from_row-one : (d : Dims) (old new : Parts) (k : ℕ) (to : ℕ × ℕ) (l : ℕ) → 0 < row_meets d old new k to.0 → 0 < col_meets d old new l to.1 → from_row d old new k to (l ∷ []) ≡ paste_at d old new (k, l) to ∷ []
from_row-one d old new k to l rows cols =
    cond-true (overlaps (paste_at d old new (k, l) to)) _ _ (and_from (ltb 0 (row_meets d old new k to.0)) (ltb 0 (col_meets d old new l to.1)) (lt-ltb 0 (row_meets d old new k to.0) rows) (lt-ltb 0 (col_meets d old new l to.1) cols))

pub from_row-before : (d : Dims) (old new : Parts) (k : ℕ) (to : ℕ × ℕ) (v : Interval) → AreOverlapping d.cols old.c (part d.cols new.c to.1) v → v.first + v.len ≤ old.c → from_row d old new k to (range_with_len 0 v.first) ≡ []
from_row-before d old new k to v exactly inside =
    nothing_before (from_row d old new k to) (from_row-append d old new k to) refl v.first (λ l below.
    from_row-apart d old new k to l (apart d.cols old.c (part d.cols new.c to.1) v l exactly (omega arith) (λ lies. absurd (omega (arith, lies.0)))))

pub from_row-after : (d : Dims) (old new : Parts) (k : ℕ) (to : ℕ × ℕ) (v : Interval) → AreOverlapping d.cols old.c (part d.cols new.c to.1) v → v.first + v.len ≤ old.c → from_row d old new k to (range_with_len 0 old.c) ≡ from_row d old new k to (range_with_len 0 (v.first + v.len))
from_row-after d old new k to v exactly inside =
    nothing_after (from_row d old new k to) (from_row-append d old new k to) (v.first + v.len) old.c inside (λ l from below.
    from_row-apart d old new k to l (apart d.cols old.c (part d.cols new.c to.1) v l exactly below (λ lies. absurd (omega (arith, lies.1)))))

-- the pastes to a child from the children of some row parts of the old plan
abbrev pub from_rows : Dims → Parts → Parts → ℕ × ℕ → List ℕ → List Paste
from_rows d old new to xs =
    filter overlaps (map (λ from. paste_at d old new from to) (flat_map (grid_row old.c) xs))

pub from_rows-append : (d : Dims) (old new : Parts) (to : ℕ × ℕ) (xs ys : List ℕ) → from_rows d old new to (xs ++ ys) ≡ from_rows d old new to xs ++ from_rows d old new to ys
from_rows-append d old new to xs ys =
    let f = λ (from : ℕ × ℕ). paste_at d old new from to in
    ap (λ zs. filter overlaps (map f zs)) (flat_map-append (grid_row old.c) xs ys) ∙ ap (filter overlaps) (map-append f (flat_map (grid_row old.c) xs) (flat_map (grid_row old.c) ys)) ∙ filter-append overlaps (map f (flat_map (grid_row old.c) xs)) (map f (flat_map (grid_row old.c) ys))

pub from_rows-one : (d : Dims) (old new : Parts) (to : ℕ × ℕ) (k : ℕ) → from_rows d old new to (k ∷ []) ≡ from_row d old new k to (range_with_len 0 old.c)
from_rows-one d old new to k =
    let f = λ (from : ℕ × ℕ). paste_at d old new from to in
    ap (λ zs. filter overlaps (map f zs)) (append-nil (grid_row old.c k)) ∙ ap (filter overlaps) (map-map f (λ l. (k, l)) (range_with_len 0 old.c))

from_rows-apart : (d : Dims) (old new : Parts) (to : ℕ × ℕ) (k : ℕ) → row_meets d old new k to.0 ≤ 0 → from_rows d old new to (k ∷ []) ≡ []
from_rows-apart d old new to k none =
    from_rows-one d old new to k ∙ filter_none overlaps (λ l. paste_at d old new (k, l) to) (λ l. and_left (ltb 0 (row_meets d old new k to.0)) (ltb 0 (col_meets d old new l to.1)) (le-ltb 0 (row_meets d old new k to.0) none)) (range_with_len 0 old.c)

pub from_rows-before : (d : Dims) (old new : Parts) (to : ℕ × ℕ) (v : Interval) → AreOverlapping d.rows old.r (part d.rows new.r to.0) v → v.first + v.len ≤ old.r → from_rows d old new to (range_with_len 0 v.first) ≡ []
from_rows-before d old new to v exactly inside =
    nothing_before (from_rows d old new to) (from_rows-append d old new to) refl v.first (λ k below.
    from_rows-apart d old new to k (apart d.rows old.r (part d.rows new.r to.0) v k exactly (omega arith) (λ lies. absurd (omega (arith, lies.0)))))

pub from_rows-after : (d : Dims) (old new : Parts) (to : ℕ × ℕ) (v : Interval) → AreOverlapping d.rows old.r (part d.rows new.r to.0) v → v.first + v.len ≤ old.r → from_rows d old new to (range_with_len 0 old.r) ≡ from_rows d old new to (range_with_len 0 (v.first + v.len))
from_rows-after d old new to v exactly inside =
    nothing_after (from_rows d old new to) (from_rows-append d old new to) (v.first + v.len) old.r inside (λ k from below.
    from_rows-apart d old new to k (apart d.rows old.r (part d.rows new.r to.0) v k exactly below (λ lies. absurd (omega (arith, lies.1)))))

-- the pastes to some children of row part i of the new plan
abbrev pub to_row : Dims → Parts → Parts → ℕ → List ℕ → List Paste
to_row d old new i xs = flat_map (λ j. pastes_to d old new (i, j)) xs

pub to_row-append : (d : Dims) (old new : Parts) (i : ℕ) (xs ys : List ℕ) → to_row d old new i (xs ++ ys) ≡ to_row d old new i xs ++ to_row d old new i ys
to_row-append d old new i xs ys = flat_map-append (λ j. pastes_to d old new (i, j)) xs ys

pub to_row-one : (d : Dims) (old new : Parts) (i j : ℕ) → pastes_to d old new (i, j) ≡ to_row d old new i (j ∷ [])
to_row-one d old new i j = sym (append-nil (pastes_to d old new (i, j)))

-- the pastes to the children of some row parts of the new plan
abbrev pub to_rows : Dims → Parts → Parts → List ℕ → List Paste
to_rows d old new xs = flat_map (pastes_to d old new) (flat_map (grid_row new.c) xs)

pub to_rows-append : (d : Dims) (old new : Parts) (xs ys : List ℕ) → to_rows d old new (xs ++ ys) ≡ to_rows d old new xs ++ to_rows d old new ys
to_rows-append d old new xs ys =
    ap (flat_map (pastes_to d old new)) (flat_map-append (grid_row new.c) xs ys) ∙ flat_map-append (pastes_to d old new) (flat_map (grid_row new.c) xs) (flat_map (grid_row new.c) ys)

pub to_rows-one : (d : Dims) (old new : Parts) (i : ℕ) → to_row d old new i (range_with_len 0 new.c) ≡ to_rows d old new (i ∷ [])
to_rows-one d old new i =
    sym (ap (flat_map (pastes_to d old new)) (append-nil (grid_row new.c i)) ∙ flat_map-map (pastes_to d old new) (λ j. (i, j)) (range_with_len 0 new.c))

-- the pastes to all row parts of the new plan are all pastes
pub all_rows : (d : Dims) (old new : Parts) (made found : List Paste) (i : ℕ) → made ≡ found → found ≡ to_rows d old new (range_with_len 0 i) → i ≡ new.r → pastes_of d old new ≡ made
all_rows d old new made found i e f last = sym (e ∙ f ∙ ap (λ n. to_rows d old new (range_with_len 0 n)) last)
