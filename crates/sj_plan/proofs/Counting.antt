-- How many pastes there are: the pairs of row parts that overlap, times the pairs of column parts.
use Rattle.std.proofs.Common.{◌≡◌, ℕ, zero, suc, ◌+◌, ◌-◌, ◌*◌, ◌<◌, ◌≤◌, Bool, true, false, cond, ltb, min, List, [], ◌∷◌, map, length, sym, ap, ◌∙◌, zero-mul, arith, inl, inr}
use Rattle.std.specs.List.{count_by, flat_map, range_with_len, sum_by}
use Rattle.std.proofs.lemmas.Bool.{cases_lt, lt-ltb, le-ltb}
use Rattle.std.proofs.lemmas.List.Concat.{length-flat_map}
use Rattle.std.proofs.lemmas.List.Sums.{length-filter, sum_by-cons, sum_by-append, sum_by_push}
use Rattle.sj_base.specs.declared.tile.Dims.{Dims}
use Rattle.sj_base.proofs.Numbers.{suc-add}
use Rattle.sj_base.proofs.Lists.{sum_by-agree}
use Rattle.sj_plan.specs.declared.interval.Interval.{Interval}
use Rattle.sj_plan.specs.declared.parts.Parts.{Parts}
use Rattle.sj_plan.specs.Interval.{Lies, meeting, meetings, part, overlap}
use Rattle.sj_plan.specs.Parts.{places}
use Rattle.sj_plan.specs.Paste.{overlaps, paste_at, pastes_to, pastes_of}
use Rattle.sj_plan.proofs.Lists.{count_by-map, count_grid, grid_row, range_more}
use Rattle.sj_plan.proofs.Overlapping.{AreOverlapping, apart}

-- the numbers below m that lie in an interval, counted by a test that tells them
count_upto : (a : ℕ → Bool) (v : Interval) (m : ℕ) → ((k : ℕ) → k < m → (Lies k v → a k ≡ true) × ((Lies k v → ⊥) → a k ≡ false)) → count_by a (range_with_len 0 m) ≡ min m (v.first + v.len) - min m v.first
count_upto a v zero h = omega arith
count_upto a v (suc m) h =
    let n = count_by a (range_with_len 0 m) in
    let before = count_upto a v m (λ k below. h k (omega arith)) in
    let here = h m (omega arith) in
    ap (count_by a) (ap (range_with_len 0) (suc-add m) ∙ range_more m) ∙ sum_by_push (λ j. cond (a j) 1 0) (range_with_len 0 m) m
    ∙ elim (cases_lt m v.first) as (λ _. n + cond (a m) 1 0 ≡ min (suc m) (v.first + v.len) - min (suc m) v.first) [
      | inl below ↦ ap (λ t. n + cond t 1 0) (here.1 (λ lies. absurd (omega (arith, lies.0)))) ∙ omega (arith, before)
      | inr from ↦ elim (cases_lt m (v.first + v.len)) as (λ _. n + cond (a m) 1 0 ≡ min (suc m) (v.first + v.len) - min (suc m) v.first) [
        | inl inside ↦ ap (λ t. n + cond t 1 0) (here.0 (from, inside)) ∙ omega (arith, before)
        | inr past ↦ ap (λ t. n + cond t 1 0) (here.1 (λ lies. absurd (omega (arith, lies.1)))) ∙ omega (arith, before)
      ]
    ]

pub meeting_is : (n p : ℕ) (of v : Interval) → AreOverlapping n p of v → v.first + v.len ≤ p → meeting n p of ≡ v.len
meeting_is n p of v exactly inside =
    count_upto (λ k. ltb 0 (overlap (part n p k) of).len) v p (λ k below. (λ lies. lt-ltb 0 (overlap (part n p k) of).len ((exactly k below).0 lies), λ outside. le-ltb 0 (overlap (part n p k) of).len (apart n p of v k exactly below outside))) ∙ omega arith

pub one_part_more : (f : ℕ → ℕ) (total len k : ℕ) → total ≡ sum_by f (range_with_len 0 k) → f k ≡ len → total + len ≡ sum_by f (range_with_len 0 (k + 1))
one_part_more f total len k e h =
    let here = ap (sum_by f) (range_more k) ∙ sum_by_push f (range_with_len 0 k) k in
    omega (arith, here, e, h)

spread : (r c s : ℕ) → r * c + r * s ≡ r * (c + s)
spread r c s = omega arith

gather_rows : (r s c : ℕ) → r * c + s * c ≡ (r + s) * c
gather_rows r s c = omega arith

sum_row : (f g : ℕ → ℕ) (i : ℕ) (ys : List ℕ) → sum_by (λ (p : ℕ × ℕ). f p.0 * g p.1) (map (λ j. (i, j)) ys) ≡ f i * sum_by g ys
sum_row f g i [] = omega arith
sum_row f g i (y ∷ ys) =
    sum_by-cons (λ (p : ℕ × ℕ). f p.0 * g p.1) (i, y) (map (λ j. (i, j)) ys) ∙ ap (λ n. f i * g y + n) (sum_row f g i ys) ∙ spread (f i) (g y) (sum_by g ys) ∙ ap (λ n. f i * n) (sym (sum_by-cons g y ys))

sum_grid : (f g : ℕ → ℕ) (c : ℕ) (xs : List ℕ) → sum_by (λ (p : ℕ × ℕ). f p.0 * g p.1) (flat_map (grid_row c) xs) ≡ sum_by f xs * sum_by g (range_with_len 0 c)
sum_grid f g c [] = sym (zero-mul (sum_by g (range_with_len 0 c)))
sum_grid f g c (x ∷ xs) =
    let all = sum_by g (range_with_len 0 c) in
    sum_by-append (λ (p : ℕ × ℕ). f p.0 * g p.1) (grid_row c x) (flat_map (grid_row c) xs) ∙ ap (λ n. n + sum_by (λ (p : ℕ × ℕ). f p.0 * g p.1) (flat_map (grid_row c) xs)) (sum_row f g x (range_with_len 0 c))
    ∙ ap (λ n. f x * all + n) (sum_grid f g c xs) ∙ gather_rows (f x) (sum_by f xs) all ∙ ap (λ n. n * all) (sym (sum_by-cons f x xs))

pastes_to-count : (d : Dims) (old new : Parts) (to : ℕ × ℕ) → length (pastes_to d old new to) ≡ meeting d.rows old.r (part d.rows new.r to.0) * meeting d.cols old.c (part d.cols new.c to.1)
pastes_to-count d old new to =
    let rows = λ (k : ℕ). ltb 0 (overlap (part d.rows old.r k) (part d.rows new.r to.0)).len in
    let cols = λ (l : ℕ). ltb 0 (overlap (part d.cols old.c l) (part d.cols new.c to.1)).len in
    length-filter overlaps (map (λ from. paste_at d old new from to) (places old)) ∙ count_by-map overlaps (λ from. paste_at d old new from to) (places old) ∙ count_grid rows cols old.c (range_with_len 0 old.r)

pub pastes_of-count : (d : Dims) (old new : Parts) → length (pastes_of d old new) ≡ meetings d.rows old.r new.r * meetings d.cols old.c new.c
pastes_of-count d old new =
    let rows = λ (i : ℕ). meeting d.rows old.r (part d.rows new.r i) in
    let cols = λ (j : ℕ). meeting d.cols old.c (part d.cols new.c j) in
    length-flat_map (pastes_to d old new) (places new) ∙ sum_by-agree (λ to. length (pastes_to d old new to)) (λ (to : ℕ × ℕ). rows to.0 * cols to.1) (pastes_to-count d old new) (places new) ∙ sum_grid rows cols new.c (range_with_len 0 new.r)
