-- Ranges of a list of bytes.
use Rattle.std.proofs.Common.{◌≡◌, ℕ, ◌+◌, ◌-◌, ◌≤◌, List, ◌++◌, length, take, drop, slice_range, sym, ◌∙◌, ap, append_assoc, arith, length-take, length-drop, length-append}
use Rattle.std.proofs.lemmas.List.{take-append-drop, drop-drop, drop-append-le, length-take-le, take-append-le}
use Rattle.std.proofs.Math.Seq.{drop-append-add, drop-append_seam, take-append_seam}
use Rattle.sj_edge.specs.Held.{written}

-- a range within the list is as long as it says
pub length-slice_range : (xs : List ℕ) (at n : ℕ) → at + n ≤ length xs → length (slice_range xs at (at + n)) ≡ n
length-slice_range xs at n h = simp (length-take, length-drop) (omega arith)

-- the n items from `at` on, and those after them
pub range-rest : (xs : List ℕ) (at n : ℕ) → slice_range xs at (at + n) ++ drop (at + n) xs ≡ drop at xs
range-rest xs at n =
    let e : at + n - at ≡ n = omega arith in
    ap (λ k. take k (drop at xs) ++ drop (at + n) xs) e ∙ (ap (λ ys. take n (drop at xs) ++ ys) (sym (drop-drop n at xs)) ∙ take-append-drop n (drop at xs))

-- a range written over itself changes nothing
pub written-itself : (xs : List ℕ) (at n : ℕ) → at + n ≤ length xs → xs ≡ written at (slice_range xs at (at + n)) xs
written-itself xs at n h =
    sym (ap (λ k. take at xs ++ slice_range xs at (at + n) ++ drop (at + k) xs) (length-slice_range xs at n h) ∙ (append_assoc (take at xs) (slice_range xs at (at + n)) (drop (at + n) xs) ∙ (ap (λ ys. take at xs ++ ys) (range-rest xs at n) ∙ take-append-drop at xs)))

-- what is left from `at` on is what was copied to the front of a buffer, and then the rest
pub drop-copied : (xs front rest : List ℕ) (at n : ℕ) → length front ≡ n → front ≡ slice_range xs at (at + length front) → drop at xs ≡ take n (front ++ rest) ++ drop (at + n) xs
drop-copied xs front rest at n e copied =
    let same : take n (front ++ rest) ≡ slice_range xs at (at + n) =
    ap (λ k. take k (front ++ rest)) (sym e) ∙ (take-append_seam front rest ∙ (copied ∙ ap (λ k. slice_range xs at (at + k)) e)) in
    sym (ap (λ ys. ys ++ drop (at + n) xs) same ∙ range-rest xs at n)

-- writing changes no length
pub length-written : (xs zs : List ℕ) (at : ℕ) → at + length zs ≤ length xs → length (written at zs xs) ≡ length xs
length-written xs zs at h = simp (length-append, length-take, length-drop) (omega arith)

-- the bytes that were written stand in their range
pub slice_range-written : (xs zs : List ℕ) (at : ℕ) → at + length zs ≤ length xs → slice_range (written at zs xs) at (at + length zs) ≡ zs
slice_range-written xs zs at h =
    let front : List ℕ = take at xs in
    let back : List ℕ = drop (at + length zs) xs in
    let long : length front ≡ at = length-take-le at xs (omega arith) in
    let from_at : drop at (front ++ zs ++ back) ≡ zs ++ back =
    ap (λ k. drop k (front ++ zs ++ back)) (sym long) ∙ (ap (drop (length front)) (append_assoc front zs back) ∙ drop-append_seam front (zs ++ back)) in
    let many : at + length zs - at ≡ length zs = omega arith in
    ap (λ k. take k (drop at (front ++ zs ++ back))) many ∙ (ap (take (length zs)) from_at ∙ take-append_seam zs back)

-- a range of the first of two lists
slice_range-append : (front back : List ℕ) (i j : ℕ) → i ≤ j → j ≤ length front → slice_range (front ++ back) i j ≡ slice_range front i j
slice_range-append front back i j order within =
    let enough : j - i ≤ length (drop i front) = simp length-drop (omega arith) in
    ap (take (j - i)) (drop-append-le i front back (omega arith)) ∙ take-append-le (j - i) (drop i front) back enough

-- a range that ends where the written one begins, or before, is as it was
pub slice_range-written-before : (xs zs : List ℕ) (at i j : ℕ) → at + length zs ≤ length xs → i ≤ j → j ≤ at → slice_range (written at zs xs) i j ≡ slice_range xs i j
slice_range-written-before xs zs at i j h order before =
    let front : List ℕ = take at xs in
    let back : List ℕ = drop (at + length zs) xs in
    let within : j ≤ length front = simp length-take (omega arith) in
    ap (λ ys. slice_range ys i j) (append_assoc front zs back) ∙ (slice_range-append front (zs ++ back) i j order within ∙ (sym (slice_range-append front (drop at xs) i j order within) ∙ ap (λ ys. slice_range ys i j) (take-append-drop at xs)))

-- a range that begins where the written one ends, or after it, is as it was
pub slice_range-written-after : (xs zs : List ℕ) (at i j : ℕ) → at + length zs ≤ length xs → at + length zs ≤ i → slice_range (written at zs xs) i j ≡ slice_range xs i j
slice_range-written-after xs zs at i j h after =
    let front : List ℕ = take at xs ++ zs in
    let stop : ℕ = at + length zs in
    let back : List ℕ = drop stop xs in
    let long : length front ≡ stop = simp (length-append, length-take) (omega arith) in
    let to_i : length front + (i - stop) ≡ i = omega arith in
    let same : stop + (i - stop) ≡ i = omega arith in
    ap (take (j - i)) (ap (λ k. drop k (front ++ back)) (sym to_i) ∙ (drop-append-add front back (i - stop) ∙ (drop-drop (i - stop) stop xs ∙ ap (λ k. drop k xs) same)))
