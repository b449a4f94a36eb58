-- Lists of bytes with zeros behind them.
use Rattle.std.proofs.Common.{◌≡◌, ℕ, ◌+◌, ◌-◌, ◌≤◌, ◌<◌, List, ◌++◌, length, take, drop, replicate, slice_range, min, sym, ◌∙◌, ap, append_assoc, append-nil, ⊎_elim, arith, length-drop, length-append}
use Rattle.std.proofs.lemmas.Bool.{cases_lt}
use Rattle.std.proofs.lemmas.List.{drop-append-le, take-append-le, take-replicate, drop-replicate, length-replicate, replicate-append-replicate, take_all, take_min}
use Rattle.std.proofs.Math.Seq.{drop-append-add, take-append-add}
use Rattle.sj_edge.specs.Held.{written}

-- with the zeros behind it there are as many as wanted
pub length-filled : (xs : List ℕ) (size : ℕ) → length xs ≤ size → length (xs ++ replicate (size - length xs) 0) ≡ size
length-filled xs size within = simp (length-append, length-replicate) (omega arith)

-- what is filled up as far as `end` has the bytes that it had
pub filled : (xs : List ℕ) (size end : ℕ) → length xs ≤ size → end ≤ size →
    (xs ++ replicate (end - length xs) 0) ++ replicate (size - length (xs ++ replicate (end - length xs) 0)) 0 ≡ xs ++ replicate (size - length xs) 0
filled xs size end within before =
    let more : ℕ = end - length xs in
    let long : length (xs ++ replicate more 0) ≡ length xs + more = simp (length-append, length-replicate) (omega arith) in
    let whole : more + (size - (length xs + more)) ≡ size - length xs = omega arith in
    ap (λ n. (xs ++ replicate more 0) ++ replicate (size - n) 0) long ∙ (append_assoc xs (replicate more 0) (replicate (size - (length xs + more)) 0) ∙ ap (λ ys. xs ++ ys) (replicate-append-replicate more (size - (length xs + more)) 0 ∙ ap (λ n. replicate n 0) whole))

-- what is written over the first of two lists leaves the second
pub written-append : (xs ys zs : List ℕ) (at : ℕ) → at + length zs ≤ length xs → written at zs (xs ++ ys) ≡ written at zs xs ++ ys
written-append xs ys zs at h =
    let front : List ℕ = take at xs in
    let back : List ℕ = drop (at + length zs) xs in
    ap (λ (ws : List ℕ). (ws ++ zs) ++ drop (at + length zs) (xs ++ ys)) (take-append-le at xs ys (omega arith))
    ∙ ap (λ (ws : List ℕ). (front ++ zs) ++ ws) (drop-append-le (at + length zs) xs ys h)
    ∙ sym (append_assoc (front ++ zs) back ys)

-- a range that begins behind the list is zeros
range-behind : (xs : List ℕ) (k at n : ℕ) → length xs ≤ at → at + n ≤ length xs + k → slice_range (xs ++ replicate k 0) at (at + n) ≡ replicate n 0
range-behind xs k at n behind within =
    let m : ℕ = at - length xs in
    let many : at + n - at ≡ n = omega arith in
    let place : at ≡ length xs + m = omega arith in
    ap (λ c. take c (drop at (xs ++ replicate k 0))) many ∙ (ap (λ c. take n (drop c (xs ++ replicate k 0))) place ∙ (ap (take n) (drop-append-add xs (replicate k 0) m ∙ drop-replicate m k 0) ∙ take-replicate n (k - m) 0 (omega arith)))

-- a range that begins within the list is what the list has of it, and zeros
range-within : (xs : List ℕ) (k at n : ℕ) → at ≤ length xs → at + n ≤ length xs + k → slice_range (xs ++ replicate k 0) at (at + n) ≡ take n (drop at xs) ++ replicate (n - (length xs - at)) 0
range-within xs k at n inside within =
    let front : List ℕ = drop at xs in
    let many : at + n - at ≡ n = omega arith in
    let long : length front ≡ length xs - at = length-drop at xs in
    let begin : slice_range (xs ++ replicate k 0) at (at + n) ≡ take n (front ++ replicate k 0) =
    ap (λ c. take c (drop at (xs ++ replicate k 0))) many ∙ ap (take n) (drop-append-le at xs (replicate k 0) inside) in
    ⊎_elim
    (λ short.
    let none : n - (length xs - at) ≡ 0 = omega arith in
    begin ∙ (take-append-le n front (replicate k 0) (omega (arith, long)) ∙ (sym (append-nil (take n front)) ∙ ap (λ c. take n front ++ replicate c 0) (sym none))))
    (λ rest.
    let m : ℕ = n - (length xs - at) in
    let both : n ≡ length front + m = omega (arith, long) in
    let all : take n front ≡ front = take_all n front (omega (arith, long)) in
    begin ∙ (ap (λ c. take c (front ++ replicate k 0)) both ∙ (take-append-add front (replicate k 0) m ∙ (ap (λ ys. front ++ ys) (take-replicate m k 0 (omega arith)) ∙ ap (λ ys. ys ++ replicate m 0) (sym all)))))
    (cases_lt n (length xs - at))

-- a range of a list with zeros behind it: what the list has of the range, and zeros
pub slice_range-zeros : (xs : List ℕ) (k at n start had : ℕ) → at + n ≤ length xs + k → start ≡ min at (length xs) → had ≡ min n (length xs - start) →
    slice_range xs start (start + had) ++ replicate (n - had) 0 ≡ slice_range (xs ++ replicate k 0) at (at + n)
slice_range-zeros xs k at n start had within begins has =
    let many : start + had - start ≡ had = omega arith in
    let least : at < length xs → had ≡ min n (length (drop at xs)) = λ inside. omega (arith, length-drop at xs) in
    ⊎_elim
    (λ inside.
    let same : start ≡ at = omega arith in
    let rest : n - had ≡ n - (length xs - at) = omega arith in
    ap (λ c. take c (drop start xs) ++ replicate (n - had) 0) many ∙ (ap (λ c. take had (drop c xs) ++ replicate (n - had) 0) same ∙ (ap (λ c. take had (drop at xs) ++ replicate c 0) rest ∙ ((ap (λ c. take c (drop at xs) ++ replicate (n - (length xs - at)) 0) (least inside) ∙ ap (λ ys. ys ++ replicate (n - (length xs - at)) 0) (take_min n (drop at xs))) ∙ sym (range-within xs k at n (omega arith) within)))))
    (λ behind.
    let none : had ≡ 0 = omega arith in
    let all : n - 0 ≡ n = omega arith in
    ap (λ c. take c (drop start xs) ++ replicate (n - had) 0) many ∙ (ap (λ c. take c (drop start xs) ++ replicate (n - c) 0) none ∙ ap (λ c. replicate c 0) all ∙ sym (range-behind xs k at n behind within)))
    (cases_lt at (length xs))
