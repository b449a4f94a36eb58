-- Rows of a matrix product.
use Rattle.std.proofs.Common.{◌≡◌, ℕ, ◌+◌, ◌*◌, ◌<◌, ℤ, pos, ◌+ℤ◌, ◌*ℤ◌, List, length, get_or, replicate, w64, FitsSigned, refl, sym, ap, ◌∙◌, arith}
use Rattle.std.proofs.lemmas.Int.{ints, int_wrap_fits, int_wrap-add_left, int_wrap-add_right, int_wrap-mul_left}
use Rattle.std.proofs.lemmas.Nat.{mul-add-lt}
use Rattle.sj_base.specs.Array.{Array, at, element}
use Rattle.sj_codelet.specs.Ring.{wrap, sum_below}
use Rattle.sj_codelet.specs.Equations.{matrix, product, gemm, gemm3}
use Rattle.sj_codelet.specs.Listing.{listing}
use Rattle.sj_codelet.proofs.Integers.{int_add-zero, int_zero-add}
use Rattle.sj_codelet.proofs.Elements.{same_grid, element-grid, element-zeros}
use Rattle.sj_codelet.proofs.Sums.{same_sum_wrapped, sum_below_more}
use Rattle.sj_codelet.proofs.Filling.{same_listing, listing_from_elements, at-listing}

-- before the first term
pub row_none : (xs : List ℤ) (f : ℕ → ℕ → ℤ) → ((j : ℕ) → j < length xs → FitsSigned w64 (get_or xs j (pos 0))) → xs ≡ listing (length xs) (λ j. wrap (at xs j +ℤ sum_below 0 (f j)))
row_none xs f fits =
    listing_from_elements (length xs) (λ j. wrap (at xs j +ℤ sum_below 0 (f j))) xs refl (λ j h. sym (ap (λ (z : ℤ). wrap z) (int_add-zero (at xs j)) ∙ int_wrap_fits w64 (at xs j) (fits j h)))

-- one term more in each column
pub row_more : (n l : ℕ) (c zs : List ℤ) (f : ℕ → ℕ → ℤ) (g : ℕ → ℤ) → zs ≡ listing n (λ j. wrap (at c j +ℤ sum_below l (f j))) → ((j : ℕ) → j < n → g j ≡ wrap (at zs j +ℤ f j l)) → listing n g ≡ listing n (λ j. wrap (at c j +ℤ sum_below (l + 1) (f j)))
row_more n l c zs f g e h =
    let F = λ (j : ℕ). wrap (at c j +ℤ sum_below l (f j)) in
    same_listing n g (λ j. wrap (at c j +ℤ sum_below (l + 1) (f j))) (λ j s.
    h j s
    ∙ ap (λ (ws : List ℤ). wrap (at ws j +ℤ f j l)) e
    ∙ ap (λ (z : ℤ). wrap (z +ℤ f j l)) (at-listing n F j (pos 0) s)
    ∙ int_wrap-add_left w64 (at c j +ℤ sum_below l (f j)) (f j l)
    ∙ ap (λ (z : ℤ). wrap z) (omega (arith, ints, sum_below_more l (f j))))

-- the product of three, by way of the wrapped product of two
pub gemm3_is : (m k l n : ℕ) (a b d t u c e : List ℤ) → t ≡ replicate (m * l) (pos 0)
    → u ≡ (gemm (matrix m k a) (matrix k l b) (matrix m l t)).elements
    → e ≡ (gemm (matrix m l u) (matrix l n d) (matrix m n c)).elements
    → e ≡ (gemm3 (matrix m k a) (matrix k l b) (matrix l n d) (matrix m n c)).elements
gemm3_is m k l n a b d t u c e zs first second =
    let A = matrix m k a in
    let B = matrix k l b in
    let D = matrix l n d in
    let dims = (matrix m n c).dims in
    let inner = (matrix m l t).dims in
    let f = λ (i : ℕ) (j : ℕ). wrap (element (matrix m n c) i j +ℤ product (matrix m l u) D i j) in
    let g = λ (i : ℕ) (j : ℕ). wrap (element (matrix m n c) i j +ℤ sum_below l (λ q. product A B i q *ℤ element D q j)) in
    let partial = λ (i : ℕ) (q : ℕ). wrap (element (matrix m l t) i q +ℤ product A B i q) in
    let zero : (i q : ℕ) → i < m → q < l → element (matrix m l t) i q ≡ pos 0 =
    λ i q hi hq. ap (λ (xs : List ℤ). at xs (i * l + q)) zs ∙ element-zeros inner (i * l + q) (omega (arith, mul-add-lt i l q m hi hq)) in
    let part : (i q : ℕ) → i < m → q < l → element (matrix m l u) i q ≡ wrap (product A B i q) =
    λ i q hi hq. ap (λ (xs : List ℤ). at xs (i * l + q)) first ∙ element-grid inner partial i q hi hq
    ∙ ap (λ (z : ℤ). wrap (z +ℤ product A B i q)) (zero i q hi hq) ∙ ap (λ (z : ℤ). wrap z) (int_zero-add (product A B i q)) in
    second ∙ ap (λ (x : Array). x.elements) (same_grid dims f g (λ i j hi hj.
    let s = sum_below l (λ q. element (matrix m l u) i q *ℤ element D q j) in
    let r = sum_below l (λ q. product A B i q *ℤ element D q j) in
    let C = element (matrix m n c) i j in
    sym (int_wrap-add_right w64 C s)
    ∙ ap (λ (z : ℤ). wrap (C +ℤ z)) (same_sum_wrapped l (λ q. element (matrix m l u) i q *ℤ element D q j) (λ q. product A B i q *ℤ element D q j) (λ q hq.
    ap (λ (z : ℤ). wrap (z *ℤ element D q j)) (part i q hi hq) ∙ int_wrap-mul_left w64 (product A B i q) (element D q j)))
    ∙ int_wrap-add_right w64 C r))
