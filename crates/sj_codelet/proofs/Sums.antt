-- Exact sums that wrap at the end.
use Rattle.std.proofs.Common.{◌≡◌, ℕ, zero, suc, ◌+◌, ◌<◌, ℤ, ◌+ℤ◌, w64, refl, sym, ap, ◌∙◌, add-one, arith}
use Rattle.std.proofs.lemmas.Int.{int_wrap-add_left, int_wrap-add_right}
use Rattle.sj_codelet.specs.Ring.{wrap, sum_below}

pub sum_below_more : (n : ℕ) (f : ℕ → ℤ) → sum_below (n + 1) f ≡ sum_below n f +ℤ f n
sum_below_more n f = rw (add-one n) refl

pub same_sum : (n : ℕ) (f g : ℕ → ℤ) → ((k : ℕ) → k < n → f k ≡ g k) → sum_below n f ≡ sum_below n g
same_sum zero f g h = refl
same_sum (suc n) f g h =
    let rest = same_sum n f g (λ k l. h k (omega arith)) in
    ap (λ (s : ℤ). s +ℤ f n) rest ∙ ap (λ (t : ℤ). sum_below n g +ℤ t) (h n (omega arith))

-- sums of terms that are the same up to wrapping are the same up to wrapping
pub same_sum_wrapped : (n : ℕ) (f g : ℕ → ℤ) → ((k : ℕ) → k < n → wrap (f k) ≡ wrap (g k)) → wrap (sum_below n f) ≡ wrap (sum_below n g)
same_sum_wrapped zero f g h = refl
same_sum_wrapped (suc n) f g h =
    let rest = same_sum_wrapped n f g (λ k l. h k (omega arith)) in
    sym (int_wrap-add_left w64 (sum_below n f) (f n)) ∙ ap (λ (s : ℤ). wrap (s +ℤ f n)) rest ∙ int_wrap-add_left w64 (sum_below n g) (f n)
    ∙ sym (int_wrap-add_right w64 (sum_below n g) (f n)) ∙ ap (λ (t : ℤ). wrap (sum_below n g +ℤ t)) (h n (omega arith)) ∙ int_wrap-add_right w64 (sum_below n g) (g n)

-- a running total, one term on
pub total_more : (t v : ℤ) (n : ℕ) (f : ℕ → ℤ) → t ≡ wrap (sum_below n f) → v ≡ wrap (t +ℤ f n) → v ≡ wrap (sum_below (n + 1) f)
total_more t v n f e h =
    h ∙ ap (λ (s : ℤ). wrap (s +ℤ f n)) e ∙ int_wrap-add_left w64 (sum_below n f) (f n) ∙ ap (λ (s : ℤ). wrap s) (sym (sum_below_more n f))

-- a total that is added to an element
pub add_total : (a t : ℤ) (n m : ℕ) (f : ℕ → ℤ) → t ≡ wrap (sum_below n f) → n ≡ m → wrap (a +ℤ t) ≡ wrap (a +ℤ sum_below m f)
add_total a t n m f e h =
    ap (λ (s : ℤ). wrap (a +ℤ s)) e ∙ int_wrap-add_right w64 a (sum_below n f) ∙ ap (λ (k : ℕ). wrap (a +ℤ sum_below k f)) h
