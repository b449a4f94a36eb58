-- The least of a number and the first values of a function.
use Rattle.std.proofs.Common.{◌≡◌, ℕ, zero, suc, ◌+◌, ◌<◌, ◌∙◌, ℤ, add-one, ap, arith, refl}
use Rattle.std.specs.Int.{int_min}
use Rattle.sj_codelet.specs.MinPlus.{least_below}

pub least_below_more : (n : ℕ) (z : ℤ) (f : ℕ → ℤ) → least_below (n + 1) z f ≡ int_min (least_below n z f) (f n)
least_below_more n z f = ap (λ m. least_below m z f) (add-one n)

pub least_step : (f : ℕ → ℤ) (n : ℕ) (z low v new : ℤ) → low ≡ least_below n z f → new ≡ int_min low v → v ≡ f n → new ≡ least_below (n + 1) z f
least_step f n z low v new e h k = rw (least_below_more n z f) cc

same_least_at : (n : ℕ) (z : ℤ) (f g : ℕ → ℤ) → ((q : ℕ) → q < n → f q ≡ g q) → least_below n z f ≡ least_below n z g
same_least_at zero z f g k = refl
same_least_at (suc n) z f g k =
    let first = same_least_at n z f g (λ q h. k q (omega arith)) in
    let last = k n (omega arith) in
    ap (λ x. int_min x (f n)) first ∙ ap (int_min (least_below n z g)) last

pub same_least : (n m : ℕ) (z w : ℤ) (f g : ℕ → ℤ) → n ≡ m → z ≡ w → ((q : ℕ) → q < n → f q ≡ g q) → least_below n z f ≡ least_below m w g
same_least n m z w f g e h k = rw (← e, ← h) (same_least_at n z f g k)

pub least_two_steps : (f : ℕ → ℤ) (n : ℕ) (z low u v new : ℤ) → low ≡ least_below n z f → new ≡ int_min (int_min low u) v → u ≡ f n → v ≡ f (n + 1) → new ≡ least_below (n + 2) z f
least_two_steps f n z low u v new e h k i =
    let two : n + 1 + 1 ≡ n + 2 = omega arith in
    least_step f (n + 1) z (int_min low u) v new (least_step f n z low u (int_min low u) e refl k) h i ∙ ap (λ m. least_below m z f) two
