-- Sums of min-plus on numbers that are held 2^63 lower.
use Rattle.std.proofs.Common.{◌≡◌, ℤ, pos, negsuc, ◌+ℤ◌, ◌-ℤ◌, ◌≤ℤ◌, ◌<ℤ◌, arith, ⊎_elim, FitsSigned, ◌∙◌, ap}
use Rattle.std.specs.Int.{int_min, w64}
use Rattle.std.proofs.lemmas.Int.{ints, clamps}
use Rattle.sj_codelet.specs.MinPlus.{inf, least, plus}
use Rattle.sj_minplus.specs.Short.{IsShort, raised}

-- a short number, or the greatest, so that a sum of two is at most 2^64 - 2
short_below : (z : ℤ) → IsShort z → z ≤ℤ inf
short_below z s = ⊎_elim (λ (e : z ≡ inf). omega (arith, ints)) (λ (h : z <ℤ pos 4611686018427387904). omega (arith, ints)) s.stop

pub fits_within : (z : ℤ) → least ≤ℤ z → z ≤ℤ inf → FitsSigned w64 z
fits_within (pos n) h k = record { sfits = omega (arith, ints) }
fits_within (negsuc n) h k = record { sfits = omega (arith, ints) }

-- the lesser of a number that is held lower and a sum, by the kinds of the sum's numbers
step_inf : (b y : ℤ) → pos 0 ≤ℤ b → b ≤ℤ inf → y <ℤ pos 0 → raised (int_min y (inf +ℤ least +ℤ b)) ≡ int_min (raised y) inf
step_inf b y h k n = omega (arith, ints, clamps)

step_of_inf : (a y : ℤ) → pos 0 ≤ℤ a → a <ℤ pos 4611686018427387904 → y <ℤ pos 0 → raised (int_min y (a +ℤ least +ℤ inf)) ≡ int_min (raised y) (plus a inf)
step_of_inf a y h k n = grind (arith, ints, clamps)

step_near : (a b y : ℤ) → pos 0 ≤ℤ a → a <ℤ pos 4611686018427387904 → pos 0 ≤ℤ b → b <ℤ pos 4611686018427387904 → raised (int_min y (a +ℤ least +ℤ b)) ≡ int_min (raised y) (plus a b)
step_near a b y h k i j = grind (arith, ints, clamps)

pub low_step : (a b y : ℤ) → IsShort a → IsShort b → y <ℤ pos 0 → raised (int_min y (a +ℤ least +ℤ b)) ≡ int_min (raised y) (plus a b)
low_step a b y s t n =
    ⊎_elim (λ (e : a ≡ inf). rw e (step_inf b y t.start (short_below b t) n)) (λ (h : a <ℤ pos 4611686018427387904).
    ⊎_elim (λ (e : b ≡ inf). rw e (step_of_inf a y s.start h n)) (λ (k : b <ℤ pos 4611686018427387904). step_near a b y s.start h t.start k) t.stop) s.stop

pub low_stays : (y v : ℤ) → y <ℤ pos 0 → int_min y v <ℤ pos 0
low_stays y v n = omega (arith, ints, clamps)

pub lowered_low : (z : ℤ) → FitsSigned w64 z → (z +ℤ least) <ℤ pos 0
lowered_low (pos n) f = let h = f.sfits in omega (arith, ints)
lowered_low (negsuc n) f = omega (arith, ints)

-- two sums one after the other
pub low_two_steps : (a b d e y : ℤ) → IsShort a → IsShort b → IsShort d → IsShort e → y <ℤ pos 0 → raised (int_min (int_min y (a +ℤ least +ℤ b)) (d +ℤ least +ℤ e)) ≡ int_min (int_min (raised y) (plus a b)) (plus d e)
low_two_steps a b d e y s t u v n =
    low_step d e (int_min y (a +ℤ least +ℤ b)) u v (low_stays y (a +ℤ least +ℤ b) n)
    ∙ ap (λ x. int_min x (plus d e)) (low_step a b y s t n)

-- the lesser of a number and a sum, by what the sum's first number leaves of it
left_near : (x a b : ℤ) → x ≤ℤ inf → pos 0 ≤ℤ a → a <ℤ pos 4611686018427387904 → pos 0 ≤ℤ b → b <ℤ pos 4611686018427387904 → int_min b (x -ℤ a) +ℤ a ≡ int_min x (plus a b)
left_near x a b top h k i j = grind (arith, ints, clamps)

left_of_inf : (x a : ℤ) → x ≤ℤ inf → pos 0 ≤ℤ a → a <ℤ pos 4611686018427387904 → int_min inf (x -ℤ a) +ℤ a ≡ int_min x (plus a inf)
left_of_inf x a top h k = grind (arith, ints, clamps)

left_inf : (x b : ℤ) → x ≤ℤ inf → pos 0 ≤ℤ b → int_min b (x -ℤ inf) +ℤ inf ≡ int_min x inf
left_inf x b top h = omega (arith, ints, clamps)

pub left_lesser : (x a b : ℤ) → x ≤ℤ inf → IsShort a → IsShort b → int_min b (x -ℤ a) +ℤ a ≡ int_min x (plus a b)
left_lesser x a b top s t =
    ⊎_elim (λ (e : a ≡ inf). rw e (left_inf x b top t.start)) (λ (h : a <ℤ pos 4611686018427387904).
    ⊎_elim (λ (e : b ≡ inf). rw e (left_of_inf x a top s.start h)) (λ (k : b <ℤ pos 4611686018427387904). left_near x a b top s.start h t.start k) t.stop) s.stop

pub left_fits : (x a b : ℤ) → pos 0 ≤ℤ x → x ≤ℤ inf → pos 0 ≤ℤ a → a ≤ℤ inf → pos 0 ≤ℤ b → FitsSigned w64 (int_min b (x -ℤ a) +ℤ a)
left_fits x a b h k i j l =
    fits_within (int_min b (x -ℤ a) +ℤ a) (omega (arith, ints, clamps)) (omega (arith, ints, clamps))

pub left_of : (x a : ℤ) → pos 0 ≤ℤ x → x ≤ℤ inf → pos 0 ≤ℤ a → a ≤ℤ inf → FitsSigned w64 (x -ℤ a)
left_of x a h k i j = fits_within (x -ℤ a) (omega (arith, ints)) (omega (arith, ints))
