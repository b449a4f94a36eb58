-- Min-plus sums of numbers that aren't negative.
use Rattle.std.proofs.Common.{◌⊎◌, ◌≡◌, ℤ, pos, ◌+ℤ◌, ◌≤ℤ◌, sym, arith}
use Rattle.std.specs.Int.Signed.{≤ℤ_refl}
use Rattle.std.specs.Int.{int_min}
use Rattle.std.proofs.lemmas.Int.{ints, clamps}
use Rattle.sj_codelet.specs.MinPlus.{inf, greatest, plus}

pub plus-mono : {a a' b b' : ℤ} → a ≤ℤ a' → b ≤ℤ b' → plus a b ≤ℤ plus a' b'
plus-mono h k = grind (arith, ints, clamps)

pub plus-assoc : (a b c : ℤ) → pos 0 ≤ℤ a → pos 0 ≤ℤ b → pos 0 ≤ℤ c → plus (plus a b) c ≡ plus a (plus b c)
plus-assoc a b c f g h = grind (arith, ints, clamps)

pub le-trans : {a b c : ℤ} → a ≤ℤ b → b ≤ℤ c → a ≤ℤ c
le-trans h k = omega (arith, ints)

pub le-same : {a b : ℤ} → a ≡ b → a ≤ℤ b
le-same e = omega (arith, ints)

pub le-antisym : {a b : ℤ} → a ≤ℤ b → b ≤ℤ a → a ≡ b
le-antisym h k = omega (arith, ints)

-- a sum is no less than its parts
pub plus-above_left : (a b : ℤ) → a ≤ℤ inf → pos 0 ≤ℤ b → a ≤ℤ plus a b
plus-above_left a b h k = grind (arith, ints, clamps)

pub plus-above_right : (a b : ℤ) → b ≤ℤ inf → pos 0 ≤ℤ a → b ≤ℤ plus a b
plus-above_right a b h k = grind (arith, ints, clamps)

-- a way by a, b and c, where e is a shortcut for b and c
pub short_right : {a b c x e g : ℤ} → pos 0 ≤ℤ a → pos 0 ≤ℤ b → pos 0 ≤ℤ c → plus a b ≤ℤ x → e ≤ℤ plus b c → g ≤ℤ plus a e → g ≤ℤ plus x c
short_right {a} {b} {c} na nb nc hx he hg =
    le-trans hg (le-trans (plus-mono (≤ℤ_refl a) he)
    (le-trans (le-same (sym (plus-assoc a b c na nb nc))) (plus-mono hx (≤ℤ_refl c))))

-- the same where it is one for a and b
pub short_left : {a b c y e g : ℤ} → pos 0 ≤ℤ a → pos 0 ≤ℤ b → pos 0 ≤ℤ c → plus b c ≤ℤ y → e ≤ℤ plus a b → g ≤ℤ plus e c → g ≤ℤ plus a y
short_left {a} {b} {c} na nb nc hy he hg =
    le-trans hg (le-trans (plus-mono he (≤ℤ_refl c))
    (le-trans (le-same (plus-assoc a b c na nb nc)) (plus-mono (≤ℤ_refl a) hy)))

-- lengths that are cut off at the greatest number below `inf`
abbrev pub cut_off : ℤ → ℤ
cut_off z = int_min greatest z

pub plus-cut_off : (a b : ℤ) → pos 0 ≤ℤ a → pos 0 ≤ℤ b → plus (cut_off a) (cut_off b) ≡ cut_off (a +ℤ b)
plus-cut_off a b h k = grind (arith, ints, clamps)

pub cut_off-range : (a : ℤ) → pos 0 ≤ℤ a → (pos 0 ≤ℤ cut_off a) × (cut_off a ≤ℤ greatest)
cut_off-range a h = (grind (arith, ints, clamps), grind (arith, ints, clamps))

pub cut_off-below : (a : ℤ) → cut_off a ≤ℤ a
cut_off-below a = grind (arith, ints, clamps)

pub cut_off-same : (a : ℤ) → a ≤ℤ greatest → cut_off a ≡ a
cut_off-same a h = grind (arith, ints, clamps)

pub plus-inf_left : (a : ℤ) → plus inf a ≡ inf
plus-inf_left a = grind (arith, ints, clamps)

pub plus-inf_right : (a : ℤ) → plus a inf ≡ inf
plus-inf_right a = grind (arith, ints, clamps)

pub least_of_two : (x y : ℤ) → (int_min x y ≡ x) ⊎ (int_min x y ≡ y)
least_of_two x y = grind (arith, ints, clamps)

pub least-left : (x y : ℤ) → int_min x y ≤ℤ x
least-left x y = grind (arith, ints, clamps)

pub least-right : (x y : ℤ) → int_min x y ≤ℤ y
least-right x y = grind (arith, ints, clamps)
