-- Numbers: sums with nothing or one more, and factors.
use Rattle.std.proofs.Common.{◌≡◌, ℕ, zero, suc, ◌+◌, ◌*◌, ◌<◌, ◌≤◌, ℤ, pos, negsuc, List, ◌∷◌, length, refl, arith, w64, of_z, ◌^◌}
use Rattle.std.specs.Prelude.{FitsSigned}

pub suc-add : (n : ℕ) → suc n ≡ n + 1
suc-add n = omega arith

pub none_more : (n : ℕ) → n + 0 ≡ n
none_more n = omega arith

pub none_first : (n : ℕ) → 0 + n ≡ n
none_first n = omega arith

pub all_of : (n : ℕ) → 0 + n ≤ n
all_of n = omega arith

pub one_more : (n k : ℕ) → n + suc k ≡ (n + 1) + k
one_more n k = omega arith

pub length_more : {X : Type 0} (n : ℕ) (x : X) (xs : List X) → (n + 1) + length xs ≡ n + length (x ∷ xs)
length_more n x xs = omega arith

-- a product that isn't 0 has a second factor that isn't
pub some_factor : (r c k : ℕ) → k < r * c → 0 < c
some_factor r zero k h = absurd (omega arith)
some_factor r (suc c) k h = omega arith

pub positive_product : (a b : ℕ) → 0 < a → 0 < b → 0 < a * b
positive_product a b h k = grind arith

pub one_by_one : {a b : ℕ} → a ≡ 1 → b ≡ 1 → a * b ≡ 1
one_by_one {a} {b} e f = rw (e, f) refl

-- a signed word, and its bits as a number
pub of_z-below : (z : ℤ) → FitsSigned w64 z → of_z w64 z < 2 ^ 64
of_z-below (pos n) fits = omega (arith, fits.sfits)
of_z-below (negsuc n) fits = omega arith

pub same_pair : (x y : ℕ × ℕ) → x.0 ≡ y.0 → x.1 ≡ y.1 → x ≡ y
same_pair x y e f = λ i. (e i, f i)
