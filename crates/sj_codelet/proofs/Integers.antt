-- Laws of the integers' product.
use Rattle.std.proofs.Common.{◌≡◌, ℕ, ◌+◌, ◌*◌, ℤ, pos, ◌+ℤ◌, ◌*ℤ◌, ap, sym, ◌∙◌, arith}
use Rattle.std.proofs.lemmas.Int.{ints}
use borrow.Author.Differences.{up, down, same_in, product_is, sum_is_lem}
use lib.IntN.{*ℤ_comm}

pub int_mul_comm : (a b : ℤ) → a *ℤ b ≡ b *ℤ a
int_mul_comm a b = *ℤ_comm a b

pub int_mul_assoc : (a b c : ℤ) → (a *ℤ b) *ℤ c ≡ a *ℤ (b *ℤ c)
int_mul_assoc a b c =
    let ab = product_is a b in
    let bc = product_is b c in
    let by = λ (k : ℕ) (m n : ℕ) (e : m ≡ n). ap (λ x. x * k) e in
    let left = product_is (a *ℤ b) c in
    let right = product_is a (b *ℤ c) in
    let ups : up ((a *ℤ b) *ℤ c) ≡ up (a *ℤ (b *ℤ c)) =
    omega (arith, by (up c) _ _ ab.0, by (down c) _ _ ab.1, by (up a) _ _ bc.0, by (down a) _ _ bc.1) in
    let downs : down ((a *ℤ b) *ℤ c) ≡ down (a *ℤ (b *ℤ c)) =
    omega (arith, by (down c) _ _ ab.0, by (up c) _ _ ab.1, by (down a) _ _ bc.0, by (up a) _ _ bc.1) in
    same_in _ _ (λ i. ups i + sym downs i)

pub int_add_mul : (a b c : ℤ) → (a +ℤ b) *ℤ c ≡ a *ℤ c +ℤ b *ℤ c
int_add_mul a b c =
    let s = sum_is_lem a b in
    let by = λ (k : ℕ) (m n : ℕ) (e : m ≡ n). ap (λ x. x * k) e in
    let whole = product_is (a +ℤ b) c in
    let left = product_is a c in
    let right = product_is b c in
    let sums = sum_is_lem (a *ℤ c) (b *ℤ c) in
    same_in _ _ (omega (arith, by (up c) _ _ s, by (down c) _ _ s))

pub int_mul_add : (a b c : ℤ) → c *ℤ (a +ℤ b) ≡ c *ℤ a +ℤ c *ℤ b
int_mul_add a b c =
    int_mul_comm c (a +ℤ b) ∙ int_add_mul a b c ∙ ap (λ (z : ℤ). z +ℤ b *ℤ c) (int_mul_comm a c) ∙ ap (λ (z : ℤ). c *ℤ a +ℤ z) (int_mul_comm b c)

-- a linear function one step on
pub int_linear_more : (a b : ℤ) (i : ℕ) → (a +ℤ (b *ℤ pos i)) +ℤ b ≡ a +ℤ (b *ℤ pos (i + 1))
int_linear_more a b i =
    let next : pos (i + 1) ≡ pos i +ℤ pos 1 = omega (arith, ints) in
    let one : b *ℤ pos 1 ≡ b = omega (arith, ints) in
    let more = int_mul_add (pos i) (pos 1) b in
    omega (arith, ints, ap (λ (z : ℤ). b *ℤ z) next)

pub int_mul-zero : (b : ℤ) → b *ℤ pos 0 ≡ pos 0
int_mul-zero b = omega (arith, ints)

pub int_add-zero : (a : ℤ) → a +ℤ pos 0 ≡ a
int_add-zero a = omega (arith, ints)

pub int_zero-add : (a : ℤ) → pos 0 +ℤ a ≡ a
int_zero-add a = omega (arith, ints)
