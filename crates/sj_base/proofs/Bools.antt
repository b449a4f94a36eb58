-- Tests: what std's lemmas on them leave.
use Rattle.std.proofs.Common.{◌≡◌, ℕ, Bool, true, false, not, ◌&&◌, ◌||◌, cond, ◌≤◌, refl, sym, ◌∙◌, arith, nat_eq}
use Rattle.std.proofs.lemmas.Bool.{false≢true}
use Rattle.std.proofs.lemmas.Bool.Decides.{Decides-eqb}

pub or_true : (a : Bool) → (a || true) ≡ true
or_true true = refl
or_true false = refl

pub or_false : (a : Bool) → (a || false) ≡ true → a ≡ true
or_false true e = refl
or_false false e = e

-- the first of two, where one holds and the second doesn't
pub or_first : (a b : Bool) → (a || b) ≡ true → b ≡ false → a ≡ true
or_first true b e f = refl
or_first false b e f = absurd (false≢true (sym f ∙ e))

pub and_true : (a : Bool) → (a && true) ≡ a
and_true true = refl
and_true false = refl

pub and_swap : (a b : Bool) → (a && b) ≡ (b && a)
and_swap true true = refl
and_swap true false = refl
and_swap false true = refl
and_swap false false = refl

pub and_rest : (a b : Bool) → (a && b) ≡ true → b ≡ true
and_rest true b e = e
and_rest false b e = absurd (false≢true e)

-- the second of three
pub and_middle : (a b c : Bool) → (a && b && c) ≡ true → b ≡ true
and_middle true true c e = refl
and_middle true false c e = e
and_middle false b c e = absurd (false≢true e)

-- one holds, or else another: what follows where the one does
pub implied : (a b : Bool) → (not a || b) ≡ true → a ≡ true → b ≡ true
implied true b e f = e
implied false b e f = absurd (false≢true f)

pub not_not : (a : Bool) → not (not a) ≡ a
not_not true = refl
not_not false = refl

-- two tests that imply each other are one
pub same_test : (a b : Bool) → (a ≡ true → b ≡ true) → (b ≡ true → a ≡ true) → a ≡ b
same_test true b f g = sym (f refl)
same_test false true f g = g refl
same_test false false f g = refl

-- what an element counts by a test
abbrev pub tally : Bool → ℕ
tally a = cond a 1 0

pub tally-le : (a : Bool) → tally a ≤ 1
tally-le true = omega arith
tally-le false = omega arith

pub nat_eq-itself : (n : ℕ) → nat_eq n n ≡ true
nat_eq-itself n = (Decides-eqb n n).1 refl
