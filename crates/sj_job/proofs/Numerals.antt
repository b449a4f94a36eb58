-- Words that say numbers: the decimal of a number says it, and each number that a word says is within i64.
use Rattle.std.proofs.Common.{◌≡◌, ℕ, zero, suc, ◌<◌, ◌≤◌, Bool, true, false, not, cond, ◌&&◌, ◌||◌, Option, Some, None, is_some, List, [], ◌∷◌, ℤ, pos, negsuc, unwrap_or, length, codes, nat_eq, refl, ap, ◌∙◌, arith, bytes_eq}
use Rattle.std.specs.Prelude.{nat_le, nat_lt, ◌^◌}
use Rattle.std.specs.Char.{is_ascii_digit}
use Rattle.std.specs.Fmt.{decimal}
use Rattle.std.specs.List.{list_all}
use Rattle.std.specs.Str.Parse.{digits_value}
use Rattle.std.proofs.lemmas.Bool.{le-leb, lt-ltb, and_from, and_parts}
use Rattle.std.proofs.lemmas.Bool.Decides.{nat_tests}
use Rattle.std.proofs.lemmas.Fmt.{decimal_nonempty, digits_decimal, digits_value-decimal}
use Rattle.sj_codelet.specs.MinPlus.{inf}
use Rattle.sj_job.specs.Form.{is_bracket}
use Rattle.sj_job.specs.Grammar.{is_piece}
use Rattle.sj_job.specs.Word.{count_of, integer_of, is_count, is_digits, is_empty, negative, negative_of}
use Rattle.sj_job.proofs.Digits.{own}

-- what all pass, they pass a weaker test too
pub all-weaker : {X : Type 0} (s t : X → Bool) → ((x : X) → s x ≡ true → t x ≡ true) → (xs : List X) → list_all s xs ≡ true → list_all t xs ≡ true
all-weaker s t h [] all = refl
all-weaker s t h (x ∷ xs) all =
    let both = and_parts (s x) (list_all s xs) all in and_from (t x) (list_all t xs) (h x both.0) (all-weaker s t h xs both.1)

-- ---- decimal numbers

pub all-digits : (n : ℕ) → n < 2 ^ 64 → list_all is_ascii_digit (decimal n) ≡ true
all-digits n h = digits_decimal own n h

some-digit : (ds : List ℕ) → 0 < length ds → not (is_empty ds) ≡ true
some-digit [] h = absurd (omega arith)
some-digit (d ∷ ds) h = grind (arith, nat_tests)

pub are-digits : (n : ℕ) → n < 2 ^ 64 → is_digits (decimal n) ≡ true
are-digits n h = and_from (not (is_empty (decimal n))) (list_all is_ascii_digit (decimal n)) (some-digit (decimal n) (decimal_nonempty n h)) (all-digits n h)

chosen : (a : Bool) (v n : ℕ) → a ≡ true → v ≡ n → nat_lt n (2 ^ 63) ≡ true → cond (a && nat_lt v (2 ^ 63)) (Some v) None ≡ Some n
chosen true v n e g h = ap (λ m. cond (nat_lt m (2 ^ 63)) (Some m) None) g ∙ ap (λ b. cond b (Some n) None) h
chosen false v n e g h = absurd (cc)

pub decimal-count : (n : ℕ) → n < 2 ^ 63 → count_of (decimal n) ≡ Some n
decimal-count n h = chosen (is_digits (decimal n)) (digits_value 10 (decimal n)) n (are-digits n (omega (arith, h))) (digits_value-decimal own n (omega (arith, h))) (lt-ltb n (2 ^ 63) h)

pub decimal-is_count : (n : ℕ) → n < 2 ^ 63 → is_count (decimal n) ≡ true
decimal-is_count n h = ap (λ (o : Option ℕ). is_some o) (decimal-count n h)

pub decimal-counts : (n : ℕ) → n < 2 ^ 63 → unwrap_or (count_of (decimal n)) 0 ≡ n
decimal-counts n h = ap (λ (o : Option ℕ). unwrap_or o 0) (decimal-count n h)

digit-piece : (b : ℕ) → is_ascii_digit b ≡ true → not (is_bracket b || nat_eq b 44) ≡ true
digit-piece b h = grind (arith, nat_tests)

pub decimal-piece : (n : ℕ) → n < 2 ^ 64 → is_piece (decimal n) ≡ true
decimal-piece n h = all-weaker is_ascii_digit (λ b. not (is_bracket b || nat_eq b 44)) digit-piece (decimal n) (all-digits n h)

digit-no_i : (c : ℕ) (b : Bool) → is_ascii_digit c ≡ true → (nat_eq c 105 && b) ≡ false
digit-no_i c b h = grind (arith, nat_tests)

no-inf : (ds : List ℕ) → list_all is_ascii_digit ds ≡ true → bytes_eq ds (codes "inf") ≡ false
no-inf [] h = refl
no-inf (c ∷ cs) h = digit-no_i c (bytes_eq cs (codes "nf")) (and_parts (is_ascii_digit c) (list_all is_ascii_digit cs) h).0

read : (b : Bool) (o : Option ℕ) (n : ℕ) (other : Option ℤ) → b ≡ false → o ≡ Some n → cond b (Some inf) (elim o as (λ _. Option ℤ) [ Some n ↦ Some (pos n) | None ↦ other ]) ≡ Some (pos n)
read true o n other e f = absurd (cc)
read false o n other e f = ap (λ (o : Option ℕ). elim o as (λ _. Option ℤ) [ Some n ↦ Some (pos n) | None ↦ other ]) f

pub decimal-integer : (n : ℕ) → n < 2 ^ 63 → integer_of (decimal n) ≡ Some (pos n)
decimal-integer n h = read (bytes_eq (decimal n) (codes "inf")) (count_of (decimal n)) n (negative_of (decimal n)) (no-inf (decimal n) (all-digits n (omega (arith, h)))) (decimal-count n h)

-- ---- `-` and a number

uncounted : (b t : Bool) (v : ℕ) → cond (b && false && t) (Some v) None ≡ None
uncounted true t v = refl
uncounted false t v = refl

negated : (a : Bool) (v n : ℕ) → a ≡ true → v ≡ n → nat_le n (2 ^ 63) ≡ true → cond (a && nat_le v (2 ^ 63)) (Some (negative v)) None ≡ Some (negative n)
negated true v n e g h = ap (λ m. cond (nat_le m (2 ^ 63)) (Some (negative m)) None) g ∙ ap (λ b. cond b (Some (negative n)) None) h
negated false v n e g h = absurd (cc)

pub minus-integer : (n : ℕ) → n < 2 ^ 63 → integer_of (45 ∷ decimal (suc n)) ≡ Some (negsuc n)
minus-integer n h =
    let ds = decimal (suc n) in
    ap (λ (o : Option ℕ). elim o as (λ _. Option ℤ) [ Some n ↦ Some (pos n) | None ↦ negative_of (45 ∷ ds) ]) (uncounted (not (is_empty (45 ∷ ds))) (nat_lt (digits_value 10 (45 ∷ ds)) (2 ^ 63)) (digits_value 10 (45 ∷ ds)))
    ∙ negated (is_digits ds) (digits_value 10 ds) (suc n) (are-digits (suc n) (omega (arith, h))) (digits_value-decimal own (suc n) (omega (arith, h))) (le-leb (suc n) (2 ^ 63) (omega (arith, h)))

-- ---- what any word says

counted : (t a : Bool) (v : ℕ) → (a && nat_lt v (2 ^ 63)) ≡ t → unwrap_or (cond t (Some v) None) 0 < 2 ^ 63
counted true a v e = let h = (and_parts a (nat_lt v (2 ^ 63)) e).1 in grind (arith, nat_tests, h)
counted false a v e = omega arith

-- a count is below 2^63, also that of a word that says none
pub count-below : (w : List ℕ) → unwrap_or (count_of w) 0 < 2 ^ 63
count-below w = counted (is_digits w && nat_lt (digits_value 10 w) (2 ^ 63)) (is_digits w) (digits_value 10 w) refl

-- from -2^63 to 2^63 - 1
abbrev pub IsI64 : ℤ → Type 0
IsI64 (pos n) = n < 2 ^ 63
IsI64 (negsuc n) = n < 2 ^ 63

minus-fits : (v : ℕ) → v ≤ 2 ^ 63 → IsI64 (negative v)
minus-fits zero h = omega arith
minus-fits (suc m) h = omega (arith, h)

minus-by : (t a : Bool) (v : ℕ) → (a && nat_le v (2 ^ 63)) ≡ t → IsI64 (unwrap_or (cond t (Some (negative v)) None) (pos 0))
minus-by true a v e = minus-fits v (let h = (and_parts a (nat_le v (2 ^ 63)) e).1 in grind (arith, nat_tests, h))
minus-by false a v e = omega arith

minus-of : (w : List ℕ) → IsI64 (unwrap_or (negative_of w) (pos 0))
minus-of [] = omega arith
minus-of (b ∷ ds) = minus-by (nat_eq b 45 && is_digits ds && nat_le (digits_value 10 ds) (2 ^ 63)) (nat_eq b 45 && is_digits ds) (digits_value 10 ds) refl

fits-by : (b : Bool) (w : List ℕ) (o : Option ℕ) → unwrap_or o 0 < 2 ^ 63 → IsI64 (unwrap_or (cond b (Some inf) (elim o as (λ _. Option ℤ) [ Some n ↦ Some (pos n) | None ↦ negative_of w ])) (pos 0))
fits-by true w o h = omega arith
fits-by false w (Some n) h = h
fits-by false w None h = minus-of w

-- an integer is an i64, also that of a word that says none
pub integer-fits : (w : List ℕ) → IsI64 (unwrap_or (integer_of w) (pos 0))
integer-fits w = fits-by (bytes_eq w (codes "inf")) w (count_of w) (count-below w)
