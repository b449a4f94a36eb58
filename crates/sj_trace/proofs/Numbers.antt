-- A number is taken from the digits that it is written with, up to the byte that ends them.
use Rattle.std.proofs.Common.{◌⊎◌, inl, inr, ◌≡◌, ◌≢◌, ℕ, ◌+◌, ◌*◌, ◌<◌, ◌≤◌, ◌^◌, ◌/◌, ◌%◌, List, [], ◌∷◌, ◌++◌, arith, decimal, ap, sym, ◌∙◌, refl, drop, take, length, get_or, append_assoc, append-nil, length-append}
use Rattle.std.proofs.lemmas.Bool.{cases_lt}
use Rattle.std.proofs.lemmas.List.{append_cancel_left, take-append-le, take-append-drop, take_all, get_or_at, get_or_append_left}
use Rattle.std.proofs.lemmas.Fmt.{decimal_digit, decimal_step, decimal_is_IsNumeral, decimal_injective, decimal_nonempty, first_decimal}
use Rattle.std.proofs.lemmas.Str.Parse.{digit_at, digits_value-take-le}
use Rattle.std.specs.Str.Parse.{digits_value}

-- each byte of a number is a digit
digits : (n i : ℕ) → n < 2 ^ 32 → i < length (decimal n) → (48 ≤ get_or (decimal n) i 0) × (get_or (decimal n) i 0 ≤ 57)
digits n i lt in' = digit_at (decimal n) i (decimal_is_IsNumeral n (omega arith)).0.1 in'

-- a number before a byte that is no digit has all the digits that stand first
long : (m v end : ℕ) (s rest : List ℕ) → m < 2 ^ 32 → v < 2 ^ 32 → end < 48 → decimal m ++ end ∷ s ≡ decimal v ++ rest → length (decimal v) ≤ length (decimal m)
long m v end s rest lm lv le h = elim (cases_lt (length (decimal m)) (length (decimal v))) as (λ _. length (decimal v) ≤ length (decimal m)) [
  | inl less ↦
      let at : get_or (decimal m ++ end ∷ s) (length (decimal m)) 0 ≡ end = get_or_at (decimal m) end s 0 (length (decimal m)) refl in
      let is : get_or (decimal v ++ rest) (length (decimal m)) 0 ≡ get_or (decimal v) (length (decimal m)) 0 = get_or_append_left (decimal v) rest 0 (length (decimal m)) less in
      let same : get_or (decimal m ++ end ∷ s) (length (decimal m)) 0 ≡ get_or (decimal v ++ rest) (length (decimal m)) 0 = ap (λ l. get_or l (length (decimal m)) 0) h in
      absurd (omega (arith, at, is, same, (digits v (length (decimal m)) lv less).0))
  | inr at_least ↦ at_least
]

-- the digits that stand behind those of a number
pub record Longer (m v end : ℕ) (s rest : List ℕ) : Type 0 where
  pub more : List ℕ
  pub digits : decimal m ≡ decimal v ++ more
  pub behind : rest ≡ more ++ end ∷ s

pub longer : (m v end : ℕ) (s rest : List ℕ) → m < 2 ^ 32 → v < 2 ^ 32 → end < 48 → decimal m ++ end ∷ s ≡ decimal v ++ rest → Longer m v end s rest
longer m v end s rest lm lv le h =
    let k = length (decimal v) in
    let fits = long m v end s rest lm lv le h in
    let front : take k (decimal m) ≡ decimal v =
    sym (take-append-le k (decimal m) (end ∷ s) fits) ∙ ap (take k) h ∙ take-append-le k (decimal v) rest (omega arith) ∙ take_all k (decimal v) (omega arith) in
    let split : decimal m ≡ decimal v ++ drop k (decimal m) = sym (take-append-drop k (decimal m)) ∙ ap (λ l. l ++ drop k (decimal m)) front in record {
      more = drop k (decimal m);
      digits = split;
      behind = append_cancel_left (decimal v) rest (drop k (decimal m) ++ end ∷ s)
          (sym h ∙ ap (λ l. l ++ end ∷ s) split ∙ append_assoc (decimal v) (drop k (decimal m)) (end ∷ s));
    }

-- the first of the digits behind those of a number is one
next : (m v d : ℕ) (ds : List ℕ) → m < 2 ^ 32 → decimal m ≡ decimal v ++ d ∷ ds → (48 ≤ d) × (d ≤ 57)
next m v d ds lm e =
    let k = length (decimal v) in
    let here : get_or (decimal m) k 0 ≡ d = ap (λ l. get_or l k 0) e ∙ get_or_at (decimal v) d ds 0 k refl in
    let long : length (decimal m) ≡ k + length (d ∷ ds) = ap length e ∙ length-append (decimal v) (d ∷ ds) in
    let is = digits m k lm (omega (arith, long)) in
    (omega (arith, here, is.0), omega (arith, here, is.1))

-- no number is written as a text with no digit before the end
pub none_empty : (m end : ℕ) (s : List ℕ) → decimal m ++ end ∷ s ≡ [] → ⊥
none_empty m end s h =
    let e : length (decimal m ++ end ∷ s) ≡ 0 = ap length h in
    absurd (omega (arith, e, length-append (decimal m) (end ∷ s)))

pub none_digitless : (m end byte : ℕ) (s rest : List ℕ) → m < 2 ^ 32 → (byte < 48) ⊎ (58 ≤ byte) → decimal m ++ end ∷ s ≡ byte ∷ rest → ⊥
none_digitless m end byte s rest lm no_digit h =
    let some = decimal_nonempty m (omega arith) in
    let first : get_or (decimal m) 0 0 ≡ byte = sym (get_or_append_left (decimal m) (end ∷ s) 0 0 some) ∙ ap (λ l. get_or l 0 0) h in
    let is = digits m 0 lm some in
    elim no_digit as (λ _. ⊥) [
      | inl low ↦ absurd (omega (arith, first, is.0))
      | inr high ↦ absurd (omega (arith, first, is.1))
    ]

-- nor as one that ends behind the digits
pub none_endless : (m v end : ℕ) (s text : List ℕ) → m < 2 ^ 32 → v < 2 ^ 32 → end < 48 → decimal v ++ [] ≡ text → decimal m ++ end ∷ s ≡ text → ⊥
none_endless m v end s text lm lv le is h =
    let l = longer m v end s [] lm lv le (h ∙ sym is) in
    let e : 0 ≡ length (l.more ++ end ∷ s) = ap length l.behind in
    absurd (omega (arith, e, length-append l.more (end ∷ s)))

-- nor as one in which another byte ends them
pub none_other_end : (m v end byte : ℕ) (s rest text : List ℕ) → m < 2 ^ 32 → v < 2 ^ 32 → end < 48 → byte ≢ end → (byte < 48) ⊎ (58 ≤ byte) → decimal v ++ byte ∷ rest ≡ text → decimal m ++ end ∷ s ≡ text → ⊥
none_other_end m v end byte s rest text lm lv le other no_digit is h =
    let l = longer m v end s (byte ∷ rest) lm lv le (h ∙ sym is) in
    by_more l.more l.digits l.behind
  where
    by_more : (more : List ℕ) → decimal m ≡ decimal v ++ more → byte ∷ rest ≡ more ++ end ∷ s → ⊥
    by_more [] e behind = other (ap (λ l. get_or l 0 0) behind)
    by_more (d ∷ ds) e behind =
        let same : byte ≡ d = ap (λ l. get_or l 0 0) behind in
        let digit = next m v d ds lm e in
        elim no_digit as (λ _. ⊥) [
          | inl low ↦ absurd (omega (arith, same, digit.0))
          | inr high ↦ absurd (omega (arith, same, digit.1))
        ]

-- a digit more
pub one-more-digit : (v d : ℕ) → 0 < v → d < 10 → v * 10 + d < 2 ^ 64 → decimal (v * 10 + d) ≡ decimal v ++ (48 + d) ∷ []
one-more-digit v d some lt fits =
    let quotient : (v * 10 + d) / 10 ≡ v = omega arith in
    let remainder : (v * 10 + d) % 10 ≡ d = omega arith in
    decimal_step (v * 10 + d) (omega arith) fits ∙ ap (λ q. decimal q ++ (48 + (v * 10 + d) % 10) ∷ []) quotient ∙ ap (λ r. decimal v ++ (48 + r) ∷ []) remainder

-- a number with more digits is greater
greater : (m v d : ℕ) (ds : List ℕ) → m < 2 ^ 32 → v < 2 ^ 32 → 0 < v → d < 10 → decimal m ≡ decimal v ++ (48 + d) ∷ ds → v * 10 + d ≤ m
greater m v d ds lm lv some lt e =
    let n = v * 10 + d in
    let k = length (decimal v) + 1 in
    let whole : decimal m ≡ decimal n ++ ds = e ∙ sym (append_assoc (decimal v) ((48 + d) ∷ []) ds) ∙ ap (λ l. l ++ ds) (sym (one-more-digit v d some lt (omega arith))) in
    let size : length (decimal n) ≡ k = ap length (one-more-digit v d some lt (omega arith)) ∙ length-append (decimal v) ((48 + d) ∷ []) in
    let front : take k (decimal m) ≡ decimal n = ap (take k) whole ∙ take-append-le k (decimal n) ds (omega (arith, size)) ∙ take_all k (decimal n) (omega (arith, size)) in
    let less : digits_value 10 (take k (decimal m)) ≤ digits_value 10 (decimal m) = digits_value-take-le 10 (decimal m) k (omega arith) in
    let is : digits_value 10 (decimal m) ≡ m = (decimal_is_IsNumeral m (omega arith)).1 in
    let was : digits_value 10 (take k (decimal m)) ≡ n = ap (digits_value 10) front ∙ (decimal_is_IsNumeral n (omega arith)).1 in
    omega (arith, less, is, was)

no_zero_first : (m d : ℕ) (ds : List ℕ) → m < 2 ^ 32 → decimal m ≡ decimal 0 ++ d ∷ ds → ⊥
no_zero_first m d ds lm e = elim (cases_lt 0 m) as (λ _. ⊥) [
  | inl some ↦
      let first : get_or (decimal m) 0 0 ≡ get_or (decimal 0 ++ d ∷ ds) 0 0 = ap (λ l. get_or l 0 0) e in
      let zero_digit : get_or (decimal 0 ++ d ∷ ds) 0 0 ≡ 48 = ap (λ l. get_or (l ++ d ∷ ds) 0 0) (decimal_digit 0 (omega arith)) in
      absurd (omega (arith, first, zero_digit, first_decimal m some (omega arith)))
  | inr none ↦
      let is : m ≡ 0 = omega arith in
      let size : length (decimal m) ≡ 1 = ap length (ap decimal is ∙ decimal_digit 0 (omega arith)) in
      let whole : length (decimal m) ≡ length (48 ∷ d ∷ ds) = ap length (e ∙ ap (λ l. l ++ d ∷ ds) (decimal_digit 0 (omega arith))) in
      absurd (omega (arith, size, whole))
]

-- nor as digits behind a first zero, nor as too many
pub none_longer : (m v end d : ℕ) (s rest text : List ℕ) → m < 2 ^ 32 → v < 2 ^ 32 → end < 48 → d < 10 → ¬ ((0 < v) × (v * 10 + d < 2 ^ 32)) → decimal v ++ (48 + d) ∷ rest ≡ text → decimal m ++ end ∷ s ≡ text → ⊥
none_longer m v end d s rest text lm lv le lt none_fits is h =
    let l = longer m v end s ((48 + d) ∷ rest) lm lv le (h ∙ sym is) in
    by_more l.more l.digits l.behind
  where
    by_size : (ds : List ℕ) → decimal m ≡ decimal v ++ (48 + d) ∷ ds → (0 < v) ⊎ (v ≤ 0) → ⊥
    by_size ds e (inl some) = let most = greater m v d ds lm lv some lt e in none_fits (some, omega (arith, most))
    by_size ds e (inr none) = let zero_v : v ≡ 0 = omega arith in no_zero_first m (48 + d) ds lm (e ∙ ap (λ n. decimal n ++ (48 + d) ∷ ds) zero_v)

    by_more : (more : List ℕ) → decimal m ≡ decimal v ++ more → (48 + d) ∷ rest ≡ more ++ end ∷ s → ⊥
    by_more [] e behind = let same : 48 + d ≡ end = ap (λ l. get_or l 0 0) behind in absurd (omega (arith, same))
    by_more (x ∷ ds) e behind =
        let same : 48 + d ≡ x = ap (λ l. get_or l 0 0) behind in
        by_size ds (e ∙ ap (λ b. decimal v ++ b ∷ ds) (sym same)) (cases_lt 0 v)

-- two numbers before the same end are one
pub same-number : (m v end : ℕ) (s rest : List ℕ) → m < 2 ^ 32 → v < 2 ^ 32 → end < 48 → decimal m ++ end ∷ s ≡ decimal v ++ end ∷ rest → (m ≡ v) × (s ≡ rest)
same-number m v end s rest lm lv le h =
    let l = longer m v end s (end ∷ rest) lm lv le h in
    by_more l.more l.digits l.behind
  where
    by_more : (more : List ℕ) → decimal m ≡ decimal v ++ more → end ∷ rest ≡ more ++ end ∷ s → (m ≡ v) × (s ≡ rest)
    by_more [] e behind = (decimal_injective m v (omega arith) (omega arith) (e ∙ append-nil (decimal v)), sym (ap (drop 1) behind))
    by_more (d ∷ ds) e behind =
        let same : end ≡ d = ap (λ l. get_or l 0 0) behind in
        absurd (omega (arith, same, (next m v d ds lm e).0))

pub ended : (m end : ℕ) (s : List ℕ) → decimal m ++ end ∷ s ≡ (decimal m ++ end ∷ []) ++ s
ended m end s = sym (append_assoc (decimal m) (end ∷ []) s)

-- two words with one letter before the same end are one
pub same-word : (letter m v end : ℕ) (s rest : List ℕ) → m < 2 ^ 32 → v < 2 ^ 32 → end < 48 → letter ∷ ((decimal m ++ end ∷ []) ++ s) ≡ letter ∷ ((decimal v ++ end ∷ []) ++ rest) → (m ≡ v) × (s ≡ rest)
same-word letter m v end s rest lm lv le h = same-number m v end s rest lm lv le (ended m end s ∙ ap (drop 1) h ∙ sym (ended v end rest))

-- no number below a byte's limit is written as one that is at least that
pub too_great : (letter a n end : ℕ) (s rest text : List ℕ) → n < 2 ^ 32 → end < 48 → 256 ≤ n → a < 256 → letter ∷ ((decimal n ++ end ∷ []) ++ rest) ≡ text → letter ∷ ((decimal a ++ end ∷ []) ++ s) ≡ text → ⊥
too_great letter a n end s rest text ln le great small is h =
    let same : a ≡ n = (same-word letter a n end s rest (omega arith) ln le (h ∙ sym is)).0 in
    absurd (omega arith)
