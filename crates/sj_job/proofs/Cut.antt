-- The first line of a text is what stands before its first LF.
use Rattle.std.proofs.Common.{◌≡◌, ℕ, suc, ◌+◌, ◌-◌, ◌<◌, ◌≤◌, nat_eq, not, Bool, true, false, List, [], ◌∷◌, length, take, drop, refl, ap, ◌∙◌, sym, cond, arith, Option, Some, None, unwrap_or}
use Rattle.std.specs.List.{position_or_len, onto_first}
use Rattle.std.proofs.lemmas.List.{take_all, drop_all}
use Rattle.std.proofs.lemmas.List.Sums.{position_or_len_is}
use Rattle.std.proofs.Math.ListN.{length-drop}
use Rattle.memchr.specs.Find.{IsFirstByte, is_byte}
use Rattle.sj_job.specs.Word.{lines}

joined : (t : Bool) (b : ℕ) (bs : List ℕ) (m : ℕ) → onto_first b (lines bs) ≡ (b ∷ take m bs) ∷ lines (drop (suc m) bs) → cond t ([] ∷ lines bs) (onto_first b (lines bs)) ≡ take (cond (not t) (1 + m) 0) (b ∷ bs) ∷ lines (drop (suc (cond (not t) (1 + m) 0)) (b ∷ bs))
joined true b bs m h = refl
joined false b bs m h =
    let e : suc m ≡ 1 + m = omega arith in
    h ∙ ap (λ k. take k (b ∷ bs) ∷ lines (drop k bs)) e

pub lines-cut : (b : ℕ) (bs : List ℕ) → lines (b ∷ bs) ≡ take (position_or_len (λ c. nat_eq c 10) (b ∷ bs)) (b ∷ bs) ∷ lines (drop (suc (position_or_len (λ c. nat_eq c 10) (b ∷ bs))) (b ∷ bs))
lines-cut b [] = joined (nat_eq b 10) b [] 0 refl
lines-cut b (c ∷ cs) = joined (nat_eq b 10) b (c ∷ cs) (position_or_len (λ c. nat_eq c 10) (c ∷ cs)) (ap (onto_first b) (lines-cut c cs))

-- the line and the text after it, as slices of the text
pub lines-sliced : (bs : List ℕ) (n : ℕ) → 0 < length bs → n ≡ position_or_len (λ c. nat_eq c 10) bs → n < length bs → lines bs ≡ take n bs ∷ lines (take (length bs - (n + 1)) (drop (n + 1) bs))
lines-sliced [] n some e lt = absurd (omega arith)
lines-sliced (b ∷ bs) n some e lt =
    let f : suc n ≡ n + 1 = omega arith in
    let g : length (drop (n + 1) (b ∷ bs)) ≤ length (b ∷ bs) - (n + 1) = omega (arith, length-drop (n + 1) (b ∷ bs)) in
    lines-cut b bs ∙ ap (λ k. take k (b ∷ bs) ∷ lines (drop (suc k) (b ∷ bs))) (sym e)
    ∙ ap (λ k. take n (b ∷ bs) ∷ lines (drop k (b ∷ bs))) f
    ∙ ap (λ t. take n (b ∷ bs) ∷ lines t) (sym (take_all (length (b ∷ bs) - (n + 1)) (drop (n + 1) (b ∷ bs)) g))

-- a text without LF is one line
pub lines-whole : (bs : List ℕ) → 0 < length bs → length bs ≡ position_or_len (λ c. nat_eq c 10) bs → lines bs ≡ bs ∷ []
lines-whole [] some e = absurd (omega arith)
lines-whole (b ∷ bs) some e =
    let g : length bs ≤ length (b ∷ bs) = omega arith in
    lines-cut b bs ∙ ap (λ k. take k (b ∷ bs) ∷ lines (drop (suc k) (b ∷ bs))) (sym e)
    ∙ ap (λ l. l ∷ lines (drop (suc (length bs)) bs)) (take_all (length (b ∷ bs)) (b ∷ bs) (omega arith))
    ∙ ap (λ t. (b ∷ bs) ∷ lines t) (drop_all (suc (length bs)) bs (omega arith))

is_false : (t : Bool) → ¬ (t ≡ true) → t ≡ false
is_false true n = absurd (n refl)
is_false false n = refl

-- the place of the first such byte, or the length where there is none
pub first-position : (b : ℕ) (bs : List ℕ) (r : Option ℕ) → IsFirstByte (is_byte b) bs r → unwrap_or r (length bs) ≡ position_or_len (λ c. nat_eq c b) bs
first-position b bs None none =
    sym (position_or_len_is (λ c. nat_eq c b) bs (length bs) 0 (omega arith) (λ k lt. is_false _ (none k (omega arith) lt)) (λ lt. absurd (omega arith)))
first-position b bs (Some k) found =
    let le : k ≤ length bs = omega (arith, found.0.high) in
    sym (position_or_len_is (λ c. nat_eq c b) bs k 0 le (λ j lt. is_false _ (found.0.before j (omega arith) lt)) (λ lt. found.1))

-- what follows a line is shorter
pub shorter : (bs : List ℕ) (n : ℕ) → n < length bs → length (take (length bs - (n + 1)) (drop (n + 1) bs)) < length bs
shorter bs n lt =
    let g : length (drop (n + 1) bs) ≤ length bs - (n + 1) = omega (arith, length-drop (n + 1) bs) in
    rw (take_all (length bs - (n + 1)) (drop (n + 1) bs) g) (omega (arith, length-drop (n + 1) bs))
