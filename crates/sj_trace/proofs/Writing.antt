-- Words written one before another, the last first.
use Rattle.std.proofs.Common.{◌≡◌, ℕ, ◌+◌, ◌-◌, ◌≤◌, List, [], ◌∷◌, ◌++◌, ap, sym, ◌∙◌, arith, drop, length, set, length-set, append_assoc}
use Rattle.std.proofs.lemmas.List.{drop-set, drop_all}

-- a space and a letter before the digits
pub word-written : (line digits rest : List ℕ) (start letter : ℕ) → 2 ≤ start → start ≤ length line → drop start line ≡ digits ++ rest
    → drop (start - 2) (set (set line (start - 1) letter) (start - 2) 32) ≡ 32 ∷ letter ∷ (digits ++ rest)
word-written line digits rest start letter room in' e =
    let one : start - 2 + 1 ≡ start - 1 = omega arith in
    let two : start - 1 + 1 ≡ start = omega arith in
    drop-set (set line (start - 1) letter) (start - 2) 32 (omega (arith, length-set line (start - 1) letter))
    ∙ ap (λ n. 32 ∷ drop n (set line (start - 1) letter)) one
    ∙ ap (λ l. 32 ∷ l) (drop-set line (start - 1) letter (omega arith) ∙ ap (λ n. letter ∷ drop n line) two)
    ∙ ap (λ l. 32 ∷ letter ∷ l) e

-- LF in the last place
pub end-written : (line : List ℕ) → length line ≡ 48 → drop 47 (set line 47 10) ≡ 10 ∷ []
end-written line size = drop-set line 47 10 (omega (arith, size)) ∙ ap (λ l. 10 ∷ l) (drop_all 48 line (omega (arith, size)))

pub two-words : (first second a b end : List ℕ) → end ≡ 10 ∷ [] → b ≡ 32 ∷ (second ++ end) → a ≡ 32 ∷ (first ++ b) → a ≡ 32 ∷ ((first ++ 32 ∷ second) ++ 10 ∷ [])
two-words first second a b end e eb ea =
    ea ∙ ap (λ l. 32 ∷ (first ++ l)) (eb ∙ ap (λ l. 32 ∷ (second ++ l)) e) ∙ ap (λ l. 32 ∷ l) (sym (append_assoc first (32 ∷ second) (10 ∷ [])))

pub three-words : (first second third a b d end : List ℕ) → end ≡ 10 ∷ [] → d ≡ 32 ∷ (third ++ end) → b ≡ 32 ∷ (second ++ d) → a ≡ 32 ∷ (first ++ b) → a ≡ 32 ∷ ((first ++ 32 ∷ (second ++ 32 ∷ third)) ++ 10 ∷ [])
three-words first second third a b d end e ed eb ea =
    ea ∙ ap (λ l. 32 ∷ (first ++ l)) (two-words second third b d end e ed eb) ∙ ap (λ l. 32 ∷ l) (sym (append_assoc first (32 ∷ (second ++ 32 ∷ third)) (10 ∷ [])))
