-- The first `=` of a text.
use Rattle.std.proofs.Common.{◌≡◌, ℕ, suc, ◌+◌, ◌-◌, ◌<◌, ◌≤◌, not, ◌||◌, Bool, true, false, List, [], ◌∷◌, length, take, drop, refl, ap, ◌∙◌, sym, cond, arith, Some, None}
use Rattle.std.specs.List.{position_or_len, list_any}
use Rattle.std.proofs.lemmas.List.{take_all}
use Rattle.std.proofs.Math.ListN.{length-drop}
use Rattle.sj_words.specs.Spelling.{Text, around_equals, is_equals}

module _ (p : ℕ → Bool) where
  none_step : (t : Bool) (xs : List ℕ) → (position_or_len p xs ≡ length xs → list_any p xs ≡ false) → cond (not t) (1 + position_or_len p xs) 0 ≡ suc (length xs) → (t || list_any p xs) ≡ false
  none_step true xs h e = absurd (omega arith)
  none_step false xs h e = h (omega arith)

  none_at : (xs : List ℕ) → position_or_len p xs ≡ length xs → list_any p xs ≡ false
  none_at [] e = refl
  none_at (x ∷ xs) e = none_step (p x) xs (none_at xs) e

  some_step : (t : Bool) (xs : List ℕ) → (position_or_len p xs < length xs → list_any p xs ≡ true) → cond (not t) (1 + position_or_len p xs) 0 < suc (length xs) → (t || list_any p xs) ≡ true
  some_step true xs h lt = refl
  some_step false xs h lt = h (omega arith)

  some_at : (xs : List ℕ) → position_or_len p xs < length xs → list_any p xs ≡ true
  some_at [] lt = absurd (omega arith)
  some_at (x ∷ xs) lt = some_step (p x) xs (some_at xs) lt

pub without_equals : (at : ℕ) (text : Text) → at ≡ position_or_len is_equals text → at ≡ length text → (text, None) ≡ around_equals text
without_equals at text is whole =
    let none : list_any is_equals text ≡ false = none_at is_equals text (sym is ∙ whole) in
    rw none (ap (λ t. (t, None)) (sym (take_all (position_or_len is_equals text) text (omega (arith, is, whole)))))

pub with_equals : (at : ℕ) (text : Text) → at ≡ position_or_len is_equals text → at < length text
    → (take at text, Some (take (length text - (at + 1)) (drop (at + 1) text))) ≡ around_equals text
with_equals at text is lt =
    let some : list_any is_equals text ≡ true = some_at is_equals text (omega (arith, is, lt)) in
    let le : length (drop (at + 1) text) ≤ length text - (at + 1) = omega (arith, length-drop (at + 1) text) in
    rw some (ap (λ t. (take at text, Some t)) (take_all (length text - (at + 1)) (drop (at + 1) text) le) ∙ ap (λ k. (take k text, Some (drop (k + 1) text))) is)
