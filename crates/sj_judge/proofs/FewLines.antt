-- A text has no more lines than bytes.
use Rattle.std.proofs.Common.{◌≡◌, ℕ, ◌+◌, ◌≤◌, ◌==◌, Bool, true, false, List, [], ◌∷◌, arith, cond, length, refl, subst, sym}
use Rattle.std.specs.List.{onto_first}
use Rattle.sj_trace.specs.Text.{whole_lines}

onto-few : (b : ℕ) (lines : List (List ℕ)) → length (onto_first b lines) ≤ length lines + 1
onto-few b [] = omega arith
onto-few b (x ∷ lines) = omega arith

pub few-lines : (text : List ℕ) → length (whole_lines text) ≤ length text
few-lines [] = omega arith
few-lines (b ∷ text) = by_test (b == 10) refl (few-lines text)
  where
    by_test : (x : Bool) → (b == 10) ≡ x → length (whole_lines text) ≤ length text → length (whole_lines (b ∷ text)) ≤ length (b ∷ text)
    by_test true e few = subst (λ (y : Bool). length (cond y ((b ∷ []) ∷ whole_lines text) (onto_first b (whole_lines text))) ≤ length (b ∷ text)) (sym e) (omega (arith, few))
    by_test false e few = subst (λ (y : Bool). length (cond y ((b ∷ []) ∷ whole_lines text) (onto_first b (whole_lines text))) ≤ length (b ∷ text)) (sym e) (omega (arith, few, onto-few b (whole_lines text)))
