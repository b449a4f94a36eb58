-- The word of an integer says it.
use Rattle.std.proofs.Common.{◌≡◌, ℕ, suc, ◌<◌, Bool, true, false, cond, Option, Some, is_some, List, [], ◌∷◌, ℤ, pos, negsuc, map, unwrap_or, codes, refl, sym, ap, arith}
use Rattle.std.specs.Prelude.{◌^◌}
use Rattle.std.specs.Fmt.{signed_decimal}
use Rattle.std.specs.List.{list_all}
use Rattle.std.proofs.lemmas.Bool.Decides.{nat_tests}
use Rattle.std.proofs.lemmas.Bool.{and_from}
use Rattle.sj_codelet.specs.MinPlus.{is_inf}
use Rattle.sj_job.specs.Grammar.{is_piece}
use Rattle.sj_job.specs.Word.{integer_of, is_integer}
use Rattle.sj_job.proofs.Numerals.{IsI64, decimal-integer, decimal-piece, integer-fits, minus-integer}
use Rattle.sj_show.specs.Words.{integer_word}

-- ---- an integer

greatest : (n : ℕ) → n < 2 ^ 63 → is_inf (pos n) ≡ true → n ≡ 9223372036854775807
greatest n h e = grind (arith, nat_tests)

said-by : (b : Bool) (n : ℕ) → n < 2 ^ 63 → is_inf (pos n) ≡ b → integer_of (cond b (codes "inf") (signed_decimal (pos n))) ≡ Some (pos n)
said-by true n h e = ap (λ (m : ℕ). Some (pos m)) (sym (greatest n h e))
said-by false n h e = decimal-integer n h

pub integer-back : (z : ℤ) → IsI64 z → integer_of (integer_word z) ≡ Some z
integer-back (pos n) h = said-by (is_inf (pos n)) n h refl
integer-back (negsuc n) h = minus-integer n h

-- ---- and what is kept of a word that says one

abbrev pub again : List ℕ → List ℕ
again w = integer_word (unwrap_or (integer_of w) (pos 0))

pub again-of : (w : List ℕ) → integer_of (again w) ≡ Some (unwrap_or (integer_of w) (pos 0))
again-of w = integer-back (unwrap_or (integer_of w) (pos 0)) (integer-fits w)

pub again-says : (w : List ℕ) → unwrap_or (integer_of (again w)) (pos 0) ≡ unwrap_or (integer_of w) (pos 0)
again-says w = ap (λ (o : Option ℤ). unwrap_or o (pos 0)) (again-of w)

pub again-is_integer : (w : List ℕ) → is_integer (again w) ≡ true
again-is_integer w = ap (λ (o : Option ℤ). is_some o) (again-of w)

minus-piece : (n : ℕ) → n < 2 ^ 63 → is_piece (signed_decimal (negsuc n)) ≡ true
minus-piece n h = decimal-piece (suc n) (omega (arith, h))

piece-by : (b : Bool) (n : ℕ) → n < 2 ^ 63 → is_piece (cond b (codes "inf") (signed_decimal (pos n))) ≡ true
piece-by true n h = refl
piece-by false n h = decimal-piece n (omega (arith, h))

piece : (z : ℤ) → IsI64 z → is_piece (integer_word z) ≡ true
piece (pos n) h = piece-by (is_inf (pos n)) n h
piece (negsuc n) h = minus-piece n h

pub again-piece : (w : List ℕ) → is_piece (again w) ≡ true
again-piece w = piece (unwrap_or (integer_of w) (pos 0)) (integer-fits w)

-- ---- several

abbrev pub said_all : List (List ℕ) → List ℤ
said_all ws = map (λ w. unwrap_or (integer_of w) (pos 0)) ws

pub all-say : (ws : List (List ℕ)) → said_all (map integer_word (said_all ws)) ≡ said_all ws
all-say [] = refl
all-say (w ∷ ws) = λ i. again-says w i ∷ all-say ws i

pub all-integers : (ws : List (List ℕ)) → list_all is_integer (map integer_word (said_all ws)) ≡ true
all-integers [] = refl
all-integers (w ∷ ws) = and_from (is_integer (again w)) (list_all is_integer (map integer_word (said_all ws))) (again-is_integer w) (all-integers ws)

pub all-pieces : (ws : List (List ℕ)) → list_all is_piece (map integer_word (said_all ws)) ≡ true
all-pieces [] = refl
all-pieces (w ∷ ws) = and_from (is_piece (again w)) (list_all is_piece (map integer_word (said_all ws))) (again-piece w) (all-pieces ws)
