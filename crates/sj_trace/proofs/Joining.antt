-- A text has the lines of the events that it was written of.
use Rattle.std.proofs.Common.{◌≡◌, ℕ, ◌<◌, ◌≤◌, ◌^◌, Bool, true, List, [], ◌∷◌, ◌++◌, codes, decimal, ap, ◌∙◌, refl, arith, false, nat_eq, get_or, rules, map, append_assoc}
use Rattle.std.specs.List.{All, AllByRecursion, join_with_byte, onto_first}
use Rattle.std.proofs.lemmas.List.Elements.{All-from_recursion, All-cons, All-append, All-from_get_or, All-head, All-tail, recursion_from_All}
use Rattle.std.proofs.lemmas.Bool.Decides.{nat_tests}
use Rattle.std.proofs.lemmas.Fmt.{decimal_is_IsNumeral}
use Rattle.std.proofs.lemmas.Str.Parse.{digit_at}
use Rattle.sj_base.specs.declared.ids.Place.{Place}
use Rattle.sj_base.specs.declared.ids.Place.TheVariants.{Node as AtNode, Disk as OnDisk}
use Rattle.sj_base.specs.declared.trace.Event.{Event}
use Rattle.sj_base.specs.declared.trace.Event.TheVariants.{Claim, Move, Moved, Drop, Run, End}
use Rattle.sj_trace.specs.Text.{place_word, words_of, joined_words, line_of, text_of, whole_lines}
use Rattle.sj_trace.specs.Reading.{EventFits, PlaceFits}

-- no byte of a word is LF
abbrev IsInLine : ℕ → Type 0
IsInLine b = nat_eq b 10 ≡ false

abbrev IsWord : List ℕ → Type 0
IsWord w = All IsInLine w

joined-IsInLine : (ws : List (List ℕ)) → AllByRecursion IsWord ws → All IsInLine (join_with_byte 32 ws)
joined-IsInLine [] are = All-from_recursion IsInLine [] tt
joined-IsInLine (w ∷ []) are = are.0
joined-IsInLine (w ∷ v ∷ ws) are =
    All-append IsInLine w (32 ∷ join_with_byte 32 (v ∷ ws)) are.0
    (All-cons IsInLine 32 (join_with_byte 32 (v ∷ ws)) refl (joined-IsInLine (v ∷ ws) are.1))

digit : (b : ℕ) → 48 ≤ b → IsInLine b
digit b le = grind (arith, nat_tests)

decimal-IsWord : (n : ℕ) → n < 2 ^ 32 → IsWord (decimal n)
decimal-IsWord n lt =
    let numeral = decimal_is_IsNumeral n (omega arith) in
    All-from_get_or IsInLine (decimal n) 0 (λ i in'. digit (get_or (decimal n) i 0) (digit_at (decimal n) i numeral.0.1 in').0)

numbered : (letter n : ℕ) → IsInLine letter → n < 2 ^ 32 → IsWord (letter ∷ decimal n)
numbered letter n l lt = All-cons IsInLine letter (decimal n) l (decimal-IsWord n lt)

byte : (letter n : ℕ) → IsInLine letter → n < 2 ^ 8 → IsWord (letter ∷ decimal n)
byte letter n l lt = numbered letter n l (omega arith)

place-IsWord : (p : Place) → PlaceFits p → IsWord (place_word p)
place-IsWord (AtNode n) fits = byte 110 n.0 refl fits
place-IsWord (OnDisk d) fits = byte 100 d.0 refl fits

verb : (w : List ℕ) → AllByRecursion IsInLine w → IsWord w
verb w are = All-from_recursion IsInLine w are

event-words : (e : Event) → EventFits e → AllByRecursion IsWord (words_of e)
event-words (Claim t w) fits = (verb (codes "claim") (search rules), (numbered 116 t.0 refl fits.0, (byte 119 w.0 refl fits.1, tt)))
event-words (Move c from to) fits = (verb (codes "move") (search rules), (numbered 99 c.0 refl fits.0, (place-IsWord from fits.1, (place-IsWord to fits.2, tt))))
event-words (Moved c from to) fits = (verb (codes "moved") (search rules), (numbered 99 c.0 refl fits.0, (place-IsWord from fits.1, (place-IsWord to fits.2, tt))))
event-words (Drop c n) fits = (verb (codes "drop") (search rules), (numbered 99 c.0 refl fits.0, (byte 110 n.0 refl fits.1, tt)))
event-words (Run t w) fits = (verb (codes "run") (search rules), (numbered 116 t.0 refl fits.0, (byte 119 w.0 refl fits.1, tt)))
event-words (End t w) fits = (verb (codes "end") (search rules), (numbered 116 t.0 refl fits.0, (byte 119 w.0 refl fits.1, tt)))

one-line : (line rest : List ℕ) → AllByRecursion IsInLine line → whole_lines ((line ++ 10 ∷ []) ++ rest) ≡ (line ++ 10 ∷ []) ∷ whole_lines rest
one-line [] rest are = refl
one-line (b ∷ bs) rest are = rw are.0 (ap (onto_first b) (one-line bs rest are.1))

-- an event's line is the first of a text that begins with it
pub event-line : (e : Event) (rest : List ℕ) → EventFits e → whole_lines (line_of e ++ rest) ≡ line_of e ∷ whole_lines rest
event-line e rest fits = one-line (joined_words e) rest (recursion_from_All IsInLine (joined_words e) (joined-IsInLine (words_of e) (event-words e fits)))

-- a text's first lines are those that it was written with
pub lines-text : (es : List Event) (rest : List ℕ) → All EventFits es → whole_lines (text_of es ++ rest) ≡ map line_of es ++ whole_lines rest
lines-text [] rest fit = refl
lines-text (e ∷ es) rest fit =
    ap whole_lines (append_assoc (line_of e) (text_of es) rest)
    ∙ event-line e (text_of es ++ rest) (All-head EventFits e es fit)
    ∙ ap (λ l. line_of e ∷ l) (lines-text es rest (All-tail EventFits e es fit))

-- the first line of a text, and what stands behind it
pub record FirstLine (text : List ℕ) : Type 0 where
  pub line : List ℕ
  pub behind : List ℕ
  pub divides : whole_lines text ≡ line ∷ whole_lines behind
  pub whole : line ++ behind ≡ text

last_byte : (b : ℕ) → nat_eq b 10 ≡ false → FirstLine (b ∷ [])
last_byte b is = record { line = b ∷ []; behind = []; divides = rw is refl; whole = refl }

one_more : (b : ℕ) (bs : List ℕ) → nat_eq b 10 ≡ false → FirstLine bs → FirstLine (b ∷ bs)
one_more b bs is rest = record { line = b ∷ rest.line; behind = rest.behind; divides = rw is (ap (onto_first b) rest.divides); whole = ap (λ l. b ∷ l) rest.whole }

by_test : (t : Bool) (b : ℕ) (bs : List ℕ) → nat_eq b 10 ≡ t → (nat_eq b 10 ≡ false → FirstLine (b ∷ bs)) → FirstLine (b ∷ bs)
by_test true b bs is other = record { line = b ∷ []; behind = bs; divides = rw is refl; whole = refl }
by_test false b bs is other = other is

pub first_line : (b : ℕ) (bs : List ℕ) → FirstLine (b ∷ bs)
first_line b [] = by_test (nat_eq b 10) b [] refl (last_byte b)
first_line b (c ∷ cs) = by_test (nat_eq b 10) b (c ∷ cs) refl (λ is. one_more b (c ∷ cs) is (first_line c cs))
