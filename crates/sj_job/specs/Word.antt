-- The lines of a text, the words of a line, and the words that are names or numbers.
use Rattle.std.specs.Prelude.{◌≡◌, ◌<◌, ℕ, zero, suc, ◌^◌, Bool, true, false, ◌&&◌, ◌||◌, not, ◌==◌, nat_lt, nat_le, Option, Some, None, is_some, unwrap_or, List, [], ◌∷◌, ℤ, pos, negsuc, length, codes, filter, if◌then◌else◌}
use Rattle.std.specs.List.{slice_split, list_all, onto_first}
use Rattle.std.specs.Char.{is_ascii_digit}
use Rattle.std.specs.Str.{bytes_eq}
use Rattle.std.specs.Str.Parse.{digits_value}
use Rattle.sj_codelet.specs.MinPlus.{inf}

-- the lines of a text: each ends with LF, and a last piece without LF is a line if it isn't empty
abbrev pub lines : List ℕ → List (List ℕ)
lines [] = []
lines (b ∷ bs) = if b == 10 then [] ∷ lines bs else onto_first b (lines bs)

-- a part is the first of the parts of a text, and the others are those of the rest, which is shorter
abbrev pub CutsOff : (List ℕ → List (List ℕ)) → List ℕ → List ℕ → List ℕ → Type 0
CutsOff parts text part rest = (parts text ≡ part ∷ parts rest) × (length rest < length text)

-- space, tab and CR
abbrev pub is_space : ℕ → Bool
is_space b = b == 32 || b == 9 || b == 13

abbrev pub is_allowed : ℕ → Bool
is_allowed b = is_space b || (nat_lt 32 b && nat_lt b 127)

abbrev pub is_empty : List ℕ → Bool
is_empty w = length w == 0

-- the words of a line: what stands between its blanks
abbrev pub words : List ℕ → List (List ℕ)
words line = filter (λ w. not (is_empty w)) (slice_split is_space line)

-- what stands between the commas of a text, if there is one
abbrev pub pieces_in : Option (List ℕ) → List (List ℕ)
pieces_in None = []
pieces_in (Some text) = slice_split (λ b. b == 44) text

abbrev pub begins_with : ℕ → List ℕ → Bool
begins_with b [] = false
begins_with b (c ∷ cs) = c == b

-- a line without words, or a comment
abbrev pub is_skipped : List (List ℕ) → Bool
is_skipped [] = true
is_skipped (w ∷ ws) = begins_with 35 w

abbrev pub is_letter : ℕ → Bool
is_letter b = (nat_le 65 b && nat_le b 90) || (nat_le 97 b && nat_le b 122) || b == 95

abbrev pub is_letter_or_digit : ℕ → Bool
is_letter_or_digit b = is_letter b || is_ascii_digit b

-- a letter or `_`, then at most 30 letters, digits or `_`
abbrev pub is_name : List ℕ → Bool
is_name [] = false
is_name (b ∷ bs) = is_letter b && list_all is_letter_or_digit bs && nat_le (length bs) 30

-- one or more decimal digits
abbrev pub is_digits : List ℕ → Bool
is_digits ds = not (is_empty ds) && list_all is_ascii_digit ds

-- digits with a value in i64
abbrev pub count_of : List ℕ → Option ℕ
count_of ds =
    if is_digits ds && nat_lt (digits_value 10 ds) (2 ^ 63) then Some (digits_value 10 ds) else None

-- minus a number
abbrev pub negative : ℕ → ℤ
negative n = elim n [ zero ↦ pos 0 | suc m ↦ negsuc m ]

-- `-` and then digits, with a value in i64
abbrev pub negative_of : List ℕ → Option ℤ
negative_of [] = None
negative_of (b ∷ ds) =
    if b == 45 && is_digits ds && nat_le (digits_value 10 ds) (2 ^ 63) then Some (negative (digits_value 10 ds))
    else None

-- `inf`, or digits with at most a `-` before them, with a value in i64
abbrev pub integer_of : List ℕ → Option ℤ
integer_of w =
    if bytes_eq w (codes "inf") then Some inf
    else (elim (count_of w) [ Some n ↦ Some (pos n) | None ↦ negative_of w ])

abbrev pub is_count : List ℕ → Bool
is_count w = is_some (count_of w)

abbrev pub is_integer : List ℕ → Bool
is_integer w = is_some (integer_of w)

-- the number that a word says, which is asked for only where it says one
abbrev pub count : List ℕ → ℕ
count w = unwrap_or (count_of w) 0

abbrev pub integer : List ℕ → ℤ
integer w = unwrap_or (integer_of w) (pos 0)
