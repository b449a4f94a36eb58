-- A line is divided into its words one after another, and has as its bytes those of its words and blanks.
use Rattle.std.proofs.Common.{◌≡◌, ℕ, zero, suc, ◌+◌, ◌*◌, ◌<◌, ◌≤◌, ◌&&◌, ◌||◌, not, Bool, true, false, List, [], ◌∷◌, ◌++◌, length, take, drop, filter, refl, ap, ◌∙◌, sym, cond, arith, nat_lt, length-take, length-drop, Some, None, unwrap_or, position, ◌-◌, subst, replicate, append_assoc, get_or}
use Rattle.std.specs.List.{slice_split, onto_first, list_all, position_or_len}
use Rattle.std.proofs.lemmas.Bool.Decides.{nat_tests}
use Rattle.std.proofs.lemmas.List.Sums.{prefix_len-le-length}
use Rattle.std.specs.Int.{from_le_bytes, to_le_bytes, w64}
use Rattle.std.proofs.lemmas.Nat.{le_bytes_8}
use Rattle.std.proofs.lemmas.List.{take_all, drop_all, append-nil, replicate_more, get_or-drop}
use Rattle.std.proofs.lemmas.List.Elements.{filter-append}
use Rattle.std.proofs.lemmas.List.Folds.{list_all-append}
use Rattle.std.proofs.lemmas.List.Splits.{slice_split-cons_yes, slice_split-cons_no}
use Rattle.sj_base.proofs.Bools.{and_true}
use Rattle.sj_job.specs.Word.{words, is_blank, is_empty, is_allowed, CutsOff}

-- the parts that have bytes
abbrev full : List (List ℕ) → List (List ℕ)
full parts = filter (λ w. not (is_empty w)) parts

abbrev parts_of : List ℕ → List (List ℕ)
parts_of line = slice_split is_blank line

-- how many bytes stand before the first blank, and how many blanks in front
abbrev word_len : List ℕ → ℕ
word_len line = position_or_len is_blank line

abbrev blanks : List ℕ → ℕ
blanks line = position_or_len (λ b. not (is_blank b)) line

drop-more : (b : ℕ) (bs : List ℕ) (m : ℕ) → drop (1 + m) (b ∷ bs) ≡ drop m bs
drop-more b bs m =
    let e : 1 + m ≡ suc m = omega arith in
    ap (λ n. drop n (b ∷ bs)) e

take-more : (b : ℕ) (bs : List ℕ) (m : ℕ) → take (1 + m) (b ∷ bs) ≡ b ∷ take m bs
take-more b bs m =
    let e : 1 + m ≡ suc m = omega arith in
    ap (λ n. take n (b ∷ bs)) e

-- ---- blanks in front

pub words-blank : (b : ℕ) (bs : List ℕ) → is_blank b ≡ true → words (b ∷ bs) ≡ words bs
words-blank b bs e = ap full (slice_split-cons_yes is_blank b bs e)

blank-more : (b : ℕ) (bs : List ℕ) (m : ℕ) (t : Bool) → is_blank b ≡ t → words bs ≡ words (drop m bs) → words (b ∷ bs) ≡ words (drop (cond (not (not t)) (1 + m) 0) (b ∷ bs))
blank-more b bs m true e h = words-blank b bs e ∙ h ∙ ap words (sym (drop-more b bs m))
blank-more b bs m false e h = refl

-- blanks in front don't matter
pub words-behind_blanks : (line : List ℕ) → words line ≡ words (drop (blanks line) line)
words-behind_blanks [] = refl
words-behind_blanks (b ∷ bs) = blank-more b bs (blanks bs) (is_blank b) refl (words-behind_blanks bs)

begins : (b : ℕ) (bs : List ℕ) (m : ℕ) (t : Bool) → is_blank b ≡ t → (0 < length (drop m bs) → 0 < word_len (drop m bs)) → 0 < length (drop (cond (not (not t)) (1 + m) 0) (b ∷ bs)) → 0 < word_len (drop (cond (not (not t)) (1 + m) 0) (b ∷ bs))
begins b bs m true e h some = rw (drop-more b bs m) (h (rw (sym (drop-more b bs m)) some))
begins b bs m false e h some = rw e (omega arith)

-- behind the blanks in front begins a word
pub word_len-behind_blanks : (line : List ℕ) → 0 < length (drop (blanks line) line) → 0 < word_len (drop (blanks line) line)
word_len-behind_blanks [] some = absurd (omega arith)
word_len-behind_blanks (b ∷ bs) some = begins b bs (blanks bs) (is_blank b) refl (word_len-behind_blanks bs) some

-- ---- the first word

-- the parts of a line are what stands before the first blank, and then parts that have the words behind it
record FirstWord (line : List ℕ) : Type 0 where
  behind : List (List ℕ)
  parts : parts_of line ≡ take (word_len line) line ∷ behind
  words_behind : words (drop (word_len line) line) ≡ full behind

cut-more : (b : ℕ) (bs : List ℕ) (t : Bool) → is_blank b ≡ t → FirstWord bs → FirstWord (b ∷ bs)
cut-more b bs true e cut =
    let none : word_len (b ∷ bs) ≡ 0 = rw e refl in
    record {
      behind = parts_of bs;
      parts = slice_split-cons_yes is_blank b bs e ∙ ap (λ n. take n (b ∷ bs) ∷ parts_of bs) (sym none);
      words_behind = ap (λ n. words (drop n (b ∷ bs))) none ∙ words-blank b bs e;
    }
cut-more b bs false e cut =
    let more : word_len (b ∷ bs) ≡ 1 + word_len bs = rw e refl in
    record {
      behind = cut.behind;
      parts = slice_split-cons_no is_blank b bs e ∙ ap (onto_first b) cut.parts
          ∙ ap (λ w. w ∷ cut.behind) (sym (take-more b bs (word_len bs)) ∙ ap (λ n. take n (b ∷ bs)) (sym more));
      words_behind = ap (λ n. words (drop n (b ∷ bs))) more ∙ ap words (drop-more b bs (word_len bs)) ∙ cut.words_behind;
    }

cut_of : (line : List ℕ) → FirstWord line
cut_of [] = record { behind = []; parts = refl; words_behind = refl }
cut_of (b ∷ bs) = cut-more b bs (is_blank b) refl (cut_of bs)

nonempty : (b : ℕ) (w : List ℕ) → is_empty (b ∷ w) ≡ false
nonempty b w = grind (arith, nat_tests)

full-cons : (w : List ℕ) (parts : List (List ℕ)) → 0 < length w → full (w ∷ parts) ≡ w ∷ full parts
full-cons [] parts some = absurd (omega arith)
full-cons (b ∷ w) parts some = ap (λ t. cond (not t) ((b ∷ w) ∷ full parts) (full parts)) (nonempty b w)

-- a line that begins with a word is that word, and the words behind it
pub words-cut : (line : List ℕ) → 0 < word_len line → words line ≡ take (word_len line) line ∷ words (drop (word_len line) line)
words-cut line some =
    let cut = cut_of line in
    let within : word_len line ≤ length line = prefix_len-le-length (λ b. not (is_blank b)) line in
    let has_bytes : 0 < length (take (word_len line) line) = omega (arith, length-take (word_len line) line) in
    ap full cut.parts ∙ full-cons (take (word_len line) line) cut.behind has_bytes ∙ ap (λ ws. take (word_len line) line ∷ ws) (sym cut.words_behind)

-- ---- how many words there are

-- the parts of a line are a first one and others, and each of these that has bytes takes two of the line, with its blank
record FewParts (line : List ℕ) : Type 0 where
  first : List ℕ
  behind : List (List ℕ)
  parts : parts_of line ≡ first ∷ behind
  few : length first + 2 * length (full behind) ≤ length line

few-full : (first : List ℕ) (behind : List (List ℕ)) (n : ℕ) → length first + 2 * length (full behind) ≤ n → 2 * length (full (first ∷ behind)) ≤ n + 1
few-full [] behind n h = omega (arith, h)
few-full (b ∷ w) behind n h =
    let one = ap length (full-cons (b ∷ w) behind (omega arith)) in
    omega (arith, h, one)

few-more : (b : ℕ) (bs : List ℕ) (t : Bool) → is_blank b ≡ t → FewParts bs → FewParts (b ∷ bs)
few-more b bs true e few = record {
  first = [];
  behind = parts_of bs;
  parts = slice_split-cons_yes is_blank b bs e;
  few = let all = ap (λ ps. length (full ps)) few.parts in omega (arith, few-full few.first few.behind (length bs) few.few, all);
}
few-more b bs false e few = record {
  first = b ∷ few.first;
  behind = few.behind;
  parts = slice_split-cons_no is_blank b bs e ∙ ap (onto_first b) few.parts;
  few = omega (arith, few.few);
}

few_of : (line : List ℕ) → FewParts line
few_of [] = record { first = []; behind = []; parts = refl; few = omega arith }
few_of (b ∷ bs) = few-more b bs (is_blank b) refl (few_of bs)

pub few-words : (line : List ℕ) → 2 * length (words line) ≤ length line + 1
few-words line =
    let few = few_of line in
    let all = ap (λ ps. length (full ps)) few.parts in
    omega (arith, few-full few.first few.behind (length line) few.few, all)

-- ---- a word as a slice of the line

is-first : (n len k : ℕ) (t : Bool) → nat_lt n len ≡ t → Some k ≡ cond t (Some n) None → (k ≡ n) × (n < len)
is-first n len k true e h = (ap (λ o. unwrap_or o k) h, grind (arith, nat_tests))
is-first n len k false e h = absurd (cc)

is-none : (n len : ℕ) (t : Bool) → nat_lt n len ≡ t → None ≡ cond t (Some n) None → len ≤ n
is-none n len true e h = absurd (cc)
is-none n len false e h = grind (arith, nat_tests)

or-len : (n len : ℕ) (t : Bool) → n ≤ len → nat_lt n len ≡ t → unwrap_or (cond t (Some n) None) len ≡ n
or-len n len true le h = refl
or-len n len false le h = grind (arith, nat_tests)

-- a line of blanks has no word
pub words-none : (line : List ℕ) → None ≡ position (λ b. not (is_blank b)) line → words line ≡ []
words-none line h = words-behind_blanks line ∙ ap words (drop_all (blanks line) line (is-none _ _ _ refl h))

-- what stands behind a place, as a slice
behind : (line : List ℕ) (k : ℕ) → take (length line - k) (drop k line) ≡ drop k line
behind line k =
    let within : length (drop k line) ≤ length line - k = omega (arith, length-drop k line) in
    take_all (length line - k) (drop k line) within

cut-rest : (line rest : List ℕ) (end : ℕ) → rest ≡ drop (blanks line) line → 0 < length rest → end ≡ word_len rest → CutsOff words line (take end rest) (take (length rest - end) (drop end rest))
cut-rest line rest end e some at =
    let begun : 0 < word_len rest = subst (λ l. 0 < word_len l) (sym e) (word_len-behind_blanks line (subst (λ l. 0 < length l) e some)) in
    let fewer : length rest ≤ length line = subst (λ l. length l ≤ length line) (sym e) (omega (arith, length-drop (blanks line) line)) in
    let tail : take (length rest - end) (drop end rest) ≡ drop end rest = behind rest end in (
      words-behind_blanks line ∙ ap words (sym e) ∙ words-cut rest begun
          ∙ ap (λ n. take n rest ∷ words (drop n rest)) (sym at) ∙ ap (λ l. take end rest ∷ words l) (sym tail),
      subst (λ l. length l < length line) (sym tail) (omega (arith, length-drop end rest)),
    )

-- a line whose first word begins at a place, and ends where the first blank behind it stands or the line ends
pub next-word : (line : List ℕ) (start end : ℕ) → Some start ≡ position (λ b. not (is_blank b)) line →
    let rest = take (length line - start) (drop start line) in
    end ≡ unwrap_or (position is_blank rest) (length rest) → CutsOff words line (take end rest) (take (length rest - end) (drop end rest))
next-word line start end h at =
    let rest = take (length line - start) (drop start line) in
    let first = is-first (blanks line) (length line) start _ refl h in
    let from_first : rest ≡ drop (blanks line) line = behind line start ∙ ap (λ k. drop k line) first.0 in
    let some : 0 < length rest = subst (λ l. 0 < length l) (sym from_first) (omega (arith, length-drop (blanks line) line, first.1)) in
    cut-rest line rest end from_first some (at ∙ or-len _ _ _ (prefix_len-le-length (λ b. not (is_blank b)) rest) refl)

-- ---- blanks at the end

onto-append : (b : ℕ) (ps w : List (List ℕ)) (v : List ℕ) (behind : List (List ℕ)) → ps ≡ v ∷ behind → onto_first b (ps ++ w) ≡ onto_first b ps ++ w
onto-append b ps w v behind e = subst (λ qs. onto_first b (qs ++ w) ≡ onto_first b qs ++ w) (sym e) refl

parts-more : (b c : ℕ) (bs : List ℕ) (t : Bool) → is_blank b ≡ t → parts_of (bs ++ c ∷ []) ≡ parts_of bs ++ [] ∷ [] → parts_of ((b ∷ bs) ++ c ∷ []) ≡ parts_of (b ∷ bs) ++ [] ∷ []
parts-more b c bs true e h =
    slice_split-cons_yes is_blank b (bs ++ c ∷ []) e ∙ ap (λ ps. [] ∷ ps) h ∙ ap (λ ps. ps ++ [] ∷ []) (sym (slice_split-cons_yes is_blank b bs e))
parts-more b c bs false e h =
    let cut = cut_of bs in
    slice_split-cons_no is_blank b (bs ++ c ∷ []) e ∙ ap (onto_first b) h ∙ onto-append b (parts_of bs) ([] ∷ []) (take (word_len bs) bs) cut.behind cut.parts
    ∙ ap (λ ps. ps ++ [] ∷ []) (sym (slice_split-cons_no is_blank b bs e))

parts-blank : (bs : List ℕ) (c : ℕ) → is_blank c ≡ true → parts_of (bs ++ c ∷ []) ≡ parts_of bs ++ [] ∷ []
parts-blank [] c e = slice_split-cons_yes is_blank c [] e
parts-blank (b ∷ bs) c e = parts-more b c bs (is_blank b) refl (parts-blank bs c e)

-- a blank at the end doesn't matter
pub words-before_blank : (line front : List ℕ) (c : ℕ) → line ≡ front ++ c ∷ [] → is_blank c ≡ true → words front ≡ words line
words-before_blank line front c at e =
    sym (ap words at ∙ ap full (parts-blank front c e) ∙ filter-append (λ w. not (is_empty w)) (parts_of front) ([] ∷ []) ∙ append-nil (words front))

blank-allowed : (c : ℕ) (t : Bool) → is_blank c ≡ t → t ≡ true → is_allowed c ≡ true
blank-allowed c t e f = ap (λ b. b || (nat_lt 32 c && nat_lt c 127)) (e ∙ f)

pub allowed-before_blank : (line front : List ℕ) (c : ℕ) → line ≡ front ++ c ∷ [] → is_blank c ≡ true → list_all is_allowed front ≡ list_all is_allowed line
allowed-before_blank line front c at e =
    sym (ap (list_all is_allowed) at ∙ list_all-append is_allowed front (c ∷ []) ∙ ap (λ b. list_all is_allowed front && (b && true)) (blank-allowed c (is_blank c) refl e) ∙ and_true (list_all is_allowed front))

one-more : (front : List ℕ) (c n : ℕ) → front ++ replicate (suc n) c ≡ (front ++ replicate n c) ++ c ∷ []
one-more front c n =
    let e : suc n ≡ n + 1 = omega arith in
    ap (λ k. front ++ replicate k c) e ∙ ap (λ ys. front ++ ys) (sym (replicate_more n c)) ∙ sym (append_assoc front (replicate n c) (c ∷ []))

-- blanks at the end don't matter, however many
pub words-before_blanks : (front : List ℕ) (c n : ℕ) → is_blank c ≡ true → words front ≡ words (front ++ replicate n c)
words-before_blanks front c zero e = ap words (sym (append-nil front))
words-before_blanks front c (suc n) e =
    words-before_blanks front c n e ∙ words-before_blank (front ++ replicate (suc n) c) (front ++ replicate n c) c (one-more front c n) e

pub allowed-before_blanks : (front : List ℕ) (c n : ℕ) → is_blank c ≡ true → list_all is_allowed front ≡ list_all is_allowed (front ++ replicate n c)
allowed-before_blanks front c zero e = ap (list_all is_allowed) (sym (append-nil front))
allowed-before_blanks front c (suc n) e =
    allowed-before_blanks front c n e ∙ allowed-before_blank (front ++ replicate (suc n) c) (front ++ replicate n c) c (one-more front c n) e

-- the last eight bytes of a line are spaces where they make the number of eight spaces
pub eight-spaces : (line last : List ℕ) (k n : ℕ) → last ≡ drop k line → k + 8 ≡ length line → ((i : ℕ) → get_or line i 0 < 256) → n ≡ from_le_bytes w64 last → n ≡ 2314885530818453536 → last ≡ replicate 8 32
eight-spaces line last k n e long fits reads value =
    let eight : length last ≡ 8 = ap length e ∙ (length-drop k line ∙ omega arith) in
    let small : (i : ℕ) → get_or last i 0 < 256 =
    λ i. subst (λ xs. get_or xs i 0 < 256) (sym e) (subst (λ b. b < 256) (sym (get_or-drop k line i 0)) (fits (k + i))) in
    sym (le_bytes_8 last n eight small reads) ∙ ap (to_le_bytes w64) value
