-- Words with visible bytes, one space between them, are the words of their line.
-- Lines that end with LF are those of their text.
use Rattle.std.proofs.Common.{◌≡◌, ℕ, Bool, true, false, not, cond, ◌&&◌, List, [], ◌∷◌, ◌++◌, nat_eq, refl, ap, ◌∙◌, arith, append_assoc}
use Rattle.std.specs.Prelude.{filter, nat_lt}
use Rattle.std.specs.List.{join_with_byte, list_all, onto_first, slice_split}
use Rattle.std.proofs.lemmas.Bool.Decides.{nat_tests}
use Rattle.std.proofs.lemmas.List.Folds.{list_all-append}
use Rattle.std.proofs.lemmas.Bool.{and_from, and_parts}
use Rattle.sj_job.specs.Word.{is_allowed, is_space, is_empty, lines, words}
use Rattle.sj_job.proofs.Numerals.{all-weaker}
use Rattle.sj_show.specs.Words.{line_of_words}

-- a byte of a word
abbrev pub is_visible : ℕ → Bool
is_visible b = nat_lt 32 b && nat_lt b 127

-- some bytes, each of them visible
abbrev pub is_word : List ℕ → Bool
is_word w = not (is_empty w) && list_all is_visible w

visible-unblank : (b : ℕ) → is_visible b ≡ true → is_space b ≡ false
visible-unblank b h = grind (arith, nat_tests)

pub visible-allowed : (b : ℕ) → is_visible b ≡ true → is_allowed b ≡ true
visible-allowed b h = grind (arith, nat_tests)

allowed-inline : (b : ℕ) → is_allowed b ≡ true → nat_eq b 10 ≡ false
allowed-inline b h = grind (arith, nat_tests)

-- ---- the words of a line

split-word : (w : List ℕ) → list_all is_visible w ≡ true → slice_split is_space w ≡ w ∷ []
split-word [] h = refl
split-word (b ∷ w) h =
    let q = and_parts (is_visible b) (list_all is_visible w) h in
    ap (λ t. cond t ([] ∷ slice_split is_space w) (onto_first b (slice_split is_space w))) (visible-unblank b q.0) ∙ ap (onto_first b) (split-word w q.1)

split-space : (w rest : List ℕ) → list_all is_visible w ≡ true → slice_split is_space (w ++ 32 ∷ rest) ≡ w ∷ slice_split is_space rest
split-space [] rest h = refl
split-space (b ∷ w) rest h =
    let q = and_parts (is_visible b) (list_all is_visible w) h in
    ap (λ t. cond t ([] ∷ slice_split is_space (w ++ 32 ∷ rest)) (onto_first b (slice_split is_space (w ++ 32 ∷ rest)))) (visible-unblank b q.0)
    ∙ ap (onto_first b) (split-space w rest q.1)

kept : (w : List ℕ) (ws vs : List (List ℕ)) → is_word w ≡ true → filter (λ w. not (is_empty w)) ws ≡ vs → filter (λ w. not (is_empty w)) (w ∷ ws) ≡ w ∷ vs
kept w ws vs h e =
    ap (λ t. cond t (w ∷ filter (λ w. not (is_empty w)) ws) (filter (λ w. not (is_empty w)) ws)) (and_parts (not (is_empty w)) (list_all is_visible w) h).0
    ∙ ap (λ l. w ∷ l) e

pub words-joined : (ws : List (List ℕ)) → list_all is_word ws ≡ true → words (join_with_byte 32 ws) ≡ ws
words-joined [] h = refl
words-joined (w ∷ []) h =
    let one = (and_parts (is_word w) true h).0 in
    ap (filter (λ w. not (is_empty w))) (split-word w (and_parts (not (is_empty w)) (list_all is_visible w) one).1) ∙ kept w [] [] one refl
words-joined (w ∷ v ∷ ws) h =
    let q = and_parts (is_word w) (list_all is_word (v ∷ ws)) h in
    ap (filter (λ w. not (is_empty w))) (split-space w (join_with_byte 32 (v ∷ ws)) (and_parts (not (is_empty w)) (list_all is_visible w) q.0).1)
    ∙ kept w (slice_split is_space (join_with_byte 32 (v ∷ ws))) (v ∷ ws) q.0 (words-joined (v ∷ ws) q.1)

word-allowed : (w : List ℕ) → is_word w ≡ true → list_all is_allowed w ≡ true
word-allowed w h = all-weaker is_visible is_allowed visible-allowed w (and_parts (not (is_empty w)) (list_all is_visible w) h).1

pub allowed-joined : (ws : List (List ℕ)) → list_all is_word ws ≡ true → list_all is_allowed (join_with_byte 32 ws) ≡ true
allowed-joined [] h = refl
allowed-joined (w ∷ []) h = word-allowed w (and_parts (is_word w) true h).0
allowed-joined (w ∷ v ∷ ws) h =
    let q = and_parts (is_word w) (list_all is_word (v ∷ ws)) h in
    list_all-append is_allowed w (32 ∷ join_with_byte 32 (v ∷ ws))
    ∙ and_from (list_all is_allowed w) (list_all is_allowed (join_with_byte 32 (v ∷ ws))) (word-allowed w q.0) (allowed-joined (v ∷ ws) q.1)

-- ---- the lines of a text

line-first : (line rest : List ℕ) → list_all is_allowed line ≡ true → lines (line ++ 10 ∷ rest) ≡ line ∷ lines rest
line-first [] rest h = refl
line-first (b ∷ line) rest h =
    let q = and_parts (is_allowed b) (list_all is_allowed line) h in
    ap (λ t. cond t ([] ∷ lines (line ++ 10 ∷ rest)) (onto_first b (lines (line ++ 10 ∷ rest)))) (allowed-inline b q.0)
    ∙ ap (onto_first b) (line-first line rest q.1)

pub line-cut : (ws : List (List ℕ)) (rest : List ℕ) → list_all is_word ws ≡ true → lines (line_of_words ws ++ rest) ≡ join_with_byte 32 ws ∷ lines rest
line-cut ws rest h =
    ap lines (append_assoc (join_with_byte 32 ws) (10 ∷ []) rest) ∙ line-first (join_with_byte 32 ws) rest (allowed-joined ws h)

-- ---- bytes one behind another

pub visible-append : (a b : List ℕ) → list_all is_visible a ≡ true → list_all is_visible b ≡ true → list_all is_visible (a ++ b) ≡ true
visible-append a b h k = list_all-append is_visible a b ∙ and_from (list_all is_visible a) (list_all is_visible b) h k

some-more : (a b : List ℕ) → not (is_empty a) ≡ true → not (is_empty (a ++ b)) ≡ true
some-more [] b h = absurd (cc)
some-more (x ∷ a) b h = grind (arith, nat_tests)

pub word-append : (a b : List ℕ) → is_word a ≡ true → list_all is_visible b ≡ true → is_word (a ++ b) ≡ true
word-append a b h k =
    let q = and_parts (not (is_empty a)) (list_all is_visible a) h in
    and_from (not (is_empty (a ++ b))) (list_all is_visible (a ++ b)) (some-more a b q.0) (visible-append a b q.1 k)

pub word-visible : (w : List ℕ) → is_word w ≡ true → list_all is_visible w ≡ true
word-visible w h = (and_parts (not (is_empty w)) (list_all is_visible w) h).1

pub visible-joined : (b : ℕ) (ws : List (List ℕ)) → is_visible b ≡ true → list_all is_word ws ≡ true → list_all is_visible (join_with_byte b ws) ≡ true
visible-joined b [] h k = refl
visible-joined b (w ∷ []) h k = word-visible w (and_parts (is_word w) true k).0
visible-joined b (w ∷ v ∷ ws) h k =
    let q = and_parts (is_word w) (list_all is_word (v ∷ ws)) k in
    visible-append w (b ∷ join_with_byte b (v ∷ ws)) (word-visible w q.0)
    (and_from (is_visible b) (list_all is_visible (join_with_byte b (v ∷ ws))) h (visible-joined b (v ∷ ws) h q.1))
