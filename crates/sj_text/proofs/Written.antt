-- The words of a form are words with visible bytes, and say the form.
use Rattle.std.proofs.Common.{◌≡◌, ℕ, Bool, true, false, not, cond, ◌&&◌, ◌||◌, Option, Some, None, is_some, List, [], ◌∷◌, ◌++◌, ℤ, pos, length, map, codes, nat_eq, refl, ap, ◌∙◌, arith, bytes_eq}
use Rattle.std.specs.Prelude.{nat_le, nat_lt, ◌^◌}
use Rattle.std.specs.Char.{is_ascii_digit}
use Rattle.std.specs.List.{join_with_byte, list_all}
use Rattle.std.specs.Str.Parse.{digits_value}
use Rattle.std.proofs.lemmas.Bool.Decides.{nat_tests}
use Rattle.std.proofs.lemmas.List.Folds.{list_all-append}
use Rattle.std.proofs.lemmas.Bool.{and_from, and_parts}
use Rattle.sj_base.specs.declared.mode.Mode.{Mode}
use Rattle.sj_base.specs.declared.mode.Mode.TheVariants.{R, W, RW, Scratch, Redux, Commute}
use Rattle.sj_base.specs.declared.mode.Reduction.{Reduction}
use Rattle.sj_base.specs.declared.mode.Reduction.TheVariants.{Plus, Least}
use Rattle.sj_base.proofs.Texts.{same_text}
use Rattle.sj_codelet.specs.MinPlus.{inf}
use Rattle.sj_job.specs.declared.form.Form.{Form}
use Rattle.sj_job.specs.declared.form.Form.TheVariants as form
use Rattle.sj_job.specs.declared.form.InitForm.{InitForm}
use Rattle.sj_job.specs.declared.form.InitForm.TheVariants.{Values, Fill, Nothing}
use Rattle.sj_job.specs.declared.form.OperandForm.{OperandForm}
use Rattle.sj_job.specs.declared.form.Size.{Size}
use Rattle.sj_job.specs.declared.form.Size.TheVariants.{Vector, Matrix}
use Rattle.sj_job.specs.Form.{mode_word, reduction_word}
use Rattle.sj_job.specs.Grammar.{bracketed_word, child_pieces, codelet_word, has_values, init_words, is_piece, is_proper, is_proper_operand, operand_word, parts_words, priority_words, sized, form_words}
use Rattle.sj_job.specs.Sentence.{are_counts, is_numbered, is_numbered_init, is_numbered_priority, is_numbered_size}
use Rattle.sj_job.specs.Word.{count_of, is_count, is_digits, is_empty, is_integer, is_letter, is_letter_or_digit, is_name, negative_of}
use Rattle.sj_job.proofs.Numerals.{all-weaker}
use Rattle.sj_text.proofs.Bytes.{is_visible, is_word, visible-append, visible-joined, word-append, word-visible}

-- ---- names and numbers

letter-visible : (b : ℕ) → is_letter b ≡ true → is_visible b ≡ true
letter-visible b h = grind (arith, nat_tests)

digit-visible : (b : ℕ) → is_ascii_digit b ≡ true → is_visible b ≡ true
digit-visible b h = grind (arith, nat_tests)

either-visible : (b : ℕ) (t : Bool) → is_letter b ≡ t → (t || is_ascii_digit b) ≡ true → is_visible b ≡ true
either-visible b true l h = letter-visible b l
either-visible b false l h = digit-visible b h

some-byte : (b : ℕ) (bs : List ℕ) → not (is_empty (b ∷ bs)) ≡ true
some-byte b bs = grind (arith, nat_tests)

pub name-word : (w : List ℕ) → is_name w ≡ true → is_word w ≡ true
name-word [] h = absurd (cc)
name-word (b ∷ bs) h =
    let p = and_parts (is_letter b && list_all is_letter_or_digit bs) (nat_le (length bs) 30) h in
    let q = and_parts (is_letter b) (list_all is_letter_or_digit bs) p.0 in
    and_from (not (is_empty (b ∷ bs))) (list_all is_visible (b ∷ bs)) (some-byte b bs)
    (and_from (is_visible b) (list_all is_visible bs) (letter-visible b q.0) (all-weaker is_letter_or_digit is_visible (λ c e. either-visible c (is_letter c) refl e) bs q.1))

digits-word : (w : List ℕ) → is_digits w ≡ true → is_word w ≡ true
digits-word w h =
    let q = and_parts (not (is_empty w)) (list_all is_ascii_digit w) h in
    and_from (not (is_empty w)) (list_all is_visible w) q.0 (all-weaker is_ascii_digit is_visible digit-visible w q.1)

count_by : (t a b : Bool) (v : ℕ) → (a && b) ≡ t → is_some (cond t (Some v) None) ≡ true → a ≡ true
count_by true a b v e h = (and_parts a b e).0
count_by false a b v e h = absurd (cc)

pub count-word : (w : List ℕ) → is_count w ≡ true → is_word w ≡ true
count-word w h =
    let v = digits_value 10 w in
    digits-word w (count_by (is_digits w && nat_lt v (2 ^ 63)) (is_digits w) (nat_lt v (2 ^ 63)) v refl h)

minus_by : (t a b c : Bool) (z : ℤ) → (a && b && c) ≡ t → is_some (cond t (Some z) None) ≡ true → (a ≡ true) × (b ≡ true)
minus_by true a b c z e h = and_parts a b (and_parts (a && b) c e).0
minus_by false a b c z e h = absurd (cc)

minus-visible : (b : ℕ) → nat_eq b 45 ≡ true → is_visible b ≡ true
minus-visible b h = grind (arith, nat_tests)

minus-word : (w : List ℕ) → is_some (negative_of w) ≡ true → is_word w ≡ true
minus-word [] h = absurd (cc)
minus-word (b ∷ ds) h =
    let v = digits_value 10 ds in
    let le = nat_le v (2 ^ 63) in
    let q = minus_by (nat_eq b 45 && is_digits ds && le) (nat_eq b 45) (is_digits ds) le (Rattle.sj_job.specs.Word.negative v) refl h in
    and_from (not (is_empty (b ∷ ds))) (list_all is_visible (b ∷ ds)) (some-byte b ds)
    (and_from (is_visible b) (list_all is_visible ds) (minus-visible b q.0) (word-visible ds (digits-word ds q.1)))

integer_by : (w : List ℕ) (b : Bool) (o : Option ℕ) → bytes_eq w (codes "inf") ≡ b → count_of w ≡ o → is_some (cond b (Some inf) (elim o as (λ _. Option ℤ) [ Some n ↦ Some (pos n) | None ↦ negative_of w ])) ≡ true → is_word w ≡ true
integer_by w true o e f h = ap is_word (same_text w (codes "inf") e)
integer_by w false (Some n) e f h = count-word w (ap (λ (o : Option ℕ). is_some o) f)
integer_by w false None e f h = minus-word w h

pub integer-word : (w : List ℕ) → is_integer w ≡ true → is_word w ≡ true
integer-word w h = integer_by w (bytes_eq w (codes "inf")) (count_of w) refl refl h

integers-words : (ws : List (List ℕ)) → list_all is_integer ws ≡ true → list_all is_word ws ≡ true
integers-words ws h = all-weaker is_integer is_word integer-word ws h

-- ---- the parts of a form

bracketed-word-is : (opening closing : ℕ) (name : List ℕ) (ps : List (List ℕ)) → is_visible opening ≡ true → is_visible closing ≡ true → is_word name ≡ true → list_all is_word ps ≡ true → is_word (bracketed_word opening closing name ps) ≡ true
bracketed-word-is opening closing name [] o c n h = n
bracketed-word-is opening closing name (p ∷ ps) o c n h =
    let inner = join_with_byte 44 (p ∷ ps) in
    word-append name (opening ∷ (inner ++ closing ∷ [])) n
    (and_from (is_visible opening) (list_all is_visible (inner ++ closing ∷ [])) o
    (visible-append inner (closing ∷ []) (visible-joined 44 (p ∷ ps) refl h) (and_from (is_visible closing) true c refl)))

pieces-words : (child : Option (List ℕ × List ℕ)) → are_counts child ≡ true → list_all is_word (child_pieces child) ≡ true
pieces-words None h = refl
pieces-words (Some p) h =
    let q = and_parts (is_count p.0) (is_count p.1) h in
    and_from (is_word p.0) (list_all is_word (p.1 ∷ [])) (count-word p.0 q.0) (and_from (is_word p.1) true (count-word p.1 q.1) refl)

mode-visible : (m : Mode) → list_all is_visible (mode_word m) ≡ true
mode-visible R = refl
mode-visible W = refl
mode-visible RW = refl
mode-visible Scratch = refl
mode-visible Redux = refl
mode-visible Commute = refl

operand-word : (o : OperandForm) → is_proper_operand o ≡ true → are_counts o.child ≡ true → is_word (operand_word o) ≡ true
operand-word o h k =
    let name = (and_parts (is_name o.name) (list_all is_piece (child_pieces o.child)) h).0 in
    word-append (bracketed_word 91 93 o.name (child_pieces o.child)) (58 ∷ mode_word o.mode)
    (bracketed-word-is 91 93 o.name (child_pieces o.child) refl refl (name-word o.name name) (pieces-words o.child k))
    (and_from (is_visible 58) (list_all is_visible (mode_word o.mode)) refl (mode-visible o.mode))

operands-words : (os : List OperandForm) → list_all is_proper_operand os ≡ true → list_all (λ (o : OperandForm). are_counts o.child) os ≡ true → list_all is_word (map operand_word os) ≡ true
operands-words [] h k = refl
operands-words (o ∷ os) h k =
    let p = and_parts (is_proper_operand o) (list_all is_proper_operand os) h in
    let q = and_parts (are_counts o.child) (list_all (λ (o : OperandForm). are_counts o.child) os) k in
    and_from (is_word (operand_word o)) (list_all is_word (map operand_word os)) (operand-word o p.0 q.0) (operands-words os p.1 q.1)

priority-words : (p : Option (List ℕ)) → is_numbered_priority p ≡ true → list_all is_word (priority_words p) ≡ true
priority-words None h = refl
priority-words (Some p) h = and_from (is_word (codes "prio=" ++ p)) true (word-append (codes "prio=") p refl (word-visible p (integer-word p h))) refl

parts-words : (p : Option (List ℕ × List ℕ)) → are_counts p ≡ true → list_all is_word (parts_words p) ≡ true
parts-words None h = refl
parts-words (Some p) h = pieces-words (Some p) h

init-words : (i : InitForm) → is_numbered_init i ≡ true → list_all is_word (init_words i) ≡ true
init-words (Values vs) h = integers-words vs h
init-words (Fill a b) h =
    let q = and_parts (is_integer a) (is_integer b) h in
    and_from (is_word a) (list_all is_word (b ∷ [])) (integer-word a q.0) (and_from (is_word b) true (integer-word b q.1) refl)
init-words Nothing h = refl

words-append : (a b : List (List ℕ)) → list_all is_word a ≡ true → list_all is_word b ≡ true → list_all is_word (a ++ b) ≡ true
words-append a b h k = list_all-append is_word a b ∙ and_from (list_all is_word a) (list_all is_word b) h k

sized-words : (name : List ℕ) (s : Size) (ws : List (List ℕ)) → is_word name ≡ true → is_numbered_size s ≡ true → list_all is_word ws ≡ true → list_all is_word (sized name s ws) ≡ true
sized-words name (Vector n) ws h k m =
    and_from (is_word name) (list_all is_word (n ∷ ws)) h (and_from (is_word n) (list_all is_word ws) (count-word n k) m)
sized-words name (Matrix r c) ws h k m =
    let q = and_parts (is_count r) (is_count c) k in
    and_from (is_word name) (list_all is_word (r ∷ c ∷ ws)) h
    (and_from (is_word r) (list_all is_word (c ∷ ws)) (count-word r q.0) (and_from (is_word c) (list_all is_word ws) (count-word c q.1) m))

-- ---- a form

name-alone : (name : List ℕ) → is_name name ≡ true → list_all is_word (name ∷ []) ≡ true
name-alone name h = and_from (is_word name) true (name-word name h) refl

reduction-word : (by : Reduction) → is_word (reduction_word by) ≡ true
reduction-word Plus = refl
reduction-word Least = refl

pub written-words : (f : Form) → is_proper f ≡ true → is_numbered f ≡ true → list_all is_word (form_words f) ≡ true
written-words (form.Register a) h k =
    let p = and_parts (is_name a.name) (has_values a.init) h in
    let q = and_parts (is_numbered_size a.size && are_counts a.parts) (is_numbered_init a.init) k in
    let r = and_parts (is_numbered_size a.size) (are_counts a.parts) q.0 in
    sized-words a.name a.size (parts_words a.parts ++ init_words a.init) (name-word a.name p.0) r.0
    (words-append (parts_words a.parts) (init_words a.init) (parts-words a.parts r.1) (init-words a.init q.1))
written-words (form.Plan name r c) h k =
    let q = and_parts (is_count r) (is_count c) k in
    and_from (is_word name) (list_all is_word (r ∷ c ∷ [])) (name-word name h)
    (and_from (is_word r) (list_all is_word (c ∷ [])) (count-word r q.0) (and_from (is_word c) true (count-word c q.1) refl))
written-words (form.Redux name by) h k =
    and_from (is_word name) (list_all is_word (reduction_word by ∷ [])) (name-word name h) (and_from (is_word (reduction_word by)) true (reduction-word by) refl)
written-words (form.Task t) h k =
    let p = and_parts (is_name t.codelet && list_all is_piece t.args) (list_all is_proper_operand t.operands) h in
    let q = and_parts (is_name t.codelet) (list_all is_piece t.args) p.0 in
    let m = and_parts (list_all is_integer t.args && list_all (λ (o : OperandForm). are_counts o.child) t.operands) (is_numbered_priority t.priority) k in
    let n = and_parts (list_all is_integer t.args) (list_all (λ (o : OperandForm). are_counts o.child) t.operands) m.0 in
    and_from (is_word (codelet_word t)) (list_all is_word (map operand_word t.operands ++ priority_words t.priority))
    (bracketed-word-is 40 41 t.codelet t.args refl refl (name-word t.codelet q.0) (integers-words t.args n.0))
    (words-append (map operand_word t.operands) (priority_words t.priority) (operands-words t.operands p.1 n.1) (priority-words t.priority m.1))
written-words (form.Print name) h k = name-alone name h
written-words (form.Invalidate name) h k = name-alone name h
written-words (form.Unregister name) h k = name-alone name h
