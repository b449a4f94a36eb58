-- Words and the grammar: modes, names with brackets, operands, priorities.
use Rattle.std.proofs.Common.{◌≡◌, ◌⊎◌, inl, inr, ℕ, ◌<◌, ◌&&◌, ◌||◌, not, Bool, true, false, List, [], ◌∷◌, ◌++◌, length, map, take, drop, get_or, refl, ap, ◌∙◌, sym, subst, arith, append_assoc, Option, Some, None, option_map, cond, nat_eq, nat_le, length-append, codes}
use Rattle.std.specs.Prelude.{option_and_then}
use Rattle.std.specs.Char.{is_ascii_digit}
use Rattle.std.specs.List.{position_or_len, before_first, after_first, slice_split, list_all, join_with_byte, starts_with, onto_first}
use Rattle.std.proofs.lemmas.List.{take-append-drop}
use Rattle.std.proofs.lemmas.List.Folds.{list_all-append}
use Rattle.std.proofs.lemmas.List.Splits.{join_with_byte-slice_split, length-slice_split}
use Rattle.std.proofs.lemmas.Slice.Eq.{bytes_eq-Decides}
use Rattle.std.proofs.lemmas.Bool.Decides.{nat_tests}
use Rattle.std.proofs.lemmas.Bool.{and_from, or_left, and_parts, eq-eqb}
use Rattle.sj_base.specs.declared.mode.Mode.{Mode}
use Rattle.sj_base.specs.declared.mode.Mode.TheVariants.{R, W, RW, Scratch, Redux, Commute}
use Rattle.sj_base.specs.declared.mode.Policy.{Policy}
use Rattle.sj_base.specs.declared.mode.Policy.TheVariants.{Eager, Prio, Ws}
use Rattle.sj_base.specs.declared.mode.Reduction.{Reduction}
use Rattle.sj_base.specs.declared.mode.Reduction.TheVariants.{Plus, Least}
use Rattle.sj_job.specs.declared.form.OperandForm.{OperandForm}
use Rattle.sj_job.specs.Word.{is_name, is_letter, is_letter_or_digit}
use Rattle.sj_job.specs.Form.{policy_word, reduction_word, mode_word, policy_of, reduction_spelled, mode_spelled, is_bracket, ends_with, without_last, pieces_of, bracketed, around_last, child_of, operand_with, operand_of, priority_of, with_priority}
use Rattle.sj_job.specs.Grammar.{bracketed_word, child_pieces, operand_word, priority_words, is_piece, is_proper_operand}
use Rattle.sj_job.proofs.Last.{around-at, around-joins, priority-last, ended_by}
use Rattle.sj_job.proofs.Spelling.{some_from, Reads, word-found, position-at, before-at, after-at, before-none, divided, is-whole, is-part, not-in-name, last-byte, without-last, ends-with}

-- ---- modes, policies, reductions

mode-back : (m : Mode) → mode_spelled (mode_word m) ≡ Some m
mode-back R = refl
mode-back W = refl
mode-back RW = refl
mode-back Scratch = refl
mode-back Redux = refl
mode-back Commute = refl

pub modes : Reads mode_spelled mode_word (λ m. true)
modes = record { read = λ w m e. (word-found mode_word (R ∷ W ∷ RW ∷ Scratch ∷ Redux ∷ Commute ∷ []) w m e, refl); back = λ m t. mode-back m }

policy-back : (p : Policy) → policy_of (policy_word p) ≡ Some p
policy-back Eager = refl
policy-back Prio = refl
policy-back Ws = refl

pub policies : Reads policy_of policy_word (λ p. true)
policies = record { read = λ w p e. (word-found policy_word (Eager ∷ Prio ∷ Ws ∷ []) w p e, refl); back = λ p t. policy-back p }

reduction-back : (r : Reduction) → reduction_spelled (reduction_word r) ≡ Some r
reduction-back Plus = refl
reduction-back Least = refl

pub reductions : Reads reduction_spelled reduction_word (λ r. true)
reductions = record { read = λ w r e. (word-found reduction_word (Plus ∷ Least ∷ []) w r e, refl); back = λ r t. reduction-back r }

-- ---- pieces between commas

abbrev pub is_comma : ℕ → Bool
is_comma b = nat_eq b 44

abbrev no_bracket : ℕ → Bool
no_bracket b = not (is_bracket b)

neither : (b c : Bool) → b ≡ false → not c ≡ true → not (c || b) ≡ true
neither b true e h = absurd (cc)
neither true false e h = absurd (cc)
neither false false e h = refl

not_either : (b c : Bool) → not (c || b) ≡ true → (b ≡ false) × (not c ≡ true)
not_either true true h = absurd (cc)
not_either true false h = absurd (cc)
not_either false true h = absurd (cc)
not_either false false h = (refl, refl)

onto-piece : (b : ℕ) (ps : List (List ℕ)) → is_comma b ≡ false → no_bracket b ≡ true → list_all is_piece ps ≡ true → list_all is_piece (onto_first b ps) ≡ true
onto-piece b [] e h k = and_from (is_piece (b ∷ [])) true (and_from (not (is_bracket b || is_comma b)) true (neither (is_comma b) (is_bracket b) e h) refl) refl
onto-piece b (p ∷ ps) e h k =
    let q = and_parts (is_piece p) (list_all is_piece ps) k in
    and_from (is_piece (b ∷ p)) (list_all is_piece ps) (and_from (not (is_bracket b || is_comma b)) (is_piece p) (neither (is_comma b) (is_bracket b) e h) q.0) q.1

cut-piece : (b : ℕ) (ps : List (List ℕ)) (t : Bool) → is_comma b ≡ t → no_bracket b ≡ true → list_all is_piece ps ≡ true → list_all is_piece (cond t ([] ∷ ps) (onto_first b ps)) ≡ true
cut-piece b ps true e h k = k
cut-piece b ps false e h k = onto-piece b ps e h k

-- what stands between commas of a text without brackets
split-pieces : (text : List ℕ) → list_all no_bracket text ≡ true → list_all is_piece (slice_split is_comma text) ≡ true
split-pieces [] h = refl
split-pieces (b ∷ text) h =
    let q = and_parts (no_bracket b) (list_all no_bracket text) h in
    cut-piece b (slice_split is_comma text) (is_comma b) refl q.0 (split-pieces text q.1)

split-one : (p : List ℕ) → is_piece p ≡ true → slice_split is_comma p ≡ p ∷ []
split-one [] h = refl
split-one (b ∷ p) h =
    let q = and_parts (not (is_bracket b || is_comma b)) (is_piece p) h in
    ap (λ t. cond t ([] ∷ slice_split is_comma p) (onto_first b (slice_split is_comma p))) (not_either (is_comma b) (is_bracket b) q.0).0
    ∙ ap (onto_first b) (split-one p q.1)

split-first : (p rest : List ℕ) → is_piece p ≡ true → slice_split is_comma (p ++ 44 ∷ rest) ≡ p ∷ slice_split is_comma rest
split-first [] rest h = refl
split-first (b ∷ p) rest h =
    let q = and_parts (not (is_bracket b || is_comma b)) (is_piece p) h in
    ap (λ t. cond t ([] ∷ slice_split is_comma (p ++ 44 ∷ rest)) (onto_first b (slice_split is_comma (p ++ 44 ∷ rest)))) (not_either (is_comma b) (is_bracket b) q.0).0
    ∙ ap (onto_first b) (split-first p rest q.1)

split-joined : (p : List ℕ) (ps : List (List ℕ)) → list_all is_piece (p ∷ ps) ≡ true → slice_split is_comma (join_with_byte 44 (p ∷ ps)) ≡ p ∷ ps
split-joined p [] h = split-one p (and_parts (is_piece p) true h).0
split-joined p (r ∷ ps) h =
    let q = and_parts (is_piece p) (list_all is_piece (r ∷ ps)) h in
    split-first p (join_with_byte 44 (r ∷ ps)) q.0 ∙ ap (λ l. p ∷ l) (split-joined r ps q.1)

unbracketed : (p : List ℕ) → is_piece p ≡ true → list_all no_bracket p ≡ true
unbracketed [] h = refl
unbracketed (b ∷ p) h =
    let q = and_parts (not (is_bracket b || is_comma b)) (is_piece p) h in
    and_from (no_bracket b) (list_all no_bracket p) (not_either (is_comma b) (is_bracket b) q.0).1 (unbracketed p q.1)

unbracketed-joined : (p : List ℕ) (ps : List (List ℕ)) → list_all is_piece (p ∷ ps) ≡ true → list_all no_bracket (join_with_byte 44 (p ∷ ps)) ≡ true
unbracketed-joined p [] h = unbracketed p (and_parts (is_piece p) true h).0
unbracketed-joined p (r ∷ ps) h =
    let q = and_parts (is_piece p) (list_all is_piece (r ∷ ps)) h in
    list_all-append no_bracket p (44 ∷ join_with_byte 44 (r ∷ ps))
    ∙ and_from (list_all no_bracket p) (list_all no_bracket (join_with_byte 44 (r ∷ ps))) (unbracketed p q.0) (unbracketed-joined r ps q.1)

-- ---- pieces that a bracket closes

pub record ArePieces (closing : ℕ) (text : List ℕ) (ps : List (List ℕ)) : Type 0 where
  pub some : 0 < length ps
  pub joined : text ≡ join_with_byte 44 ps ++ closing ∷ []
  pub pieces : list_all is_piece ps ≡ true

pieces_by : (closing : ℕ) (text : List ℕ) (ps : List (List ℕ)) (t : Bool) → (ends_with closing text && list_all no_bracket (without_last text)) ≡ t → cond t (Some (slice_split is_comma (without_last text))) None ≡ Some ps → ArePieces closing text ps
pieces_by closing text ps true h e =
    let q = and_parts (ends_with closing text) (list_all no_bracket (without_last text)) h in
    let inner = without_last text in
    let same : slice_split is_comma inner ≡ ps = cc in
    subst (ArePieces closing text) same (record {
      some = omega (arith, length-slice_split is_comma inner);
      joined = last-byte closing text q.0 ∙ ap (λ l. l ++ closing ∷ []) (sym (join_with_byte-slice_split 44 inner));
      pieces = split-pieces inner q.1;
    })
pieces_by closing text ps false h e = absurd (cc)

pieces-read : (closing : ℕ) (text : List ℕ) (ps : List (List ℕ)) → pieces_of closing text ≡ Some ps → ArePieces closing text ps
pieces-read closing text ps e = pieces_by closing text ps (ends_with closing text && list_all no_bracket (without_last text)) refl e

pieces-back : (closing : ℕ) (p : List ℕ) (ps : List (List ℕ)) → list_all is_piece (p ∷ ps) ≡ true → pieces_of closing (join_with_byte 44 (p ∷ ps) ++ closing ∷ []) ≡ Some (p ∷ ps)
pieces-back closing p ps h =
    let inner = join_with_byte 44 (p ∷ ps) in
    ap (λ l. cond (ends_with closing (inner ++ closing ∷ []) && list_all no_bracket l) (Some (slice_split is_comma l)) None) (without-last inner closing)
    ∙ ap (λ t. cond t (Some (slice_split is_comma inner)) None) (and_from (ends_with closing (inner ++ closing ∷ [])) (list_all no_bracket inner) (ends-with inner closing) (unbracketed-joined p ps h))
    ∙ ap Some (split-joined p ps h)

-- ---- a name with pieces

abbrev word_of : ℕ → ℕ → (List ℕ × List (List ℕ)) → List ℕ
word_of opening closing p = bracketed_word opening closing p.0 p.1

abbrev is_proper_word : (List ℕ × List (List ℕ)) → Bool
is_proper_word p = is_name p.0 && list_all is_piece p.1

with-pieces : (opening closing : ℕ) (name : List ℕ) (ps : List (List ℕ)) → 0 < length ps → bracketed_word opening closing name ps ≡ name ++ (opening ∷ (join_with_byte 44 ps ++ closing ∷ []))
with-pieces opening closing name [] some = absurd (omega arith)
with-pieces opening closing name (p ∷ ps) some = refl

abbrev bracketed_from : Bool → Bool → List ℕ → Option (List (List ℕ)) → Option (List ℕ × List (List ℕ))
bracketed_from named whole name ps = cond named (cond whole (Some (name, [])) (option_map (λ ps. (name, ps)) ps)) None

bracketed_by : (opening closing : ℕ) (w : List ℕ) (p : List ℕ × List (List ℕ)) (named whole : Bool) → is_name (before_first (λ c. nat_eq c opening) w) ≡ named → nat_eq (length (before_first (λ c. nat_eq c opening) w)) (length w) ≡ whole → bracketed_from named whole (before_first (λ c. nat_eq c opening) w) (pieces_of closing (after_first (λ c. nat_eq c opening) w)) ≡ Some p → (w ≡ word_of opening closing p) × (is_proper_word p ≡ true)
bracketed_by opening closing w p true true n h e =
    let name = before_first (λ c. nat_eq c opening) w in
    let alone : List ℕ × List (List ℕ) = (name, []) in
    let same : alone ≡ p = cc in
    subst (λ p. (w ≡ word_of opening closing p) × (is_proper_word p ≡ true)) same (sym (is-whole (λ c. nat_eq c opening) w h), and_from (is_name name) true n refl)
bracketed_by opening closing w p true false n h e =
    let name = before_first (λ c. nat_eq c opening) w in
    let text = after_first (λ c. nat_eq c opening) w in
    let with_ps : List (List ℕ) → List ℕ × List (List ℕ) = λ ps. (name, ps) in
    let q = some_from with_ps (pieces_of closing text) p e in
    let a = pieces-read closing text q.0 q.1.0 in
    subst (λ p. (w ≡ word_of opening closing p) × (is_proper_word p ≡ true)) q.1.1
    (divided opening w (is-part (λ c. nat_eq c opening) w h) ∙ ap (λ l. name ++ opening ∷ l) a.joined ∙ sym (with-pieces opening closing name q.0 a.some), and_from (is_name name) (list_all is_piece q.0) n a.pieces)
bracketed_by opening closing w p false whole n h e = absurd (cc)

pub bracketed-read : (opening closing : ℕ) (w : List ℕ) (p : List ℕ × List (List ℕ)) → bracketed opening closing w ≡ Some p → (w ≡ word_of opening closing p) × (is_proper_word p ≡ true)
bracketed-read opening closing w p e = bracketed_by opening closing w p (is_name (before_first (λ c. nat_eq c opening) w)) (nat_eq (length (before_first (λ c. nat_eq c opening) w)) (length w)) refl refl e

less_length : (a b : ℕ) → a < b → nat_eq a b ≡ false
less_length a b e = grind (arith, nat_tests)

bracketed-alone : (opening closing : ℕ) (name : List ℕ) → list_all (λ c. not (nat_eq c opening)) name ≡ true → is_name name ≡ true → bracketed opening closing name ≡ Some (name, [])
bracketed-alone opening closing name free n =
    let b : before_first (λ c. nat_eq c opening) name ≡ name = before-none (λ c. nat_eq c opening) name free in
    let ps = pieces_of closing (after_first (λ c. nat_eq c opening) name) in
    ap (λ l. bracketed_from (is_name l) (nat_eq (length l) (length name)) l ps) b
    ∙ ap (λ t. bracketed_from t (nat_eq (length name) (length name)) name ps) n
    ∙ ap (λ t. bracketed_from true t name ps) (eq-eqb (length name) (length name) refl)

bracketed-with : (opening closing : ℕ) (name p : List ℕ) (ps : List (List ℕ)) → list_all (λ c. not (nat_eq c opening)) name ≡ true → nat_eq opening opening ≡ true → is_name name ≡ true → list_all is_piece (p ∷ ps) ≡ true → bracketed opening closing (bracketed_word opening closing name (p ∷ ps)) ≡ Some (name, p ∷ ps)
bracketed-with opening closing name p ps free same n h =
    let text = join_with_byte 44 (p ∷ ps) ++ closing ∷ [] in
    let w = name ++ opening ∷ text in
    let b : before_first (λ c. nat_eq c opening) w ≡ name = before-at (λ c. nat_eq c opening) name opening text free same in
    let a : after_first (λ c. nat_eq c opening) w ≡ text = after-at (λ c. nat_eq c opening) name opening text free same in
    let shorter : length name < length w = omega (arith, length-append name (opening ∷ text)) in
    ap (λ l. bracketed_from (is_name l) (nat_eq (length l) (length w)) l (pieces_of closing (after_first (λ c. nat_eq c opening) w))) b
    ∙ ap (λ t. bracketed_from t (nat_eq (length name) (length w)) name (pieces_of closing (after_first (λ c. nat_eq c opening) w))) n
    ∙ ap (λ t. bracketed_from true t name (pieces_of closing (after_first (λ c. nat_eq c opening) w))) (less_length (length name) (length w) shorter)
    ∙ ap (λ l. bracketed_from true false name (pieces_of closing l)) a
    ∙ ap (bracketed_from true false name) (pieces-back closing p ps h)

bracketed-back : (opening closing : ℕ) (name : List ℕ) (ps : List (List ℕ)) → ((n : List ℕ) → is_name n ≡ true → list_all (λ c. not (nat_eq c opening)) n ≡ true) → nat_eq opening opening ≡ true → is_proper_word (name, ps) ≡ true → bracketed opening closing (bracketed_word opening closing name ps) ≡ Some (name, ps)
bracketed-back opening closing name [] free same h =
    let q = and_parts (is_name name) true h in
    bracketed-alone opening closing name (free name q.0) q.0
bracketed-back opening closing name (p ∷ ps) free same h =
    let q = and_parts (is_name name) (list_all is_piece (p ∷ ps)) h in
    bracketed-with opening closing name p ps (free name q.0) same q.0 q.1

-- NAME(..)
pub codelets : Reads (bracketed 40 41) (word_of 40 41) is_proper_word
codelets = record { read = bracketed-read 40 41; back = λ p h. bracketed-back 40 41 p.0 p.1 (λ n e. not-in-name 40 n refl refl e) refl h }

-- NAME[..]
pub targets : Reads (bracketed 91 93) (word_of 91 93) is_proper_word
targets = record { read = bracketed-read 91 93; back = λ p h. bracketed-back 91 93 p.0 p.1 (λ n e. not-in-name 91 n refl refl e) refl h }

-- ---- an operand

child-read : (ps : List (List ℕ)) (child : Option (List ℕ × List ℕ)) → child_of ps ≡ Some child → ps ≡ child_pieces child
child-read [] child e = let same : None ≡ child = cc in ap child_pieces same
child-read (i ∷ []) child e = absurd (cc)
child-read (i ∷ j ∷ []) child e = let same : Some (i, j) ≡ child = cc in ap child_pieces same
child-read (i ∷ j ∷ k ∷ ps) child e = absurd (cc)

child-back : (child : Option (List ℕ × List ℕ)) → child_of (child_pieces child) ≡ Some child
child-back None = refl
child-back (Some p) = refl

abbrev operand_at : Option (List ℕ × List (List ℕ)) → Option Mode → Option OperandForm
operand_at t m = elim t as (λ _. Option OperandForm) [ None ↦ None | Some t ↦ option_and_then (operand_with t) m ]

abbrev operand_in : Option (List ℕ × List ℕ) → Option OperandForm
operand_in parts = elim parts as (λ _. Option OperandForm) [ None ↦ None | Some p ↦ operand_at (bracketed 91 93 p.0) (mode_spelled p.1) ]

abbrev IsOperand : List ℕ → OperandForm → Type 0
IsOperand w o = (w ≡ operand_word o) × (is_proper_operand o ≡ true)

operand_made : (front back : List ℕ) (t : List ℕ × List (List ℕ)) (m : Mode) (o : OperandForm) → (front ≡ word_of 91 93 t) × (is_proper_word t ≡ true) → back ≡ mode_word m → operand_with t m ≡ Some o → IsOperand (front ++ 58 ∷ back) o
operand_made front back t m o h k e =
    let make : Option (List ℕ × List ℕ) → OperandForm = λ child. record { name = t.0; child = child; mode = m } in
    let p = some_from make (child_of t.1) o e in
    let same : t.1 ≡ child_pieces p.0 = child-read t.1 p.0 p.1.0 in
    subst (IsOperand (front ++ 58 ∷ back)) p.1.1 (
      ap (λ f. f ++ 58 ∷ back) (h.0 ∙ ap (bracketed_word 91 93 t.0) same) ∙ ap (λ b. bracketed_word 91 93 t.0 (child_pieces p.0) ++ 58 ∷ b) k,
      ap (λ ps. is_name t.0 && list_all is_piece ps) (sym same) ∙ h.1,
    )

operand_by : (front back : List ℕ) (o : OperandForm) (t : Option (List ℕ × List (List ℕ))) (m : Option Mode) → bracketed 91 93 front ≡ t → mode_spelled back ≡ m → operand_at t m ≡ Some o → IsOperand (front ++ 58 ∷ back) o
operand_by front back o None m h k e = absurd (cc)
operand_by front back o (Some t) None h k e = absurd (cc)
operand_by front back o (Some t) (Some m) h k e = operand_made front back t m o (targets.read front t h) (modes.read back m k).0 e

operand_in_by : (w : List ℕ) (o : OperandForm) (parts : Option (List ℕ × List ℕ)) → around_last 58 w ≡ parts → operand_in parts ≡ Some o → IsOperand w o
operand_in_by w o None h e = absurd (cc)
operand_in_by w o (Some p) h e =
    subst (λ w. IsOperand w o) (sym (around-joins 58 w p.0 p.1 h)) (operand_by p.0 p.1 o (bracketed 91 93 p.0) (mode_spelled p.1) refl refl e)

mode-free : (m : Mode) → list_all (λ c. not (nat_eq c 58)) (mode_word m) ≡ true
mode-free R = refl
mode-free W = refl
mode-free RW = refl
mode-free Scratch = refl
mode-free Redux = refl
mode-free Commute = refl

operand-back : (o : OperandForm) → is_proper_operand o ≡ true → operand_of (operand_word o) ≡ Some o
operand-back o h =
    let front = bracketed_word 91 93 o.name (child_pieces o.child) in
    let make : Option (List ℕ × List ℕ) → OperandForm = λ child. record { name = o.name; child = child; mode = o.mode } in
    ap operand_in (around-at 58 front (mode_word o.mode) (mode-free o.mode))
    ∙ ap (λ t. operand_at t (mode_spelled (mode_word o.mode))) (targets.back (o.name, child_pieces o.child) h)
    ∙ ap (operand_at (Some (o.name, child_pieces o.child))) (mode-back o.mode)
    ∙ ap (option_map make) (child-back o.child)

pub operands : Reads operand_of operand_word is_proper_operand
operands = record { read = λ w o e. operand_in_by w o (around_last 58 w) refl e; back = operand-back }

-- ---- a priority

-- the first byte that stands in no name
abbrev first_odd : List ℕ → ℕ
first_odd w = get_or w (position_or_len (λ b. not (is_letter_or_digit b)) w) 0

byte_at : (n m : List ℕ) (b : ℕ) → get_or (n ++ b ∷ m) (length n) 0 ≡ b
byte_at [] m b = refl
byte_at (x ∷ n) m b = byte_at n m b

not_not : (b : Bool) → b ≡ true → not (not b) ≡ true
not_not true e = refl
not_not false e = absurd (cc)

all_letters : (n : List ℕ) → list_all is_letter_or_digit n ≡ true → list_all (λ b. not (not (is_letter_or_digit b))) n ≡ true
all_letters [] e = refl
all_letters (b ∷ n) e =
    let q = and_parts (is_letter_or_digit b) (list_all is_letter_or_digit n) e in
    and_from (not (not (is_letter_or_digit b))) (list_all (λ b. not (not (is_letter_or_digit b))) n) (not_not (is_letter_or_digit b) q.0) (all_letters n q.1)

name_letters : (n : List ℕ) → is_name n ≡ true → list_all is_letter_or_digit n ≡ true
name_letters [] e = refl
name_letters (b ∷ n) e =
    let p = and_parts (is_letter b && list_all is_letter_or_digit n) (nat_le (length n) 30) e in
    let q = and_parts (is_letter b) (list_all is_letter_or_digit n) p.0 in
    and_from (is_letter_or_digit b) (list_all is_letter_or_digit n) (or_left (is_letter b) (is_ascii_digit b) q.0) q.1

odd-behind : (n m : List ℕ) (b : ℕ) → is_name n ≡ true → is_letter_or_digit b ≡ false → first_odd (n ++ b ∷ m) ≡ b
odd-behind n m b e f =
    let free : list_all (λ c. not (not (is_letter_or_digit c))) n ≡ true = all_letters n (name_letters n e) in
    ap (λ k. get_or (n ++ b ∷ m) k 0) (position-at (λ c. not (is_letter_or_digit c)) n b m free (ap not f)) ∙ byte_at n m b

odd_by : (n m : List ℕ) (child : Option (List ℕ × List ℕ)) → is_name n ≡ true → (first_odd (bracketed_word 91 93 n (child_pieces child) ++ 58 ∷ m) ≡ 58) ⊎ (first_odd (bracketed_word 91 93 n (child_pieces child) ++ 58 ∷ m) ≡ 91)
odd_by n m None e = inl (odd-behind n m 58 e refl)
odd_by n m (Some p) e =
    let inner = join_with_byte 44 (p.0 ∷ p.1 ∷ []) ++ 93 ∷ [] in
    inr (ap first_odd (append_assoc n (91 ∷ inner) (58 ∷ m)) ∙ odd-behind n (inner ++ 58 ∷ m) 91 e refl)

odd-operand : (o : OperandForm) → is_name o.name ≡ true → (first_odd (operand_word o) ≡ 58) ⊎ (first_odd (operand_word o) ≡ 91)
odd-operand o e = odd_by o.name (mode_word o.mode) o.child e

abbrev priority_from : Bool → List ℕ → Option (List ℕ)
priority_from t w = cond t (Some (drop 5 w)) None

prefixed : (w : List ℕ) → starts_with nat_eq w (codes "prio=") ≡ true → w ≡ codes "prio=" ++ drop 5 w
prefixed w e =
    let same : codes "prio=" ≡ take 5 w = (bytes_eq-Decides (codes "prio=") (take 5 w)).0 e in
    sym (take-append-drop 5 w) ∙ ap (λ l. l ++ drop 5 w) (sym same)

unprioritized_by : (w : List ℕ) (t : Bool) → starts_with nat_eq w (codes "prio=") ≡ t → (first_odd w ≡ 58) ⊎ (first_odd w ≡ 91) → priority_from t w ≡ None
unprioritized_by w true h (inl e) = absurd (let p : first_odd w ≡ 61 = ap first_odd (prefixed w h) in omega (arith, p, e))
unprioritized_by w true h (inr e) = absurd (let p : first_odd w ≡ 61 = ap first_odd (prefixed w h) in omega (arith, p, e))
unprioritized_by w false h e = refl

unprioritized : (o : OperandForm) → is_proper_operand o ≡ true → priority_of (operand_word o) ≡ None
unprioritized o h =
    let q = and_parts (is_name o.name) (list_all is_piece (child_pieces o.child)) h in
    unprioritized_by (operand_word o) (starts_with nat_eq (operand_word o) (codes "prio=")) refl (odd-operand o q.0)

-- operands alone
unended : (os : List OperandForm) → list_all is_proper_operand os ≡ true → with_priority (map operand_word os) ≡ (map operand_word os, None)
unended [] h = refl
unended (o ∷ []) h = ap (ended_by (operand_word o)) (unprioritized o (and_parts (is_proper_operand o) true h).0)
unended (o ∷ p ∷ os) h =
    let q = and_parts (is_proper_operand o) (list_all is_proper_operand (p ∷ os)) h in
    ap (λ (r : List (List ℕ) × Option (List ℕ)). (operand_word o ∷ r.0, r.1)) (unended (p ∷ os) q.1)

append_nil : (ws : List (List ℕ)) → ws ++ [] ≡ ws
append_nil [] = refl
append_nil (w ∷ ws) = ap (λ l. w ∷ l) (append_nil ws)

-- operands and a priority
pub priority-back : (os : List OperandForm) (p : Option (List ℕ)) → list_all is_proper_operand os ≡ true → with_priority (map operand_word os ++ priority_words p) ≡ (map operand_word os, p)
priority-back os None h = ap with_priority (append_nil (map operand_word os)) ∙ unended os h
priority-back os (Some p) h = priority-last (map operand_word os) (codes "prio=" ++ p) p refl

priority_word_by : (w : List ℕ) (p : List ℕ) (t : Bool) → starts_with nat_eq w (codes "prio=") ≡ t → priority_from t w ≡ Some p → w ≡ codes "prio=" ++ p
priority_word_by w p true h e = let same : drop 5 w ≡ p = cc in prefixed w h ∙ ap (λ l. codes "prio=" ++ l) same
priority_word_by w p false h e = absurd (cc)

last_by : (w : List ℕ) (o : Option (List ℕ)) → priority_of w ≡ o → w ∷ [] ≡ (ended_by w o).0 ++ priority_words (ended_by w o).1
last_by w None h = refl
last_by w (Some p) h = ap (λ l. l ∷ []) (priority_word_by w p (starts_with nat_eq w (codes "prio=")) refl h)

-- words are those before the priority, and the priority
pub priority-joins : (ws : List (List ℕ)) → ws ≡ (with_priority ws).0 ++ priority_words (with_priority ws).1
priority-joins [] = refl
priority-joins (w ∷ []) = last_by w (priority_of w) refl
priority-joins (w ∷ v ∷ ws) = ap (λ l. w ∷ l) (priority-joins (v ∷ ws))
