-- What `clap` finds in words that are spelled right.
use Rattle.std.proofs.Common.{◌≡◌, ◌∙◌, ◌&&◌, ◌||◌, ◌==◌, ◌⊎◌, inl, inr, ⊎_elim, ℕ, suc, ◌+◌, Bool, true, false, true≢false, not, cond, List, [], ◌∷◌, ◌++◌, append_assoc, append-nil, map, take, drop, Option, Some, None, is_some, refl, sym, ap, subst, arith, codes, option_map, if◌then◌else◌}
use Rattle.std.specs.List.{find, fold, list_all, list_any, position_or_len}
use Rattle.std.specs.Option.{option_or, option_and_then}
use Rattle.std.specs.Prelude.{slice_get}
use Rattle.std.specs.Str.{bytes_eq}
use Rattle.std.proofs.lemmas.Slice.Eq.{bytes_eq-Decides}
use Rattle.std.proofs.lemmas.Bool.Decides.{Decides-eqb}
use Rattle.std.proofs.lemmas.Option.{none-some, same_Some}
use Rattle.std.proofs.lemmas.List.Folds.{find-append}
use Rattle.std.proofs.lemmas.Bool.{and_parts, not-true, or_parts}
use Rattle.clap.specs.Lexer.{long_of, short_of}
use Rattle.clap.specs.Words.{Row, Rule, built, is_simple, matches_of, rows_of, first_of, one_of}
use Rattle.clap.specs.Walk.{Held, Walk, Step, idle, option, trailing, walked, settled_rows, with_values, without, at_row, with_default, has_row, after_step, long_word, short_or_plain}
use Rattle.clap.specs.declared.builder.value_parser.Reading.TheVariants.{AsWritten}
use Rattle.clap.specs.declared.parser.matches.ValueSource.TheVariants.{DefaultValue, CommandLine}
use Rattle.clap.specs.declared.parser.matches.Found.{Found}
use Rattle.clap.proofs.OnLiterals.{clap_on_literals}
use Rattle.clap.proofs.WalkLemmas.{first_value-rows, one_text-rows}
use Rattle.sj_words.specs.Spelling.{Text, is_flag, is_option, is_value, is_equals, around_equals, after_dash, named, told_alone, with_next, first_then, or_else, names_said, stands_once, value_given}
use Rattle.sj_words.specs.Command.{the_app, HoldsGiven}

pub the_app_is_simple : is_simple the_app ≡ true
unfolding clap_on_literals
the_app_is_simple = refl

-- ---- tests that hold

pub or_cases : (a b : Bool) → (a || b) ≡ true → (a ≡ true) ⊎ (b ≡ true)
or_cases true b e = inl refl
or_cases false b e = inr e

pub picks : {A : Type 0} (b : Bool) (x y : A) → (if b then Some x else None) ≡ Some y → (b ≡ true) × (x ≡ y)
picks true x y e = (refl, same_Some x y e)
picks false x y e = absurd (none-some y e)

same_if : {A : Type 0} (b : Bool) (x : A) → (if b then x else x) ≡ x
same_if true x = refl
same_if false x = refl

-- ---- how a word is put together

abbrev rejoined : Text × Option Text → Text
rejoined (name, None) = name
rejoined (name, Some value) = name ++ 61 ∷ value

rejoined_longer : (x : ℕ) (name value : Text) (b : Bool) → rejoined (x ∷ name, if b then Some value else None) ≡ x ∷ rejoined (name, if b then Some value else None)
rejoined_longer x name value true = refl
rejoined_longer x name value false = refl

around_step : (t : Bool) (x : ℕ) (xs : Text) (k : ℕ) (b : Bool) → (t ≡ true → x ≡ 61) → rejoined (take k xs, if b then Some (drop (k + 1) xs) else None) ≡ xs
    → rejoined (take (cond (not t) (1 + k) 0) (x ∷ xs), if t || b then Some (drop (cond (not t) (1 + k) 0 + 1) (x ∷ xs)) else None) ≡ x ∷ xs
around_step true x xs k b is e = ap (λ y. y ∷ xs) (sym (is refl))
around_step false x xs k b is e =
    let one : 1 + k ≡ suc k = omega arith in
    ap (λ n. rejoined (take n (x ∷ xs), if b then Some (drop (n + 1) (x ∷ xs)) else None)) one
    ∙ (let two : suc k + 1 ≡ suc (k + 1) = omega arith in ap (λ n. rejoined (x ∷ take k xs, if b then Some (drop n (x ∷ xs)) else None)) two)
    ∙ rejoined_longer x (take k xs) (drop (k + 1) xs) b ∙ ap (λ t. x ∷ t) e

around_whole : (text : Text) → rejoined (around_equals text) ≡ text
around_whole [] = refl
around_whole (x ∷ xs) = around_step (x == 61) x xs (position_or_len is_equals xs) (list_any is_equals xs) ((Decides-eqb x 61).0) (around_whole xs)

dash_first : (word rest : Text) → after_dash word ≡ Some rest → word ≡ 45 ∷ rest
dash_first [] rest e = absurd (none-some rest e)
dash_first (b ∷ bs) rest e = let h = picks (b == 45) bs rest e in λ i. (Decides-eqb b 45).0 h.0 i ∷ h.1 i

named_rest : (text : Option Text) (word : Text) (head : Text × Option Text) → ((t : Text) → text ≡ Some t → word ≡ 45 ∷ 45 ∷ t) → option_map around_equals text ≡ Some head → word ≡ 45 ∷ 45 ∷ rejoined head
named_rest None word head f e = absurd (none-some head e)
named_rest (Some t) word head f e = f t refl ∙ ap (λ x. 45 ∷ 45 ∷ x) (sym (around_whole t) ∙ ap rejoined (same_Some (around_equals t) head e))

two_dashes : (one : Option Text) (word t : Text) → ((s : Text) → one ≡ Some s → word ≡ 45 ∷ s) → option_and_then after_dash one ≡ Some t → word ≡ 45 ∷ 45 ∷ t
two_dashes None word t f e = absurd (none-some t e)
two_dashes (Some s) word t f e = f s refl ∙ ap (λ x. 45 ∷ x) (dash_first s t e)

pub named_whole : (word : Text) (head : Text × Option Text) → named word ≡ Some head → word ≡ 45 ∷ 45 ∷ rejoined head
named_whole word head e = named_rest (option_and_then after_dash (after_dash word)) word head (λ t is. two_dashes (after_dash word) word t (λ s. dash_first word s) is) e

-- ---- one thing said, as `clap` walks over it

abbrev pub rules : List Rule
rules = (built the_app).top.rules

-- the walk between two things said
abbrev pub at : List Row → Option (Text × List Text) → ℕ → ℕ → Walk
at rows pending skip p = record { held = record { rows = rows; pending = pending; skip = skip }; waiting = idle; position = p; is_trailing = false; stopped = None }

-- the walk behind an option whose value is to come
abbrev pub waits : Text → List Row → ℕ → ℕ → Walk
waits name rows skip p = record (at rows (Some (name, [])) skip p) { waiting = option name }

abbrev pub pair_value : Text × Text → Text
pair_value q = if is_flag q.0 then codes "true" else q.1

abbrev pub pair_row : Text × Text → Row
pair_row q = record { id = q.0; values = pair_value q ∷ []; count = None; source = Some CommandLine; reading = AsWritten }

abbrev pub put : Text → Text → List Row → List Row
put name value rows = with_values name AsWritten CommandLine (value ∷ []) (without name rows)

abbrev pub use_pair : List Row → Text × Text → List Row
use_pair rows q = put q.0 (pair_value q) rows

-- a next word that is the value of an option
module _ (name word : Text) (rows : List Row) (skip p : ℕ) where
  abbrev pub before : Held
  before = record { rows = rows; pending = Some (name, []); skip = skip }

  abbrev pub met : Bool → Option (Text × Option Text) → Option Text → Held × Step
  met dashes long short = if dashes then (before, trailing p)
      else (elim long [ Some q ↦ long_word rules (option name) word q.0 q.1 before | None ↦ short_or_plain rules (option name) word short before ])

  abbrev pub next_walk : Bool → Option (Text × Option Text) → Option Text → Walk
  next_walk dashes long short = after_step rules word (waits name rows skip p) (met dashes long short).0 (met dashes long short).1

  walked_next : walked rules [] (waits name rows skip p) word ≡ next_walk (bytes_eq word (45 ∷ 45 ∷ [])) (long_of word) (short_of word)
  unfolding clap_on_literals
  walked_next = go (long_of word)
    where
      go : (long : Option (Text × Option Text)) → after_step rules word (waits name rows skip p) (if bytes_eq word (45 ∷ 45 ∷ []) then (before, trailing p) else Rattle.clap.specs.Walk.long_or_other rules (option name) word long before).0 (if bytes_eq word (45 ∷ 45 ∷ []) then (before, trailing p) else Rattle.clap.specs.Walk.long_or_other rules (option name) word long before).1 ≡ next_walk (bytes_eq word (45 ∷ 45 ∷ [])) long (short_of word)
      go None = refl
      go (Some q) = refl

-- what `clap` does with an option of ours
pub record Reads (name : Text) : Type 0 where
  pub joined : (value : Text) (rows : List Row) (pending : Option (Text × List Text)) (skip p : ℕ) → walked rules [] (at rows pending skip p) (45 ∷ 45 ∷ (name ++ 61 ∷ value)) ≡ at (put name value (settled_rows rules pending rows)) None skip p
  pub apart : (rows : List Row) (pending : Option (Text × List Text)) (skip p : ℕ) → walked rules [] (at rows pending skip p) (45 ∷ 45 ∷ name) ≡ waits name (settled_rows rules pending rows) skip p
  pub value : (word : Text) (rows : List Row) (skip p : ℕ) → next_walk name word rows skip p false None None ≡ at rows (Some (name, word ∷ [])) skip p
  pub settles : (value : Text) (rows : List Row) → settled_rows rules (Some (name, value ∷ [])) rows ≡ put name value rows
  pub no_flag : is_flag name ≡ false
  pub trace_else : bytes_eq (codes "trace") name ≡ false
  pub summary_else : bytes_eq (codes "summary") name ≡ false

reads_workers : Reads (codes "workers")
unfolding clap_on_literals
reads_workers = record { joined = λ v r q s p. refl; apart = λ r q s p. refl; value = λ w r s p. refl; settles = λ v r. refl; no_flag = refl; trace_else = refl; summary_else = refl }

reads_sched : Reads (codes "sched")
unfolding clap_on_literals
reads_sched = record { joined = λ v r q s p. refl; apart = λ r q s p. refl; value = λ w r s p. refl; settles = λ v r. refl; no_flag = refl; trace_else = refl; summary_else = refl }

reads_node : Reads (codes "node")
unfolding clap_on_literals
reads_node = record { joined = λ v r q s p. refl; apart = λ r q s p. refl; value = λ w r s p. refl; settles = λ v r. refl; no_flag = refl; trace_else = refl; summary_else = refl }

reads_nodes : Reads (codes "nodes")
unfolding clap_on_literals
reads_nodes = record { joined = λ v r q s p. refl; apart = λ r q s p. refl; value = λ w r s p. refl; settles = λ v r. refl; no_flag = refl; trace_else = refl; summary_else = refl }

reads_swap : Reads (codes "swap")
unfolding clap_on_literals
reads_swap = record { joined = λ v r q s p. refl; apart = λ r q s p. refl; value = λ w r s p. refl; settles = λ v r. refl; no_flag = refl; trace_else = refl; summary_else = refl }

reads_swap_size : Reads (codes "swap-size")
unfolding clap_on_literals
reads_swap_size = record { joined = λ v r q s p. refl; apart = λ r q s p. refl; value = λ w r s p. refl; settles = λ v r. refl; no_flag = refl; trace_else = refl; summary_else = refl }

reads_app : Reads (codes "app")
unfolding clap_on_literals
reads_app = record { joined = λ v r q s p. refl; apart = λ r q s p. refl; value = λ w r s p. refl; settles = λ v r. refl; no_flag = refl; trace_else = refl; summary_else = refl }

reads_n : Reads (codes "n")
unfolding clap_on_literals
reads_n = record { joined = λ v r q s p. refl; apart = λ r q s p. refl; value = λ w r s p. refl; settles = λ v r. refl; no_flag = refl; trace_else = refl; summary_else = refl }

reads_tile : Reads (codes "tile")
unfolding clap_on_literals
reads_tile = record { joined = λ v r q s p. refl; apart = λ r q s p. refl; value = λ w r s p. refl; settles = λ v r. refl; no_flag = refl; trace_else = refl; summary_else = refl }

reads_seed : Reads (codes "seed")
unfolding clap_on_literals
reads_seed = record { joined = λ v r q s p. refl; apart = λ r q s p. refl; value = λ w r s p. refl; settles = λ v r. refl; no_flag = refl; trace_else = refl; summary_else = refl }

reads_at : (name other : Text) → Reads other → bytes_eq name other ≡ true → Reads name
reads_at name other r e = subst Reads (sym ((bytes_eq-Decides name other).0 e)) r

pub reads_option : (name : Text) → is_option name ≡ true → Reads name
reads_option name e =
    ⊎_elim (reads_at name (codes "workers") reads_workers)
    (λ e. ⊎_elim (reads_at name (codes "sched") reads_sched)
    (λ e. ⊎_elim (reads_at name (codes "node") reads_node)
    (λ e. ⊎_elim (reads_at name (codes "nodes") reads_nodes)
    (λ e. ⊎_elim (reads_at name (codes "swap") reads_swap)
    (λ e. ⊎_elim (reads_at name (codes "swap-size") reads_swap_size)
    (λ e. ⊎_elim (reads_at name (codes "app") reads_app)
    (λ e. ⊎_elim (reads_at name (codes "n") reads_n)
    (λ e. ⊎_elim (reads_at name (codes "tile") reads_tile) (reads_at name (codes "seed") reads_seed) (or_cases _ _ e))
    (or_cases _ _ e))
    (or_cases _ _ e))
    (or_cases _ _ e))
    (or_cases _ _ e))
    (or_cases _ _ e))
    (or_cases _ _ e))
    (or_cases _ _ e))
    (or_cases _ _ e)

-- what `clap` does with a flag of ours
abbrev WalksFlag : Text → Type 0
WalksFlag name = (rows : List Row) (pending : Option (Text × List Text)) (skip p : ℕ)
    → walked rules [] (at rows pending skip p) (45 ∷ 45 ∷ name) ≡ at (use_pair (settled_rows rules pending rows) (name, [])) None skip p

walks_trace : WalksFlag (codes "trace")
unfolding clap_on_literals
walks_trace rows pending skip p = refl

walks_summary : WalksFlag (codes "summary")
unfolding clap_on_literals
walks_summary rows pending skip p = refl

-- what holds of both flags
pub of_flag : (P : Text → Type 0) (name : Text) → P (codes "trace") → P (codes "summary") → is_flag name ≡ true → P name
of_flag P name trace summary e =
    ⊎_elim (λ e. subst P (sym ((bytes_eq-Decides name (codes "trace")).0 e)) trace) (λ e. subst P (sym ((bytes_eq-Decides name (codes "summary")).0 e)) summary)
    (or_cases _ _ e)

-- an option is no flag, so its value is the one that is given
value_as_given : (name value : Text) (rows : List Row) → is_flag name ≡ false → put name value rows ≡ use_pair rows (name, value)
value_as_given name value rows e = ap (λ b. put name (if b then codes "true" else value) rows) (sym e)

-- a value is no flag word
pub is_no_dashes : (word : Text) → is_value word ≡ true → bytes_eq word (45 ∷ 45 ∷ []) ≡ false
is_no_dashes [] e = absurd (true≢false (sym e))
is_no_dashes (b ∷ bs) e = ap (λ t. t && bytes_eq bs (45 ∷ [])) (not-true (b == 45) e)

pub is_no_long : (word : Text) → is_value word ≡ true → long_of word ≡ None
is_no_long [] e = absurd (true≢false (sym e))
is_no_long (b ∷ bs) e =
    ap (λ t. option_and_then Rattle.clap.specs.Lexer.long_of_rest (option_and_then (Rattle.clap.specs.Lexer.strip_byte 45) (if t then Some bs else None))) (not-true (b == 45) e)

pub is_no_short : (word : Text) → is_value word ≡ true → short_of word ≡ None
is_no_short [] e = absurd (true≢false (sym e))
is_no_short (b ∷ bs) e = ap (λ t. option_and_then Rattle.clap.specs.Lexer.short_of_rest (if t then Some bs else None)) (not-true (b == 45) e)

walked_value : (name word : Text) (rows : List Row) (skip p : ℕ) → Reads name → is_value word ≡ true → walked rules [] (waits name rows skip p) word ≡ at rows (Some (name, word ∷ [])) skip p
walked_value name word rows skip p r e =
    walked_next name word rows skip p ∙ (λ i. next_walk name word rows skip p (is_no_dashes word e i) (is_no_long word e i) (is_no_short word e i)) ∙ r.value word rows skip p

pub alone_step : (word : Text) (head : Option (Text × Option Text)) (q : Text × Text) (rows : List Row) (pending : Option (Text × List Text)) (skip p : ℕ)
    → named word ≡ head → told_alone head ≡ Some q → walked rules [] (at rows pending skip p) word ≡ at (use_pair (settled_rows rules pending rows) q) None skip p
alone_step word None q rows pending skip p is e = absurd (none-some q e)
alone_step word (Some (name, None)) q rows pending skip p is e =
    let h = picks (is_flag name) (name, []) q e in
    ap (walked rules [] (at rows pending skip p)) (named_whole word (name, None) is) ∙ of_flag WalksFlag name walks_trace walks_summary h.0 rows pending skip p
    ∙ ap (λ x. at (use_pair (settled_rows rules pending rows) x) None skip p) h.1
alone_step word (Some (name, Some value)) q rows pending skip p is e =
    let h = picks (is_option name && is_value value) (name, value) q e in
    let both = and_parts (is_option name) (is_value value) h.0 in
    let r = reads_option name both.0 in
    ap (walked rules [] (at rows pending skip p)) (named_whole word (name, Some value) is) ∙ r.joined value rows pending skip p
    ∙ ap (λ x. at x None skip p) (value_as_given name value (settled_rows rules pending rows) r.no_flag) ∙ ap (λ x. at (use_pair (settled_rows rules pending rows) x) None skip p) h.1

-- an option and its value in the next word
pub record ByNext (word next : Text) (q : Text × Text) : Type 0 where
  pub walks : (rows : List Row) (pending : Option (Text × List Text)) (skip p : ℕ)
      → walked rules [] (walked rules [] (at rows pending skip p) word) next ≡ at (settled_rows rules pending rows) (Some (q.0, q.1 ∷ [])) skip p
  pub settles : (rows : List Row) → settled_rows rules (Some (q.0, q.1 ∷ [])) rows ≡ use_pair rows q

pub next_step : (word next : Text) (head : Option (Text × Option Text)) (q : Text × Text) → named word ≡ head → with_next head next ≡ Some q → ByNext word next q
next_step word next None q is e = absurd (none-some q e)
next_step word next (Some (name, Some value)) q is e = absurd (none-some q e)
next_step word next (Some (name, None)) q is e =
    let h = picks (is_option name && is_value next) (name, next) q e in
    let both = and_parts (is_option name) (is_value next) h.0 in
    let r = reads_option name both.0 in
    subst (ByNext word next) h.1 (record {
      walks = λ rows pending skip p.
          ap (λ w. walked rules [] (walked rules [] (at rows pending skip p) w) next) (named_whole word (name, None) is)
          ∙ ap (λ w. walked rules [] w next) (r.apart rows pending skip p) ∙ walked_value name next (settled_rows rules pending rows) skip p r both.1;
      settles = λ rows. r.settles next rows ∙ value_as_given name next rows r.no_flag;
    })

-- ---- all that is said

abbrev pub end_rows : Walk → List Row
end_rows w = settled_rows rules w.held.pending w.held.rows

abbrev Ends : List Text → List (Text × Text) → Type 0
Ends words ps = (rows : List Row) (pending : Option (Text × List Text)) (skip p : ℕ) → end_rows (fold (walked rules []) (at rows pending skip p) words) ≡ fold use_pair (settled_rows rules pending rows) ps

pub mapped : (q : Text × Text) (s : Option (List (Text × Text))) (ps : List (Text × Text)) → option_map (λ xs. q ∷ xs) s ≡ Some ps → (rest : List (Text × Text)) × (s ≡ Some rest) × (q ∷ rest ≡ ps)
mapped q None ps e = absurd (none-some ps e)
mapped q (Some rest) ps e = (rest, refl, same_Some (q ∷ rest) ps e)

ends_alone : (word : Text) (words : List Text) (a : Option (Text × Text)) (ps : List (Text × Text)) → told_alone (named word) ≡ a → ((rest : List (Text × Text)) → names_said words ≡ Some rest → Ends words rest)
    → (q : Text × Text) → a ≡ Some q → option_map (λ xs. q ∷ xs) (names_said words) ≡ Some ps → Ends (word ∷ words) ps
ends_alone word words a ps is ih q e so =
    let m = mapped q (names_said words) ps so in
    subst (Ends (word ∷ words)) m.2 (λ rows pending skip p.
    ap (λ w. end_rows (fold (walked rules []) w words)) (alone_step word (named word) q rows pending skip p refl (is ∙ e)) ∙ ih m.0 m.1 (use_pair (settled_rows rules pending rows) q) None skip p)

ends_next : (word next : Text) (words : List Text) (ps : List (Text × Text)) → ((rest : List (Text × Text)) → names_said words ≡ Some rest → Ends words rest)
    → (q : Text × Text) → with_next (named word) next ≡ Some q → option_map (λ xs. q ∷ xs) (names_said words) ≡ Some ps → Ends (word ∷ next ∷ words) ps
ends_next word next words ps ih q e so =
    let m = mapped q (names_said words) ps so in
    let b = next_step word next (named word) q refl e in
    subst (Ends (word ∷ next ∷ words)) m.2 (λ rows pending skip p.
    ap (λ w. end_rows (fold (walked rules []) w words)) (b.walks rows pending skip p) ∙ ih m.0 m.1 (settled_rows rules pending rows) (Some (q.0, q.1 ∷ [])) skip p
    ∙ ap (λ r. fold use_pair r m.0) (b.settles (settled_rows rules pending rows)))

ends_one : (word : Text) (a : Option (Text × Text)) (ps : List (Text × Text)) → told_alone (named word) ≡ a → ((rest : List (Text × Text)) → names_said [] ≡ Some rest → Ends [] rest) → first_then a (Some []) ≡ Some ps → Ends (word ∷ []) ps
ends_one word None ps is ih so = absurd (none-some ps so)
ends_one word (Some q) ps is ih so = ends_alone word [] (Some q) ps is ih q refl so

ends_two : (word next : Text) (words : List Text) (a b : Option (Text × Text)) (ps : List (Text × Text)) → told_alone (named word) ≡ a → with_next (named word) next ≡ b
    → ((rest : List (Text × Text)) → names_said (next ∷ words) ≡ Some rest → Ends (next ∷ words) rest) → ((rest : List (Text × Text)) → names_said words ≡ Some rest → Ends words rest)
    → or_else a (first_then a (names_said (next ∷ words))) (first_then b (names_said words)) ≡ Some ps → Ends (word ∷ next ∷ words) ps
ends_two word next words (Some q) b ps is by more ih so = ends_alone word (next ∷ words) (Some q) ps is more q refl so
ends_two word next words None None ps is by more ih so = absurd (none-some ps so)
ends_two word next words None (Some q) ps is by more ih so = ends_next word next words ps ih q by so

ends : (words : List Text) (ps : List (Text × Text)) → names_said words ≡ Some ps → Ends words ps
ends [] ps so = subst (Ends []) (same_Some [] ps so) (λ rows pending skip p. refl)
ends (word ∷ []) ps so = ends_one word (told_alone (named word)) ps refl (ends []) so
ends (word ∷ (next ∷ words)) ps so = ends_two word next words (told_alone (named word)) (with_next (named word) next) ps refl refl (ends (next ∷ words)) (ends words) so

-- ---- the rows of names that stand once

at_missing : (id : Text) (change : Row → List Row) (missing : List Row) (rows : List Row) → has_row id rows ≡ false → at_row id change missing rows ≡ rows ++ missing
at_missing id change missing [] none = refl
at_missing id change missing (r ∷ rs) none =
    let both = or_parts (bytes_eq r.id id) (has_row id rs) none in
    ap (λ b. if b then change r ++ rs else r ∷ at_row id change missing rs) both.0 ∙ ap (λ xs. r ∷ xs) (at_missing id change missing rs both.1)

pub put_new : (q : Text × Text) (rows : List Row) → has_row q.0 rows ≡ false → use_pair rows q ≡ rows ++ pair_row q ∷ []
put_new q rows none =
    ap (with_values q.0 AsWritten CommandLine (pair_value q ∷ [])) (at_missing q.0 (λ _. []) [] rows none ∙ append-nil rows)
    ∙ at_missing q.0 (Rattle.clap.specs.Walk.more_values CommandLine (pair_value q ∷ [])) (pair_row q ∷ []) rows none

has_row_append : (id : Text) (rows : List Row) (r : Row) → has_row id rows ≡ false → bytes_eq r.id id ≡ false → has_row id (rows ++ r ∷ []) ≡ false
has_row_append id [] r none ne = ap (λ b. b || false) ne
has_row_append id (x ∷ xs) r none ne =
    let both = or_parts (bytes_eq x.id id) (has_row id xs) none in
    ap (λ b. b || has_row id (xs ++ r ∷ [])) both.0 ∙ has_row_append id xs r both.1 ne

-- no name of the pairs has a row
abbrev pub are_new : List Row → List (Text × Text) → Bool
are_new rows = list_all (λ q. not (has_row q.0 rows))

pub new_more : (q : Text × Text) (rows : List Row) (ps : List (Text × Text)) → are_new rows ps ≡ true → list_any (λ p. bytes_eq q.0 p.0) ps ≡ false → are_new (rows ++ pair_row q ∷ []) ps ≡ true
new_more q rows [] new ne = refl
new_more q rows (p ∷ ps) new ne =
    let both = and_parts (not (has_row p.0 rows)) (are_new rows ps) new in
    let apart = or_parts (bytes_eq q.0 p.0) (list_any (λ p. bytes_eq q.0 p.0) ps) ne in
    ap (λ b. not b && are_new (rows ++ pair_row q ∷ []) ps) (has_row_append p.0 rows (pair_row q) (not-true (has_row p.0 rows) both.0) apart.0) ∙ new_more q rows ps both.1 apart.1

used_in_order : (ps : List (Text × Text)) (rows : List Row) → stands_once ps ≡ true → are_new rows ps ≡ true → fold use_pair rows ps ≡ rows ++ map pair_row ps
used_in_order [] rows once new = sym (append-nil rows)
used_in_order (q ∷ ps) rows once new =
    let both = and_parts (not (has_row q.0 rows)) (are_new rows ps) new in
    let apart = and_parts (not (list_any (λ p. bytes_eq q.0 p.0) ps)) (stands_once ps) once in
    ap (λ r. fold use_pair r ps) (put_new q rows (not-true (has_row q.0 rows) both.0))
    ∙ used_in_order ps (rows ++ pair_row q ∷ []) apart.1 (new_more q rows ps both.1 (not-true (list_any (λ p. bytes_eq q.0 p.0) ps) apart.0))
    ∙ append_assoc rows (pair_row q ∷ []) (map pair_row ps)

pub all_new : (ps : List (Text × Text)) → are_new [] ps ≡ true
all_new [] = refl
all_new (p ∷ ps) = all_new ps

-- ---- the end of the walk: each flag has a default

abbrev unset_row : Text → Row
unset_row flag = record { id = flag; values = codes "false" ∷ []; count = None; source = Some DefaultValue; reading = AsWritten }

abbrev with_unset : Text → List Row → List Row
with_unset flag rows = if has_row flag rows then rows else at_row flag (Rattle.clap.specs.Walk.more_values DefaultValue (codes "false" ∷ [])) (unset_row flag ∷ []) rows

abbrev both_unset : List Row → List Row
both_unset rows = with_unset (codes "summary") (with_unset (codes "trace") rows)

defaults : (rows : List Row) → fold with_default rows rules ≡ both_unset rows
unfolding clap_on_literals
defaults rows =
    ap (λ r. fold with_default r (drop 1 rules)) (same_if (has_row (codes "workers") rows) rows) ∙ ap (λ r. fold with_default r (drop 2 rules)) (same_if (has_row (codes "sched") rows) rows)
    ∙ ap (λ r. fold with_default r (drop 3 rules)) (same_if (has_row (codes "node") rows) rows) ∙ ap (λ r. fold with_default r (drop 4 rules)) (same_if (has_row (codes "nodes") rows) rows)
    ∙ ap (λ r. fold with_default r (drop 5 rules)) (same_if (has_row (codes "swap") rows) rows) ∙ ap (λ r. fold with_default r (drop 6 rules)) (same_if (has_row (codes "swap-size") rows) rows)
    ∙ ap (λ r. fold with_default r (drop 7 rules)) (same_if (has_row (codes "app") rows) rows) ∙ ap (λ r. fold with_default r (drop 8 rules)) (same_if (has_row (codes "n") rows) rows)
    ∙ ap (λ r. fold with_default r (drop 9 rules)) (same_if (has_row (codes "tile") rows) rows) ∙ ap (λ r. fold with_default r (drop 10 rules)) (same_if (has_row (codes "seed") rows) rows)

matches_are : (words : List Text) → matches_of the_app words ≡ fold with_default (end_rows (fold (walked rules []) (at [] None 0 1) words)) rules
unfolding clap_on_literals
matches_are words = refl

found_rows : (words : List Text) (ps : List (Text × Text)) → names_said words ≡ Some ps → stands_once ps ≡ true → matches_of the_app words ≡ both_unset (map pair_row ps)
found_rows words ps so once =
    matches_are words ∙ ap (λ r. fold with_default r rules) (ends words ps so [] None 0 1 ∙ used_in_order ps [] once (all_new ps)) ∙ defaults (map pair_row ps)

-- ---- what is found

abbrev found_at : Text → List Row → Option Row
found_at id = find (λ r. bytes_eq r.id id)

or_none_is : {A : Type 0} (o : Option A) → option_or o None ≡ o
or_none_is None = refl
or_none_is (Some x) = refl

no_row_found : (id : Text) (rows : List Row) → has_row id rows ≡ false → found_at id rows ≡ None
no_row_found id [] none = refl
no_row_found id (r ∷ rs) none =
    let both = or_parts (bytes_eq r.id id) (has_row id rs) none in
    ap (λ b. cond b (Some r) (found_at id rs)) both.0 ∙ no_row_found id rs both.1

-- a flag's default changes nothing of other names
unset_else : (flag id : Text) (rows : List Row) (b : Bool) → has_row flag rows ≡ b → bytes_eq flag id ≡ false → found_at id (with_unset flag rows) ≡ found_at id rows
unset_else flag id rows true is ne = ap (λ b. found_at id (if b then rows else at_row flag (Rattle.clap.specs.Walk.more_values DefaultValue (codes "false" ∷ [])) (unset_row flag ∷ []) rows)) is
unset_else flag id rows false is ne =
    ap (λ b. found_at id (if b then rows else at_row flag (Rattle.clap.specs.Walk.more_values DefaultValue (codes "false" ∷ [])) (unset_row flag ∷ []) rows)) is
    ∙ ap (found_at id) (at_missing flag (Rattle.clap.specs.Walk.more_values DefaultValue (codes "false" ∷ [])) (unset_row flag ∷ []) rows is)
    ∙ find-append (λ r. bytes_eq r.id id) rows (unset_row flag ∷ []) ∙ ap (λ b. option_or (found_at id rows) (cond b (Some (unset_row flag)) None)) ne ∙ or_none_is (found_at id rows)

both_else : (id : Text) (rows : List Row) → bytes_eq (codes "trace") id ≡ false → bytes_eq (codes "summary") id ≡ false → found_at id (both_unset rows) ≡ found_at id rows
both_else id rows trace summary =
    unset_else (codes "summary") id (with_unset (codes "trace") rows) (has_row (codes "summary") (with_unset (codes "trace") rows)) refl summary
    ∙ unset_else (codes "trace") id rows (has_row (codes "trace") rows) refl trace

abbrev first_value_of : Option Row → Option Text
first_value_of = option_and_then (λ (r : Row). slice_get r.values 0)

value_step : (name : Text) (q : Text × Text) (ps : List (Text × Text)) (b : Bool) → bytes_eq q.0 name ≡ b → is_flag name ≡ false → first_value_of (found_at name (map pair_row ps)) ≡ value_given name ps
    → first_value_of (found_at name (map pair_row (q ∷ ps))) ≡ value_given name (q ∷ ps)
value_step name q ps true is no_flag e =
    let same = (bytes_eq-Decides q.0 name).0 is in
    ap (λ b. first_value_of (cond b (Some (pair_row q)) (found_at name (map pair_row ps)))) is
    ∙ ap (λ b. Some (if b then codes "true" else q.1)) (ap is_flag same ∙ no_flag)
    ∙ ap (λ b. option_map (λ (p : Text × Text). p.1) (cond b (Some q) (find (λ p. bytes_eq p.0 name) ps))) (sym is)
value_step name q ps false is no_flag e =
    ap (λ b. first_value_of (cond b (Some (pair_row q)) (found_at name (map pair_row ps)))) is ∙ e
    ∙ ap (λ b. option_map (λ (p : Text × Text). p.1) (cond b (Some q) (find (λ p. bytes_eq p.0 name) ps))) (sym is)

value_is : (name : Text) (ps : List (Text × Text)) → is_flag name ≡ false → first_value_of (found_at name (map pair_row ps)) ≡ value_given name ps
value_is name [] no_flag = refl
value_is name (q ∷ ps) no_flag = value_step name q ps (bytes_eq q.0 name) refl no_flag (value_is name ps no_flag)

abbrev text_of : Option Row → Option Text
text_of = option_and_then Rattle.clap.specs.Walk.row_text

-- what a flag says, by its row
abbrev flag_said : Option Row → Option Text
flag_said None = Some (codes "false")
flag_said (Some r) = Rattle.clap.specs.Walk.row_text r

has_found : (id : Text) (rows : List Row) → has_row id rows ≡ is_some (found_at id rows)
has_found id [] = refl
has_found id (r ∷ rs) = go (bytes_eq r.id id) (has_found id rs)
  where
    go : (b : Bool) → has_row id rs ≡ is_some (found_at id rs) → (b || has_row id rs) ≡ is_some (cond b (Some r) (found_at id rs))
    go true e = refl
    go false e = e

row_said : (o : Option Row) → is_some o ≡ true → text_of o ≡ flag_said o
row_said None e = absurd (true≢false (sym e))
row_said (Some r) e = refl

flag_text : (flag : Text) (rows : List Row) (b : Bool) → bytes_eq flag flag ≡ true → has_row flag rows ≡ b → text_of (found_at flag (with_unset flag rows)) ≡ flag_said (found_at flag rows)
flag_text flag rows true same is =
    ap (λ b. text_of (found_at flag (if b then rows else at_row flag (Rattle.clap.specs.Walk.more_values DefaultValue (codes "false" ∷ [])) (unset_row flag ∷ []) rows))) is
    ∙ row_said (found_at flag rows) (sym (has_found flag rows) ∙ is)
flag_text flag rows false same is =
    let none = no_row_found flag rows is in
    ap (λ b. text_of (found_at flag (if b then rows else at_row flag (Rattle.clap.specs.Walk.more_values DefaultValue (codes "false" ∷ [])) (unset_row flag ∷ []) rows))) is
    ∙ ap (λ r. text_of (found_at flag r)) (at_missing flag (Rattle.clap.specs.Walk.more_values DefaultValue (codes "false" ∷ [])) (unset_row flag ∷ []) rows is)
    ∙ ap text_of (find-append (λ r. bytes_eq r.id flag) rows (unset_row flag ∷ []) ∙ ap (λ o. option_or o (cond (bytes_eq flag flag) (Some (unset_row flag)) None)) none)
    ∙ ap (λ b. text_of (cond b (Some (unset_row flag)) None)) same ∙ sym (ap flag_said none)

-- a flag says whether it is given
flag_given : (flag : Text) (ps : List (Text × Text)) → is_flag flag ≡ true → flag_said (found_at flag (map pair_row ps)) ≡ Some (if is_some (value_given flag ps) then codes "true" else codes "false")
flag_given flag [] e = refl
flag_given flag (q ∷ ps) e = go (bytes_eq q.0 flag) refl (flag_given flag ps e)
  where
    go : (b : Bool) → bytes_eq q.0 flag ≡ b → flag_said (found_at flag (map pair_row ps)) ≡ Some (if is_some (value_given flag ps) then codes "true" else codes "false")
        → flag_said (cond b (Some (pair_row q)) (found_at flag (map pair_row ps))) ≡ Some (if is_some (option_map (λ (p : Text × Text). p.1) (cond b (Some q) (find (λ p. bytes_eq p.0 flag) ps))) then codes "true" else codes "false")
    go true is ih = ap (λ b. Some (if b then codes "true" else q.1)) (ap is_flag ((bytes_eq-Decides q.0 flag).0 is) ∙ e)
    go false is ih = ih

-- what is found of a flag, where both have their defaults
abbrev FlagFound : List (Text × Text) → Text → Type 0
FlagFound ps flag = text_of (found_at flag (both_unset (map pair_row ps))) ≡ Some (if is_some (value_given flag ps) then codes "true" else codes "false")

trace_found : (ps : List (Text × Text)) → FlagFound ps (codes "trace")
trace_found ps =
    let rows = map pair_row ps in
    ap text_of (unset_else (codes "summary") (codes "trace") (with_unset (codes "trace") rows) (has_row (codes "summary") (with_unset (codes "trace") rows)) refl refl)
    ∙ flag_text (codes "trace") rows (has_row (codes "trace") rows) refl refl ∙ flag_given (codes "trace") ps refl

summary_found : (ps : List (Text × Text)) → FlagFound ps (codes "summary")
summary_found ps =
    let rows = map pair_row ps in
    flag_text (codes "summary") (with_unset (codes "trace") rows) (has_row (codes "summary") (with_unset (codes "trace") rows)) refl refl
    ∙ ap flag_said (unset_else (codes "trace") (codes "summary") rows (has_row (codes "trace") rows) refl refl) ∙ flag_given (codes "summary") ps refl

pub holds_given : (found : Found) (words : List Text) (ps : List (Text × Text)) → rows_of found ≡ matches_of the_app words → names_said words ≡ Some ps → stands_once ps ≡ true → HoldsGiven found ps
holds_given found words ps rows so once =
    let all = rows ∙ found_rows words ps so once in
    record {
      values = λ name e.
          let r = reads_option name e in
          first_value-rows found name ∙ ap (first_of name) all ∙ ap first_value_of (both_else name (map pair_row ps) r.trace_else r.summary_else) ∙ value_is name ps r.no_flag;
      flags = λ name e. one_text-rows found name ∙ ap (one_of name) all ∙ of_flag (FlagFound ps) name (trace_found ps) (summary_found ps) e;
    }
