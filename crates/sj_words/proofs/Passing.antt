-- `clap` refuses no words that are spelled right.
use Rattle.std.proofs.Common.{◌≡◌, ◌∙◌, ◌&&◌, ◌||◌, ⊎_elim, ℕ, Bool, true, false, not, List, [], ◌∷◌, ◌++◌, Option, Some, None, is_some, refl, sym, ap, subst, codes, option_map, if◌then◌else◌}
use Rattle.std.specs.List.{fold, list_all, list_any}
use Rattle.std.specs.Option.{option_map_or}
use Rattle.std.specs.Str.{bytes_eq}
use Rattle.std.proofs.lemmas.Slice.Eq.{bytes_eq-Decides}
use Rattle.std.proofs.lemmas.Option.{none-some}
use Rattle.std.proofs.lemmas.Bool.{and_parts, not-true}
use Rattle.clap.specs.Lexer.{long_of, short_of}
use Rattle.clap.specs.Words.{Row, Shape, built, takes}
use Rattle.clap.specs.Walk.{Held, Walk, walked, settled_rows, has_row, finished}
use Rattle.clap.specs.Takes.{default_passes, entered_passes, is_valid, long_passes, settle_passes, step_passes, turn_passes, walk_passes}
use Rattle.clap.specs.Simple.{entered}
use Rattle.clap.proofs.OnLiterals.{clap_on_literals}
use Rattle.sj_words.specs.Spelling.{Text, is_flag, is_option, is_value, named, told_alone, with_next, first_then, or_else, names_said, stands_once}
use Rattle.sj_words.specs.Command.{the_app}
use Rattle.sj_words.proofs.Walking.{reads_option, rules, at, waits, met, use_pair, next_step, alone_step, named_whole, of_flag, mapped, picks, or_cases, is_no_dashes, is_no_long, is_no_short, are_new, put_new, new_more, all_new}

abbrev top : Shape
top = (built the_app).top

abbrev held : List Row → Option (Text × List Text) → ℕ → Held
held rows pending skip = record { rows = rows; pending = pending; skip = skip }

abbrev settles : List Row → Option (Text × List Text) → ℕ → Bool
settles rows pending skip = settle_passes rules false (held rows pending skip)

-- a use of an option or of the flag: what is pending passes, and the name has no row yet
abbrev use_passed : Bool → Bool → Bool
use_passed settled used = (settled && ((not used || false) && true)) && true

-- what `clap` asks of a next word
module _ (name word : Text) (rows : List Row) (skip p : ℕ) where
  abbrev next_passes : Bool → Option (Text × Option Text) → Option Text → Bool
  next_passes dashes long short =
      (dashes || (elim long [
        | Some q ↦ long_passes rules false (Rattle.clap.specs.Walk.arg_by_long rules q.0) q.1 (held rows (Some (name, [])) skip)
        | None ↦ option_map_or (λ flags. Rattle.clap.specs.Takes.bundle_passes rules false flags (held rows (Some (name, [])) skip)) short true
      ])) && step_passes top p (met name word rows skip p dashes long short).0 (met name word rows skip p dashes long short).1

-- what `clap` asks of an option of ours
record Passes (name : Text) : Type 0 where
  joined : (value : Text) (rows : List Row) (pending : Option (Text × List Text)) (skip p : ℕ)
      → turn_passes top [] (at rows pending skip p) (45 ∷ 45 ∷ (name ++ 61 ∷ value)) ≡ use_passed (settles rows pending skip) (has_row name (settled_rows rules pending rows))
  apart : (rows : List Row) (pending : Option (Text × List Text)) (skip p : ℕ) → turn_passes top [] (at rows pending skip p) (45 ∷ 45 ∷ name) ≡ settles rows pending skip && true
  value : (word : Text) (rows : List Row) (skip p : ℕ) → next_passes name word rows skip p false None None ≡ true
  settled : (value : Text) (rows : List Row) (skip : ℕ) → settles rows (Some (name, value ∷ [])) skip ≡ ((not (has_row name rows) || false) && true)

passes_workers : Passes (codes "workers")
unfolding clap_on_literals
passes_workers = record { joined = λ v r q s p. refl; apart = λ r q s p. refl; value = λ w r s p. refl; settled = λ v r s. refl }

passes_sched : Passes (codes "sched")
unfolding clap_on_literals
passes_sched = record { joined = λ v r q s p. refl; apart = λ r q s p. refl; value = λ w r s p. refl; settled = λ v r s. refl }

passes_node : Passes (codes "node")
unfolding clap_on_literals
passes_node = record { joined = λ v r q s p. refl; apart = λ r q s p. refl; value = λ w r s p. refl; settled = λ v r s. refl }

passes_nodes : Passes (codes "nodes")
unfolding clap_on_literals
passes_nodes = record { joined = λ v r q s p. refl; apart = λ r q s p. refl; value = λ w r s p. refl; settled = λ v r s. refl }

passes_swap : Passes (codes "swap")
unfolding clap_on_literals
passes_swap = record { joined = λ v r q s p. refl; apart = λ r q s p. refl; value = λ w r s p. refl; settled = λ v r s. refl }

passes_swap_size : Passes (codes "swap-size")
unfolding clap_on_literals
passes_swap_size = record { joined = λ v r q s p. refl; apart = λ r q s p. refl; value = λ w r s p. refl; settled = λ v r s. refl }

passes_app : Passes (codes "app")
unfolding clap_on_literals
passes_app = record { joined = λ v r q s p. refl; apart = λ r q s p. refl; value = λ w r s p. refl; settled = λ v r s. refl }

passes_n : Passes (codes "n")
unfolding clap_on_literals
passes_n = record { joined = λ v r q s p. refl; apart = λ r q s p. refl; value = λ w r s p. refl; settled = λ v r s. refl }

passes_tile : Passes (codes "tile")
unfolding clap_on_literals
passes_tile = record { joined = λ v r q s p. refl; apart = λ r q s p. refl; value = λ w r s p. refl; settled = λ v r s. refl }

passes_seed : Passes (codes "seed")
unfolding clap_on_literals
passes_seed = record { joined = λ v r q s p. refl; apart = λ r q s p. refl; value = λ w r s p. refl; settled = λ v r s. refl }

passes_at : (name other : Text) → Passes other → bytes_eq name other ≡ true → Passes name
passes_at name other r e = subst Passes (sym ((bytes_eq-Decides name other).0 e)) r

passes_option : (name : Text) → is_option name ≡ true → Passes name
passes_option name e =
    ⊎_elim (passes_at name (codes "workers") passes_workers)
    (λ e. ⊎_elim (passes_at name (codes "sched") passes_sched)
    (λ e. ⊎_elim (passes_at name (codes "node") passes_node)
    (λ e. ⊎_elim (passes_at name (codes "nodes") passes_nodes)
    (λ e. ⊎_elim (passes_at name (codes "swap") passes_swap)
    (λ e. ⊎_elim (passes_at name (codes "swap-size") passes_swap_size)
    (λ e. ⊎_elim (passes_at name (codes "app") passes_app)
    (λ e. ⊎_elim (passes_at name (codes "n") passes_n)
    (λ e. ⊎_elim (passes_at name (codes "tile") passes_tile) (passes_at name (codes "seed") passes_seed) (or_cases _ _ e))
    (or_cases _ _ e))
    (or_cases _ _ e))
    (or_cases _ _ e))
    (or_cases _ _ e))
    (or_cases _ _ e))
    (or_cases _ _ e))
    (or_cases _ _ e))
    (or_cases _ _ e)

-- what `clap` asks of a flag of ours
abbrev PassesFlag : Text → Type 0
PassesFlag name = (rows : List Row) (pending : Option (Text × List Text)) (skip p : ℕ)
    → turn_passes top [] (at rows pending skip p) (45 ∷ 45 ∷ name) ≡ use_passed (settles rows pending skip) (has_row name (settled_rows rules pending rows))

passes_trace : PassesFlag (codes "trace")
unfolding clap_on_literals
passes_trace rows pending skip p = refl

passes_summary : PassesFlag (codes "summary")
unfolding clap_on_literals
passes_summary rows pending skip p = refl

next_is : (name word : Text) (rows : List Row) (skip p : ℕ) → turn_passes top [] (waits name rows skip p) word ≡ next_passes name word rows skip p (bytes_eq word (45 ∷ 45 ∷ [])) (long_of word) (short_of word)
unfolding clap_on_literals
next_is name word rows skip p = go (long_of word)
  where
    go : (long : Option (Text × Option Text))
        → (bytes_eq word (45 ∷ 45 ∷ []) || Rattle.clap.specs.Takes.flag_word_passes rules false long word (held rows (Some (name, [])) skip))
        && step_passes top p (if bytes_eq word (45 ∷ 45 ∷ []) then (held rows (Some (name, [])) skip, Rattle.clap.specs.Walk.trailing p) else Rattle.clap.specs.Walk.long_or_other rules (Rattle.clap.specs.Walk.option name) word long (held rows (Some (name, [])) skip)).0
        (if bytes_eq word (45 ∷ 45 ∷ []) then (held rows (Some (name, [])) skip, Rattle.clap.specs.Walk.trailing p) else Rattle.clap.specs.Walk.long_or_other rules (Rattle.clap.specs.Walk.option name) word long (held rows (Some (name, [])) skip)).1
        ≡ next_passes name word rows skip p (bytes_eq word (45 ∷ 45 ∷ [])) long (short_of word)
    go None = refl
    go (Some q) = refl

value_passes : (name word : Text) (rows : List Row) (skip p : ℕ) → Passes name → is_value word ≡ true → turn_passes top [] (waits name rows skip p) word ≡ true
value_passes name word rows skip p r e =
    next_is name word rows skip p ∙ (λ i. next_passes name word rows skip p (is_no_dashes word e i) (is_no_long word e i) (is_no_short word e i)) ∙ r.value word rows skip p

-- one thing said alone passes
alone_passes : (word : Text) (head : Option (Text × Option Text)) (q : Text × Text) (rows : List Row) (pending : Option (Text × List Text)) (skip p : ℕ)
    → named word ≡ head → told_alone head ≡ Some q → settles rows pending skip ≡ true → has_row q.0 (settled_rows rules pending rows) ≡ false → turn_passes top [] (at rows pending skip p) word ≡ true
alone_passes word None q rows pending skip p is e settled new = absurd (none-some q e)
alone_passes word (Some (name, None)) q rows pending skip p is e settled new =
    let h = picks (is_flag name) (name, []) q e in
    ap (turn_passes top [] (at rows pending skip p)) (named_whole word (name, None) is) ∙ of_flag PassesFlag name passes_trace passes_summary h.0 rows pending skip p
    ∙ ap (λ b. use_passed b (has_row name (settled_rows rules pending rows))) settled
    ∙ ap (use_passed true) (ap (λ (x : Text × Text). has_row x.0 (settled_rows rules pending rows)) h.1 ∙ new)
alone_passes word (Some (name, Some value)) q rows pending skip p is e settled new =
    let h = picks (is_option name && is_value value) (name, value) q e in
    let r = passes_option name (and_parts (is_option name) (is_value value) h.0).0 in
    ap (turn_passes top [] (at rows pending skip p)) (named_whole word (name, Some value) is) ∙ r.joined value rows pending skip p
    ∙ ap (λ b. use_passed b (has_row name (settled_rows rules pending rows))) settled
    ∙ ap (use_passed true) (ap (λ (x : Text × Text). has_row x.0 (settled_rows rules pending rows)) h.1 ∙ new)

-- an option and its value in the next word pass
record NextPasses (word next : Text) (q : Text × Text) : Type 0 where
  first : (rows : List Row) (pending : Option (Text × List Text)) (skip p : ℕ) → settles rows pending skip ≡ true → turn_passes top [] (at rows pending skip p) word ≡ true
  second : (rows : List Row) (pending : Option (Text × List Text)) (skip p : ℕ) → turn_passes top [] (walked rules [] (at rows pending skip p) word) next ≡ true
  settled : (rows : List Row) (skip : ℕ) → has_row q.0 rows ≡ false → settles rows (Some (q.0, q.1 ∷ [])) skip ≡ true

next_passes_too : (word next : Text) (head : Option (Text × Option Text)) (q : Text × Text) → named word ≡ head → with_next head next ≡ Some q → NextPasses word next q
next_passes_too word next None q is e = absurd (none-some q e)
next_passes_too word next (Some (name, Some value)) q is e = absurd (none-some q e)
next_passes_too word next (Some (name, None)) q is e =
    let h = picks (is_option name && is_value next) (name, next) q e in
    let both = and_parts (is_option name) (is_value next) h.0 in
    let r = passes_option name both.0 in
    let w = reads_option name both.0 in
    subst (NextPasses word next) h.1 (record {
      first = λ rows pending skip p settled. ap (turn_passes top [] (at rows pending skip p)) (named_whole word (name, None) is) ∙ r.apart rows pending skip p ∙ ap (λ b. b && true) settled;
      second = λ rows pending skip p.
          ap (λ x. turn_passes top [] (walked rules [] (at rows pending skip p) x) next) (named_whole word (name, None) is)
          ∙ ap (λ x. turn_passes top [] x next) (w.apart rows pending skip p) ∙ value_passes name next (settled_rows rules pending rows) skip p r both.1;
      settled = λ rows skip new. r.settled next rows skip ∙ ap (λ b. (not b || false) && true) new;
    })

-- ---- all that is said passes

record EndsWell (words : List Text) (w : Walk) : Type 0 where
  passes : walk_passes top [] w words ≡ true
  settled : settle_passes rules false (fold (walked rules []) w words).held ≡ true
  whole : (fold (walked rules []) w words).stopped ≡ None

abbrev Well : List Text → List (Text × Text) → Type 0
Well words ps = (rows : List Row) (pending : Option (Text × List Text)) (skip p : ℕ) → settles rows pending skip ≡ true → are_new (settled_rows rules pending rows) ps ≡ true → stands_once ps ≡ true
    → EndsWell words (at rows pending skip p)

well_more : (words : List Text) (word : Text) (w : Walk) → turn_passes top [] w word ≡ true → EndsWell words (walked rules [] w word) → EndsWell (word ∷ words) w
unfolding clap_on_literals
well_more words word w turn e = record { passes = ap (λ b. b && walk_passes top [] (walked rules [] w word) words) turn ∙ e.passes; settled = e.settled; whole = e.whole }

-- what holds of the rows once a first thing is used
record Used (q : Text × Text) (ps : List (Text × Text)) (rows : List Row) : Type 0 where
  new : has_row q.0 rows ≡ false
  others : are_new (use_pair rows q) ps ≡ true
  once : stands_once ps ≡ true

used_first : (q : Text × Text) (ps : List (Text × Text)) (rows : List Row) → are_new rows (q ∷ ps) ≡ true → stands_once (q ∷ ps) ≡ true → Used q ps rows
used_first q ps rows new once =
    let both = and_parts (not (has_row q.0 rows)) (are_new rows ps) new in
    let apart = and_parts (not (list_any (λ p. bytes_eq q.0 p.0) ps)) (stands_once ps) once in
    let mine = not-true (has_row q.0 rows) both.0 in
    record { new = mine; others = ap (λ r. are_new r ps) (put_new q rows mine) ∙ new_more q rows ps both.1 (not-true (list_any (λ p. bytes_eq q.0 p.0) ps) apart.0); once = apart.1 }

well_alone : (word : Text) (words : List Text) (ps : List (Text × Text)) → ((rest : List (Text × Text)) → names_said words ≡ Some rest → Well words rest) → (q : Text × Text) → told_alone (named word) ≡ Some q
    → option_map (λ xs. q ∷ xs) (names_said words) ≡ Some ps → Well (word ∷ words) ps
well_alone word words ps ih q e so =
    let m = mapped q (names_said words) ps so in
    subst (Well (word ∷ words)) m.2 (λ rows pending skip p settled new once.
    let u = used_first q m.0 (settled_rows rules pending rows) new once in
    well_more words word (at rows pending skip p) (alone_passes word (named word) q rows pending skip p refl e settled u.new)
    (subst (EndsWell words) (sym (alone_step word (named word) q rows pending skip p refl e)) (ih m.0 m.1 (use_pair (settled_rows rules pending rows) q) None skip p refl u.others u.once)))

well_next : (word next : Text) (words : List Text) (ps : List (Text × Text)) → ((rest : List (Text × Text)) → names_said words ≡ Some rest → Well words rest) → (q : Text × Text) → with_next (named word) next ≡ Some q
    → option_map (λ xs. q ∷ xs) (names_said words) ≡ Some ps → Well (word ∷ next ∷ words) ps
well_next word next words ps ih q e so =
    let m = mapped q (names_said words) ps so in
    let b = next_step word next (named word) q refl e in
    let n = next_passes_too word next (named word) q refl e in
    subst (Well (word ∷ next ∷ words)) m.2 (λ rows pending skip p settled new once.
    let r = settled_rows rules pending rows in
    let u = used_first q m.0 r new once in
    well_more (next ∷ words) word (at rows pending skip p) (n.first rows pending skip p settled)
    (well_more words next (walked rules [] (at rows pending skip p) word) (n.second rows pending skip p)
    (subst (EndsWell words) (sym (b.walks rows pending skip p))
    (ih m.0 m.1 r (Some (q.0, q.1 ∷ [])) skip p (n.settled r skip u.new) (ap (λ x. are_new x m.0) (b.settles r) ∙ u.others) u.once))))

well_one : (word : Text) (a : Option (Text × Text)) (ps : List (Text × Text)) → told_alone (named word) ≡ a → ((rest : List (Text × Text)) → names_said [] ≡ Some rest → Well [] rest) → first_then a (Some []) ≡ Some ps → Well (word ∷ []) ps
well_one word None ps is ih so = absurd (none-some ps so)
well_one word (Some q) ps is ih so = well_alone word [] ps ih q is so

well_two : (word next : Text) (words : List Text) (a b : Option (Text × Text)) (ps : List (Text × Text)) → told_alone (named word) ≡ a → with_next (named word) next ≡ b
    → ((rest : List (Text × Text)) → names_said (next ∷ words) ≡ Some rest → Well (next ∷ words) rest) → ((rest : List (Text × Text)) → names_said words ≡ Some rest → Well words rest)
    → or_else a (first_then a (names_said (next ∷ words))) (first_then b (names_said words)) ≡ Some ps → Well (word ∷ next ∷ words) ps
well_two word next words (Some q) b ps is by more ih so = well_alone word (next ∷ words) ps more q is so
well_two word next words None None ps is by more ih so = absurd (none-some ps so)
well_two word next words None (Some q) ps is by more ih so = well_next word next words ps ih q by so

nothing_more : (rows : List Row) (pending : Option (Text × List Text)) (skip p : ℕ) → settles rows pending skip ≡ true → EndsWell [] (at rows pending skip p)
unfolding clap_on_literals
nothing_more rows pending skip p settled = record { passes = refl; settled = settled; whole = refl }

well : (words : List Text) (ps : List (Text × Text)) → names_said words ≡ Some ps → Well words ps
well [] ps so = λ rows pending skip p settled new once. nothing_more rows pending skip p settled
well (word ∷ []) ps so = well_one word (told_alone (named word)) ps refl (well []) so
well (word ∷ (next ∷ words)) ps so = well_two word next words (told_alone (named word)) (with_next (named word) next) ps refl refl (well (next ∷ words)) (well words) so

-- ---- the parse succeeds

abbrev end_of : List Text → Walk
end_of words = fold (walked rules []) (at [] None 0 1) words

abbrev parse_passes : List Text → Option (Text × List Text) → Bool → Bool → Bool
parse_passes words stop walks settled =
    entered_passes (built the_app) stop && (walks && (settled && (list_all default_passes rules && is_valid top (finished rules (end_of words).held) (is_some (entered (built the_app) stop)))))

takes_is : (words : List Text) → takes the_app words ≡ parse_passes words (end_of words).stopped (walk_passes top [] (at [] None 0 1) words) (settle_passes rules false (end_of words).held)
unfolding clap_on_literals
takes_is words = refl

all_passes : (words : List Text) → parse_passes words None true true ≡ true
unfolding clap_on_literals
all_passes words = refl

pub takes_said : (words : List Text) (ps : List (Text × Text)) → names_said words ≡ Some ps → stands_once ps ≡ true → takes the_app words ≡ true
takes_said words ps so once =
    let e = well words ps so [] None 0 1 refl (all_new ps) once in
    takes_is words ∙ (λ i. parse_passes words (e.whole i) (e.passes i) (e.settled i)) ∙ all_passes words
