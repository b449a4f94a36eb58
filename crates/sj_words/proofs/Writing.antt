-- Words that are spelled right are those that are written so.
use Rattle.std.proofs.Common.{◌≡◌, ◌∙◌, ◌↔◌, ◌&&◌, ⊎_elim, Bool, true, false, List, [], ◌∷◌, ◌++◌, map, Option, Some, None, refl, sym, ap, subst, codes, option_map, if◌then◌else◌}
use Rattle.std.specs.List.{list_all}
use Rattle.std.specs.Option.{option_and_then}
use Rattle.std.specs.Str.{bytes_eq}
use Rattle.std.proofs.lemmas.Slice.Eq.{bytes_eq-Decides}
use Rattle.std.proofs.lemmas.Option.{none-some, same_Some}
use Rattle.std.proofs.lemmas.Bool.{and_parts}
use Rattle.sj_words.specs.Spelling.{Text, told_alone, first_then, is_flag, is_option, is_value, named, or_else, names_said, stands_once, with_next}
use Rattle.sj_words.specs.Options.{asked_for, options}
use Rattle.sj_words.specs.Written.{Item, flag, apart, joined, is_item, item_words, words_of_all, option_pair, AreWritten, AskFor}
use Rattle.sj_words.specs.declared.options.Options.{Options}
use Rattle.sj_words.proofs.Walking.{or_cases, of_flag, picks, mapped, named_whole}

-- ---- from what is said to what is written

written_more : (item : Item) (words rest : List Text) (q : Text × Text) (ps : List (Text × Text)) → is_item item ≡ true → words ≡ item_words item ++ rest → option_pair item ≡ q → AreWritten rest ps → AreWritten words (q ∷ ps)
written_more item words rest q ps good are pair w = (
  item ∷ w.0,
  ap (λ b. b && list_all is_item w.0) good ∙ w.1,
  are ∙ ap (λ ws. item_words item ++ ws) w.2,
  (λ i. pair i ∷ w.3 i),
)

alone_written : (word : Text) (rest : List Text) (head : Option (Text × Option Text)) (q : Text × Text) (ps : List (Text × Text)) → named word ≡ head → told_alone head ≡ Some q → AreWritten rest ps → AreWritten (word ∷ rest) (q ∷ ps)
alone_written word rest None q ps is e w = absurd (none-some q e)
alone_written word rest (Some (name, None)) q ps is e w =
    let h = picks (is_flag name) (name, []) q e in
    written_more (flag name) (word ∷ rest) rest q ps h.0 (ap (λ x. x ∷ rest) (named_whole word (name, None) is)) h.1 w
alone_written word rest (Some (name, Some value)) q ps is e w =
    let h = picks (is_option name && is_value value) (name, value) q e in
    written_more (joined name value) (word ∷ rest) rest q ps h.0 (ap (λ x. x ∷ rest) (named_whole word (name, Some value) is)) h.1 w

next_written : (word next : Text) (rest : List Text) (head : Option (Text × Option Text)) (q : Text × Text) (ps : List (Text × Text)) → named word ≡ head → with_next head next ≡ Some q → AreWritten rest ps → AreWritten (word ∷ next ∷ rest) (q ∷ ps)
next_written word next rest None q ps is e w = absurd (none-some q e)
next_written word next rest (Some (name, Some value)) q ps is e w = absurd (none-some q e)
next_written word next rest (Some (name, None)) q ps is e w =
    let h = picks (is_option name && is_value next) (name, next) q e in
    written_more (apart name next) (word ∷ next ∷ rest) rest q ps h.0 (ap (λ x. x ∷ next ∷ rest) (named_whole word (name, None) is)) h.1 w

abbrev Writes : List Text → Type 0
Writes words = (ps : List (Text × Text)) → names_said words ≡ Some ps → AreWritten words ps

first_written : (word : Text) (rest : List Text) → Writes rest → (q : Text × Text) (ps : List (Text × Text)) → told_alone (named word) ≡ Some q → option_map (λ xs. q ∷ xs) (names_said rest) ≡ Some ps → AreWritten (word ∷ rest) ps
first_written word rest ih q ps e so =
    let m = mapped q (names_said rest) ps so in
    subst (AreWritten (word ∷ rest)) m.2 (alone_written word rest (named word) q m.0 refl e (ih m.0 m.1))

one_written : (word : Text) (a : Option (Text × Text)) → Writes [] → told_alone (named word) ≡ a → (ps : List (Text × Text)) → first_then a (Some []) ≡ Some ps → AreWritten (word ∷ []) ps
one_written word None ih is ps so = absurd (none-some ps so)
one_written word (Some q) ih is ps so = first_written word [] ih q ps is so

two_written : (word next : Text) (rest : List Text) (a b : Option (Text × Text)) → Writes (next ∷ rest) → Writes rest → told_alone (named word) ≡ a → with_next (named word) next ≡ b
    → (ps : List (Text × Text)) → or_else a (first_then a (names_said (next ∷ rest))) (first_then b (names_said rest)) ≡ Some ps → AreWritten (word ∷ next ∷ rest) ps
two_written word next rest (Some q) b more ih is by ps so = first_written word (next ∷ rest) more q ps is so
two_written word next rest None None more ih is by ps so = absurd (none-some ps so)
two_written word next rest None (Some q) more ih is by ps so =
    let m = mapped q (names_said rest) ps so in
    subst (AreWritten (word ∷ next ∷ rest)) m.2 (next_written word next rest (named word) q m.0 refl by (ih m.0 m.1))

written : (words : List Text) → Writes words
written [] ps so = ([], refl, refl, same_Some [] ps so)
written (word ∷ []) ps so = one_written word (told_alone (named word)) (written []) refl ps so
written (word ∷ (next ∷ rest)) ps so = two_written word next rest (told_alone (named word)) (with_next (named word) next) (written (next ∷ rest)) (written rest) refl refl ps so

-- ---- from what is written to what is said

record Names (name : Text) : Type 0 where
  joins : (value : Text) → named (45 ∷ 45 ∷ (name ++ 61 ∷ value)) ≡ Some (name, Some value)
  stands : named (45 ∷ 45 ∷ name) ≡ Some (name, None)
  no_flag : is_flag name ≡ false

names_at : (name other : Text) → Names other → bytes_eq name other ≡ true → Names name
names_at name other n e = subst Names (sym ((bytes_eq-Decides name other).0 e)) n

names_option : (name : Text) → is_option name ≡ true → Names name
names_option name e =
    ⊎_elim (names_at name (codes "workers") (record { joins = λ v. refl; stands = refl; no_flag = refl }))
    (λ e. ⊎_elim (names_at name (codes "sched") (record { joins = λ v. refl; stands = refl; no_flag = refl }))
    (λ e. ⊎_elim (names_at name (codes "node") (record { joins = λ v. refl; stands = refl; no_flag = refl }))
    (λ e. ⊎_elim (names_at name (codes "nodes") (record { joins = λ v. refl; stands = refl; no_flag = refl }))
    (λ e. ⊎_elim (names_at name (codes "swap") (record { joins = λ v. refl; stands = refl; no_flag = refl }))
    (λ e. ⊎_elim (names_at name (codes "swap-size") (record { joins = λ v. refl; stands = refl; no_flag = refl }))
    (λ e. ⊎_elim (names_at name (codes "app") (record { joins = λ v. refl; stands = refl; no_flag = refl }))
    (λ e. ⊎_elim (names_at name (codes "n") (record { joins = λ v. refl; stands = refl; no_flag = refl }))
    (λ e. ⊎_elim (names_at name (codes "tile") (record { joins = λ v. refl; stands = refl; no_flag = refl })) (names_at name (codes "seed") (record { joins = λ v. refl; stands = refl; no_flag = refl })) (or_cases _ _ e))
    (or_cases _ _ e))
    (or_cases _ _ e))
    (or_cases _ _ e))
    (or_cases _ _ e))
    (or_cases _ _ e))
    (or_cases _ _ e))
    (or_cases _ _ e))
    (or_cases _ _ e)

-- a word that says something alone, before others
said_alone : (word : Text) (rest : List Text) (q : Text × Text) → told_alone (named word) ≡ Some q → names_said (word ∷ rest) ≡ option_map (λ xs. q ∷ xs) (names_said rest)
said_alone word [] q e = ap (λ a. first_then a (Some [])) e
said_alone word (next ∷ rest) q e = ap (λ a. or_else a (first_then a (names_said (next ∷ rest))) (first_then (with_next (named word) next) (names_said rest))) e

said_next : (word next : Text) (rest : List Text) (q : Text × Text) → told_alone (named word) ≡ None → with_next (named word) next ≡ Some q → names_said (word ∷ next ∷ rest) ≡ option_map (λ xs. q ∷ xs) (names_said rest)
said_next word next rest q none e = λ i. or_else (none i) (first_then (none i) (names_said (next ∷ rest))) (first_then (e i) (names_said rest))

item_said : (item : Item) (rest : List Text) → is_item item ≡ true → names_said (item_words item ++ rest) ≡ option_map (λ xs. option_pair item ∷ xs) (names_said rest)
item_said (flag name) rest good =
    said_alone (45 ∷ 45 ∷ name) rest (name, []) (of_flag (λ n. told_alone (named (45 ∷ 45 ∷ n)) ≡ Some (n, [])) name refl refl good)
item_said (apart name value) rest good =
    let n = names_option name (and_parts (is_option name) (is_value value) good).0 in
    said_next (45 ∷ 45 ∷ name) value rest (name, value)
    (ap told_alone n.stands ∙ ap (λ b. if b then Some (name, []) else None) n.no_flag)
    (ap (λ h. with_next h value) n.stands ∙ ap (λ b. if b then Some (name, value) else None) good)
item_said (joined name value) rest good =
    let n = names_option name (and_parts (is_option name) (is_value value) good).0 in
    said_alone (45 ∷ 45 ∷ (name ++ 61 ∷ value)) rest (name, value) (ap told_alone (n.joins value) ∙ ap (λ b. if b then Some (name, value) else None) good)

items_said : (items : List Item) → list_all is_item items ≡ true → names_said (words_of_all items) ≡ Some (map option_pair items)
items_said [] good = refl
items_said (item ∷ items) good =
    let both = and_parts (is_item item) (list_all is_item items) good in
    item_said item (words_of_all items) both.0 ∙ ap (option_map (λ xs. option_pair item ∷ xs)) (items_said items both.1)

-- ---- the law

taken : (words : List Text) (o : Options) → options words ≡ Some o → AskFor words o
taken words o e = go (names_said words) refl e
  where
    go : (s : Option (List (Text × Text))) → names_said words ≡ s → option_and_then (λ ps. if stands_once ps then asked_for ps else None) s ≡ Some o → AskFor words o
    go None is e = absurd (none-some o e)
    go (Some ps) is e = pick (stands_once ps) refl e
      where
        pick : (b : Bool) → stands_once ps ≡ b → (if b then asked_for ps else None) ≡ Some o → AskFor words o
        pick true once e = (ps, written words ps is, once, e)
        pick false once e = absurd (none-some o e)

given_so : (words : List Text) (o : Options) → AskFor words o → options words ≡ Some o
given_so words o a =
    let so = ap names_said a.1.2 ∙ items_said a.1.0 a.1.1 ∙ ap Some a.1.3 in
    ap (option_and_then (λ ps. if stands_once ps then asked_for ps else None)) so ∙ ap (λ b. if b then asked_for a.0 else None) a.2 ∙ a.3

pub means_what_is_written : (words : List Text) (o : Options) → (options words ≡ Some o) ↔ AskFor words o
means_what_is_written words o = (taken words o, given_so words o)
