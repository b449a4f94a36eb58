-- What words say, one thing at a time.
use Rattle.std.proofs.Common.{◌≡◌, ◌||◌, ◌&&◌, not, Bor, List, [], ◌∷◌, ◌++◌, map, Option, Some, None, refl, sym, ap, ◌∙◌, option_map, append_assoc, ap₂}
use Rattle.std.proofs.lemmas.List.{map-append}
use Rattle.std.proofs.lemmas.Option.{none-some}
use Rattle.std.specs.List.{list_any}
use Rattle.std.specs.Str.{bytes_eq}
use Rattle.sj_words.specs.Spelling.{Text, told_alone, with_next, first_then, named, or_else, names_said, stands_once}
use Rattle.sj_words.specs.Steps.{are_distinct, first_said, said_alone_or, said_names, with_word_after}

-- the name of a first thing, and the names behind it
abbrev pub then_names : Option (Text × List Text) → Option (List Text)
then_names None = None
then_names (Some p) = option_map (λ ns. p.0 ∷ ns) (said_names p.1)

named_first : (p : Text × Text) (s : Option (List (Text × Text))) → option_map (map (λ q. q.0)) (option_map (λ xs. p ∷ xs) s) ≡ option_map (λ ns. p.0 ∷ ns) (option_map (map (λ q. q.0)) s)
named_first p None = refl
named_first p (Some ps) = refl

pub names_step : (word : Text) (rest : List Text) → said_names (word ∷ rest) ≡ then_names (first_said (word ∷ rest))
names_step word [] = go (told_alone (named word))
  where
    go : (a : Option (Text × Text)) → option_map (map (λ q. q.0)) (first_then a (Some [])) ≡ then_names (said_alone_or a [] None)
    go None = refl
    go (Some p) = refl
names_step word (next ∷ rest) = go (told_alone (named word)) (with_next (named word) next)
  where
    go : (a b : Option (Text × Text)) → option_map (map (λ q. q.0)) (or_else a (first_then a (names_said (next ∷ rest))) (first_then b (names_said rest))) ≡ then_names (said_alone_or a (next ∷ rest) (with_word_after b rest))
    go None None = refl
    go None (Some q) = named_first q (names_said rest)
    go (Some p) b = named_first p (names_said (next ∷ rest))

-- one more name, before those that are left
pub names_more : (names : List Text) (name : Text) (s : Option (List Text)) → option_map (λ ns. names ++ ns) (option_map (λ ns. name ∷ ns) s) ≡ option_map (λ ns. (names ++ name ∷ []) ++ ns) s
names_more names name None = refl
names_more names name (Some ns) = ap Some (sym (append_assoc names (name ∷ []) ns))

module _ (name : Bor Text) where
  any_texts : (ms : List (Bor Text)) → list_any (λ m. bytes_eq name.now m.now) ms ≡ list_any (λ m. bytes_eq name.now m) (map (λ m. m.now) ms)
  any_texts [] = refl
  any_texts (m ∷ ms) = ap (λ b. bytes_eq name.now m.now || b) (any_texts ms)

  -- the first name, and the others
  pub distinct_more : (names rest : List (Bor Text)) → names ≡ name ∷ rest
      → not (list_any (λ m. bytes_eq name.now m.now) rest) && are_distinct (map (λ n. n.now) rest) ≡ are_distinct (map (λ n. n.now) names)
  distinct_more names rest e =
      ap (λ b. not b && are_distinct (map (λ n. n.now) rest)) (any_texts rest) ∙ ap (λ ns. are_distinct (map (λ (n : Bor Text). n.now) ns)) (sym e)

pub one_more : (words left : List Text) (names more : List (Bor Text)) (name : Bor Text) (rest : List Text) → said_names words ≡ option_map (λ ns. map (λ (n : Bor Text). n.now) names ++ ns) (said_names left)
    → Some (name.now, rest) ≡ first_said left → more ≡ names ++ name ∷ [] → said_names words ≡ option_map (λ ns. map (λ (n : Bor Text). n.now) more ++ ns) (said_names rest)
one_more words [] names more name rest so first e = absurd (none-some (name.now, rest) (sym first))
one_more words (word ∷ left) names more name rest so first e =
    so ∙ ap (option_map (λ ns. map (λ (n : Bor Text). n.now) names ++ ns)) (names_step word left ∙ ap then_names (sym first)) ∙ names_more (map (λ n. n.now) names) name.now (said_names rest)
    ∙ ap (λ ms. option_map (λ ns. ms ++ ns) (said_names rest)) (sym (map-append (λ n. n.now) names (name ∷ [])) ∙ ap (map (λ n. n.now)) (sym e))

-- the names that are said stand once where the pairs do
pub distinct_names : (ps : List (Text × Text)) → are_distinct (map (λ p. p.0) ps) ≡ stands_once ps
distinct_names [] = refl
distinct_names (p ∷ ps) = ap₂ (λ b c. not b && c) (any_pairs p.0 ps) (distinct_names ps)
  where
    any_pairs : (n : Text) (qs : List (Text × Text)) → list_any (λ m. bytes_eq n m) (map (λ q. q.0) qs) ≡ list_any (λ q. bytes_eq n q.0) qs
    any_pairs n [] = refl
    any_pairs n (q ∷ qs) = ap (λ b. bytes_eq n q.0 || b) (any_pairs n qs)
