-- From what the words say to what they ask for.
use Rattle.std.proofs.Common.{◌≡◌, ◌∙◌, Bool, true, false, List, map, Option, Some, None, refl, sym, ap, option_map, if◌then◌else◌}
use Rattle.std.specs.Option.{option_and_then}
use Rattle.std.proofs.lemmas.Option.{none-some, same_Some}
use Rattle.sj_words.specs.Spelling.{AreSpelled, Text, names_said, stands_once}
use Rattle.sj_words.specs.Steps.{are_distinct, said_names}
use Rattle.sj_words.specs.Options.{asked_for, options}
use Rattle.sj_words.proofs.Spelled.{distinct_names}

pub unsaid : (words : List Text) → said_names words ≡ None → options words ≡ None
unsaid words e = go (names_said words) e
  where
    go : (s : Option (List (Text × Text))) → option_map (map (λ p. p.0)) s ≡ None → option_and_then (λ ps. if stands_once ps then asked_for ps else None) s ≡ None
    go None e = refl
    go (Some ps) e = absurd (none-some (map (λ p. p.0) ps) (sym e))

-- the pairs whose names are said
pub record AreSaid (words : List Text) (names : List Text) : Type 0 where
  pub ps : List (Text × Text)
  pub said_are : names_said words ≡ Some ps
  pub names_are : map (λ p. p.0) ps ≡ names

pub are_said : (words names : List Text) → said_names words ≡ Some names → AreSaid words names
are_said words names e = go (names_said words) refl e
  where
    go : (s : Option (List (Text × Text))) → names_said words ≡ s → option_map (map (λ p. p.0)) s ≡ Some names → AreSaid words names
    go None is e = absurd (none-some names e)
    go (Some ps) is e = record { ps = ps; said_are = is; names_are = same_Some (map (λ p. p.0) ps) names e }

pub once_said : (words names : List Text) (b : Bool) → (s : AreSaid words names) → b ≡ are_distinct names → stands_once s.ps ≡ b
once_said words names b s e = sym (distinct_names s.ps) ∙ ap are_distinct s.names_are ∙ sym e

pub refused : (words names : List Text) → (s : AreSaid words names) → false ≡ are_distinct names → options words ≡ None
refused words names s e =
    ap (option_and_then (λ ps. if stands_once ps then asked_for ps else None)) s.said_are ∙ ap (λ b. if b then asked_for s.ps else None) (once_said words names false s e)

pub accepted : (words names : List Text) → (s : AreSaid words names) → true ≡ are_distinct names → options words ≡ asked_for s.ps
accepted words names s e =
    ap (option_and_then (λ ps. if stands_once ps then asked_for ps else None)) s.said_are ∙ ap (λ b. if b then asked_for s.ps else None) (once_said words names true s e)

pub are_spelled : (words names : List Text) → (s : AreSaid words names) → true ≡ are_distinct names → AreSpelled words
are_spelled words names s e = record { ps = s.ps; said_are = s.said_are; once = once_said words names true s e }
