-- How the words of a command line are spelled, and what they say.
use Rattle.std.specs.Prelude.{◌≡◌, ℕ, Bool, true, false, not, ◌&&◌, ◌||◌, ◌==◌, List, [], ◌∷◌, Option, Some, None, option_map, option_and_then, codes, find, map, String, if◌then◌else◌}
use Rattle.std.specs.String.{string_bytes}
use Rattle.std.specs.declared.alloc.Global.{Global}
use Rattle.std.specs.List.{before_first, after_first, list_any}
use Rattle.std.specs.Str.{bytes_eq}

abbrev pub Text : Type 0
Text = List ℕ

-- the words of a command line as texts
abbrev pub texts : List (String Global) → List Text
texts = map string_bytes

-- the words that say something alone, and those that say it with a value
abbrev pub is_flag : Text → Bool
is_flag name = bytes_eq name (codes "trace") || bytes_eq name (codes "summary")

abbrev pub is_option : Text → Bool
is_option name = bytes_eq name (codes "workers") || (bytes_eq name (codes "sched") || (bytes_eq name (codes "node")
    || (bytes_eq name (codes "nodes") || (bytes_eq name (codes "swap") || (bytes_eq name (codes "swap-size")
    || (bytes_eq name (codes "app") || (bytes_eq name (codes "n") || (bytes_eq name (codes "tile") || bytes_eq name (codes "seed")))))))))

abbrev pub is_equals : ℕ → Bool
is_equals b = b == 61

-- what stands before the first `=`, and what stands behind it, where there is one
abbrev pub around_equals : Text → Text × Option Text
around_equals text = (before_first is_equals text, if list_any is_equals text then Some (after_first is_equals text) else None)

-- what stands behind a first `-`
abbrev pub after_dash : Text → Option Text
after_dash [] = None
after_dash (b ∷ bs) = if b == 45 then Some bs else None

-- `--name` or `--name=value`: the name, and the value where there is one
abbrev pub named : Text → Option (Text × Option Text)
named word = option_map around_equals (option_and_then after_dash (after_dash word))

-- a value isn't empty and doesn't begin with `-`
abbrev pub is_value : Text → Bool
is_value [] = false
is_value (b ∷ bs) = not (b == 45)

-- the option says the value
abbrev pub with_value : Text → Text → Option (Text × Text)
with_value name value = if is_option name && is_value value then Some (name, value) else None

-- what a word says alone: a flag says nothing further, and an option has its value behind `=`
abbrev pub told_alone : Option (Text × Option Text) → Option (Text × Text)
told_alone None = None
told_alone (Some (name, None)) = if is_flag name then Some (name, []) else None
told_alone (Some (name, Some value)) = with_value name value

-- what a word says with the next one: an option has its value there
abbrev pub with_next : Option (Text × Option Text) → Text → Option (Text × Text)
with_next None next = None
with_next (Some (name, None)) next = with_value name next
with_next (Some (name, Some value)) next = None

-- one thing said, before the others
abbrev pub first_then : {A : Type 0} → Option A → Option (List A) → Option (List A)
first_then None others = None
first_then (Some a) others = option_map (λ xs. a ∷ xs) others

-- what comes where the first thing isn't said
abbrev pub or_else : {A : Type 0} → Option A → Option (List A) → Option (List A) → Option (List A)
or_else None found others = others
or_else (Some a) found others = found

-- what the words say, from the left: the names, each with its value, which is empty at a flag
abbrev pub names_said : List Text → Option (List (Text × Text))
names_said [] = Some []
names_said (word ∷ []) = first_then (told_alone (named word)) (Some [])
names_said (word ∷ (next ∷ rest)) = or_else (told_alone (named word)) (first_then (told_alone (named word)) (names_said (next ∷ rest)))
    (first_then (with_next (named word) next) (names_said rest))

-- no name stands twice
abbrev pub stands_once : List (Text × Text) → Bool
stands_once [] = true
stands_once (p ∷ ps) = not (list_any (λ q. bytes_eq p.0 q.0) ps) && stands_once ps

-- the words say something, and no name twice
pub record AreSpelled (words : List Text) : Type 0 where
  pub ps : List (Text × Text)
  pub said_are : names_said words ≡ Some ps
  pub once : stands_once ps ≡ true

-- the value of a name, where it is said
abbrev pub value_given : Text → List (Text × Text) → Option Text
value_given name ps = option_map (λ p. p.1) (find (λ p. bytes_eq p.0 name) ps)
