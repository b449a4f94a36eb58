-- What the words say, taken one thing at a time.
use Rattle.std.specs.Prelude.{Bool, true, not, ◌&&◌, List, [], ◌∷◌, Option, Some, None, option_map, map}
use Rattle.std.specs.List.{list_any}
use Rattle.std.specs.Str.{bytes_eq}
use Rattle.sj_words.specs.Spelling.{Text, named, told_alone, with_next, names_said}

-- what the first words say, and the words behind it
abbrev pub with_word_after : Option (Text × Text) → List Text → Option (Text × List Text)
with_word_after None rest = None
with_word_after (Some p) rest = Some (p.0, rest)

abbrev pub said_with_next : Option (Text × Option Text) → List Text → Option (Text × List Text)
said_with_next head [] = None
said_with_next head (next ∷ rest) = with_word_after (with_next head next) rest

abbrev pub said_alone_or : Option (Text × Text) → List Text → Option (Text × List Text) → Option (Text × List Text)
said_alone_or None rest other = other
said_alone_or (Some p) rest other = Some (p.0, rest)

abbrev pub first_said : List Text → Option (Text × List Text)
first_said [] = None
first_said (word ∷ rest) = said_alone_or (told_alone (named word)) rest (said_with_next (named word) rest)

-- the names that are said
abbrev pub said_names : List Text → Option (List Text)
said_names words = option_map (map (λ p. p.0)) (names_said words)

abbrev pub are_distinct : List Text → Bool
are_distinct [] = true
are_distinct (n ∷ ns) = not (list_any (λ m. bytes_eq n m) ns) && are_distinct ns
