-- The command lines that are accepted, as they are written.
use Rattle.std.specs.Prelude.{◌≡◌, ◌↔◌, Bool, true, ◌&&◌, List, [], ◌∷◌, ◌++◌, map, Some}
use Rattle.std.specs.List.{list_all}
use Rattle.sj_words.specs.Spelling.{Text, is_flag, is_option, is_value, stands_once}
use Rattle.sj_words.specs.Options.{asked_for, options}
use Rattle.sj_words.specs.declared.options.Options.{Options}

-- one thing that is said: a flag, or an option with its value in the next word or behind `=`
pub data Item : Type 0 where
  flag : Text → Item
  apart : Text → Text → Item
  joined : Text → Text → Item

abbrev pub is_item : Item → Bool
is_item (flag name) = is_flag name
is_item (apart name value) = is_option name && is_value value
is_item (joined name value) = is_option name && is_value value

-- the words that it takes
abbrev pub item_words : Item → List Text
item_words (flag name) = (45 ∷ 45 ∷ name) ∷ []
item_words (apart name value) = (45 ∷ 45 ∷ name) ∷ value ∷ []
item_words (joined name value) = (45 ∷ 45 ∷ (name ++ 61 ∷ value)) ∷ []

-- the words of all, one after another
abbrev pub words_of_all : List Item → List Text
words_of_all [] = []
words_of_all (item ∷ items) = item_words item ++ words_of_all items

-- its name and value
abbrev pub option_pair : Item → Text × Text
option_pair (flag name) = (name, [])
option_pair (apart name value) = (name, value)
option_pair (joined name value) = (name, value)

-- the words are those of such items, one after another, and the pairs are theirs
abbrev pub AreWritten : List Text → List (Text × Text) → Type 0
AreWritten words ps = (items : List Item) × (list_all is_item items ≡ true) × (words ≡ words_of_all items) × (map option_pair items ≡ ps)

-- the words are written so, no name stands twice, and the settings ask for the options
abbrev pub AskFor : List Text → Options → Type 0
AskFor words o = (ps : List (Text × Text)) × AreWritten words ps × (stands_once ps ≡ true) × (asked_for ps ≡ Some o)

-- the words mean what is written
abbrev pub MeansWhatIsWritten : Type 0
MeansWhatIsWritten = (words : List Text) (o : Options) → (options words ≡ Some o) ↔ AskFor words o
