-- The text of a trace: a line for each event, its words separated by one space, LF at the end of each.
use Rattle.std.specs.Prelude.{ℕ, List, [], ◌∷◌, ◌++◌, codes, decimal, flat_map, ◌==◌, if◌then◌else◌}
use Rattle.std.specs.List.{join_with_byte, onto_first}
use Rattle.sj_base.specs.declared.ids.Cell.{Cell}
use Rattle.sj_base.specs.declared.ids.Node.{Node}
use Rattle.sj_base.specs.declared.ids.Task.{Task}
use Rattle.sj_base.specs.declared.ids.Worker.{Worker}
use Rattle.sj_base.specs.declared.ids.Place.{Place}
use Rattle.sj_base.specs.declared.ids.Place.TheVariants.{Node as AtNode, Disk as OnDisk}
use Rattle.sj_base.specs.declared.trace.Event.{Event}
use Rattle.sj_base.specs.declared.trace.Event.TheVariants.{Claim, Move, Moved, Drop, Run, End}

-- a letter and a number in decimal
abbrev pub word : List ℕ → ℕ → List ℕ
word letter n = letter ++ decimal n

-- a memory node or a disk
abbrev pub place_word : Place → List ℕ
place_word (AtNode n) = word (codes "n") n.0
place_word (OnDisk d) = word (codes "d") d.0

-- a task and its worker
abbrev pub task_words : Task × Worker → List (List ℕ)
task_words (t, w) = word (codes "t") t.0 ∷ word (codes "w") w.0 ∷ []

-- a cell and the places of its transfer, from and to
abbrev pub transfer_words : Cell × Place × Place → List (List ℕ)
transfer_words (c, from, to) = word (codes "c") c.0 ∷ place_word from ∷ place_word to ∷ []

-- a cell and the node that drops it
abbrev pub drop_words : Cell × Node → List (List ℕ)
drop_words (c, n) = word (codes "c") c.0 ∷ word (codes "n") n.0 ∷ []

-- what happened, and to which task, cell, worker or place: t, c, w, n or d and its number
abbrev pub words_of : Event → List (List ℕ)
words_of (Claim t w) = codes "claim" ∷ task_words (t, w)
words_of (Move c from to) = codes "move" ∷ transfer_words (c, from, to)
words_of (Moved c from to) = codes "moved" ∷ transfer_words (c, from, to)
words_of (Drop c n) = codes "drop" ∷ drop_words (c, n)
words_of (Run t w) = codes "run" ∷ task_words (t, w)
words_of (End t w) = codes "end" ∷ task_words (t, w)

-- the words with one space between them
abbrev pub joined_words : Event → List ℕ
joined_words e = join_with_byte 32 (words_of e)

-- those, and LF
abbrev pub line_of : Event → List ℕ
line_of e = joined_words e ++ codes "\n"

-- the lines of the events, one behind another
abbrev pub text_of : List Event → List ℕ
text_of = flat_map line_of

-- the lines of a text, each with its LF; what stands behind the last LF is a line if it isn't empty
abbrev pub whole_lines : List ℕ → List (List ℕ)
whole_lines [] = []
whole_lines (b ∷ bs) = if b == 10 then (b ∷ []) ∷ whole_lines bs else onto_first b (whole_lines bs)
