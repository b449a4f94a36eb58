-- Reading the text of a trace: what it begins with, and the events whose lines it has.
use Rattle.std.specs.Prelude.{◌≡◌, ◌≢◌, ◌+◌, ◌<◌, ◌^◌, ℕ, List, [], ◌∷◌, ◌++◌, Option, Some, None, codes, map, length}
use Rattle.std.specs.List.{All, join_with_byte}
use Rattle.std.specs.Borrow.{Bor}
use Rattle.sj_base.specs.declared.ids.Cell.{Cell}
use Rattle.sj_base.specs.declared.ids.Node.{Node}
use Rattle.sj_base.specs.declared.ids.Task.{Task}
use Rattle.sj_base.specs.declared.ids.Worker.{Worker}
use Rattle.sj_base.specs.declared.ids.Place.{Place}
use Rattle.sj_base.specs.declared.ids.Place.TheVariants.{Node as AtNode, Disk as OnDisk}
use Rattle.sj_base.specs.declared.trace.Event.{Event}
use Rattle.sj_base.specs.declared.trace.Event.TheVariants.{Claim, Move, Moved, Drop, Run, End}
use Rattle.sj_trace.specs.declared.read.TraceRefusal.{TraceRefusal}
use Rattle.sj_trace.specs.declared.read.TraceRefusal.TheVariants.{BadLine, OutOfMemory}
use Rattle.sj_trace.specs.Text.{word, place_word, task_words, transfer_words, drop_words, whole_lines, line_of, text_of}

-- a value whose numbers fit and with whose text another begins, and what stands behind that; none where no such value's begins it
abbrev pub IsParsed : {A : Type 0} → (A → Type 0) → (A → List ℕ) → List ℕ → Option (A × Bor (List ℕ)) → Type 0
IsParsed {A} Fits write text None = (a : A) (rest : List ℕ) → Fits a → write a ++ rest ≢ text
IsParsed Fits write text (Some (a, rest)) = Fits a × (write a ++ rest.now ≡ text)

-- a word and the byte that ends it
abbrev pub ended_word : List ℕ → ℕ → ℕ → List ℕ
ended_word letter end n = word letter n ++ end ∷ []

-- a place's word and the byte that ends it
abbrev pub ended_place : ℕ → Place → List ℕ
ended_place end p = place_word p ++ end ∷ []

-- what stands behind the verb of a task's line
abbrev pub task_line : Task × Worker → List ℕ
task_line p = join_with_byte 32 (task_words p) ++ codes "\n"

-- what stands behind the verb of a transfer's line
abbrev pub transfer_line : Cell × Place × Place → List ℕ
transfer_line m = join_with_byte 32 (transfer_words m) ++ codes "\n"

-- what stands behind the verb of a drop's line
abbrev pub drop_line : Cell × Node → List ℕ
drop_line d = join_with_byte 32 (drop_words d) ++ codes "\n"

-- a place's number is in its type
abbrev pub PlaceFits : Place → Type 0
PlaceFits (AtNode n) = n.0 < 2 ^ 8
PlaceFits (OnDisk d) = d.0 < 2 ^ 8

-- the numbers of a task and its worker
abbrev pub TaskFits : Task × Worker → Type 0
TaskFits (t, w) = (t.0 < 2 ^ 32) × (w.0 < 2 ^ 8)

-- the numbers of a cell and two places
abbrev pub TransferFits : Cell × Place × Place → Type 0
TransferFits (c, from, to) = (c.0 < 2 ^ 32) × PlaceFits from × PlaceFits to

-- the numbers of a cell and a node
abbrev pub DropFits : Cell × Node → Type 0
DropFits (c, n) = (c.0 < 2 ^ 32) × (n.0 < 2 ^ 8)

-- all numbers of an event are in their types
abbrev pub EventFits : Event → Type 0
EventFits (Claim t w) = TaskFits (t, w)
EventFits (Move c from to) = TransferFits (c, from, to)
EventFits (Moved c from to) = TransferFits (c, from, to)
EventFits (Drop c n) = DropFits (c, n)
EventFits (Run t w) = TaskFits (t, w)
EventFits (End t w) = TaskFits (t, w)

-- a text is that of these events, whose numbers are in their types
pub record IsTextOf (text : List ℕ) (events : List Event) : Type 0 where
  pub fit : All EventFits events
  pub written : text_of events ≡ text

-- the first line of a text that no event is written as, by its number from 1
pub record IsFirstBadLine (text : List ℕ) (number : ℕ) : Type 0 where
  pub before : List Event
  pub line : List ℕ
  pub behind : List (List ℕ)
  pub fit : All EventFits before
  pub divides : whole_lines text ≡ map line_of before ++ line ∷ behind
  pub counts : number ≡ length before + 1
  pub bad : (e : Event) → EventFits e → line_of e ≢ line

-- a text is refused at its first bad line, or memory ran out
abbrev pub IsTraceRefusal : TraceRefusal → List ℕ → Type 0
IsTraceRefusal OutOfMemory text = Unit {0}
IsTraceRefusal (BadLine line) text = IsFirstBadLine text line.0
