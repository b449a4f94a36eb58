-- The grammar of a line in its own words: how each form is written, and what it says.
use Rattle.std.specs.Prelude.{◌≡◌, ℕ, Bool, true, false, ◌&&◌, ◌||◌, not, ◌==◌, map, Option, Some, None, Result, Ok, Err, List, [], ◌∷◌, ◌++◌, codes, IsTrue}
use Rattle.std.specs.List.{list_all, join_with_byte}
use Rattle.sj_job.specs.declared.form.Size.{Size}
use Rattle.sj_job.specs.declared.form.Size.TheVariants.{Vector, Matrix}
use Rattle.sj_job.specs.declared.form.InitForm.{InitForm}
use Rattle.sj_job.specs.declared.form.InitForm.TheVariants.{Values, Fill, Nothing}
use Rattle.sj_job.specs.declared.form.OperandForm.{OperandForm}
use Rattle.sj_job.specs.declared.form.TaskForm.{TaskForm}
use Rattle.sj_job.specs.declared.form.Form.{Form}
use Rattle.sj_job.specs.declared.form.Form.TheVariants.{Register, Plan, Redux, Task, Print, Invalidate, Unregister}
use Rattle.sj_job.specs.declared.reason.Reason.{Reason}
use Rattle.sj_job.specs.declared.reason.Reason.TheVariants as reason
use Rattle.sj_job.specs.Word.{is_name}
use Rattle.sj_job.specs.Form.{reduction_word, mode_word, is_bracket}
use Rattle.sj_job.specs.Sentence.{is_numbered}

-- ---- how a form is written

-- NAME alone, or NAME and pieces between brackets, divided by commas
abbrev pub bracketed_word : ℕ → ℕ → List ℕ → List (List ℕ) → List ℕ
bracketed_word opening closing name [] = name
bracketed_word opening closing name (p ∷ ps) =
    name ++ (opening ∷ (join_with_byte 44 (p ∷ ps) ++ (closing ∷ [])))

abbrev pub child_pieces : Option (List ℕ × List ℕ) → List (List ℕ)
child_pieces None = []
child_pieces (Some p) = p.0 ∷ p.1 ∷ []

-- `NAME:MODE` or `NAME[i,j]:MODE`
abbrev pub operand_word : OperandForm → List ℕ
operand_word o = bracketed_word 91 93 o.name (child_pieces o.child) ++ (58 ∷ mode_word o.mode)

-- `CODELET` or `CODELET(I1,I2,..)`
abbrev pub codelet_word : TaskForm → List ℕ
codelet_word t = bracketed_word 40 41 t.codelet t.args

-- nothing, or `prio=P`
abbrev pub priority_words : Option (List ℕ) → List (List ℕ)
priority_words None = []
priority_words (Some p) = (codes "prio=" ++ p) ∷ []

-- nothing, or `by r c`
abbrev pub parts_words : Option (List ℕ × List ℕ) → List (List ℕ)
parts_words None = []
parts_words (Some p) = codes "by" ∷ p.0 ∷ p.1 ∷ []

-- `values V1 V2 ..`, `fill A B` or `none`
abbrev pub init_words : InitForm → List (List ℕ)
init_words (Values vs) = codes "values" ∷ vs
init_words (Fill a b) = codes "fill" ∷ a ∷ b ∷ []
init_words Nothing = codes "none" ∷ []

-- `vector NAME N ..` or `matrix NAME R C ..`
abbrev pub sized : List ℕ → Size → List (List ℕ) → List (List ℕ)
sized name (Vector n) ws = codes "vector" ∷ name ∷ n ∷ ws
sized name (Matrix r c) ws = codes "matrix" ∷ name ∷ r ∷ c ∷ ws

-- the words of a form
abbrev pub form_words : Form → List (List ℕ)
form_words (Register a) = sized a.name a.size (parts_words a.parts ++ init_words a.init)
form_words (Plan name r c) = codes "plan" ∷ name ∷ r ∷ c ∷ []
form_words (Redux name by) = codes "redux" ∷ name ∷ reduction_word by ∷ []
form_words (Task t) = codes "task" ∷ codelet_word t ∷ (map operand_word t.operands ++ priority_words t.priority)
form_words (Print name) = codes "print" ∷ name ∷ []
form_words (Invalidate name) = codes "invalidate" ∷ name ∷ []
form_words (Unregister name) = codes "unregister" ∷ name ∷ []

-- ---- which words stand where

-- no comma and no bracket
abbrev pub is_piece : List ℕ → Bool
is_piece p = list_all (λ b. not (is_bracket b || b == 44)) p

-- `values` has one value at least
abbrev pub has_values : InitForm → Bool
has_values (Values []) = false
has_values (Values (v ∷ vs)) = true
has_values (Fill a b) = true
has_values Nothing = true

abbrev pub is_proper_operand : OperandForm → Bool
is_proper_operand o = is_name o.name && list_all is_piece (child_pieces o.child)

-- names are names, and pieces between brackets are pieces
abbrev pub is_proper : Form → Bool
is_proper (Register a) = is_name a.name && has_values a.init
is_proper (Plan name r c) = is_name name
is_proper (Redux name by) = is_name name
is_proper (Task t) = is_name t.codelet && list_all is_piece t.args && list_all is_proper_operand t.operands
is_proper (Print name) = is_name name
is_proper (Invalidate name) = is_name name
is_proper (Unregister name) = is_name name

-- these words spell this form
pub record Spells (ws : List (List ℕ)) (f : Form) : Type 0 where
  pub line : ws ≡ form_words f
  pub proper : IsTrue (is_proper f)

-- ---- what a statement line says

-- the words say a form: they spell it, with numbers where it has numbers
pub record SaysForm (ws : List (List ℕ)) (f : Form) : Type 0 where
  pub spelled : Spells ws f
  pub numbered : IsTrue (is_numbered f)

-- a form, but a word or a piece in the place of a number says none
pub record LacksNumber (ws : List (List ℕ)) : Type 0 where
  pub form : Form
  pub spelled : Spells ws form
  pub unnumbered : IsTrue (not (is_numbered form))

-- what these words say: a form, or why they say none
abbrev pub Says : List (List ℕ) → Result Form Reason → Type 0
Says ws (Ok f) = SaysForm ws f
Says ws (Err reason.Word) = (f : Form) → ¬ (Spells ws f)
Says ws (Err reason.Number) = LacksNumber ws
Says ws (Err why) = ⊥
