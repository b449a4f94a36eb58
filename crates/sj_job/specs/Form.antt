-- How the words of a line are spelled as one of the forms of the language.
use Rattle.std.specs.Prelude.{ℕ, Bool, ◌&&◌, ◌||◌, not, ◌==◌, ◌-◌, nat_lt, nat_eq, take, drop, slice_index, find, option_map, option_and_then, Option, Some, None, List, [], ◌∷◌, length, codes, if◌then◌else◌}
use Rattle.std.specs.List.{before_first, after_first, slice_split, list_all, starts_with}
use Rattle.std.specs.Str.{bytes_eq}
use Rattle.sj_base.specs.declared.mode.Mode.{Mode}
use Rattle.sj_base.specs.declared.mode.Mode.TheVariants.{R, W, RW, Scratch, Redux, Commute}
use Rattle.sj_base.specs.declared.mode.Policy.{Policy}
use Rattle.sj_base.specs.declared.mode.Policy.TheVariants.{Eager, Prio, Ws}
use Rattle.sj_base.specs.declared.mode.Reduction.{Reduction}
use Rattle.sj_base.specs.declared.mode.Reduction.TheVariants.{Plus, Least}
use Rattle.sj_job.specs.declared.form.Keyword.{Keyword}
use Rattle.sj_job.specs.declared.form.Keyword.TheVariants as keyword
use Rattle.sj_job.specs.declared.form.Size.{Size}
use Rattle.sj_job.specs.declared.form.Size.TheVariants.{Vector, Matrix}
use Rattle.sj_job.specs.declared.form.InitForm.{InitForm}
use Rattle.sj_job.specs.declared.form.InitForm.TheVariants.{Values, Fill, Nothing}
use Rattle.sj_job.specs.declared.form.ArrayForm.{ArrayForm}
use Rattle.sj_job.specs.declared.form.OperandForm.{OperandForm}
use Rattle.sj_job.specs.declared.form.TaskForm.{TaskForm}
use Rattle.sj_job.specs.declared.form.Form.{Form}
use Rattle.sj_job.specs.declared.form.Form.TheVariants as form
use Rattle.sj_job.specs.Word.{is_name}

-- ---- the words of the language

-- the first words of statement lines
abbrev pub keyword_word : Keyword → List ℕ
keyword_word keyword.Vector = codes "vector"
keyword_word keyword.Matrix = codes "matrix"
keyword_word keyword.Plan = codes "plan"
keyword_word keyword.Redux = codes "redux"
keyword_word keyword.Task = codes "task"
keyword_word keyword.Print = codes "print"
keyword_word keyword.Invalidate = codes "invalidate"
keyword_word keyword.Unregister = codes "unregister"

abbrev pub keywords : List Keyword
keywords =
    keyword.Vector ∷ keyword.Matrix ∷ keyword.Plan ∷ keyword.Redux ∷ keyword.Task ∷ keyword.Print
    ∷ keyword.Invalidate ∷ keyword.Unregister ∷ []

abbrev pub policy_word : Policy → List ℕ
policy_word Eager = codes "eager"
policy_word Prio = codes "prio"
policy_word Ws = codes "ws"

abbrev pub reduction_word : Reduction → List ℕ
reduction_word Plus = codes "plus"
reduction_word Least = codes "least"

abbrev pub mode_word : Mode → List ℕ
mode_word R = codes "R"
mode_word W = codes "W"
mode_word RW = codes "RW"
mode_word Scratch = codes "SCRATCH"
mode_word Redux = codes "REDUX"
mode_word Commute = codes "COMMUTE"

-- the first of these that is spelled so
abbrev pub spelled_in : {A : Type 0} → (A → List ℕ) → List A → List ℕ → Option A
spelled_in word xs w = find (λ x. bytes_eq w (word x)) xs

abbrev pub keyword_of : List ℕ → Option Keyword
keyword_of w = spelled_in keyword_word keywords w

abbrev pub policy_of : List ℕ → Option Policy
policy_of w = spelled_in policy_word (Eager ∷ Prio ∷ Ws ∷ []) w

abbrev pub reduction_spelled : List ℕ → Option Reduction
reduction_spelled w = spelled_in reduction_word (Plus ∷ Least ∷ []) w

abbrev pub mode_spelled : List ℕ → Option Mode
mode_spelled w = spelled_in mode_word (R ∷ W ∷ RW ∷ Scratch ∷ Redux ∷ Commute ∷ []) w

-- ---- parts of a word

-- one of ( ) [ ]
abbrev pub is_bracket : ℕ → Bool
is_bracket b = b == 40 || b == 41 || b == 91 || b == 93

abbrev pub ends_with : ℕ → List ℕ → Bool
ends_with b w = nat_lt 0 (length w) && slice_index w (length w - 1) == b

-- without its last byte
abbrev pub without_last : List ℕ → List ℕ
without_last w = take (length w - 1) w

-- what stands between the commas of a text that a bracket closes
abbrev pub pieces_of : ℕ → List ℕ → Option (List (List ℕ))
pieces_of closing text =
    if ends_with closing text && list_all (λ b. not (is_bracket b)) (without_last text)
    then Some (slice_split (λ b. b == 44) (without_last text))
    else None

-- the name of NAME(P1,P2,..) and the pieces behind it, of which there are none where NAME stands alone
abbrev pub bracketed : ℕ → ℕ → List ℕ → Option (List ℕ × List (List ℕ))
bracketed opening closing w =
    if is_name (before_first (λ b. b == opening) w) then (
    if length (before_first (λ b. b == opening) w) == length w
    then Some (before_first (λ b. b == opening) w, [])
    else option_map (λ ps. (before_first (λ b. b == opening) w, ps))
    (pieces_of closing (after_first (λ b. b == opening) w)))
    else None

-- what stands before the last such byte and what stands after it
abbrev pub around_last : ℕ → List ℕ → Option (List ℕ × List ℕ)
around_last b [] = None
around_last b (c ∷ w) = elim (around_last b w) [
  | Some p ↦ Some (c ∷ p.0, p.1)
  | None ↦ if c == b then Some ([], w) else None
]

-- ---- an operand

-- no index, or two numbers
abbrev pub child_of : List (List ℕ) → Option (Option (List ℕ × List ℕ))
child_of [] = Some None
child_of (i ∷ []) = None
child_of (i ∷ j ∷ []) = Some (Some (i, j))
child_of (i ∷ j ∷ k ∷ ps) = None

abbrev pub operand_with : (List ℕ × List (List ℕ)) → Mode → Option OperandForm
operand_with t mode = option_map (λ child. record { name = t.0; child = child; mode = mode }) (child_of t.1)

-- NAME:MODE or NAME[i,j]:MODE
abbrev pub operand_of : List ℕ → Option OperandForm
operand_of w = elim (around_last 58 w) [
  | None ↦ None
  | Some p ↦ (elim (bracketed 91 93 p.0) [
    | None ↦ None
    | Some t ↦ option_and_then (operand_with t) (mode_spelled p.1)
  ])
]

-- what f gives of each, where it gives something of each
abbrev pub each_some : {A B : Type 0} → (A → Option B) → List A → Option (List B)
each_some f [] = Some []
each_some f (x ∷ xs) = elim (f x) [ None ↦ None | Some y ↦ option_map (λ ys. y ∷ ys) (each_some f xs) ]

-- ---- a task

-- what follows `prio=`
abbrev pub priority_of : List ℕ → Option (List ℕ)
priority_of w = if starts_with nat_eq w (codes "prio=") then Some (drop 5 w) else None

-- words, the last of which may be a priority
abbrev pub with_priority : List (List ℕ) → List (List ℕ) × Option (List ℕ)
with_priority [] = ([], None)
with_priority (w ∷ []) = elim (priority_of w) [ Some p ↦ ([], Some p) | None ↦ (w ∷ [], None) ]
with_priority (w ∷ v ∷ ws) = (w ∷ (with_priority (v ∷ ws)).0, (with_priority (v ∷ ws)).1)

-- CODELET OPERANDS
abbrev pub task_form_of : List (List ℕ) → Option TaskForm
task_form_of [] = None
task_form_of (w ∷ ws) = elim (bracketed 40 41 w) [
  | None ↦ None
  | Some c ↦ option_map
      (λ os. record { codelet = c.0; args = c.1; operands = os; priority = (with_priority ws).1 })
      (each_some operand_of (with_priority ws).0)
]

-- ---- an array

abbrev pub values_of : List (List ℕ) → Option InitForm
values_of [] = None
values_of (v ∷ vs) = Some (Values (v ∷ vs))

abbrev pub fill_of : List (List ℕ) → Option InitForm
fill_of [] = None
fill_of (a ∷ []) = None
fill_of (a ∷ b ∷ []) = Some (Fill a b)
fill_of (a ∷ b ∷ c ∷ ws) = None

abbrev pub nothing_of : List (List ℕ) → Option InitForm
nothing_of [] = Some Nothing
nothing_of (w ∷ ws) = None

abbrev pub init_form_of : List (List ℕ) → Option InitForm
init_form_of [] = None
init_form_of (w ∷ ws) =
    if bytes_eq w (codes "values") then values_of ws
    else if bytes_eq w (codes "fill") then fill_of ws
    else if bytes_eq w (codes "none") then nothing_of ws
    else None

abbrev pub layout_with :
    Option (List ℕ × List ℕ) → List (List ℕ) → Option (Option (List ℕ × List ℕ) × InitForm)
layout_with parts ws = option_map (λ init. (parts, init)) (init_form_of ws)

abbrev pub parted : List (List ℕ) → Option (Option (List ℕ × List ℕ) × InitForm)
parted [] = None
parted (r ∷ []) = None
parted (r ∷ c ∷ ws) = layout_with (Some (r, c)) ws

-- what follows the size: `by r c` or nothing, and then the values
abbrev pub layout_of : List (List ℕ) → Option (Option (List ℕ × List ℕ) × InitForm)
layout_of [] = None
layout_of (w ∷ ws) = if bytes_eq w (codes "by") then parted ws else layout_with None (w ∷ ws)

abbrev pub array_form_of : List ℕ → Size → List (List ℕ) → Option ArrayForm
array_form_of name size ws =
    if is_name name
    then option_map (λ l. record { name = name; size = size; parts = l.0; init = l.1 }) (layout_of ws)
    else None

abbrev pub vector_of : List (List ℕ) → Option ArrayForm
vector_of [] = None
vector_of (name ∷ []) = None
vector_of (name ∷ n ∷ ws) = array_form_of name (Vector n) ws

abbrev pub matrix_of : List (List ℕ) → Option ArrayForm
matrix_of [] = None
matrix_of (name ∷ []) = None
matrix_of (name ∷ r ∷ []) = None
matrix_of (name ∷ r ∷ c ∷ ws) = array_form_of name (Matrix r c) ws

-- ---- the other lines

abbrev pub alone : List (List ℕ) → Option (List ℕ)
alone [] = None
alone (w ∷ []) = Some w
alone (w ∷ v ∷ ws) = None

-- one word that is a policy's
abbrev pub policy_in : List (List ℕ) → Option Policy
policy_in ws = option_and_then policy_of (alone ws)

abbrev pub only_name : List (List ℕ) → Option (List ℕ)
only_name [] = None
only_name (name ∷ []) = if is_name name then Some name else None
only_name (name ∷ w ∷ ws) = None

abbrev pub plan_of : List (List ℕ) → Option Form
plan_of [] = None
plan_of (name ∷ []) = None
plan_of (name ∷ r ∷ []) = None
plan_of (name ∷ r ∷ c ∷ []) = if is_name name then Some (form.Plan name r c) else None
plan_of (name ∷ r ∷ c ∷ w ∷ ws) = None

abbrev pub redux_of : List (List ℕ) → Option Form
redux_of [] = None
redux_of (name ∷ []) = None
redux_of (name ∷ by ∷ []) = if is_name name then option_map (form.Redux name) (reduction_spelled by) else None
redux_of (name ∷ by ∷ w ∷ ws) = None

-- the form of a statement line that begins with this word
abbrev pub form_behind : Keyword → List (List ℕ) → Option Form
form_behind keyword.Vector ws = option_map form.Register (vector_of ws)
form_behind keyword.Matrix ws = option_map form.Register (matrix_of ws)
form_behind keyword.Plan ws = plan_of ws
form_behind keyword.Redux ws = redux_of ws
form_behind keyword.Task ws = option_map form.Task (task_form_of ws)
form_behind keyword.Print ws = option_map form.Print (only_name ws)
form_behind keyword.Invalidate ws = option_map form.Invalidate (only_name ws)
form_behind keyword.Unregister ws = option_map form.Unregister (only_name ws)

-- the statement that these words spell
abbrev pub form_of : List (List ℕ) → Option Form
form_of [] = None
form_of (w ∷ ws) = elim (keyword_of w) [ None ↦ None | Some k ↦ form_behind k ws ]
