-- A line and the grammar: each form is read from what is written of it, and from nothing else; and what it says.
use Rattle.std.proofs.Common.{◌≡◌, ℕ, ◌&&◌, Bool, true, false, List, [], ◌∷◌, ◌++◌, map, refl, ap, ◌∙◌, sym, subst, Option, Some, None, option_map, cond, bytes_eq, codes}
use Rattle.std.specs.List.{list_all}
use Rattle.std.proofs.lemmas.Bool.{and_from, and_parts}
use Rattle.sj_base.specs.declared.mode.Reduction.{Reduction}
use Rattle.sj_base.proofs.Texts.{same_text}
use Rattle.sj_job.specs.declared.form.Keyword.{Keyword}
use Rattle.sj_job.specs.declared.form.Keyword.TheVariants as keyword
use Rattle.sj_job.specs.declared.form.Size.{Size}
use Rattle.sj_job.specs.declared.form.Size.TheVariants.{Vector, Matrix}
use Rattle.sj_job.specs.declared.form.InitForm.{InitForm}
use Rattle.sj_job.specs.declared.form.InitForm.TheVariants.{Values, Fill, Nothing}
use Rattle.sj_job.specs.declared.form.ArrayForm.{ArrayForm}
use Rattle.sj_job.specs.declared.form.OperandForm.{OperandForm}
use Rattle.sj_job.specs.declared.form.TaskForm.{TaskForm}
use Rattle.sj_job.specs.declared.form.Form.{Form}
use Rattle.sj_job.specs.declared.form.Form.TheVariants.{Register, Plan, Redux, Task, Print, Invalidate, Unregister}
use Rattle.sj_job.specs.Word.{is_name}
use Rattle.sj_job.specs.Form.{keyword_word, keyword_of, keywords, reduction_spelled, reduction_word, bracketed, each_some, operand_of, with_priority, task_form_of, values_of, fill_of, nothing_of, init_form_of, layout_with, parted, layout_of, array_form_of, vector_of, matrix_of, only_name, plan_of, redux_of, form_behind, form_of}
use Rattle.sj_job.specs.Grammar.{operand_word, codelet_word, priority_words, parts_words, init_words, sized, form_words, is_piece, has_values, is_proper_operand, is_proper}
use Rattle.sj_job.proofs.Spelling.{some_from, Reads, word-found, each-reads}
use Rattle.sj_job.proofs.Saying.{reductions, codelets, operands, priority-back, priority-joins}

-- ---- the values of an array

init_by : (w : List ℕ) (ws : List (List ℕ)) (i : InitForm) (a b c : Bool) → (a ≡ true → w ≡ codes "values") → (b ≡ true → w ≡ codes "fill") → (c ≡ true → w ≡ codes "none") → cond a (values_of ws) (cond b (fill_of ws) (cond c (nothing_of ws) None)) ≡ Some i → (w ∷ ws ≡ init_words i) × (has_values i ≡ true)
init_by w [] i true b c f g h e = absurd (cc)
init_by w (v ∷ vs) i true b c f g h e =
    let same : Values (v ∷ vs) ≡ i = cc in
    subst (λ i. (w ∷ v ∷ vs ≡ init_words i) × (has_values i ≡ true)) same (ap (λ w. w ∷ v ∷ vs) (f refl), refl)
init_by w [] i false true c f g h e = absurd (cc)
init_by w (x ∷ []) i false true c f g h e = absurd (cc)
init_by w (x ∷ y ∷ []) i false true c f g h e =
    let same : Fill x y ≡ i = cc in
    subst (λ i. (w ∷ x ∷ y ∷ [] ≡ init_words i) × (has_values i ≡ true)) same (ap (λ w. w ∷ x ∷ y ∷ []) (g refl), refl)
init_by w (x ∷ y ∷ z ∷ ws) i false true c f g h e = absurd (cc)
init_by w [] i false false true f g h e =
    let same : Nothing ≡ i = cc in
    subst (λ i. (w ∷ [] ≡ init_words i) × (has_values i ≡ true)) same (ap (λ w. w ∷ []) (h refl), refl)
init_by w (x ∷ ws) i false false true f g h e = absurd (cc)
init_by w ws i false false false f g h e = absurd (cc)

init-read : (ws : List (List ℕ)) (i : InitForm) → init_form_of ws ≡ Some i → (ws ≡ init_words i) × (has_values i ≡ true)
init-read [] i e = absurd (cc)
init-read (w ∷ ws) i e =
    init_by w ws i (bytes_eq w (codes "values")) (bytes_eq w (codes "fill")) (bytes_eq w (codes "none"))
    (same_text w (codes "values")) (same_text w (codes "fill")) (same_text w (codes "none")) e

init-back : (i : InitForm) → has_values i ≡ true → init_form_of (init_words i) ≡ Some i
init-back (Values []) h = absurd (cc)
init-back (Values (v ∷ vs)) h = refl
init-back (Fill a b) h = refl
init-back Nothing h = refl

-- ---- the parts and the values of an array

abbrev Layout : Type 0
Layout = Option (List ℕ × List ℕ) × InitForm

abbrev layout_words : Layout → List (List ℕ)
layout_words l = parts_words l.0 ++ init_words l.1

abbrev IsLayout : List (List ℕ) → Layout → Type 0
IsLayout ws l = (ws ≡ layout_words l) × (has_values l.1 ≡ true)

parts_by : (parts : Option (List ℕ × List ℕ)) (ws : List (List ℕ)) (l : Layout) → layout_with parts ws ≡ Some l → IsLayout (parts_words parts ++ ws) l
parts_by parts ws l e =
    let make : InitForm → Layout = λ init. (parts, init) in
    let p = some_from make (init_form_of ws) l e in
    let i = init-read ws p.0 p.1.0 in
    subst (IsLayout (parts_words parts ++ ws)) p.1.1 (ap (λ ws. parts_words parts ++ ws) i.0, i.1)

layout_by : (w : List ℕ) (ws : List (List ℕ)) (l : Layout) (t : Bool) → (t ≡ true → w ≡ codes "by") → cond t (parted ws) (layout_with None (w ∷ ws)) ≡ Some l → IsLayout (w ∷ ws) l
layout_by w [] l true h e = absurd (cc)
layout_by w (r ∷ []) l true h e = absurd (cc)
layout_by w (r ∷ c ∷ ws) l true h e = subst (λ w. IsLayout (w ∷ r ∷ c ∷ ws) l) (sym (h refl)) (parts_by (Some (r, c)) ws l e)
layout_by w ws l false h e = parts_by None (w ∷ ws) l e

layout-read : (ws : List (List ℕ)) (l : Layout) → layout_of ws ≡ Some l → IsLayout ws l
layout-read [] l e = absurd (cc)
layout-read (w ∷ ws) l e = layout_by w ws l (bytes_eq w (codes "by")) (same_text w (codes "by")) e

layout-back : (parts : Option (List ℕ × List ℕ)) (i : InitForm) → has_values i ≡ true → layout_of (parts_words parts ++ init_words i) ≡ Some (parts, i)
layout-back None (Values []) h = absurd (cc)
layout-back None (Values (v ∷ vs)) h = refl
layout-back None (Fill a b) h = refl
layout-back None Nothing h = refl
layout-back (Some p) i h = ap (option_map (λ (i : InitForm). let l : Layout = (Some p, i) in l)) (init-back i h)

-- ---- an array

abbrev array : List ℕ → Size → Layout → ArrayForm
array name size l = record { name = name; size = size; parts = l.0; init = l.1 }

-- the words spell the form
abbrev IsSpelled : List (List ℕ) → Form → Type 0
IsSpelled ws f = (ws ≡ form_words f) × (is_proper f ≡ true)

array_by : (name : List ℕ) (size : Size) (ws : List (List ℕ)) (a : ArrayForm) (t : Bool) → is_name name ≡ t → cond t (option_map (array name size) (layout_of ws)) None ≡ Some a → IsSpelled (sized name size ws) (Register a)
array_by name size ws a true n e =
    let p = some_from (array name size) (layout_of ws) a e in
    let l = layout-read ws p.0 p.1.0 in
    subst (λ a. IsSpelled (sized name size ws) (Register a)) p.1.1
    (ap (sized name size) l.0, and_from (is_name name) (has_values p.0.1) n l.1)
array_by name size ws a false n e = absurd (cc)

vector-read : (ws : List (List ℕ)) (a : ArrayForm) → vector_of ws ≡ Some a → IsSpelled (codes "vector" ∷ ws) (Register a)
vector-read [] a e = absurd (cc)
vector-read (name ∷ []) a e = absurd (cc)
vector-read (name ∷ n ∷ ws) a e = array_by name (Vector n) ws a (is_name name) refl e

matrix-read : (ws : List (List ℕ)) (a : ArrayForm) → matrix_of ws ≡ Some a → IsSpelled (codes "matrix" ∷ ws) (Register a)
matrix-read [] a e = absurd (cc)
matrix-read (name ∷ []) a e = absurd (cc)
matrix-read (name ∷ r ∷ []) a e = absurd (cc)
matrix-read (name ∷ r ∷ c ∷ ws) a e = array_by name (Matrix r c) ws a (is_name name) refl e

array-back : (name : List ℕ) (size : Size) (parts : Option (List ℕ × List ℕ)) (i : InitForm) → (is_name name && has_values i) ≡ true → array_form_of name size (parts_words parts ++ init_words i) ≡ Some (array name size (parts, i))
array-back name size parts i h =
    let q = and_parts (is_name name) (has_values i) h in
    ap (λ t. cond t (option_map (array name size) (layout_of (parts_words parts ++ init_words i))) None) q.0
    ∙ ap (option_map (array name size)) (layout-back parts i q.1)

register-back : (name : List ℕ) (size : Size) (parts : Option (List ℕ × List ℕ)) (i : InitForm) → (is_name name && has_values i) ≡ true → form_of (sized name size (parts_words parts ++ init_words i)) ≡ Some (Register (array name size (parts, i)))
register-back name (Vector n) parts i h = ap (option_map Register) (array-back name (Vector n) parts i h)
register-back name (Matrix r c) parts i h = ap (option_map Register) (array-back name (Matrix r c) parts i h)

-- ---- a task

abbrev task : (List ℕ × List (List ℕ)) → Option (List ℕ) → List OperandForm → TaskForm
task c p os = record { codelet = c.0; args = c.1; operands = os; priority = p }

abbrev task_from : Option (List ℕ × List (List ℕ)) → (List (List ℕ) × Option (List ℕ)) → Option TaskForm
task_from c r = elim c as (λ _. Option TaskForm) [ None ↦ None | Some c ↦ option_map (task c r.1) (each_some operand_of r.0) ]

all_operands : Reads (each_some operand_of) (map operand_word) (list_all is_proper_operand)
all_operands = each-reads operand_of operand_word is_proper_operand operands

three_true : (a b c : Bool) → (a && b) ≡ true → c ≡ true → (a && b && c) ≡ true
three_true true b c h k = and_from b c h k
three_true false b c h k = absurd (cc)

two_and_one : (a b c : Bool) → (a && b && c) ≡ true → ((a && b) ≡ true) × (c ≡ true)
two_and_one true b c h = and_parts b c h
two_and_one false b c h = absurd (cc)

task_by : (w : List ℕ) (ws : List (List ℕ)) (t : TaskForm) (c : Option (List ℕ × List (List ℕ))) → bracketed 40 41 w ≡ c → task_from c (with_priority ws) ≡ Some t → IsSpelled (codes "task" ∷ w ∷ ws) (Task t)
task_by w ws t None h e = absurd (cc)
task_by w ws t (Some c) h e =
    let r = with_priority ws in
    let p = some_from (task c r.1) (each_some operand_of r.0) t e in
    let os = all_operands.read r.0 p.0 p.1.0 in
    let name = codelets.read w c h in
    subst (λ t. IsSpelled (codes "task" ∷ w ∷ ws) (Task t)) p.1.1 (
      ap (λ w. codes "task" ∷ w ∷ ws) name.0 ∙ ap (λ ws. codes "task" ∷ codelet_word (task c r.1 p.0) ∷ ws) (priority-joins ws ∙ ap (λ ws. ws ++ priority_words r.1) os.0),
      three_true (is_name c.0) (list_all is_piece c.1) (list_all is_proper_operand p.0) name.1 os.1,
    )

task-read : (ws : List (List ℕ)) (t : TaskForm) → task_form_of ws ≡ Some t → IsSpelled (codes "task" ∷ ws) (Task t)
task-read [] t e = absurd (cc)
task-read (w ∷ ws) t e = task_by w ws t (bracketed 40 41 w) refl e

task-back : (t : TaskForm) → is_proper (Task t) ≡ true → form_of (form_words (Task t)) ≡ Some (Task t)
task-back t h =
    let q = two_and_one (is_name t.codelet) (list_all is_piece t.args) (list_all is_proper_operand t.operands) h in
    let behind = map operand_word t.operands ++ priority_words t.priority in
    let c : List ℕ × List (List ℕ) = (t.codelet, t.args) in
    ap (λ c. option_map Task (task_from c (with_priority behind))) (codelets.back c q.0)
    ∙ ap (λ r. option_map Task (task_from (Some c) r)) (priority-back t.operands t.priority q.1)
    ∙ ap (λ os. option_map Task (option_map (task c t.priority) os)) (all_operands.back t.operands q.1)

-- ---- the other lines

name_by : (w n : List ℕ) (t : Bool) → is_name w ≡ t → cond t (Some w) None ≡ Some n → (w ≡ n) × (is_name n ≡ true)
name_by w n true h e = let same : w ≡ n = cc in (same, sym (ap is_name same) ∙ h)
name_by w n false h e = absurd (cc)

name-read : (ws : List (List ℕ)) (n : List ℕ) → only_name ws ≡ Some n → (ws ≡ n ∷ []) × (is_name n ≡ true)
name-read [] n e = absurd (cc)
name-read (w ∷ []) n e = let p = name_by w n (is_name w) refl e in (ap (λ w. w ∷ []) p.0, p.1)
name-read (w ∷ v ∷ ws) n e = absurd (cc)

-- a name alone behind a first word
named_by : (make : List ℕ → Form) (first : List ℕ) → ((n : List ℕ) → is_name n ≡ true → IsSpelled (first ∷ n ∷ []) (make n)) → (ws : List (List ℕ)) (f : Form) → option_map make (only_name ws) ≡ Some f → IsSpelled (first ∷ ws) f
named_by make first spelled ws f e =
    let p = some_from make (only_name ws) f e in
    let n = name-read ws p.0 p.1.0 in
    subst (λ ws. IsSpelled (first ∷ ws) f) (sym n.0) (subst (IsSpelled (first ∷ p.0 ∷ [])) p.1.1 (spelled p.0 n.1))

name-back : (n : List ℕ) → is_name n ≡ true → only_name (n ∷ []) ≡ Some n
name-back n h = ap (λ t. cond t (Some n) None) h

plan_by : (name r c : List ℕ) (f : Form) (t : Bool) → is_name name ≡ t → cond t (Some (Plan name r c)) None ≡ Some f → IsSpelled (codes "plan" ∷ name ∷ r ∷ c ∷ []) f
plan_by name r c f true h e = let same : Plan name r c ≡ f = cc in subst (IsSpelled (codes "plan" ∷ name ∷ r ∷ c ∷ [])) same (refl, h)
plan_by name r c f false h e = absurd (cc)

plan-read : (ws : List (List ℕ)) (f : Form) → plan_of ws ≡ Some f → IsSpelled (codes "plan" ∷ ws) f
plan-read [] f e = absurd (cc)
plan-read (name ∷ []) f e = absurd (cc)
plan-read (name ∷ r ∷ []) f e = absurd (cc)
plan-read (name ∷ r ∷ c ∷ []) f e = plan_by name r c f (is_name name) refl e
plan-read (name ∷ r ∷ c ∷ w ∷ ws) f e = absurd (cc)

redux_by : (name w : List ℕ) (f : Form) (t : Bool) (o : Option Reduction) → is_name name ≡ t → reduction_spelled w ≡ o → cond t (option_map (Redux name) o) None ≡ Some f → IsSpelled (codes "redux" ∷ name ∷ w ∷ []) f
redux_by name w f true None h k e = absurd (cc)
redux_by name w f true (Some by) h k e =
    let same : Redux name by ≡ f = cc in
    subst (IsSpelled (codes "redux" ∷ name ∷ w ∷ [])) same (ap (λ w. codes "redux" ∷ name ∷ w ∷ []) (reductions.read w by k).0, h)
redux_by name w f false o h k e = absurd (cc)

redux-read : (ws : List (List ℕ)) (f : Form) → redux_of ws ≡ Some f → IsSpelled (codes "redux" ∷ ws) f
redux-read [] f e = absurd (cc)
redux-read (name ∷ []) f e = absurd (cc)
redux-read (name ∷ w ∷ []) f e = redux_by name w f (is_name name) (reduction_spelled w) refl refl e
redux-read (name ∷ w ∷ v ∷ ws) f e = absurd (cc)

redux-back : (name : List ℕ) (by : Reduction) → is_name name ≡ true → redux_of (name ∷ reduction_word by ∷ []) ≡ Some (Redux name by)
redux-back name by h =
    ap (λ t. cond t (option_map (Redux name) (reduction_spelled (reduction_word by))) None) h
    ∙ ap (option_map (Redux name)) (reductions.back by refl)

-- ---- a line

behind-read : (k : Keyword) (ws : List (List ℕ)) (f : Form) → form_behind k ws ≡ Some f → IsSpelled (keyword_word k ∷ ws) f
behind-read keyword.Vector ws f e = let p = some_from Register (vector_of ws) f e in subst (IsSpelled (codes "vector" ∷ ws)) p.1.1 (vector-read ws p.0 p.1.0)
behind-read keyword.Matrix ws f e = let p = some_from Register (matrix_of ws) f e in subst (IsSpelled (codes "matrix" ∷ ws)) p.1.1 (matrix-read ws p.0 p.1.0)
behind-read keyword.Plan ws f e = plan-read ws f e
behind-read keyword.Redux ws f e = redux-read ws f e
behind-read keyword.Task ws f e = let p = some_from Task (task_form_of ws) f e in subst (IsSpelled (codes "task" ∷ ws)) p.1.1 (task-read ws p.0 p.1.0)
behind-read keyword.Print ws f e = named_by Print (codes "print") (λ n h. (refl, h)) ws f e
behind-read keyword.Invalidate ws f e = named_by Invalidate (codes "invalidate") (λ n h. (refl, h)) ws f e
behind-read keyword.Unregister ws f e = named_by Unregister (codes "unregister") (λ n h. (refl, h)) ws f e

line_by : (w : List ℕ) (ws : List (List ℕ)) (f : Form) (o : Option Keyword) → keyword_of w ≡ o → (elim o as (λ _. Option Form) [ None ↦ None | Some k ↦ form_behind k ws ]) ≡ Some f → IsSpelled (w ∷ ws) f
line_by w ws f None h e = absurd (cc)
line_by w ws f (Some k) h e = subst (λ w. IsSpelled (w ∷ ws) f) (sym (word-found keyword_word keywords w k h)) (behind-read k ws f e)

pub form-read : (ws : List (List ℕ)) (f : Form) → form_of ws ≡ Some f → IsSpelled ws f
form-read [] f e = absurd (cc)
form-read (w ∷ ws) f e = line_by w ws f (keyword_of w) refl e

pub form-back : (f : Form) → is_proper f ≡ true → form_of (form_words f) ≡ Some f
form-back (Register a) h = register-back a.name a.size a.parts a.init h
form-back (Plan name r c) h = ap (λ t. cond t (Some (Plan name r c)) None) h
form-back (Redux name by) h = redux-back name by h
form-back (Task t) h = task-back t h
form-back (Print name) h = ap (option_map Print) (name-back name h)
form-back (Invalidate name) h = ap (option_map Invalidate) (name-back name h)
form-back (Unregister name) h = ap (option_map Unregister) (name-back name h)
