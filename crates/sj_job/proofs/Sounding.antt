-- An act that is allowed is sound.
use Rattle.std.proofs.Common.{◌≡◌, ℕ, ◌≤◌, ◌<◌, ◌*◌, ◌&&◌, ◌||◌, not, nat_le, nat_lt, Bool, true, false, List, [], ◌∷◌, length, map, refl, ap, ◌∙◌, sym, subst, Option, Some, None, option_map, is_some, Result, Ok, cond, arith, ℤ, unwrap_or}
use Rattle.std.specs.Prelude.{find, is_none}
use Rattle.std.specs.List.{list_all, list_any}
use Rattle.std.proofs.lemmas.Bool.Decides.{nat_tests}
use Rattle.std.proofs.lemmas.Nat.{mul-le}
use Rattle.std.proofs.lemmas.Bool.{and_from, or_parts, and_parts, not-false}
use Rattle.sj_base.specs.declared.tile.Dims.{Dims}
use Rattle.sj_base.specs.declared.program.Codelet.{Codelet}
use Rattle.sj_base.specs.Array.{area}
use Rattle.sj_codelet.specs.declared.kernel.Kernel.{Kernel}
use Rattle.sj_codelet.specs.Kernel.{kernels, kernel_of, codelet_of, has_name, formals_of, fits, fits_in}
use Rattle.sj_codelet.specs.Runs.{formals_in}
use Rattle.sj_codelet.proofs.Table.{kernel_of-codelet_of}
use Rattle.sj_plan.specs.declared.parts.Parts.{Parts}
use Rattle.sj_plan.specs.Parts.{Fits}
use Rattle.sj_plan.specs.Rect.{child, rect_dims}
use Rattle.sj_meaning.specs.declared.job.Init.{Init}
use Rattle.sj_meaning.specs.declared.job.Init.TheVariants.{Values, Fill, Nothing}
use Rattle.sj_meaning.specs.Statement.{Register}
use Rattle.sj_meaning.specs.Statement.{Operand}
use Rattle.sj_meaning.specs.Act.{Act}
use Rattle.sj_job.specs.declared.reason.Reason.{Reason}
use Rattle.sj_job.specs.declared.form.ArrayForm.{ArrayForm}
use Rattle.sj_job.specs.declared.form.OperandForm.{OperandForm}
use Rattle.sj_job.specs.declared.form.TaskForm.{TaskForm}
use Rattle.sj_job.specs.declared.form.Form.{Form}
use Rattle.sj_job.specs.declared.form.Form.TheVariants as form
use Rattle.sj_base.specs.declared.mode.Mode.{Mode}
use Rattle.sj_base.specs.declared.mode.Reduction.{Reduction}
use Rattle.sj_base.specs.declared.mode.Mode.TheVariants.{R, W, RW, Scratch, Redux, Commute}
use Rattle.sj_base.specs.Mode.{is_written}
use Rattle.sj_meaning.specs.Act.{Register as Registers, Plan, Redux as Reduces, Task, Print, Invalidate, Unregister}
use Rattle.sj_job.specs.Word.{integer}
use Rattle.sj_job.specs.Sentence.{row_count, col_count, init_said, parts_said, index_said, registered_by, operand_said, operands_said, priority_said, task_said}
use Rattle.sj_meaning.specs.State.{JobState, RootState, root_of, is_valued, has_no_value, is_child, child_rect, is_valued_child}
use Rattle.sj_job.specs.Judge.{Scope, scope_of, known_of, first_of, unless, judged_by, judged_call, judged_task, judged, kernel_named, register_reasons, line_reasons, print_reasons, name_reasons, plan_reasons, redux_reasons, operand_reasons, has_mixed_outputs, is_unlawful, reduction_known, is_shaped, dims_in, dims_known, is_child_said, is_crowded, is_cut, is_uncut, is_missing, is_lacking, child_lacks_value, is_outside, is_miscounted, is_unknown, is_ended, lacks_value}
use Rattle.sj_meaning.specs.Sound.{is_lawful_for, is_unordered, modes_fit, is_side, needs_value, is_priority}
use Rattle.sj_meaning.specs.Meaning.{written_of}
use Rattle.sj_job.specs.Well.{IsAllowed}
use Rattle.sj_meaning.specs.Sound.{has_root, has_valued_root, child_dims, has_child, has_child_values, is_lawful, reduction_of, InitFits, IsSoundRegistration, IsSoundPlan, IsSoundAct}
use Rattle.sj_job.proofs.Children.{said-child}

-- ---- tests

-- ---- reasons

-- where no reason holds, neither does the first, nor one behind it
abbrev NoneHolds : List (Bool × Reason) → Type 0
NoneHolds [] = Unit {0}
NoneHolds (c ∷ cs) = (c.0 ≡ false) × NoneHolds cs

none_first : (b : Bool) (why : Reason) (o : Option Reason) → cond b (Some why) o ≡ None → (b ≡ false) × (o ≡ None)
none_first true why o e = absurd (cc)
none_first false why o e = (refl, e)

pub none_hold : (cs : List (Bool × Reason)) → first_of cs ≡ None → NoneHolds cs
none_hold [] e = tt
none_hold (c ∷ cs) e = let p = none_first c.0 c.1 (first_of cs) e in (p.0, none_hold cs p.1)

-- an act against which there is no reason
pub unless_parts : (o : Option Reason) (a act : Act (List ℕ)) → unless o a ≡ Ok act → (o ≡ None) × (a ≡ act)
unless_parts (Some why) a act e = absurd (cc)
unless_parts None a act e = (refl, cc)

by_parts : (o : Option Reason) (r : Result (Act (List ℕ)) Reason) (act : Act (List ℕ)) → judged_by o r ≡ Ok act → (o ≡ None) × (r ≡ Ok act)
by_parts (Some why) r act e = absurd (cc)
by_parts None r act e = (refl, e)

-- ---- registrations

fits_init : (i : Init) (r c : ℕ) → is_miscounted i r c ≡ false → let d : Dims = record { rows = r; cols = c } in InitFits i d
fits_init (Values zs) r c e = grind (arith, nat_tests)
fits_init (Fill a b) r c e = tt
fits_init Nothing r c e = tt

-- dimensions within their limits
record AreInside (rows cols : ℕ) : Type 0 where
  rows_in : is_side rows ≡ true
  cols_in : is_side cols ≡ true
  few : rows * cols ≤ 16777216

few_enough : (n : ℕ) → nat_le n 16777216 ≡ true → n ≤ 16777216
few_enough n e = grind (arith, nat_tests)

inside : (rows cols : ℕ) → is_outside rows cols ≡ false → AreInside rows cols
inside rows cols e =
    let p = and_parts (is_side rows && is_side cols) (nat_le (rows * cols) 16777216) (not-false _ e) in
    let q = and_parts (is_side rows) (is_side cols) p.0 in
    record { rows_in = q.0; cols_in = q.1; few = few_enough (rows * cols) p.1 }

positive : (n : ℕ) → is_side n ≡ true → 1 ≤ n
positive n e = let p = and_parts (nat_le 1 n) (nat_le n 1048576) e in let q = p.0 in grind (arith, nat_tests, q)

-- a registered root has an element
pub has_elements : (S : JobState) (r : Register (List ℕ)) → IsSoundRegistration S r → 1 ≤ area r.dims
has_elements S r h = mul-le 1 1 r.dims.rows r.dims.cols (positive r.dims.rows h.rows) (positive r.dims.cols h.cols)

not_taken : (o : Option RootState) → is_some (option_map known_of o) ≡ false → o ≡ None
not_taken None e = refl
not_taken (Some r) e = absurd (cc)

-- a plan that cuts an array into parts, none of them empty, and not too many
small_enough : (n : ℕ) → nat_lt 4096 n ≡ false → n ≤ 4096
small_enough n e = grind (arith, nat_tests)

some_part : (n p : ℕ) → nat_le 1 p ≡ true → 0 < p
some_part n p e = grind (arith, nat_tests)

part_enough : (n p : ℕ) → nat_le p n ≡ true → p ≤ n
part_enough n p e = grind (arith, nat_tests)

pub fits_from : (d : Dims) (p : Parts) → is_crowded p ≡ false → is_uncut d p ≡ false → Fits p d
fits_from d p crowded uncut =
    let h = and_parts (is_cut d.rows p.r) (is_cut d.cols p.c) (not-false _ uncut) in
    let r = and_parts (nat_le 1 p.r) (nat_le p.r d.rows) h.0 in
    let c = and_parts (nat_le 1 p.c) (nat_le p.c d.cols) h.1 in
    record { some_rows = some_part d.rows p.r r.0; rows = part_enough d.rows p.r r.1; some_cols = some_part d.cols p.c c.0; cols = part_enough d.cols p.c c.1; few = small_enough (p.r * p.c) crowded }

sound_registration : (n : ℕ) (S : JobState) (a : ArrayForm) → first_of (register_reasons (scope_of n S) a.name (registered_by a).dims (parts_said a.parts) (init_said a.init)) ≡ None → IsSoundRegistration S (registered_by a)
sound_registration n S a e =
    let h = none_hold (register_reasons (scope_of n S) a.name (registered_by a).dims (parts_said a.parts) (init_said a.init)) e in
    let i = inside (row_count a.size) (col_count a.size) h.1.1.0 in
    record {
      rows = i.rows_in;
      cols = i.cols_in;
      elements = i.few;
      parts = fits_from (registered_by a).dims (parts_said a.parts) h.1.1.1.0 h.1.1.1.1.1.1.0;
      values = fits_init (init_said a.init) (row_count a.size) (col_count a.size) h.1.1.1.1.1.1.1.0;
      fresh = not_taken (root_of S a.name) h.1.1.1.1.1.0;
    }

-- ---- names

root_by : (o : Option RootState) (ended : Bool) → (not (is_some (option_map known_of o)) && not ended) ≡ false → ended ≡ false → is_some o ≡ true
root_by None ended e h = absurd (cc)
root_by (Some r) ended e h = refl

there : (n : ℕ) (S : JobState) (name : List ℕ) → is_unknown (scope_of n S) name ≡ false → is_ended (scope_of n S) name ≡ false → has_root S name ≡ true
there n S name e h = root_by (root_of S name) (is_ended (scope_of n S) name) e h

values_by : (o : Option RootState) → (elim (option_map known_of o) as (λ _. Bool) [ None ↦ false | Some k ↦ not k.all ]) ≡ false → is_some o ≡ true → (elim o as (λ _. Bool) [ None ↦ false | Some r ↦ is_valued r ]) ≡ true
values_by None e h = absurd (cc)
values_by (Some r) e h = not-false (is_valued r) e

valued : (n : ℕ) (S : JobState) (name : List ℕ) → lacks_value (scope_of n S) name ≡ false → has_root S name ≡ true → has_valued_root S name ≡ true
valued n S name e h = values_by (root_of S name) e h

sound_name : (n : ℕ) (S : JobState) (name : List ℕ) → first_of (name_reasons (scope_of n S) name) ≡ None → has_root S name ≡ true
sound_name n S name e = let h = none_hold (name_reasons (scope_of n S) name) e in there n S name h.1.0 h.1.1.0

sound_print : (n : ℕ) (S : JobState) (name : List ℕ) → first_of (print_reasons (scope_of n S) name) ≡ None → has_valued_root S name ≡ true
sound_print n S name e = let h = none_hold (print_reasons (scope_of n S) name) e in valued n S name h.1.1.1.0 (there n S name h.1.0 h.1.1.0)

no_reduction : (o : Option Reduction) → is_some o ≡ false → is_none o ≡ true
no_reduction None e = refl
no_reduction (Some by) e = absurd (cc)

-- ---- plans

dims_by : (o : Option RootState) → (elim (option_map known_of o) as (λ _. Dims) [ None ↦ record { rows = 0; cols = 0 } | Some k ↦ k.dims ]) ≡ (elim o as (λ _. Dims) [ None ↦ record { rows = 0; cols = 0 } | Some r ↦ r.dims ])
dims_by None = refl
dims_by (Some r) = refl

even_by : (o : Option RootState) → (elim (option_map known_of o) as (λ _. Bool) [ None ↦ false | Some k ↦ not (k.all || k.none) ]) ≡ false → is_some o ≡ true → ((elim o as (λ _. Bool) [ None ↦ false | Some r ↦ is_valued r ]) || (elim o as (λ _. Bool) [ None ↦ false | Some r ↦ has_no_value r ])) ≡ true
even_by None e h = absurd (cc)
even_by (Some r) e h = not-false (is_valued r || has_no_value r) e

sound_plan : (n : ℕ) (S : JobState) (name : List ℕ) (p : Parts) → first_of (plan_reasons (scope_of n S) name p) ≡ None → IsSoundPlan S name p
sound_plan n S name p e =
    let h = none_hold (plan_reasons (scope_of n S) name p) e in
    let rooted = there n S name h.1.1.0 h.1.1.1.0 in
    record {
      rooted = rooted;
      parts = subst (Fits p) (dims_by (root_of S name)) (fits_from (dims_known (scope_of n S) name) p h.1.0 h.1.1.1.1.0);
      even = even_by (root_of S name) h.1.1.1.1.1.0 rooted;
    }

-- ---- tasks

placed_by : (o : Option RootState) (index : Option (ℕ × ℕ)) → (elim (option_map known_of o) as (λ _. Bool) [ None ↦ false | Some k ↦ not (is_child_said k.parts index) ]) ≡ false → is_some o ≡ true → (elim o as (λ _. Bool) [ None ↦ false | Some r ↦ is_child r.parts (unwrap_or index (0, 0)) ]) ≡ true
placed_by None index e h = absurd (cc)
placed_by (Some r) index e h = said-child r.parts index (not-false (is_child_said r.parts index) e)

all_placed : (n : ℕ) (S : JobState) (os : List OperandForm) → list_any (λ o. is_unknown (scope_of n S) o.name) (map operand_said os) ≡ false → list_any (λ o. is_ended (scope_of n S) o.name) (map operand_said os) ≡ false → list_any (is_missing (scope_of n S)) os ≡ false → list_all (has_child S) (map operand_said os) ≡ true
all_placed n S [] e h k = refl
all_placed n S (o ∷ os) e h k =
    let p = or_parts (is_unknown (scope_of n S) o.name) (list_any (λ o. is_unknown (scope_of n S) o.name) (map operand_said os)) e in
    let q = or_parts (is_ended (scope_of n S) o.name) (list_any (λ o. is_ended (scope_of n S) o.name) (map operand_said os)) h in
    let m = or_parts (is_missing (scope_of n S) o) (list_any (is_missing (scope_of n S)) os) k in
    and_from (has_child S (operand_said o)) (list_all (has_child S) (map operand_said os)) (placed_by (root_of S o.name) (index_said o.child) m.0 (there n S o.name p.0 q.0)) (all_placed n S os p.1 q.1 m.1)

needed_by : (b l v : Bool) → (b && l) ≡ false → (l ≡ false → v ≡ true) → (not b || v) ≡ true
needed_by true l v e h = h e
needed_by false l v e h = refl

child_values_by : (o : Option RootState) (place : ℕ × ℕ) → (elim o as (λ _. Bool) [ None ↦ false | Some r ↦ is_child r.parts place ]) ≡ true → (elim (option_map known_of o) as (λ _. Bool) [ None ↦ false | Some k ↦ not (k.child place) ]) ≡ false → (elim o as (λ _. Bool) [ None ↦ false | Some r ↦ is_valued_child r place ]) ≡ true
child_values_by None place h e = absurd (cc)
child_values_by (Some r) place h e = not-false (is_valued_child r place) e

all_valued : (n : ℕ) (S : JobState) (os : List (Operand (List ℕ))) → list_any (is_lacking (scope_of n S)) os ≡ false → list_all (has_child S) os ≡ true → list_all (λ o. not (needs_value o.mode) || has_child_values S o) os ≡ true
all_valued n S [] e h = refl
all_valued n S (o ∷ os) e h =
    let p = or_parts (is_lacking (scope_of n S) o) (list_any (is_lacking (scope_of n S)) os) e in
    let q = and_parts (has_child S o) (list_all (has_child S) os) h in
    and_from (not (needs_value o.mode) || has_child_values S o) (list_all (λ o. not (needs_value o.mode) || has_child_values S o) os)
    (needed_by (needs_value o.mode) (child_lacks_value (scope_of n S) o) (has_child_values S o) p.0 (child_values_by (root_of S o.name) o.place q.0)) (all_valued n S os p.1 q.1)

found_here : (p : Kernel → Bool) (x : Kernel) (ks : List Kernel) (k : Kernel) (b : Bool) → (find p ks ≡ Some k → p k ≡ true) → p x ≡ b → cond b (Some x) (find p ks) ≡ Some k → p k ≡ true
found_here p x ks k true rest h e = let same : x ≡ k = cc in subst (λ j. p j ≡ true) same h
found_here p x ks k false rest h e = rest e

pub found_passes : (p : Kernel → Bool) (ks : List Kernel) (k : Kernel) → find p ks ≡ Some k → p k ≡ true
found_passes p [] k e = absurd (cc)
found_passes p (x ∷ ks) k e = found_here p x ks k (p x) (found_passes p ks k) refl e

by_root : (o : Option RootState) (place : ℕ × ℕ) → (elim (option_map known_of o) as (λ _. Dims) [ None ↦ record { rows = 0; cols = 0 } | Some k ↦ rect_dims (child k.dims k.parts place) ]) ≡ (elim o as (λ _. Dims) [ None ↦ record { rows = 0; cols = 0 } | Some r ↦ rect_dims (child_rect r place) ])
by_root None place = refl
by_root (Some r) place = refl

dims_seen : (k : ℕ) (S : JobState) (o : Operand (List ℕ)) → dims_in (scope_of k S) o ≡ child_dims S o
dims_seen k S o = by_root (root_of S o.name) o.place

all_dims_seen : (k : ℕ) (S : JobState) (os : List (Operand (List ℕ))) → map (dims_in (scope_of k S)) os ≡ map (child_dims S) os
all_dims_seen k S os = λ i. map (λ o. dims_seen k S o i) os

fits_known : (has : Kernel → Bool) (id : Codelet) (args : List ℤ) (ds : List Dims) (k : Kernel) → kernel_of id ≡ Some k → has k ≡ true → fits k args ds ≡ true → fits_in has id args ds ≡ true
fits_known has id args ds k e h f = ap (λ (o : Option Kernel). elim o as (λ _. Bool) [ None ↦ false | Some j ↦ has j && fits j args ds ]) e ∙ and_from _ _ h f

formals_known : (id : Codelet) (os : List (Operand (List ℕ))) (k : Kernel) → kernel_of id ≡ Some k → modes_fit (formals_of k) os ≡ true → modes_fit (formals_in id) os ≡ true
formals_known id os k e m = ap (λ (o : Option Kernel). modes_fit (elim o [ None ↦ [] | Some j ↦ formals_of j ]) os) e ∙ m

-- ---- laws

reduction_by : (o : Option RootState) → (elim (option_map known_of o) as (λ _. Option Reduction) [ None ↦ None | Some k ↦ k.reduction ]) ≡ (elim o as (λ _. Option Reduction) [ None ↦ None | Some r ↦ r.reduction ])
reduction_by None = refl
reduction_by (Some r) = refl

reduction_seen : (n : ℕ) (S : JobState) (name : List ℕ) → reduction_known (scope_of n S) name ≡ reduction_of S name
reduction_seen n S name = reduction_by (root_of S name)

all_lawful : (has : Kernel → Bool) (n : ℕ) (S : JobState) (k : Kernel) (os : List (Operand (List ℕ))) → list_any (is_unlawful has (scope_of n S) k) os ≡ false → list_all (is_lawful has S (codelet_of k)) os ≡ true
all_lawful has n S k [] e = refl
all_lawful has n S k (o ∷ os) e =
    let p = or_parts (is_unlawful has (scope_of n S) k o) (list_any (is_unlawful has (scope_of n S) k) os) e in
    and_from (is_lawful has S (codelet_of k) o) (list_all (is_lawful has S (codelet_of k)) os)
    (ap (λ by. is_lawful_for has (codelet_of k) by o.mode) (sym (reduction_seen n S o.name)) ∙ not-false _ p.0) (all_lawful has n S k os p.1)

unordered_written : (m : Mode) → is_unordered m ≡ true → is_written m ≡ true
unordered_written R e = absurd (cc)
unordered_written W e = refl
unordered_written RW e = refl
unordered_written Scratch e = absurd (cc)
unordered_written Redux e = refl
unordered_written Commute e = refl

more_by : (b : Bool) (o : Operand (List ℕ)) (os : List (Operand (List ℕ))) → 1 ≤ length os → 1 ≤ length (cond b (o ∷ os) os)
more_by true o os e = omega (arith)
more_by false o os e = e

one_by : (o : Operand (List ℕ)) (os : List (Operand (List ℕ))) (b : Bool) → is_unordered o.mode ≡ b → (b || list_any (λ o. is_unordered o.mode) os) ≡ true → (list_any (λ o. is_unordered o.mode) os ≡ true → 1 ≤ length (written_of os)) → 1 ≤ length (written_of (o ∷ os))
one_by o os true h e rest =
    let some : 1 ≤ length (o ∷ written_of os) = omega (arith) in
    subst (λ (b : Bool). 1 ≤ length (cond b (o ∷ written_of os) (written_of os))) (sym (unordered_written o.mode h)) some
one_by o os false h e rest = more_by (is_written o.mode) o (written_of os) (rest e)

-- an operand that may come in any order is written
some_written : (os : List (Operand (List ℕ))) → list_any (λ o. is_unordered o.mode) os ≡ true → 1 ≤ length (written_of os)
some_written [] e = absurd (cc)
some_written (o ∷ os) e = one_by o os (is_unordered o.mode) refl e (some_written os)

only_one : (b : Bool) (n : ℕ) → (b && nat_lt 1 n) ≡ false → b ≡ true → 1 ≤ n → n ≡ 1
only_one true n e h le = grind (arith, nat_tests)
only_one false n e h le = absurd (cc)

stands_alone : (os : List (Operand (List ℕ))) → has_mixed_outputs os ≡ false → list_any (λ o. is_unordered o.mode) os ≡ true → length (written_of os) ≡ 1
stands_alone os e h = only_one (list_any (λ o. is_unordered o.mode) os) (length (written_of os)) e h (some_written os h)

-- a task against which there is no reason
pub record IsJudged (has : Kernel → Bool) (s : Scope) (t : TaskForm) (act : Act (List ℕ)) : Type 0 where
  pub kernel : Kernel
  pub named : kernel_named has t.codelet ≡ Some kernel
  pub is : Task (task_said kernel t) ≡ act
  pub line : first_of (line_reasons s (priority_said t.priority) (operands_said t)) ≡ None
  pub operands : first_of (operand_reasons has s kernel (map integer t.args) t.operands (operands_said t)) ≡ None

by_kernel : (has : Kernel → Bool) (s : Scope) (t : TaskForm) (act : Act (List ℕ)) (o : Option Kernel) → kernel_named has t.codelet ≡ o → first_of (line_reasons s (priority_said t.priority) (operands_said t)) ≡ None → judged_call has s o t ≡ Ok act → IsJudged has s t act
by_kernel has s t act None n l e = absurd (cc)
by_kernel has s t act (Some k) n l e =
    let p = unless_parts (first_of (operand_reasons has s k (map integer t.args) t.operands (operands_said t))) (Task (task_said k t)) act e in
    record { kernel = k; named = n; is = p.1; line = l; operands = p.0 }

pub judged-task : (has : Kernel → Bool) (s : Scope) (t : TaskForm) (act : Act (List ℕ)) → judged_task has s t ≡ Ok act → IsJudged has s t act
judged-task has s t act e =
    let p = by_parts (first_of (line_reasons s (priority_said t.priority) (operands_said t))) (judged_call has s (kernel_named has t.codelet) t) act e in
    by_kernel has s t act (kernel_named has t.codelet) refl p.0 p.1

sound_task : (has : Kernel → Bool) (n : ℕ) (S : JobState) (t : TaskForm) (act : Act (List ℕ)) → IsJudged has (scope_of n S) t act → IsSoundAct has S act
sound_task has n S t act j =
    let k = j.kernel in
    let os = operands_said t in
    let args = map integer t.args in
    let l = none_hold (line_reasons (scope_of n S) (priority_said t.priority) os) j.line in
    let h = none_hold (operand_reasons has (scope_of n S) k args t.operands os) j.operands in
    let has_k = (and_parts (has k) (has_name t.codelet k) (found_passes (λ k. has k && has_name t.codelet k) kernels k j.named)).0 in
    let shaped = and_parts (modes_fit (formals_of k) os) (fits k args (map (dims_in (scope_of n S)) os)) (not-false (is_shaped (scope_of n S) k args os) h.1.1.0) in
    let placed = all_placed n S t.operands l.1.1.0 l.1.1.1.0 h.1.0 in
    subst (IsSoundAct has S) j.is (record {
      fits = fits_known has (codelet_of k) args (map (child_dims S) os) k (kernel_of-codelet_of k) has_k (ap (fits k args) (sym (all_dims_seen n S os)) ∙ shaped.1);
      modes = formals_known (codelet_of k) os k (kernel_of-codelet_of k) shaped.0;
      alone = stands_alone os h.1.1.1.1.1.1.0;
      lawful = all_lawful has n S k os h.1.1.1.1.1.1.1.0;
      apart = h.1.1.1.0;
      placed = placed;
      valued = all_valued n S os h.1.1.1.1.0 placed;
      priority = not-false (is_priority (priority_said t.priority)) l.1.0;
    })

sound_reduction : (n : ℕ) (S : JobState) (name : List ℕ) → first_of (redux_reasons (scope_of n S) name) ≡ None → (is_none (reduction_of S name) ≡ true) × (has_root S name ≡ true)
sound_reduction n S name e =
    let h = none_hold (redux_reasons (scope_of n S) name) e in
    (no_reduction (reduction_of S name) (ap is_some (sym (reduction_seen n S name)) ∙ h.1.1.1.0), there n S name h.1.0 h.1.1.0)

-- ---- acts

pub sound_from_judged : (has : Kernel → Bool) (n : ℕ) (S : JobState) (f : Form) (act : Act (List ℕ)) → judged has (scope_of n S) f ≡ Ok act → IsSoundAct has S act
sound_from_judged has n S (form.Register a) act e =
    let p = unless_parts (first_of (register_reasons (scope_of n S) a.name (registered_by a).dims (parts_said a.parts) (init_said a.init))) (Registers (registered_by a)) act e in
    subst (IsSoundAct has S) p.1 (sound_registration n S a p.0)
sound_from_judged has n S (form.Plan name r c) act e =
    let parts = parts_said (Some (r, c)) in
    let p = unless_parts (first_of (plan_reasons (scope_of n S) name parts)) (Plan name parts) act e in subst (IsSoundAct has S) p.1 (sound_plan n S name parts p.0)
sound_from_judged has n S (form.Redux name by) act e =
    let p = unless_parts (first_of (redux_reasons (scope_of n S) name)) (Reduces name by) act e in subst (IsSoundAct has S) p.1 (sound_reduction n S name p.0)
sound_from_judged has n S (form.Task t) act e = sound_task has n S t act (judged-task has (scope_of n S) t act e)
sound_from_judged has n S (form.Print name) act e =
    let p = unless_parts (first_of (print_reasons (scope_of n S) name)) (Print name) act e in subst (IsSoundAct has S) p.1 (sound_print n S name p.0)
sound_from_judged has n S (form.Invalidate name) act e =
    let p = unless_parts (first_of (name_reasons (scope_of n S) name)) (Invalidate name) act e in subst (IsSoundAct has S) p.1 (sound_name n S name p.0)
sound_from_judged has n S (form.Unregister name) act e =
    let p = unless_parts (first_of (name_reasons (scope_of n S) name)) (Unregister name) act e in subst (IsSoundAct has S) p.1 (sound_name n S name p.0)

pub sound_from_allowed : (has : Kernel → Bool) (n : ℕ) (S : JobState) (act : Act (List ℕ)) → IsAllowed has (scope_of n S) act → IsSoundAct has S act
sound_from_allowed has n S act h = sound_from_judged has n S h.form act h.judged
