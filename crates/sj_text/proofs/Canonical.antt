-- The canonical form of an act that is allowed is such as words spell, and does the act again.
use Rattle.std.proofs.Common.{◌≡◌, ℕ, ◌<◌, Bool, true, false, not, cond, ◌&&◌, ◌||◌, Option, Some, None, option_map, Ok, List, [], ◌∷◌, ℤ, pos, map, drop, unwrap_or, nat_eq, refl, sym, ap, subst, ◌∙◌, arith}
use Rattle.std.specs.Prelude.{nat_lt, ◌^◌}
use Rattle.std.specs.Fmt.{decimal}
use Rattle.std.specs.List.{list_all, list_any}
use Rattle.std.specs.Ordering.{int_eq}
use Rattle.std.specs.Str.{bytes_eq}
use Rattle.std.proofs.lemmas.Bool.Decides.{Decides-eqb, Decides-int_eq, nat_tests}
use Rattle.std.proofs.lemmas.Bool.{and_from, and_parts}
use Rattle.sj_base.specs.declared.tile.Dims.{Dims}
use Rattle.sj_base.proofs.Texts.{same_text}
use Rattle.sj_codelet.specs.declared.kernel.Kernel.{Kernel}
use Rattle.sj_codelet.specs.Kernel.{codelet_of, has_name, kernels, kernel_name}
use Rattle.sj_codelet.proofs.Table.{kernel_of-codelet_of}
use Rattle.sj_plan.specs.declared.parts.Parts.{Parts}
use Rattle.sj_job.specs.declared.form.ArrayForm.{ArrayForm}
use Rattle.sj_job.specs.declared.form.Form.{Form}
use Rattle.sj_job.specs.declared.form.Form.TheVariants as form
use Rattle.sj_job.specs.declared.form.InitForm.{InitForm}
use Rattle.sj_job.specs.declared.form.InitForm.TheVariants.{Values, Fill, Nothing}
use Rattle.sj_job.specs.declared.form.OperandForm.{OperandForm}
use Rattle.sj_job.specs.declared.form.Size.{Size}
use Rattle.sj_job.specs.declared.form.Size.TheVariants as size
use Rattle.sj_job.specs.declared.form.TaskForm.{TaskForm}
use Rattle.sj_job.specs.declared.reason.Reason.{Reason}
use Rattle.sj_job.specs.declared.reason.Reason.TheVariants.{OperandCount, Part}
use Rattle.sj_meaning.specs.Act.{Act, Register, Plan, Redux, Task, Print, Invalidate, Unregister}
use Rattle.sj_job.specs.Grammar.{child_pieces, has_values, is_piece, is_proper, is_proper_operand}
use Rattle.sj_job.specs.Judge.{Scope, first_of, is_child_said, is_counted, is_missing, judged, judged_by, judged_call, kernel_named, known_of, line_reasons, name_reasons, operand_reasons, plan_reasons, print_reasons, redux_reasons, register_reasons, scope_of, unless}
use Rattle.sj_job.specs.Sentence.{are_counts, index_said, init_said, is_numbered, is_numbered_init, is_numbered_priority, is_numbered_size, kind_of, operand_said, col_count, parts_said, place_said, priority_said, registered_by, row_count, task_said}
use Rattle.sj_meaning.specs.Sound.{IsSoundAct, has_child}
use Rattle.sj_meaning.specs.State.{RootState, JobState, is_child, root_of}
use Rattle.sj_meaning.specs.Statement.{Operand, Register as Registration, TaskLine}
use Rattle.sj_job.specs.Well.{IsAllowed}
use Rattle.sj_job.specs.Word.{count, is_count, is_name}
use Rattle.sj_job.proofs.Numerals.{count-below, decimal-counts, decimal-is_count, decimal-piece}
use Rattle.sj_job.proofs.Sounding.{found_passes, judged-task, sound_from_allowed, unless_parts}
use Rattle.sj_job.proofs.Telling.{said-says}
use Rattle.sj_show.specs.Words.{codelet_name, inner_word, integer_word, kernel_word}
use Rattle.sj_text.specs.Forms.{Plans, array_form, form_of_act, init_form, is_whole, operand_form, pair_under, size_form, task_form}
use Rattle.sj_text.proofs.Following.{Follows}
use Rattle.sj_text.proofs.Numbers.{again-is_integer, again-says, all-integers, all-pieces, all-say}

-- a form that words spell, with numbers where it has numbers, and that does this act
pub record Does (has : Kernel → Bool) (s : Scope) (f : Form) (act : Act (List ℕ)) : Type 0 where
  pub proper : is_proper f ≡ true
  pub numbered : is_numbered f ≡ true
  pub judged : judged has s f ≡ Ok act

-- ---- pairs of numbers under a plan

whole-parts : (p : Parts) → is_whole p ≡ true → (p.r ≡ 1) × (p.c ≡ 1)
whole-parts p e =
    let q = and_parts (nat_eq p.r 1) (nat_eq p.c 1) e in
    ((Decides-eqb p.r 1).0 q.0, (Decides-eqb p.c 1).0 q.1)

abbrev pair_by : Bool → ℕ × ℕ → Option (List ℕ × List ℕ)
pair_by b n = cond b None (Some (decimal n.0, decimal n.1))

pair-counts : (b : Bool) (n : ℕ × ℕ) → n.0 < 2 ^ 63 → n.1 < 2 ^ 63 → are_counts (pair_by b n) ≡ true
pair-counts true n h k = refl
pair-counts false n h k = and_from (is_count (decimal n.0)) (is_count (decimal n.1)) (decimal-is_count n.0 h) (decimal-is_count n.1 k)

parts-by : (b : Bool) (p : Parts) → is_whole p ≡ b → p.r < 2 ^ 63 → p.c < 2 ^ 63 → parts_said (pair_by b (p.r, p.c)) ≡ p
parts-by true p e h k = let w = whole-parts p e in λ i. record { r = sym w.0 i; c = sym w.1 i }
parts-by false p e h k = λ i. record { r = decimal-counts p.r h i; c = decimal-counts p.c k i }

pieces-by : (b : Bool) (n : ℕ × ℕ) → n.0 < 2 ^ 63 → n.1 < 2 ^ 63 → list_all is_piece (child_pieces (pair_by b n)) ≡ true
pieces-by true n h k = refl
pieces-by false n h k = and_from (is_piece (decimal n.0)) (list_all is_piece (decimal n.1 ∷ [])) (decimal-piece n.0 (omega (arith, h))) (and_from (is_piece (decimal n.1)) true (decimal-piece n.1 (omega (arith, k))) refl)

-- what `by r c` says is below 2^63
said-parts-fit : (p : Option (List ℕ × List ℕ)) → ((parts_said p).r < 2 ^ 63) × ((parts_said p).c < 2 ^ 63)
said-parts-fit None = (omega arith, omega arith)
said-parts-fit (Some p) = (count-below p.0, count-below p.1)

-- and so is an index
index-fits : (child : Option (List ℕ × List ℕ)) → ((unwrap_or (index_said child) (0, 0)).0 < 2 ^ 63) × ((unwrap_or (index_said child) (0, 0)).1 < 2 ^ 63)
index-fits None = (omega arith, omega arith)
index-fits (Some p) = (count-below p.0, count-below p.1)

-- ---- a registration

init-again : (i : InitForm) → init_said (init_form (init_said i)) ≡ init_said i
init-again (Values vs) = ap Rattle.sj_meaning.specs.declared.job.Init.TheVariants.Values (all-say vs)
init-again (Fill a b) = λ i. Rattle.sj_meaning.specs.declared.job.Init.TheVariants.Fill (again-says a i) (again-says b i)
init-again Nothing = refl

init-numbered : (i : InitForm) → is_numbered_init (init_form (init_said i)) ≡ true
init-numbered (Values vs) = all-integers vs
init-numbered (Fill a b) = and_from _ _ (again-is_integer a) (again-is_integer b)
init-numbered Nothing = refl

init-valued : (i : InitForm) → has_values i ≡ true → has_values (init_form (init_said i)) ≡ true
init-valued (Values []) h = h
init-valued (Values (v ∷ vs)) h = refl
init-valued (Fill a b) h = refl
init-valued Nothing h = refl

abbrev dims_said : Size → Dims
dims_said s = record { rows = row_count s; cols = col_count s }

kind-again : (s : Size) → kind_of (size_form (kind_of s) (dims_said s)) ≡ kind_of s
kind-again (size.Vector n) = refl
kind-again (size.Matrix r c) = refl

rows-again : (s : Size) → row_count (size_form (kind_of s) (dims_said s)) ≡ row_count s
rows-again (size.Vector n) = refl
rows-again (size.Matrix r c) = decimal-counts (count r) (count-below r)

cols-again : (s : Size) → col_count (size_form (kind_of s) (dims_said s)) ≡ col_count s
cols-again (size.Vector n) = decimal-counts (count n) (count-below n)
cols-again (size.Matrix r c) = decimal-counts (count c) (count-below c)

size-numbered : (s : Size) → is_numbered_size (size_form (kind_of s) (dims_said s)) ≡ true
size-numbered (size.Vector n) = decimal-is_count (count n) (count-below n)
size-numbered (size.Matrix r c) = and_from _ _ (decimal-is_count (count r) (count-below r)) (decimal-is_count (count c) (count-below c))

parts-again : (o : Option (List ℕ × List ℕ)) → let p = parts_said o in parts_said (pair_under p (p.r, p.c)) ≡ p
parts-again o = let fits = said-parts-fit o in parts-by (is_whole (parts_said o)) (parts_said o) refl fits.0 fits.1

array-again : (a : ArrayForm) → registered_by (array_form (registered_by a)) ≡ registered_by a
array-again a = λ i. record {
  name = a.name;
  kind = kind-again a.size i;
  dims = record { rows = rows-again a.size i; cols = cols-again a.size i };
  parts = parts-again a.parts i;
  init = init-again a.init i;
}

array-does : (has : Kernel → Bool) (s : Scope) (a : ArrayForm) → is_proper (form.Register a) ≡ true → first_of (register_reasons s a.name (registered_by a).dims (parts_said a.parts) (init_said a.init)) ≡ None → Does has s (form.Register (array_form (registered_by a))) (Register (registered_by a))
array-does has s a h none =
    let r = registered_by a in
    let q = and_parts (is_name a.name) (has_values a.init) h in
    let fits = said-parts-fit a.parts in
    record {
      proper = and_from (is_name a.name) (has_values (init_form r.init)) q.0 (init-valued a.init q.1);
      numbered = and_from _ _ (and_from _ _ (size-numbered a.size) (pair-counts (is_whole r.parts) (r.parts.r, r.parts.c) fits.0 fits.1)) (init-numbered a.init);
      judged =
          ap (λ (x : Registration (List ℕ)). unless (first_of (register_reasons s a.name x.dims x.parts x.init)) (Register x)) (array-again a)
          ∙ ap (λ (o : Option Reason). unless o (Register r)) none;
    }

-- ---- a plan line

plan-does : (has : Kernel → Bool) (s : Scope) (name r c : List ℕ) → is_name name ≡ true → let p = parts_said (Some (r, c)) in first_of (plan_reasons s name p) ≡ None → Does has s (form.Plan name (decimal (count r)) (decimal (count c))) (Plan name p)
plan-does has s name r c h none =
    let p = parts_said (Some (r, c)) in
    let same : parts_said (Some (decimal (count r), decimal (count c))) ≡ p = λ i. record { r = decimal-counts (count r) (count-below r) i; c = decimal-counts (count c) (count-below c) i } in
    record {
      proper = h;
      numbered = and_from _ _ (decimal-is_count (count r) (count-below r)) (decimal-is_count (count c) (count-below c));
      judged = ap (λ (x : Parts). unless (first_of (plan_reasons s name x)) (Plan name x)) same ∙ ap (λ (o : Option Reason). unless o (Plan name p)) none;
    }

-- ---- the operands of a task

first-place : (p : Parts) (n : ℕ × ℕ) → is_whole p ≡ true → is_child p n ≡ true → (n.0 ≡ 0) × (n.1 ≡ 0)
first-place p n e h =
    let w = whole-parts p e in
    let q = and_parts (nat_lt n.0 p.r) (nat_lt n.1 p.c) h in
    (below-one n.0 p.r w.0 q.0, below-one n.1 p.c w.1 q.1)
  where
    below-one : (m k : ℕ) → k ≡ 1 → nat_lt m k ≡ true → m ≡ 0
    below-one m k e h = grind (arith, nat_tests)

place-by : (b : Bool) (p : Parts) (n : ℕ × ℕ) → is_whole p ≡ b → is_child p n ≡ true → n.0 < 2 ^ 63 → n.1 < 2 ^ 63 → unwrap_or (index_said (pair_by b n)) (0, 0) ≡ n
place-by true p n e c h k = let at = first-place p n e c in λ i. (sym at.0 i, sym at.1 i)
place-by false p n e c h k = λ i. (decimal-counts n.0 h i, decimal-counts n.1 k i)

said-by : (b : Bool) (p : Parts) (n : ℕ × ℕ) → is_whole p ≡ b → is_child p n ≡ true → n.0 < 2 ^ 63 → n.1 < 2 ^ 63 → is_child_said p (index_said (pair_by b n)) ≡ true
said-by true p n e c h k = e
said-by false p n e c h k = (λ i. is_child p (decimal-counts n.0 h i, decimal-counts n.1 k i)) ∙ c

-- the operand's name has a root whose plan is active, with this child
record IsThere (n : ℕ) (S : JobState) (plans : Plans) (o : Operand (List ℕ)) : Type 0 where
  root : RootState
  there : root_of S o.name ≡ Some root
  under : plans o.name ≡ root.parts
  child : is_child (plans o.name) o.place ≡ true

there-by : (n : ℕ) (S : JobState) (plans : Plans) (o : Operand (List ℕ)) (x : Option RootState) → root_of S o.name ≡ x → Follows plans S → (elim x as (λ _. Bool) [ None ↦ false | Some r ↦ is_child r.parts o.place ]) ≡ true → IsThere n S plans o
there-by n S plans o None e f h = absurd (cc)
there-by n S plans o (Some r) e f h = record { root = r; there = e; under = f o.name r e; child = ap (λ (p : Parts). is_child p o.place) (f o.name r e) ∙ h }

abbrev operand-form : Plans → OperandForm → OperandForm
operand-form plans o = operand_form plans (operand_said o)

abbrev operand-forms : Plans → List OperandForm → List OperandForm
operand-forms plans os = map (operand_form plans) (map operand_said os)

is-there : (n : ℕ) (S : JobState) (plans : Plans) (o : OperandForm) → Follows plans S → has_child S (operand_said o) ≡ true → IsThere n S plans (operand_said o)
is-there n S plans o f h = there-by n S plans (operand_said o) (root_of S o.name) refl f h

operand-says : (n : ℕ) (S : JobState) (plans : Plans) (o : OperandForm) → IsThere n S plans (operand_said o) → operand_said (operand-form plans o) ≡ operand_said o
operand-says n S plans o h =
    let fits = index-fits o.child in
    λ i. record { name = o.name; place = place-by (is_whole (plans o.name)) (plans o.name) (place_said o) refl h.child fits.0 fits.1 i; mode = o.mode }

abbrev missing-by : Option RootState → Option (ℕ × ℕ) → Bool
missing-by x index = elim (option_map known_of x) as (λ _. Bool) [ None ↦ false | Some k ↦ not (is_child_said k.parts index) ]

not-missing : (n : ℕ) (S : JobState) (plans : Plans) (o : OperandForm) → IsThere n S plans (operand_said o) → is_missing (scope_of n S) (operand-form plans o) ≡ false
not-missing n S plans o h =
    let fits = index-fits o.child in
    let index = index_said (pair_under (plans o.name) (place_said o)) in
    ap (λ (x : Option RootState). missing-by x index) h.there
    ∙ ap (λ (p : Parts). not (is_child_said p index)) (sym h.under)
    ∙ ap not (said-by (is_whole (plans o.name)) (plans o.name) (place_said o) refl h.child fits.0 fits.1)

-- what holds of all operands' forms
record AreAgain (n : ℕ) (S : JobState) (plans : Plans) (os : List OperandForm) : Type 0 where
  say : map operand_said (operand-forms plans os) ≡ map operand_said os
  present : list_any (is_missing (scope_of n S)) (operand-forms plans os) ≡ false

are-again : (n : ℕ) (S : JobState) (plans : Plans) (os : List OperandForm) → Follows plans S → list_all (has_child S) (map operand_said os) ≡ true → AreAgain n S plans os
are-again n S plans [] f h = record { say = refl; present = refl }
are-again n S plans (o ∷ os) f h =
    let q = and_parts (has_child S (operand_said o)) (list_all (has_child S) (map operand_said os)) h in
    let here = is-there n S plans o f q.0 in
    let rest = are-again n S plans os f q.1 in
    record {
      say = λ i. operand-says n S plans o here i ∷ rest.say i;
      present = λ i. not-missing n S plans o here i || rest.present i;
    }

are-proper : (plans : Plans) (os : List OperandForm) → list_all is_proper_operand os ≡ true → list_all is_proper_operand (operand-forms plans os) ≡ true
are-proper plans [] h = refl
are-proper plans (o ∷ os) h =
    let q = and_parts (is_proper_operand o) (list_all is_proper_operand os) h in
    let fits = index-fits o.child in
    and_from (is_proper_operand (operand-form plans o)) (list_all is_proper_operand (operand-forms plans os))
    (and_from (is_name o.name) _ (and_parts (is_name o.name) (list_all is_piece (child_pieces o.child)) q.0).0 (pieces-by (is_whole (plans o.name)) (place_said o) fits.0 fits.1))
    (are-proper plans os q.1)

are-counted : (plans : Plans) (os : List OperandForm) → list_all (λ (o : OperandForm). are_counts o.child) (operand-forms plans os) ≡ true
are-counted plans [] = refl
are-counted plans (o ∷ os) =
    let fits = index-fits o.child in
    and_from (are_counts (operand-form plans o).child) (list_all (λ (o : OperandForm). are_counts o.child) (operand-forms plans os))
    (pair-counts (is_whole (plans o.name)) (place_said o) fits.0 fits.1) (are-counted plans os)

-- ---- a task

abbrev priority-by : Bool → ℤ → Option (List ℕ)
priority-by b z = cond b None (Some (integer_word z))

priority-says : (p : Option (List ℕ)) (b : Bool) → int_eq (priority_said p) (pos 0) ≡ b → priority_said (priority-by b (priority_said p)) ≡ priority_said p
priority-says p true e = sym ((Decides-int_eq (priority_said p) (pos 0)).0 e)
priority-says None false e = absurd (cc)
priority-says (Some w) false e = again-says w

priority-counted : (p : Option (List ℕ)) (b : Bool) → int_eq (priority_said p) (pos 0) ≡ b → is_numbered_priority (priority-by b (priority_said p)) ≡ true
priority-counted p true e = refl
priority-counted None false e = absurd (cc)
priority-counted (Some w) false e = again-is_integer w

called-by : (name inner : List ℕ) (o : Option (List ℕ)) → (elim o as (λ _. Bool) [ None ↦ false | Some own ↦ bytes_eq own name ]) ≡ true → unwrap_or o inner ≡ name
called-by name inner None e = absurd (cc)
called-by name inner (Some own) e = same_text own name e

called : (k : Kernel) (name : List ℕ) → has_name name k ≡ true → codelet_name (codelet_of k) ≡ name
called k name h =
    ap (λ (o : Option Kernel). elim o as (λ _. List ℕ) [ None ↦ decimal (codelet_of k).0 | Some k ↦ kernel_word k ]) (kernel_of-codelet_of k)
    ∙ called-by name (inner_word k) (kernel_name k) h

-- another second condition, which doesn't hold either
none-besides : (a b c : Bool) (x y : Reason) (cs : List (Bool × Reason)) → first_of ((a, x) ∷ (b, y) ∷ cs) ≡ None → c ≡ false → first_of ((a, x) ∷ (c, y) ∷ cs) ≡ None
none-besides true b c x y cs e h = absurd (cc)
none-besides false true c x y cs e h = absurd (cc)
none-besides false false c x y cs e h = ap (λ (t : Bool). first_of ((t, y) ∷ cs)) h ∙ e

task-does : (has : Kernel → Bool) (n : ℕ) (S : JobState) (plans : Plans) (t : TaskForm) (act : Act (List ℕ)) → Follows plans S → is_proper (form.Task t) ≡ true → judged has (scope_of n S) (form.Task t) ≡ Ok act → IsSoundAct has S act → Does has (scope_of n S) (form_of_act plans act) act
task-does has n S plans t act f h e sound =
    let s = scope_of n S in
    let j = judged-task has s t act e in
    let k = j.kernel in
    let line = task_said k t in
    let again = task_form plans line in
    let name = and_parts (has k) (has_name t.codelet k) (found_passes (λ k. has k && has_name t.codelet k) kernels k j.named) in
    let same = called k t.codelet name.1 in
    let placed = subst (IsSoundAct has S) (sym j.is) sound in
    let are = are-again n S plans t.operands f placed.placed in
    let p = and_parts (is_name t.codelet && list_all is_piece t.args) (list_all is_proper_operand t.operands) h in
    let q = and_parts (is_name t.codelet) (list_all is_piece t.args) p.0 in
    let urged = priority-says t.priority (int_eq line.priority (pos 0)) refl in
    let says : task_said k again ≡ line = λ i. record { codelet = codelet_of k; args = all-say t.args i; operands = are.say i; priority = urged i } in
    subst (λ (a : Act (List ℕ)). Does has s (form_of_act plans a) a) j.is (record {
      proper = and_from _ _ (and_from _ _ (ap is_name same ∙ q.0) (all-pieces t.args)) (are-proper plans t.operands p.1);
      numbered = and_from _ _ (and_from _ _ (all-integers t.args) (are-counted plans t.operands)) (priority-counted t.priority (int_eq line.priority (pos 0)) refl);
      judged =
          ap (λ (x : TaskLine (List ℕ)). judged_by (first_of (line_reasons s x.priority x.operands)) (judged_call has s (kernel_named has again.codelet) again)) says
          ∙ ap (λ (o : Option Reason). judged_by o (judged_call has s (kernel_named has again.codelet) again)) j.line
          ∙ ap (λ (c : List ℕ). judged_call has s (kernel_named has c) again) same
          ∙ ap (λ (o : Option Kernel). judged_call has s o again) j.named
          ∙ ap (λ (x : TaskLine (List ℕ)). unless (first_of (operand_reasons has s k x.args again.operands x.operands)) (Task x)) says
          ∙ ap (λ (o : Option Reason). unless o (Task line)) (none-besides (not (is_counted k line.args line.operands)) (list_any (is_missing s) t.operands) (list_any (is_missing s) again.operands) OperandCount Part (drop 2 (operand_reasons has s k line.args t.operands line.operands)) j.operands are.present);
    })

-- ---- an act

by-form : (has : Kernel → Bool) (n : ℕ) (S : JobState) (plans : Plans) (f : Form) (act : Act (List ℕ)) → Follows plans S → is_proper f ≡ true → is_numbered f ≡ true → judged has (scope_of n S) f ≡ Ok act → IsSoundAct has S act → Does has (scope_of n S) (form_of_act plans act) act
by-form has n S plans (form.Register a) act f h k e sound =
    let s = scope_of n S in
    let p = unless_parts (first_of (register_reasons s a.name (registered_by a).dims (parts_said a.parts) (init_said a.init))) (Register (registered_by a)) act e in
    subst (λ (a : Act (List ℕ)). Does has s (form_of_act plans a) a) p.1 (array-does has s a h p.0)
by-form has n S plans (form.Plan name r c) act f h k e sound =
    let s = scope_of n S in
    let parts = parts_said (Some (r, c)) in
    let p = unless_parts (first_of (plan_reasons s name parts)) (Plan name parts) act e in
    subst (λ (a : Act (List ℕ)). Does has s (form_of_act plans a) a) p.1 (plan-does has s name r c h p.0)
by-form has n S plans (form.Redux name by) act f h k e sound =
    let s = scope_of n S in
    let p = unless_parts (first_of (redux_reasons s name)) (Redux name by) act e in
    subst (λ (a : Act (List ℕ)). Does has s (form_of_act plans a) a) p.1 (record { proper = h; numbered = refl; judged = ap (λ (o : Option Reason). unless o (Redux name by)) p.0 })
by-form has n S plans (form.Task t) act f h k e sound = task-does has n S plans t act f h e sound
by-form has n S plans (form.Print name) act f h k e sound =
    let s = scope_of n S in
    let p = unless_parts (first_of (print_reasons s name)) (Print name) act e in
    subst (λ (a : Act (List ℕ)). Does has s (form_of_act plans a) a) p.1 (record { proper = h; numbered = refl; judged = ap (λ (o : Option Reason). unless o (Print name)) p.0 })
by-form has n S plans (form.Invalidate name) act f h k e sound =
    let s = scope_of n S in
    let p = unless_parts (first_of (name_reasons s name)) (Invalidate name) act e in
    subst (λ (a : Act (List ℕ)). Does has s (form_of_act plans a) a) p.1 (record { proper = h; numbered = refl; judged = ap (λ (o : Option Reason). unless o (Invalidate name)) p.0 })
by-form has n S plans (form.Unregister name) act f h k e sound =
    let s = scope_of n S in
    let p = unless_parts (first_of (name_reasons s name)) (Unregister name) act e in
    subst (λ (a : Act (List ℕ)). Does has s (form_of_act plans a) a) p.1 (record { proper = h; numbered = refl; judged = ap (λ (o : Option Reason). unless o (Unregister name)) p.0 })

pub canonical-does : (has : Kernel → Bool) (n : ℕ) (S : JobState) (plans : Plans) (act : Act (List ℕ)) → Follows plans S → IsAllowed has (scope_of n S) act → Does has (scope_of n S) (form_of_act plans act) act
canonical-does has n S plans act f h =
    let says = said-says h.words (Ok h.form) h.spelled in
    by-form has n S plans h.form act f says.spelled.proper says.numbered h.judged (sound_from_allowed has n S act h)
