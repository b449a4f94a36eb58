-- Generated statements are such as lines may say.
use Rattle.std.proofs.Common.{◌≡◌, ℕ, zero, suc, ◌+◌, ◌*◌, ◌/◌, ◌%◌, ◌<◌, ◌≤◌, Bool, true, false, not, cond, ◌&&◌, ◌||◌, Option, Some, None, is_some, Ok, List, [], ◌∷◌, ◌++◌, ℤ, pos, length, map as each_of, refl, sym, ap, subst, ◌∙◌, arith}
use Rattle.std.specs.Prelude.{nat_le, nat_lt, ◌^◌}
use Rattle.std.specs.Fmt.{decimal}
use Rattle.std.specs.List.{AllByRecursion, flat_map, list_all, list_any, range_with_len}
use Rattle.std.proofs.lemmas.Bool.{and_right, not_from_true, and_from}
use Rattle.std.proofs.lemmas.Bool.Decides.{nat_tests}
use Rattle.std.proofs.lemmas.List.{length-append}
use Rattle.std.proofs.lemmas.Nat.{mul-le}
use Rattle.sj_base.specs.declared.tile.Dims.{Dims}
use Rattle.sj_base.specs.Mode.{is_redux}
use Rattle.sj_base.specs.Window.{item, table}
use Rattle.sj_base.proofs.Tables.{item-table, table-same}
use Rattle.sj_codelet.specs.declared.kernel.Kernel.{Kernel}
use Rattle.sj_codelet.specs.Kernel.{codelet_of, fits, formals_of}
use Rattle.sj_plan.specs.Parts.{IsPlace}
use Rattle.sj_plan.specs.Rect.{rect_dims}
use Rattle.sj_job.specs.declared.form.ArrayForm.{ArrayForm}
use Rattle.sj_job.specs.declared.form.InitForm.{InitForm}
use Rattle.sj_job.specs.declared.form.OperandForm.{OperandForm}
use Rattle.sj_job.specs.declared.form.Size.TheVariants.{Matrix}
use Rattle.sj_meaning.specs.declared.job.Init.{Init}
use Rattle.sj_meaning.specs.declared.job.Kind.TheVariants as kind
use Rattle.sj_job.specs.declared.form.TaskForm.{TaskForm}
use Rattle.sj_job.specs.declared.form.Form.TheVariants as form
use Rattle.sj_job.specs.declared.reason.Reason.{Reason}
use Rattle.sj_meaning.specs.Act.{Act, Register, Task, Print}
use Rattle.sj_job.specs.Grammar.{has_values, is_proper_operand, form_words}
use Rattle.sj_job.specs.Judge.{Known, Scope, child_lacks_value, dims_in, first_of, has_mixed_outputs, has_names, is_counted, is_crowded, is_cut, is_full, is_lacking, is_miscounted, is_missing, is_outside, is_uncut, is_unknown, is_unlawful, judged, judged_by, judged_call, kernel_named, known_of, lacks_reduction, line_reasons, operand_reasons, print_reasons, register_reasons, scope_of, unless}
use Rattle.sj_meaning.specs.Sound.{is_aliased, is_side, modes_fit, needs_value}
use Rattle.sj_meaning.specs.Meaning.{apply}
use Rattle.sj_job.specs.Sentence.{are_counts, init_said, is_numbered_init, is_numbered_size, operand_said, registered_by}
use Rattle.sj_meaning.specs.State.{JobState, is_child, is_valued, is_valued_child}
use Rattle.sj_meaning.specs.Statement.{Operand, Register as Registration, TaskLine}
use Rattle.sj_job.specs.Well.{IsAllowed, IsWell}
use Rattle.sj_job.specs.Word.{is_count, is_name}
use Rattle.sj_job.proofs.Numerals.{decimal-counts, decimal-is_count, decimal-piece}
use Rattle.sj_job.proofs.Telling.{says-said}
use Rattle.sj_apps.specs.Generated.{cut, matrix_act, numbered, square}
use Rattle.sj_apps.proofs.Starting.{IsCut, registration}
use Rattle.sj_apps.proofs.Tiling.{rect, rect-inside, root, run, run-append}

-- ---- no reason holds

first-none : (cs : List (Bool × Reason)) → AllByRecursion (λ c. c.0 ≡ false) cs → first_of cs ≡ None
first-none [] h = refl
first-none (c ∷ cs) h = ap (λ b. cond b (Some c.1) (first_of cs)) h.0 ∙ first-none cs h.1

any-none : {X : Type 0} (t : X → Bool) (xs : List X) → AllByRecursion (λ x. t x ≡ false) xs → list_any t xs ≡ false
any-none t [] h = refl
any-none t (x ∷ xs) h = ap (λ b. b || list_any t xs) h.0 ∙ any-none t xs h.1

each-to : {X Y : Type 0} (P : X → Type 0) (Q : Y → Type 0) (f : X → Y) → ((x : X) → P x → Q (f x)) → (xs : List X) → AllByRecursion P xs → AllByRecursion Q (each_of f xs)
each-to P Q f h [] a = tt
each-to P Q f h (x ∷ xs) a = (h x a.0, each-to P Q f h xs a.1)

all-each : {X : Type 0} (t : X → Bool) (xs : List X) → AllByRecursion (λ x. t x ≡ true) xs → list_all t xs ≡ true
all-each t [] h = refl
all-each t (x ∷ xs) h = and_from (t x) (list_all t xs) h.0 (all-each t xs h.1)

each-same : {X Y : Type 0} (P : X → Type 0) (f g : X → Y) → ((x : X) → P x → f x ≡ g x) → (xs : List X) → AllByRecursion P xs → each_of f xs ≡ each_of g xs
each-same P f g h [] a = refl
each-same P f g h (x ∷ xs) a = λ i. h x a.0 i ∷ each-same P f g h xs a.1 i

-- ---- what is seen of a matrix

all-range : {X : Type 0} (t : X → Bool) (g : ℕ → X) (a m : ℕ) → ((k : ℕ) → t (g k) ≡ true) → list_all t (each_of g (range_with_len a m)) ≡ true
all-range t g a zero h = refl
all-range t g a (suc m) h = and_from (t (g a)) (list_all t (each_of g (range_with_len (a + 1) m))) (h a) (all-range t g (a + 1) m h)

pub valued : (n p : ℕ) (f : ℕ → ℕ → ℤ) → is_valued (root n p f) ≡ true
valued n p f = all-range (λ (e : Option ℤ). is_some e) (λ q. Some (f (q / n) (q % n))) 0 (n * n) (λ k. refl)

child-test : (p : ℕ) (place : ℕ × ℕ) → IsPlace (cut p) place → is_child (cut p) place ≡ true
child-test p place h = grind (arith, nat_tests, h.0, h.1)

pub valued-child : (n p : ℕ) (f : ℕ → ℕ → ℤ) (place : ℕ × ℕ) → IsPlace (cut p) place → is_valued_child (root n p f) place ≡ true
valued-child n p f place at =
    let r = rect n p place in
    let inside = rect-inside n p place at in
    let es = table (square n) (λ i j. Some (f i j)) in
    and_from (is_child (cut p) place) (list_all (λ (e : Option ℤ). is_some e) (table (rect_dims r) (λ i j. item None n es (r.row + i) (r.col + j)))) (child-test p place at)
    (ap (list_all (λ (e : Option ℤ). is_some e)) (table-same None (rect_dims r) (λ i j. item None n es (r.row + i) (r.col + j)) (λ i j. Some (f (r.row + i) (r.col + j))) (λ i j hi hj.
    item-table None (square n) (λ i j. Some (f i j)) (r.row + i) (r.col + j) (omega (arith, inside.0)) (omega (arith, inside.1))))
    ∙ all-range (λ (e : Option ℤ). is_some e) (λ q. Some (f (r.row + q / r.cols) (r.col + q % r.cols))) 0 (r.rows * r.cols) (λ k. refl))

-- ---- tasks

-- an operand's name is that of a matrix, and its place one of its tiles
pub record IsSeen (n p : ℕ) (s : Scope) (o : Operand (List ℕ)) : Type 0 where
  pub elements : ℕ → ℕ → ℤ
  pub known : s.known o.name ≡ Some (known_of (root n p elements))
  pub unended : s.ended o.name ≡ false
  pub name : is_name o.name ≡ true
  pub place : IsPlace (cut p) o.place

abbrev form-of : Operand (List ℕ) → OperandForm
form-of o = record { name = o.name; child = Some (decimal o.place.0, decimal o.place.1); mode = o.mode }

module _ (n p : ℕ) (few : p < 2 ^ 63) (s : Scope) where
  form-says : (o : Operand (List ℕ)) → IsSeen n p s o → operand_said (form-of o) ≡ o
  form-says o h =
      let i = decimal-counts o.place.0 (omega (arith, h.place.0)) in
      let j = decimal-counts o.place.1 (omega (arith, h.place.1)) in
      λ t. record { name = o.name; place = (i t, j t); mode = o.mode }

  form-proper : (o : Operand (List ℕ)) → IsSeen n p s o → is_proper_operand (form-of o) ≡ true
  form-proper o h =
      let i = decimal-piece o.place.0 (omega (arith, h.place.0)) in
      let j = decimal-piece o.place.1 (omega (arith, h.place.1)) in
      and_from (is_name o.name) _ h.name (and_from _ _ i (and_from _ _ j refl))

  form-counts : (o : Operand (List ℕ)) → IsSeen n p s o → are_counts (form-of o).child ≡ true
  form-counts o h = and_from _ _ (decimal-is_count o.place.0 (omega (arith, h.place.0))) (decimal-is_count o.place.1 (omega (arith, h.place.1)))

  abbrev missing-with : Option Known → Option (ℕ × ℕ) → Bool
  missing-with known index = elim known as (λ _. Bool) [ None ↦ false | Some k ↦ not (Rattle.sj_job.specs.Judge.is_child_said k.parts index) ]

  not-missing : (o : Operand (List ℕ)) → IsSeen n p s o → is_missing s (form-of o) ≡ false
  not-missing o h =
      let i = decimal-counts o.place.0 (omega (arith, h.place.0)) in
      let j = decimal-counts o.place.1 (omega (arith, h.place.1)) in
      (λ t. missing-with (h.known t) (Some (i t, j t))) ∙ not_from_true (is_child (cut p) o.place) (child-test p o.place h.place)

  dims-seen : (o : Operand (List ℕ)) → IsSeen n p s o → dims_in s o ≡ rect_dims (rect n p o.place)
  dims-seen o h = ap (λ (x : Option Known). elim x as (λ _. Dims) [ None ↦ record { rows = 0; cols = 0 } | Some k ↦ rect_dims (Rattle.sj_plan.specs.Rect.child k.dims k.parts o.place) ]) h.known

  not-lacking : (o : Operand (List ℕ)) → IsSeen n p s o → is_lacking s o ≡ false
  not-lacking o h =
      and_right (needs_value o.mode) (child_lacks_value s o)
      (ap (λ (x : Option Known). elim x as (λ _. Bool) [ None ↦ false | Some k ↦ not (k.child o.place) ]) h.known ∙ not_from_true (is_valued_child (root n p h.elements) o.place) (valued-child n p h.elements o.place h.place))

  not-unknown : (o : Operand (List ℕ)) → IsSeen n p s o → is_unknown s o.name ≡ false
  not-unknown o h = ap (λ (x : Option Known). not (is_some x) && not (s.ended o.name)) h.known

  not-reducing : (o : Operand (List ℕ)) → is_redux o.mode ≡ false → lacks_reduction s o ≡ false
  not-reducing o h = ap (λ b. b && not (is_some (Rattle.sj_job.specs.Judge.reduction_known s o.name))) h

  -- a task whose operands are tiles of matrices
  pub task-judged : (k : Kernel) (codelet : List ℕ) (os : List (Operand (List ℕ))) → is_full s ≡ false → kernel_named (λ _. true) codelet ≡ Some k → is_name codelet ≡ true → AllByRecursion (IsSeen n p s) os
      → is_counted k [] os ≡ true → modes_fit (formals_of k) os ≡ true → fits k [] (each_of (λ (o : Operand (List ℕ)). rect_dims (rect n p o.place)) os) ≡ true → is_aliased os ≡ false
      → AllByRecursion (λ (o : Operand (List ℕ)). is_redux o.mode ≡ false) os → has_mixed_outputs os ≡ false → list_any (is_unlawful (λ _. true) s k) os ≡ false
      → IsAllowed (λ _. true) s (Task (record { codelet = codelet_of k; args = []; operands = os; priority = pos 0 }))
  task-judged k codelet os full named proper seen counted modes fit alone plain mixed lawful =
      let t : TaskForm = record { codelet = codelet; args = []; operands = each_of form-of os; priority = None } in
      let says : each_of operand_said (each_of form-of os) ≡ os = says-each os seen in
      let line : first_of (line_reasons s (pos 0) os) ≡ None = first-none (line_reasons s (pos 0) os) (full, (refl, (any-none (λ o. is_unknown s o.name) os (each-all not-unknown os seen), (any-none (λ (o : Operand (List ℕ)). s.ended o.name) os (each-all (λ o h. h.unended) os seen), tt)))) in
      let shaped : Rattle.sj_job.specs.Judge.is_shaped s k [] os ≡ true = and_from (modes_fit (formals_of k) os) _ modes (ap (fits k []) (each-same (IsSeen n p s) (dims_in s) (λ (o : Operand (List ℕ)). rect_dims (rect n p o.place)) dims-seen os seen) ∙ fit) in
      let reasons : first_of (operand_reasons (λ _. true) s k [] (each_of form-of os) os) ≡ None =
      first-none (operand_reasons (λ _. true) s k [] (each_of form-of os) os) (
        not_from_true (is_counted k [] os) counted,
        (
          any-none (is_missing s) (each_of form-of os) (each-to (IsSeen n p s) (λ (f : OperandForm). is_missing s f ≡ false) form-of not-missing os seen),
          (
            not_from_true (Rattle.sj_job.specs.Judge.is_shaped s k [] os) shaped,
            (
              alone,
              (
                any-none (is_lacking s) os (each-all not-lacking os seen),
                (
                  any-none (lacks_reduction s) os (each-plain os plain),
                  (mixed, (lawful, tt)),
                ),
              ),
            ),
          ),
        ),
      ) in
      record {
        words = form_words (form.Task t);
        form = form.Task t;
        spelled = says-said (form_words (form.Task t)) (Ok (form.Task t)) (record {
          spelled = record { line = refl; proper = and_from _ _ (and_from (is_name codelet) true proper refl) (all-each is_proper_operand (each_of form-of os) (each-to (IsSeen n p s) (λ (f : OperandForm). is_proper_operand f ≡ true) form-of form-proper os seen)) };
          numbered = and_from _ _ (all-each (λ (f : OperandForm). are_counts f.child) (each_of form-of os) (each-to (IsSeen n p s) (λ (f : OperandForm). are_counts f.child ≡ true) form-of form-counts os seen)) refl;
        });
        judged =
            ap (λ (xs : List (Operand (List ℕ))). judged_by (first_of (line_reasons s (pos 0) xs)) (judged_call (λ _. true) s (kernel_named (λ _. true) codelet) t)) says
            ∙ ap (λ (o : Option Reason). judged_by o (judged_call (λ _. true) s (kernel_named (λ _. true) codelet) t)) line
            ∙ ap (λ (o : Option Kernel). judged_call (λ _. true) s o t) named
            ∙ ap (λ (xs : List (Operand (List ℕ))). unless (first_of (operand_reasons (λ _. true) s k [] (each_of form-of os) xs)) (Task (line-of xs))) says
            ∙ ap (λ (o : Option Reason). unless o (Task (line-of os))) reasons;
      }
    where
      says-each : (os : List (Operand (List ℕ))) → AllByRecursion (IsSeen n p s) os → each_of operand_said (each_of form-of os) ≡ os
      says-each [] h = refl
      says-each (o ∷ os) h = λ i. form-says o h.0 i ∷ says-each os h.1 i

      each-all : {Q : Operand (List ℕ) → Type 0} → ((o : Operand (List ℕ)) → IsSeen n p s o → Q o) → (os : List (Operand (List ℕ))) → AllByRecursion (IsSeen n p s) os → AllByRecursion Q os
      each-all h [] a = tt
      each-all h (o ∷ os) a = (h o a.0, each-all h os a.1)

      each-plain : (os : List (Operand (List ℕ))) → AllByRecursion (λ (o : Operand (List ℕ)). is_redux o.mode ≡ false) os → AllByRecursion (λ (o : Operand (List ℕ)). lacks_reduction s o ≡ false) os
      each-plain [] a = tt
      each-plain (o ∷ os) a = (not-reducing o a.0, each-plain os a.1)

      line-of : List (Operand (List ℕ)) → TaskLine (List ℕ)
      line-of os = record { codelet = codelet_of k; args = []; operands = os; priority = pos 0 }

-- ---- registrations

le_test : (a b : ℕ) → a ≤ b → nat_le a b ≡ true
le_test a b h = grind (arith, nat_tests)

above_test : (a b : ℕ) → a ≤ b → nat_lt b a ≡ false
above_test a b h = grind (arith, nat_tests)

not-outside : (n p : ℕ) → IsCut n p → is_outside n n ≡ false
not-outside n p h =
    let side : is_side n ≡ true = and_from (nat_le 1 n) (nat_le n 1048576) (le_test 1 n h.some) (le_test n 1048576 (omega (arith, h.most))) in
    let area : n * n ≤ 2048 * 2048 = mul-le n n 2048 2048 h.most h.most in
    not_from_true (is_side n && is_side n && nat_le (n * n) 16777216) (and_from (is_side n && is_side n) _ (and_from (is_side n) (is_side n) side side) (le_test (n * n) 16777216 (omega (arith, area))))

not-crowded : (n p : ℕ) → IsCut n p → is_crowded (cut p) ≡ false
not-crowded n p h = above_test (p * p) 4096 (omega (arith, mul-le p p 48 48 h.few h.few))

not-uncut : (n p : ℕ) → IsCut n p → is_uncut (square n) (cut p) ≡ false
not-uncut n p h =
    let c : is_cut n p ≡ true = and_from (nat_le 1 p) (nat_le p n) (le_test 1 p h.parts) (le_test p n h.within) in
    not_from_true (is_cut n p && is_cut n p) (and_from (is_cut n p) (is_cut n p) c c)

-- words for first elements
pub record IsWorded (n : ℕ) (init : Init) : Type 0 where
  pub form : InitForm
  pub says : init_said form ≡ init
  pub numbers : is_numbered_init form ≡ true
  pub some : has_values form ≡ true
  pub counted : is_miscounted init n n ≡ false

pub matrix-allowed : (n p : ℕ) → IsCut n p → (name : List ℕ) (init : Init) → IsWorded n init → (s : Scope) → is_name name ≡ true → is_full s ≡ false → has_names s ≡ false → s.ended name ≡ false → is_some (s.known name) ≡ false
    → IsAllowed (λ _. true) s (matrix_act name n p init)
matrix-allowed n p h name init worded s named full room unended new =
    let dn = decimal n in
    let dp = decimal p in
    let a : ArrayForm = record { name = name; size = Matrix dn dn; parts = Some (dp, dp); init = worded.form } in
    let r = registration name n p init in
    let cn = decimal-counts n (omega (arith, h.most)) in
    let cp = decimal-counts p (omega (arith, h.few)) in
    let isn = decimal-is_count n (omega (arith, h.most)) in
    let isp = decimal-is_count p (omega (arith, h.few)) in
    let says : registered_by a ≡ r = λ t. record { name = name; kind = kind.Matrix; dims = record { rows = cn t; cols = cn t }; parts = record { r = cp t; c = cp t }; init = worded.says t } in
    let none : first_of (register_reasons s name (square n) (cut p) init) ≡ None = first-none (register_reasons s name (square n) (cut p) init)
    (full, (room, (not-outside n p h, (not-crowded n p h, (unended, (new, (not-uncut n p h, (worded.counted, tt)))))))) in
    record {
      words = form_words (form.Register a);
      form = form.Register a;
      spelled = says-said (form_words (form.Register a)) (Ok (form.Register a)) (record {
        spelled = record { line = refl; proper = and_from (is_name name) (has_values worded.form) named worded.some };
        numbered = and_from (is_numbered_size a.size && are_counts a.parts) (is_numbered_init worded.form) (and_from (is_numbered_size a.size) (are_counts a.parts) (and_from (is_count dn) (is_count dn) isn isn) (and_from (is_count dp) (is_count dp) isp isp)) worded.numbers;
      });
      judged = ap (λ (x : Registration (List ℕ)). unless (first_of (register_reasons s name x.dims x.parts x.init)) (Register x)) says ∙ ap (λ (o : Option Reason). unless o (Register r)) none;
    }

-- ---- print statements

pub print-allowed : (n p : ℕ) (f : ℕ → ℕ → ℤ) (name : List ℕ) (s : Scope) → is_name name ≡ true → is_full s ≡ false → s.ended name ≡ false → s.known name ≡ Some (known_of (root n p f)) → IsAllowed (λ _. true) s (Print name)
print-allowed n p f name s named full unended known =
    let none : first_of (print_reasons s name) ≡ None = first-none (print_reasons s name) (
      full,
      (
        ap (λ (x : Option Known). not (is_some x) && not (s.ended name)) known,
        (
          unended,
          (ap (λ (x : Option Known). elim x as (λ _. Bool) [ None ↦ false | Some k ↦ not k.all ]) known ∙ not_from_true (is_valued (root n p f)) (valued n p f), tt),
        ),
      ),
    ) in
    record {
      words = form_words (form.Print name);
      form = form.Print name;
      spelled = says-said (form_words (form.Print name)) (Ok (form.Print name)) (record { spelled = record { line = refl; proper = named }; numbered = refl });
      judged = ap (λ (o : Option Reason). unless o (Print name)) none;
    }

-- ---- one statement after another

-- the act is allowed in a state, however many statements stand before it
abbrev pub Allowed : JobState → Act (List ℕ) → Type 0
Allowed S a = (k : ℕ) → k < 262144 → IsAllowed (λ _. true) (scope_of k S) a

-- each of the acts is, in the state that those before it leave
abbrev pub AllAllowed : JobState → List (Act (List ℕ)) → Type 0
AllAllowed S [] = Unit {0}
AllAllowed S (a ∷ acts) = Allowed S a × AllAllowed (apply a S) acts

pub well-from : (k line : ℕ) (acts : List (Act (List ℕ))) (S : JobState) → k + length acts ≤ 262144 → AllAllowed S acts → IsWell (λ _. true) k S (numbered line acts)
well-from k line [] S few h = tt
well-from k line (a ∷ acts) S few h = (h.0 k (omega arith), well-from (k + 1) (line + 1) acts (apply a S) (omega arith) h.1)

pub all-append : (acts more : List (Act (List ℕ))) (S : JobState) → AllAllowed S acts → AllAllowed (run acts S) more → AllAllowed S (acts ++ more)
all-append [] more S h g = g
all-append (a ∷ acts) more S h g = (h.0, all-append acts more (apply a S) h.1 g)

-- acts for one number after another, each of which keeps P
pub all-flat : {Q : ℕ → Type 0} (P : JobState → Type 0) (f : ℕ → List (Act (List ℕ))) → ((k : ℕ) (T : JobState) → Q k → P T → AllAllowed T (f k) × P (run (f k) T)) → (ks : List ℕ) → AllByRecursion Q ks → (S : JobState) → P S → AllAllowed S (flat_map f ks) × P (run (flat_map f ks) S)
all-flat P f step [] h S now = (tt, now)
all-flat {Q = Q} P f step (k ∷ ks) h S now =
    let one = step k S h.0 now in
    let rest = all-flat {Q = Q} P f step ks h.1 (run (f k) S) one.1 in
    (all-append (f k) (flat_map f ks) S one.0 rest.0, subst P (sym (run-append (f k) (flat_map f ks) S)) rest.1)

pub all-each_of : {Q : ℕ → Type 0} (P : JobState → Type 0) (g : ℕ → Act (List ℕ)) → ((k : ℕ) (T : JobState) → Q k → P T → Allowed T (g k) × P (apply (g k) T)) → (ks : List ℕ) → AllByRecursion Q ks → (S : JobState) → P S → AllAllowed S (each_of g ks) × P (run (each_of g ks) S)
all-each_of P g step [] h S now = (tt, now)
all-each_of {Q = Q} P g step (k ∷ ks) h S now =
    let one = step k S h.0 now in
    let rest = all-each_of {Q = Q} P g step ks h.1 (apply (g k) S) one.1 in
    ((one.0, rest.0), rest.1)

-- ---- how many acts there are

pub flat-length : (f : ℕ → List (Act (List ℕ))) (m : ℕ) → ((k : ℕ) → length (f k) ≤ m) → (ks : List ℕ) → length (flat_map f ks) ≤ length ks * m
flat-length f m h [] = omega arith
flat-length f m h (k ∷ ks) = omega (arith, length-append (f k) (flat_map f ks), h k, flat-length f m h ks)
