-- What shows in a crowd of operands is so of their list, and tells why a task line is refused.
use Rattle.std.proofs.Common.{◌≡◌, ◌⊎◌, inl, inr, ℕ, ◌+◌, ◌-◌, ◌≤◌, ◌<◌, ◌&&◌, ◌||◌, not, Bool, true, false, List, [], ◌∷◌, ◌++◌, length, map, take, drop, refl, ap, ◌∙◌, sym, subst, arith, Option, Some, None, is_some, option_map, cond, nat_eq, codes, length-drop, Result, Ok, Err}
use Rattle.std.specs.Prelude.{IfSome, nat_le, nat_lt}
use Rattle.std.specs.List.{list_all, list_any, position_or_len, slice_split, onto_first}
use Rattle.std.proofs.lemmas.Bool.Decides.{nat_tests}
use Rattle.std.proofs.lemmas.List.{length-append, length-map, take_all}
use Rattle.std.proofs.lemmas.List.Folds.{list_all-append, list_any-append}
use Rattle.std.proofs.lemmas.List.Splits.{slice_split_first}
use Rattle.sj_base.proofs.Bools.{and_true}
use Rattle.sj_base.proofs.Lists.{list_any-map}
use Rattle.sj_codelet.specs.declared.kernel.Kernel.{Kernel}
use Rattle.sj_codelet.specs.Kernel.{arguments_of, formals_of}
use Rattle.sj_codelet.proofs.Table.{by_table}
use Rattle.sj_meaning.specs.Act.{Act}
use Rattle.sj_meaning.specs.Act.{Task as Tasks}
use Rattle.sj_job.specs.declared.crowd.Crowd.{Crowd}
use Rattle.sj_job.specs.declared.form.Form.{Form}
use Rattle.sj_job.specs.declared.form.Form.TheVariants as form
use Rattle.sj_job.specs.declared.form.OperandForm.{OperandForm}
use Rattle.sj_job.specs.declared.form.TaskForm.{TaskForm}
use Rattle.sj_job.specs.declared.reason.Reason.{Reason}
use Rattle.sj_job.specs.declared.reason.Reason.TheVariants.{Word, Number, UnknownName, EndedName, UnknownCodelet, OperandCount, Limit}
use Rattle.sj_job.specs.declared.reason.LimitKind.TheVariants.{Statements, Priority}
use Rattle.sj_job.specs.Crowd.{call_reasons, crowd_of, has_numbers, shown_in, up_to_six}
use Rattle.sj_job.specs.Form.{bracketed, each_some, form_of, operand_of, with_priority}
use Rattle.sj_job.specs.Judge.{Scope, first_of, is_counted, is_ended, is_full, is_unknown, judged, judged_by, judged_call, judged_task, kernel_named, operand_reasons, unless}
use Rattle.sj_job.specs.Reading.{act_in}
use Rattle.sj_job.specs.Sentence.{are_counts, is_numbered, is_numbered_priority, operand_said, operands_said, priority_said, said_of, task_said}
use Rattle.sj_job.specs.Word.{integer, is_integer}
use Rattle.sj_job.proofs.Saying.{is_comma}
use Rattle.sj_job.proofs.Targets.{line_first}
use Rattle.sj_job.proofs.Walking.{said_after, walk-more}
use Rattle.sj_meaning.specs.Sound.{is_priority}

-- ---- the first piece of a text

whole-by : (t : Bool) (b : ℕ) (w : List ℕ) → cond (not t) (1 + position_or_len is_comma w) 0 ≡ length (b ∷ w) → (position_or_len is_comma w ≡ length w → slice_split is_comma w ≡ w ∷ []) → cond t ([] ∷ slice_split is_comma w) (onto_first b (slice_split is_comma w)) ≡ (b ∷ w) ∷ []
whole-by true b w e rest = absurd (omega (arith, e))
whole-by false b w e rest = ap (onto_first b) (rest (omega (arith, e)))

-- a text without a comma is one piece
pub piece-whole : (w : List ℕ) → position_or_len is_comma w ≡ length w → slice_split is_comma w ≡ w ∷ []
piece-whole [] e = refl
piece-whole (b ∷ w) e = whole-by (is_comma b) b w e (piece-whole w)

-- the piece before the first comma, and the text behind it, as slices
pub piece-cut : (w : List ℕ) (n : ℕ) → n ≡ position_or_len is_comma w → n < length w → slice_split is_comma w ≡ take n w ∷ slice_split is_comma (take (length w - (n + 1)) (drop (n + 1) w))
piece-cut w n e lt =
    let g : length (drop (n + 1) w) ≤ length w - (n + 1) = omega (arith, length-drop (n + 1) w) in
    slice_split_first is_comma w 0 (omega (arith, e, lt))
    ∙ (λ i. take (sym e i) w ∷ slice_split is_comma (drop (sym e i + 1) w))
    ∙ ap (λ t. take n w ∷ slice_split is_comma t) (sym (take_all (length w - (n + 1)) (drop (n + 1) w) g))

-- ---- going over operands

or-false : (b : Bool) → (b || false) ≡ b
or-false true = refl
or-false false = refl

six-more : (n : ℕ) → up_to_six (up_to_six n + 1) ≡ up_to_six (n + 1)
six-more n = grind (arith, nat_tests)

-- one operand more
pub crowd-more : (s : Scope) (os : List OperandForm) (o : OperandForm) (c d : Crowd) → c ≡ crowd_of s os → d.numbered ≡ (c.numbered && are_counts o.child) → d.unknown ≡ (c.unknown || is_unknown s o.name) → d.ended ≡ (c.ended || is_ended s o.name) → d.count ≡ up_to_six (c.count + 1) → d ≡ crowd_of s (os ++ o ∷ [])
crowd-more s os o c d is numbered unknown ended count =
    λ i. record { numbered = all i; unknown = any i; ended = over i; count = many i }
  where
    all : d.numbered ≡ list_all (λ (o : OperandForm). are_counts o.child) (os ++ o ∷ [])
    all = numbered ∙ ap (λ (c : Crowd). c.numbered && are_counts o.child) is ∙ ap (λ b. list_all (λ (o : OperandForm). are_counts o.child) os && b) (sym (and_true (are_counts o.child))) ∙ sym (list_all-append (λ (o : OperandForm). are_counts o.child) os (o ∷ []))

    any : d.unknown ≡ list_any (λ (o : OperandForm). is_unknown s o.name) (os ++ o ∷ [])
    any = unknown ∙ ap (λ (c : Crowd). c.unknown || is_unknown s o.name) is ∙ ap (λ b. list_any (λ (o : OperandForm). is_unknown s o.name) os || b) (sym (or-false (is_unknown s o.name))) ∙ sym (list_any-append (λ (o : OperandForm). is_unknown s o.name) os (o ∷ []))

    over : d.ended ≡ list_any (λ (o : OperandForm). is_ended s o.name) (os ++ o ∷ [])
    over = ended ∙ ap (λ (c : Crowd). c.ended || is_ended s o.name) is ∙ ap (λ b. list_any (λ (o : OperandForm). is_ended s o.name) os || b) (sym (or-false (is_ended s o.name))) ∙ sym (list_any-append (λ (o : OperandForm). is_ended s o.name) os (o ∷ []))

    many : d.count ≡ up_to_six (length (os ++ o ∷ []))
    many = count ∙ ap (λ (c : Crowd). up_to_six (c.count + 1)) is ∙ six-more (length os) ∙ ap up_to_six (sym (length-append os (o ∷ [])))

-- this shows in the operands of words before a rest of them
pub record IsShown (s : Scope) (c : Crowd) (rest ws : List (List ℕ)) : Type 0 where
  pub front : List OperandForm
  pub crowd : c ≡ crowd_of s front
  pub said : said_after front (with_priority rest) ≡ said_after [] (with_priority ws)

pub shown-first : (s : Scope) (c : Crowd) (rest ws : List (List ℕ)) → c ≡ crowd_of s [] → rest ≡ ws → IsShown s c rest ws
shown-first s c rest ws none same = record { front = []; crowd = none; said = ap (λ ws. said_after [] (with_priority ws)) same }

pub shown-more : (s : Scope) (c d : Crowd) (w : List ℕ) (ws rest all : List (List ℕ)) (o : OperandForm) → IsShown s c rest all → with_priority rest ≡ (w ∷ (with_priority ws).0, (with_priority ws).1) → operand_of w ≡ Some o → ((os : List OperandForm) → c ≡ crowd_of s os → d ≡ crowd_of s (os ++ o ∷ [])) → IsShown s d ws all
shown-more s c d w ws rest all o h cut e more = record {
  front = h.front ++ o ∷ [];
  crowd = more h.front h.crowd;
  said = sym (walk-more h.front w (with_priority ws).0 (with_priority ws).1 o e) ∙ sym (ap (said_after h.front) cut) ∙ h.said;
}

-- ---- what shows in the list

-- the words behind `task` spell this form, in whose operands this shows
pub record IsSeen (s : Scope) (ws : List (List ℕ)) (t : TaskForm) (c : Crowd) : Type 0 where
  pub spelled : form_of (codes "task" ∷ ws) ≡ Some (form.Task t)
  pub numbered : c.numbered ≡ list_all (λ (o : OperandForm). are_counts o.child) t.operands
  pub unknown : c.unknown ≡ list_any (λ o. is_unknown s o.name) (operands_said t)
  pub ended : c.ended ≡ list_any (λ o. is_ended s o.name) (operands_said t)
  pub count : c.count ≡ up_to_six (length t.operands)

abbrev task_with : List ℕ → List (List ℕ) → List OperandForm → Option (List ℕ) → TaskForm
task_with name args os p = record { codelet = name; args = args; operands = os; priority = p }

abbrev Seen : Scope → List ℕ → List (List ℕ) → List ℕ → List (List ℕ) → Crowd → Option (List ℕ) → Type 0
Seen s w rest name args c p = (os : List OperandForm) × IsSeen s (w ∷ rest) (task_with name args os p) c

seen-by : (s : Scope) (w : List ℕ) (rest : List (List ℕ)) (name : List ℕ) (args : List (List ℕ)) (c : Crowd) (p : Option (List ℕ)) (x : Option (List OperandForm)) → bracketed 40 41 w ≡ Some (name, args) → each_some operand_of (with_priority rest).0 ≡ x → option_map {U = Crowd × Option (List ℕ)} (λ os. (crowd_of s os, (with_priority rest).1)) x ≡ Some (c, p) → Seen s w rest name args c p
seen-by s w rest name args c p None b h e = absurd (cc)
seen-by s w rest name args c p (Some os) b h e =
    let both : (crowd_of s os, (with_priority rest).1) ≡ (c, p) = cc in
    let is : crowd_of s os ≡ c = ap (λ (x : Crowd × Option (List ℕ)). x.0) both in
    let last : (with_priority rest).1 ≡ p = ap (λ (x : Crowd × Option (List ℕ)). x.1) both in (
      os,
      record {
        spelled =
            ap (λ (b : Option (List ℕ × List (List ℕ))). option_map form.Task (elim b as (λ _. Option TaskForm) [ None ↦ None | Some c ↦ option_map (λ (os : List OperandForm). task_with c.0 c.1 os (with_priority rest).1) (each_some operand_of (with_priority rest).0) ])) b
            ∙ ap (λ (x : Option (List OperandForm)). option_map form.Task (option_map (λ (os : List OperandForm). task_with name args os (with_priority rest).1) x)) h
            ∙ ap (λ (p : Option (List ℕ)). Some (form.Task (task_with name args os p))) last;
        numbered = ap (λ (c : Crowd). c.numbered) (sym is);
        unknown = ap (λ (c : Crowd). c.unknown) (sym is) ∙ sym (list_any-map (λ o. is_unknown s o.name) operand_said os);
        ended = ap (λ (c : Crowd). c.ended) (sym is) ∙ sym (list_any-map (λ o. is_ended s o.name) operand_said os);
        count = ap (λ (c : Crowd). c.count) (sym is);
      },
    )

pub seen : (s : Scope) (w : List ℕ) (rest : List (List ℕ)) (name : List ℕ) (args : List (List ℕ)) (c : Crowd) (p : Option (List ℕ)) → bracketed 40 41 w ≡ Some (name, args) → shown_in s rest ≡ Some (c, p) → Seen s w rest name args c p
seen s w rest name args c p b e = seen-by s w rest name args c p (each_some operand_of (with_priority rest).0) b refl e

-- ---- the reason

more-than-five : (n : ℕ) → 6 ≤ up_to_six n → 5 < n
more-than-five n h = grind (arith, nat_tests)

abbrev judged_from : (Kernel → Bool) → Scope → Option Form → Result (Act (List ℕ)) Reason
judged_from has s o = elim (elim o as (λ _. Result Form Reason) [ None ↦ Err Word | Some f ↦ said_of f ]) as (λ _. Result (Act (List ℕ)) Reason) [ Err why ↦ Err why | Ok f ↦ judged has s f ]

said-by : (has : Kernel → Bool) (s : Scope) (ws : List (List ℕ)) (t : TaskForm) (b : Bool) → form_of (codes "task" ∷ ws) ≡ Some (form.Task t) → is_numbered (form.Task t) ≡ b → act_in has s (codes "task" ∷ ws) ≡ cond b (judged_task has s t) (Err Number)
said-by has s ws t true e h =
    ap (judged_from has s) e ∙ ap (λ (b : Bool). elim (cond b (Ok (form.Task t)) (Err Number)) as (λ _. Result (Act (List ℕ)) Reason) [ Err why ↦ Err why | Ok f ↦ judged has s f ]) h
said-by has s ws t false e h =
    ap (judged_from has s) e ∙ ap (λ (b : Bool). elim (cond b (Ok (form.Task t)) (Err Number)) as (λ _. Result (Act (List ℕ)) Reason) [ Err why ↦ Err why | Ok f ↦ judged has s f ]) h

-- ---- words that spell no task

unspelled : (has : Kernel → Bool) (s : Scope) (ws : List (List ℕ)) → form_of (codes "task" ∷ ws) ≡ None → act_in has s (codes "task" ∷ ws) ≡ Err Word
unspelled has s ws e = ap (judged_from has s) e

pub no-words : (has : Kernel → Bool) (s : Scope) → act_in has s (codes "task" ∷ []) ≡ Err Word
no-words has s = unspelled has s [] refl

abbrev task_from : List (List ℕ) → Option (List ℕ × List (List ℕ)) → Option Form
task_from rest b = option_map form.Task (elim b as (λ _. Option TaskForm) [ None ↦ None | Some c ↦ option_map (λ (os : List OperandForm). task_with c.0 c.1 os (with_priority rest).1) (each_some operand_of (with_priority rest).0) ])

pub no-codelet : (has : Kernel → Bool) (s : Scope) (w : List ℕ) (rest : List (List ℕ)) → bracketed 40 41 w ≡ None → act_in has s (codes "task" ∷ w ∷ rest) ≡ Err Word
no-codelet has s w rest e = unspelled has s (w ∷ rest) (ap (task_from rest) e)

pub no-operands : (has : Kernel → Bool) (s : Scope) (w : List ℕ) (rest : List (List ℕ)) (b : List ℕ × List (List ℕ)) → bracketed 40 41 w ≡ Some b → shown_in s rest ≡ None → act_in has s (codes "task" ∷ w ∷ rest) ≡ Err Word
no-operands has s w rest b e none =
    unspelled has s (w ∷ rest) (ap (task_from rest) e ∙ onto (each_some operand_of (with_priority rest).0) none)
  where
    onto : (x : Option (List OperandForm)) → option_map {U = Crowd × Option (List ℕ)} (λ os. (crowd_of s os, (with_priority rest).1)) x ≡ None → option_map form.Task (option_map (λ (os : List OperandForm). task_with b.0 b.1 os (with_priority rest).1) x) ≡ None
    onto None e = refl
    onto (Some os) e = absurd (cc)

-- the first reason against a call, by which conditions hold
abbrev pub first_by : Bool → Bool → Bool → Bool → Bool → Bool → Option Reason
first_by full early unknown ended named many =
    first_of (
    (full, Limit Statements)
    ∷ (not early, Limit Priority)
    ∷ (unknown, UnknownName)
    ∷ (ended, EndedName)
    ∷ (not named, UnknownCodelet)
    ∷ (many, OperandCount)
    ∷ [])

-- ---- whether places of numbers have numbers

numbered-by : (s : Scope) (ws : List (List ℕ)) (t : TaskForm) (c : Crowd) (b : Bool) → IsSeen s ws t c → has_numbers c t.args t.priority ≡ b → is_numbered (form.Task t) ≡ b
numbered-by s ws t c b h e =
    ap (λ (n : Bool). list_all is_integer t.args && n && is_numbered_priority t.priority) (sym h.numbered) ∙ e

-- one has none
pub unnumbered : (has : Kernel → Bool) (s : Scope) (ws : List (List ℕ)) (t : TaskForm) (c : Crowd) → IsSeen s ws t c → has_numbers c t.args t.priority ≡ false → act_in has s (codes "task" ∷ ws) ≡ Err Number
unnumbered has s ws t c h e = said-by has s ws t false h.spelled (numbered-by s ws t c false h e)

-- each has one
module _ (has : Kernel → Bool) (s : Scope) (ws : List (List ℕ)) (t : TaskForm) (c : Crowd) (h : IsSeen s ws t c) (numbers : has_numbers c t.args t.priority ≡ true) where
  judged-as : act_in has s (codes "task" ∷ ws) ≡ judged_task has s t
  judged-as = said-by has s ws t true h.spelled (numbered-by s ws t c true h numbers)

  at-full : is_full s ≡ true → act_in has s (codes "task" ∷ ws) ≡ Err (Limit Statements)
  at-full full = judged-as ∙ (λ i. judged_by (line_first (full i) (not (is_priority (priority_said t.priority))) (list_any (λ o. is_unknown s o.name) (operands_said t)) (list_any (λ o. is_ended s o.name) (operands_said t))) (judged_call has s (kernel_named has t.codelet) t))

  at-priority : is_full s ≡ false → is_priority (priority_said t.priority) ≡ false → act_in has s (codes "task" ∷ ws) ≡ Err (Limit Priority)
  at-priority full late = judged-as ∙ (λ i. judged_by (line_first (full i) (not (late i)) (list_any (λ o. is_unknown s o.name) (operands_said t)) (list_any (λ o. is_ended s o.name) (operands_said t))) (judged_call has s (kernel_named has t.codelet) t))

  at-unknown : is_full s ≡ false → is_priority (priority_said t.priority) ≡ true → c.unknown ≡ true → act_in has s (codes "task" ∷ ws) ≡ Err UnknownName
  at-unknown full early e = let u = sym h.unknown ∙ e in judged-as ∙ (λ i. judged_by (line_first (full i) (not (early i)) (u i) (list_any (λ o. is_ended s o.name) (operands_said t))) (judged_call has s (kernel_named has t.codelet) t))

  at-ended : is_full s ≡ false → is_priority (priority_said t.priority) ≡ true → c.unknown ≡ false → c.ended ≡ true → act_in has s (codes "task" ∷ ws) ≡ Err EndedName
  at-ended full early e f = let u = sym h.unknown ∙ e in let v = sym h.ended ∙ f in judged-as ∙ (λ i. judged_by (line_first (full i) (not (early i)) (u i) (v i)) (judged_call has s (kernel_named has t.codelet) t))

  behind-line : is_full s ≡ false → is_priority (priority_said t.priority) ≡ true → c.unknown ≡ false → c.ended ≡ false → act_in has s (codes "task" ∷ ws) ≡ judged_call has s (kernel_named has t.codelet) t
  behind-line full early e f = let u = sym h.unknown ∙ e in let v = sym h.ended ∙ f in judged-as ∙ (λ i. judged_by (line_first (full i) (not (early i)) (u i) (v i)) (judged_call has s (kernel_named has t.codelet) t))

  at-codelet : is_full s ≡ false → is_priority (priority_said t.priority) ≡ true → c.unknown ≡ false → c.ended ≡ false → is_some (kernel_named has t.codelet) ≡ false → act_in has s (codes "task" ∷ ws) ≡ Err UnknownCodelet
  at-codelet full early e f none = behind-line full early e f ∙ by-none (kernel_named has t.codelet) none
    where
      by-none : (o : Option Kernel) → is_some o ≡ false → judged_call has s o t ≡ Err UnknownCodelet
      by-none None e = refl
      by-none (Some k) e = absurd (cc)

  few-of : (k : Kernel) → (nat_le (arguments_of k) 6 && nat_le (length (formals_of k)) 5) ≡ true
  few-of k = by_table (λ k. nat_le (arguments_of k) 6 && nat_le (length (formals_of k)) 5) refl k

  counted-by : (k : Kernel) → (6 < length t.args) ⊎ (5 < length t.operands) → kernel_named has t.codelet ≡ Some k → judged_call has s (kernel_named has t.codelet) t ≡ Err OperandCount
  counted-by k more named =
      let args : length (map integer t.args) ≡ length t.args = length-map t.args integer in
      let os : length (operands_said t) ≡ length t.operands = length-map t.operands operand_said in
      let few : is_counted k (map integer t.args) (operands_said t) ≡ false = none-counted (arguments_of k) (length (formals_of k)) (length (map integer t.args)) (length (operands_said t)) (few-of k) (over args os more) in
      ap (λ (o : Option Kernel). judged_call has s o t) named
      ∙ ap (λ (b : Bool). unless (first_of ((not b, OperandCount) ∷ drop 1 (operand_reasons has s k (map integer t.args) t.operands (operands_said t)))) (Tasks (task_said k t))) few
    where
      none-counted : (a b m n : ℕ) → (nat_le a 6 && nat_le b 5) ≡ true → (6 < m) ⊎ (5 < n) → (nat_eq m a && nat_eq n b) ≡ false
      none-counted a b m n e (inl more) = grind (arith, nat_tests)
      none-counted a b m n e (inr more) = grind (arith, nat_tests)

      over : length (map integer t.args) ≡ length t.args → length (operands_said t) ≡ length t.operands → (6 < length t.args) ⊎ (5 < length t.operands) → (6 < length (map integer t.args)) ⊎ (5 < length (operands_said t))
      over e f (inl more) = inl (omega (arith, e, more))
      over e f (inr more) = inr (omega (arith, f, more))

  some-kernel : (o : Option Kernel) → kernel_named has t.codelet ≡ o → is_some o ≡ true → (6 < length t.args) ⊎ (5 < length t.operands) → judged_call has s (kernel_named has t.codelet) t ≡ Err OperandCount
  some-kernel None e h more = absurd (cc)
  some-kernel (Some k) e h more = counted-by k more e

  at-count : (n : ℕ) → n ≤ length t.args → is_full s ≡ false → is_priority (priority_said t.priority) ≡ true → c.unknown ≡ false → c.ended ≡ false → is_some (kernel_named has t.codelet) ≡ true → (nat_le 6 c.count || nat_lt 6 n) ≡ true → act_in has s (codes "task" ∷ ws) ≡ Err OperandCount
  at-count n few full early e f some more = behind-line full early e f ∙ some-kernel (kernel_named has t.codelet) refl some (over (nat_le 6 c.count) (nat_lt 6 n) refl refl more)
    where
      many : c.count ≡ up_to_six (length t.operands)
      many = h.count

      over : (a b : Bool) → nat_le 6 c.count ≡ a → nat_lt 6 n ≡ b → (a || b) ≡ true → (6 < length t.args) ⊎ (5 < length t.operands)
      over true b e f h = inr (more-than-five (length t.operands) (subst (λ n. 6 ≤ n) many (grind (arith, nat_tests))))
      over false true e f h = inl (grind (arith, nat_tests))
      over false false e f h = absurd (cc)

  -- the first of six conditions, by which of them hold
  by-first : (n : ℕ) (why : Reason) → n ≤ length t.args → (a b u v w m : Bool) → is_full s ≡ a → is_priority (priority_said t.priority) ≡ b → c.unknown ≡ u → c.ended ≡ v → is_some (kernel_named has t.codelet) ≡ w → (nat_le 6 c.count || nat_lt 6 n) ≡ m → first_by a b u v w m ≡ Some why → act_in has s (codes "task" ∷ ws) ≡ Err why
  by-first n why few true b u v w m full early unknown ended named many e =
      let is : Limit Statements ≡ why = cc in at-full full ∙ ap (λ (r : Reason). Err r) is
  by-first n why few false false u v w m full late unknown ended named many e =
      let is : Limit Priority ≡ why = cc in at-priority full late ∙ ap (λ (r : Reason). Err r) is
  by-first n why few false true true v w m full early unknown ended named many e =
      let is : UnknownName ≡ why = cc in at-unknown full early unknown ∙ ap (λ (r : Reason). Err r) is
  by-first n why few false true false true w m full early unknown ended named many e =
      let is : EndedName ≡ why = cc in at-ended full early unknown ended ∙ ap (λ (r : Reason). Err r) is
  by-first n why few false true false false false m full early unknown ended none many e =
      let is : UnknownCodelet ≡ why = cc in at-codelet full early unknown ended none ∙ ap (λ (r : Reason). Err r) is
  by-first n why few false true false false true true full early unknown ended named many e =
      let is : OperandCount ≡ why = cc in at-count n few full early unknown ended named many ∙ ap (λ (r : Reason). Err r) is
  by-first n why few false true false false true false full early unknown ended named many e = absurd (cc)

  -- what is against the call is against the line
  pub complained : (n : ℕ) → n ≤ length t.args → (o : Option Reason) → o ≡ first_of (call_reasons has s t.codelet c n (priority_said t.priority)) → IfSome o (λ why. act_in has s (codes "task" ∷ ws) ≡ Err why)
  complained n few None e = tt
  complained n few (Some why) e =
      by-first n why few (is_full s) (is_priority (priority_said t.priority)) c.unknown c.ended (is_some (kernel_named has t.codelet)) (nat_le 6 c.count || nat_lt 6 n) refl refl refl refl refl refl (sym e)
