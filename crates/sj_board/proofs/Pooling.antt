-- How often a task stands in a pool, where an entry is put there or taken.
use Rattle.sj_board.proofs.Words.{[], ap, arith, cond, contains, count_by, Entry, false, first_fitting, fits_room, has_fitting, has_task, inl, inr, is_entry_of, length, length-set, List, None, Option, option_map_or, Policy, precedes, Prio, put_by_urgency, put_into, queue, refl, Some, subst, sym, Task, times_of, true, with_entry_at, without_first_at, without_first_fitting, ℕ, ◌+◌, ◌<◌, ◌∙◌, ◌∷◌, ◌≡◌}
use Rattle.std.proofs.Common.{All}
use Rattle.std.specs.Prelude.{sum_by}
use Rattle.std.specs.Option.{option_map, option_and_then}
use Rattle.std.proofs.lemmas.{Bool.cases_lt, Bool.cond_both, Bool.false≢true, List.get_or_past, List.Elements.All-cons, List.Elements.All-get_or, List.Elements.All-head, List.Elements.All-push, List.Elements.All-set, List.Elements.All-tail, List.Folds.find_at, List.Sums.sum_by-cons, List.Sums.sum_by-set, List.Sums.sum_by_push, Option.get_or_from_slice_get, Option.slice_get_within}
use Rattle.sj_pool.proofs.Serving.{never-none}

-- how often a task stands in these queues
abbrev pub times_in : Task → List (List Entry) → ℕ
times_in t qs = sum_by (λ q. count_by (is_entry_of t) q) qs

pub count-cons : (t : Task) (x : Entry) (xs : List Entry) → count_by (is_entry_of t) (x ∷ xs) ≡ cond {A = ℕ} (is_entry_of t x) 1 0 + count_by (is_entry_of t) xs
count-cons t x xs = sum_by-cons (λ (e : Entry). cond {A = ℕ} (is_entry_of t e) 1 0) x xs

-- ---- taking

pub count-taken : (room : ℕ) (es : List Entry) (e : Entry) (t : Task) → first_fitting room es ≡ Some e → count_by (is_entry_of t) (without_first_fitting room es) + cond {A = ℕ} (is_entry_of t e) 1 0 ≡ count_by (is_entry_of t) es
count-taken room [] e t f = grind arith
count-taken room (x ∷ xs) e t f = grind (arith, count-taken room xs e t, count-cons t x xs, count-cons t x (without_first_fitting room xs))

-- a queue where an entry fits is one of them
pub queue-inside : (qs : List (List Entry)) (room i : ℕ) → has_fitting room (queue qs i) ≡ true → i < length qs
queue-inside qs room i fitting =
    elim (cases_lt i (length qs)) as (λ _. i < length qs) [
      | inl inside ↦ inside
      | inr past ↦ absurd (false≢true (sym (ap (has_fitting room) (get_or_past qs i [] past)) ∙ fitting))
    ]

-- the task of the first entry that fits in the queue with this number, if there is one
abbrev pub task_from : List (List Entry) → ℕ → Option ℕ → Option Task
task_from qs room o = option_map (λ e. e.task) (option_and_then (λ i. first_fitting room (queue qs i)) o)

-- the queues without it
abbrev pub queues_from : List (List Entry) → ℕ → Option ℕ → List (List Entry)
queues_from qs room o = option_map_or (λ i. without_first_at qs i room) o qs

-- an entry fits in the queue with this number
abbrev pub Serves : List (List Entry) → ℕ → Option ℕ → Type 0
Serves qs room o = (i : ℕ) → o ≡ Some i → has_fitting room (queue qs i) ≡ true

abbrev pub once : Task → Option Task → ℕ
once t o = times_of o t

pub times-taken : (qs : List (List Entry)) (room : ℕ) (o : Option ℕ) (t : Task) → Serves qs room o → times_in t (queues_from qs room o) + once t (task_from qs room o) ≡ times_in t qs
times-taken qs room None t serves = omega arith
times-taken qs room (Some i) t serves = by_entry (first_fitting room (queue qs i)) refl
  where
    by_entry : (f : Option Entry) → first_fitting room (queue qs i) ≡ f → times_in t (without_first_at qs i room) + once t (option_map (λ e. e.task) f) ≡ times_in t qs
    by_entry None e = absurd (never-none room (queue qs i) (serves i refl) (sym e))
    by_entry (Some x) e = omega (arith, sum_by-set (λ q. count_by (is_entry_of t) q) qs i (without_first_fitting room (queue qs i)) [] (queue-inside qs room i (serves i refl)), count-taken room (queue qs i) x t e)

pub queues-length : (qs : List (List Entry)) (room : ℕ) (o : Option ℕ) → length (queues_from qs room o) ≡ length qs
queues-length qs room None = refl
queues-length qs room (Some i) = length-set qs i (without_first_fitting room (queue qs i))

-- what is so of each entry is so of the one that is taken, and of those that are left
pub first-all : (P : Entry → Type 0) (room : ℕ) (es : List Entry) (e : Entry) → All P es → first_fitting room es ≡ Some e → P e
first-all P room es e all f =
    let at = sym (find_at (fits_room room) es) ∙ f in
    subst P (get_or_from_slice_get es _ e e at) (All-get_or P es _ e (slice_get_within es _ e at) all)

pub all-left : (P : Entry → Type 0) (room : ℕ) (es : List Entry) → All P es → All P (without_first_fitting room es)
all-left P room [] all = all
all-left P room (x ∷ xs) all =
    cond_both (fits_room room x) xs (x ∷ without_first_fitting room xs) (All P) (λ _. All-tail P x xs all)
    (λ _. All-cons P x (without_first_fitting room xs) (All-head P x xs all) (all-left P room xs (All-tail P x xs all)))

pub all-taken : (P : Entry → Type 0) (qs : List (List Entry)) (room : ℕ) (o : Option ℕ) → Serves qs room o → All (All P) qs → All (All P) (queues_from qs room o)
all-taken P qs room None serves all = all
all-taken P qs room (Some i) serves all = All-set (All P) qs i (without_first_fitting room (queue qs i)) (all-left P room (queue qs i) (All-get_or (All P) qs i [] (queue-inside qs room i (serves i refl)) all)) all

-- ---- putting

pub count-put_by_urgency : (e : Entry) (es : List Entry) (t : Task) → count_by (is_entry_of t) (put_by_urgency e es) ≡ count_by (is_entry_of t) es + cond {A = ℕ} (is_entry_of t e) 1 0
count-put_by_urgency e [] t = grind arith
count-put_by_urgency e (x ∷ xs) t = grind (arith, count-put_by_urgency e xs t, count-cons t x xs, count-cons t x (put_by_urgency e xs), count-cons t e (x ∷ xs))

pub count-put : (p : Policy) (e : Entry) (es : List Entry) (t : Task) → count_by (is_entry_of t) (put_into p e es) ≡ count_by (is_entry_of t) es + cond {A = ℕ} (is_entry_of t e) 1 0
count-put Prio e es t = count-put_by_urgency e es t
count-put _ e es t = sum_by_push (λ (x : Entry). cond {A = ℕ} (is_entry_of t x) 1 0) es e

pub all-put_by_urgency : (P : Entry → Type 0) (e : Entry) (es : List Entry) → P e → All P es → All P (put_by_urgency e es)
all-put_by_urgency P e [] here all = All-cons P e [] here all
all-put_by_urgency P e (x ∷ xs) here all =
    cond_both (precedes x e) (x ∷ put_by_urgency e xs) (e ∷ x ∷ xs) (All P)
    (λ _. All-cons P x (put_by_urgency e xs) (All-head P x xs all) (all-put_by_urgency P e xs here (All-tail P x xs all))) (λ _. All-cons P e (x ∷ xs) here all)

pub all-put : (P : Entry → Type 0) (p : Policy) (e : Entry) (es : List Entry) → P e → All P es → All P (put_into p e es)
all-put P Prio e es here all = all-put_by_urgency P e es here all
all-put P _ e es here all = All-push P es e all here

pub times-put : (p : Policy) (qs : List (List Entry)) (i : ℕ) (e : Entry) (t : Task) → i < length qs → times_in t (with_entry_at p qs i e) ≡ times_in t qs + cond {A = ℕ} (is_entry_of t e) 1 0
times-put p qs i e t inside = omega (arith, sum_by-set (λ q. count_by (is_entry_of t) q) qs i (put_into p e (queue qs i)) [] inside, count-put p e (queue qs i) t)

pub all-pooled : (P : Entry → Type 0) (p : Policy) (qs : List (List Entry)) (i : ℕ) (e : Entry) → i < length qs → P e → All (All P) qs → All (All P) (with_entry_at p qs i e)
all-pooled P p qs i e inside here all = All-set (All P) qs i (put_into p e (queue qs i)) (all-put P p e (queue qs i) here (All-get_or (All P) qs i [] inside all)) all

-- a task that stands nowhere isn't there
pub none-has : (es : List Entry) (t : Task) → count_by (is_entry_of t) es ≡ 0 → has_task t.0 es ≡ false
none-has [] t h = refl
none-has (x ∷ xs) t h = grind (arith, none-has xs t, count-cons t x xs)

pub none-contains : (qs : List (List Entry)) (t : Task) → times_in t qs ≡ 0 → contains qs t.0 ≡ false
none-contains [] t h = refl
none-contains (q ∷ qs) t h =
    let both = sum_by-cons (λ q. count_by (is_entry_of t) q) q qs in
    let here : count_by (is_entry_of t) q ≡ 0 = omega (arith, both, h) in
    let rest : times_in t qs ≡ 0 = omega (arith, both, h) in
    grind (arith, none-has q t here, none-contains qs t rest)
