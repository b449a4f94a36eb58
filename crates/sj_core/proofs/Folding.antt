-- What cells hold after tasks in submission order: on which tasks it depends, and that a task may come last.
use Rattle.sj_core.proofs.Words.{[], Access, after_chosen, after_task, ap, arith, Array, Bool, Cell, cells_of, cond, Contains, Contents, Equations, false, find, has_cell, held_in, inl, inr, is_scratch, length, List, None, not, Program, refl, results, same_cell, Some, starts_as_zeros, suc, sym, Task, task, task_of, true, worked_on, Worker, written_cells, zero, zip, ℕ, ◌++◌, ◌<◌, ◌||◌, ◌∙◌, ◌∷◌, ◌≡◌, ◌≢◌, ◌≤◌}
use Rattle.std.proofs.lemmas.{Bool.cases_lt, Bool.false_from_ne_true, Bool.false≢true, Bool.true≢false, Bool.Decides.Decides-eqb, List.Folds.find-append}
use Rattle.sj_base.proofs.Lists.{map-agree}
pub use Rattle.sj_base.proofs.Lists.{map-agree as map-same}
use Rattle.sj_core.proofs.{Modes.reads_isn't_scratch, Readiness.Contains-from_filter, Sharing.operand-has_cell}

-- ---- lists

-- ---- what was put into a cell last

-- what a cell holds where these arrays were put over what it held
abbrev pub held_over : Contents → Cell → Array → Array
held_over entries c below = elim (find (λ (entry : Cell × Array). same_cell entry.0 c) entries) as (λ _. Array) [ None ↦ below | Some entry ↦ entry.1 ]

pub held-append : (p : Program) (xs ys : Contents) (c : Cell) → held_in p (xs ++ ys) c ≡ held_over xs c (held_in p ys c)
held-append p xs ys c = search (arith, find-append)

-- arrays of other cells leave what the cell holds
pub held_over-other : (cs : List Cell) (arrays : List Array) (c : Cell) (below : Array) → has_cell cs c ≡ false → held_over (zip cs arrays) c below ≡ below
held_over-other [] arrays c below h = refl
held_over-other (d ∷ cs) [] c below h = refl
held_over-other (d ∷ cs) (a ∷ arrays) c below h = search (arith, true≢false, (held_over-other cs arrays c below))

-- where each of the cells has an array, what they held doesn't matter
pub held_over-own : (cs : List Cell) (arrays : List Array) (c : Cell) (x y : Array) → has_cell cs c ≡ true → length cs ≤ length arrays → held_over (zip cs arrays) c x ≡ held_over (zip cs arrays) c y
held_over-own [] arrays c x y h l = absurd (false≢true h)
held_over-own (d ∷ cs) [] c x y h l = absurd (omega arith)
held_over-own (d ∷ cs) (a ∷ arrays) c x y h l = by_first (same_cell d c) h (λ k. held_over-own cs arrays c x y k (omega arith))
  where
    by_first : (b : Bool) → (b || has_cell cs c) ≡ true → (has_cell cs c ≡ true → held_over (zip cs arrays) c x ≡ held_over (zip cs arrays) c y) → elim (cond b (Some (d, a)) (find (λ (entry : Cell × Array). same_cell entry.0 c) (zip cs arrays))) as (λ _. Array) [ None ↦ x | Some entry ↦ entry.1 ] ≡ elim (cond b (Some (d, a)) (find (λ (entry : Cell × Array). same_cell entry.0 c) (zip cs arrays))) as (λ _. Array) [ None ↦ y | Some entry ↦ entry.1 ]
    by_first b h rest = search arith

-- ---- one task

-- a task leaves what a cell holds that it doesn't write
pub after_task-other : (eq : Equations) (p : Program) (w : Worker) (t : Task) (before : Contents) (c : Cell) → has_cell (written_cells p t w) c ≡ false → held_in p (after_task eq p w t before) c ≡ held_in p before c
after_task-other eq p w t before c h = search (arith, held-append, held_over-other)

-- a task's results depend on what it finds in the cells whose old value it reads
pub results-same : (eq : Equations) (p : Program) (t : Task) (v w : Worker) (held held' : Cell → Array) → ((a : Access) → Contains (task_of p t).accesses a → starts_as_zeros a.mode ≡ false → held (worked_on p v a) ≡ held' (worked_on p w a)) → results eq p t v held ≡ results eq p t w held'
results-same eq p t v w held held' same = search (arith, map-agree)

-- a cell whose old value a task reads is one of its cells
pub read-among_cells : (p : Program) (t : Task) (w : Worker) (a : Access) → Contains (task_of p t).accesses a → starts_as_zeros a.mode ≡ false → has_cell (cells_of p t w) (worked_on p w a) ≡ true
read-among_cells p t w a h reads =
    operand-has_cell (worked_on p w) (λ b. not (is_scratch b.mode)) (task_of p t).accesses a (worked_on p w a) h (reads_isn't_scratch a.mode reads) ((Decides-eqb (worked_on p w a).0 (worked_on p w a).0).1 refl)

-- a task by one of two workers works on the same cells
abbrev pub WorksAlike : Program → Task → Worker → Worker → Type 0
WorksAlike p t v w = (a : Access) → Contains (task_of p t).accesses a → worked_on p v a ≡ worked_on p w a

pub written_cells-alike : (p : Program) (t : Task) (v w : Worker) → WorksAlike p t v w → written_cells p t v ≡ written_cells p t w
written_cells-alike p t v w alike = search (arith, map-agree, Contains-from_filter)

-- after a task a cell holds alike what it and the task's cells held alike
pub after_task-same : (eq : Equations) (p : Program) (t : Task) (v w : Worker) (before before' : Contents) (c : Cell) → WorksAlike p t v w → ((d : Cell) → has_cell (cells_of p t v) d ≡ true → held_in p before d ≡ held_in p before' d) → held_in p before c ≡ held_in p before' c →
    held_in p (after_task eq p v t before) c ≡ held_in p (after_task eq p w t before') c
after_task-same eq p t v w before before' c alike same here =
    let cs = written_cells p t v in
    let cs' = written_cells p t w in
    let arrays = results eq p t v (held_in p before) in
    let arrays' = results eq p t w (held_in p before') in
    let finds : arrays ≡ arrays' = results-same eq p t v w (held_in p before) (held_in p before') (λ a h reads. same (worked_on p v a) (read-among_cells p t v a h reads) ∙ ap (held_in p before') (alike a h)) in
    held-append p (zip cs arrays) before c
    ∙ ap (λ (ds : List Cell). held_over (zip ds arrays) c (held_in p before c)) (written_cells-alike p t v w alike)
    ∙ ap (λ (xs : List Array). held_over (zip cs' xs) c (held_in p before c)) finds
    ∙ ap (held_over (zip cs' arrays') c) here
    ∙ sym (held-append p (zip cs' arrays') before' c)

-- ---- which tasks

-- contents depend on which tasks below n are chosen, and on the workers of those
pub after_chosen-same : (eq : Equations) (p : Program) (chosen chosen' : Task → Bool) (by by' : Task → Worker) (n : ℕ) → ((u : Task) → u.0 < n → chosen u ≡ chosen' u) → ((u : Task) → u.0 < n → chosen u ≡ true → by u ≡ by' u) → after_chosen eq p chosen by n ≡ after_chosen eq p chosen' by' n
after_chosen-same eq p chosen chosen' by by' zero same workers = refl
after_chosen-same eq p chosen chosen' by by' (suc n) same workers =
    search (arith, task, after_chosen-same eq p chosen chosen' by by' n (λ u h. same u (omega arith)) (λ u h. workers u (omega arith)))

-- where no chosen task from a on writes a cell, it holds what it held after the tasks below a
pub held-until : (eq : Equations) (p : Program) (chosen : Task → Bool) (by : Task → Worker) (c : Cell) (a n : ℕ) → a ≤ n → ((u : Task) → a ≤ u.0 → u.0 < n → chosen u ≡ true → has_cell (written_cells p u (by u)) c ≡ false) →
    held_in p (after_chosen eq p chosen by n) c ≡ held_in p (after_chosen eq p chosen by a) c
held-until eq p chosen by c a zero l spared = ap (λ k. held_in p (after_chosen eq p chosen by k) c) (let e : zero ≡ a = omega arith in e)
held-until eq p chosen by c a (suc n) l spared =
    elim (cases_lt n a) [
      | inl past ↦ ap (λ k. held_in p (after_chosen eq p chosen by k) c) (let e : suc n ≡ a = omega arith in e)
      | inr before ↦ by_choice (chosen (task n)) refl (λ e. spared (task n) before (omega arith) e) ∙ held-until eq p chosen by c a n before (λ u h k. spared u h (omega arith))
    ]
  where
    by_choice : (b : Bool) → chosen (task n) ≡ b → (chosen (task n) ≡ true → has_cell (written_cells p (task n) (by (task n))) c ≡ false) →
        held_in p (cond b (after_task eq p (by (task n)) (task n) (after_chosen eq p chosen by n)) (after_chosen eq p chosen by n)) c ≡ held_in p (after_chosen eq p chosen by n) c
    by_choice true e other = after_task-other eq p (by (task n)) (task n) (after_chosen eq p chosen by n) c (other e)
    by_choice false e other = refl

-- ---- the cone of a cell

-- among wider chosen tasks below n these have, with each task, those before it that write a cell on which it works
pub record IsCone (p : Program) (chosen wider : Task → Bool) (by by' : Task → Worker) (n : ℕ) : Type 0 where
  pub within : (u : Task) → u.0 < n → chosen u ≡ true → wider u ≡ true
  pub alike : (t : Task) → t.0 < n → chosen t ≡ true → WorksAlike p t (by t) (by' t)
  pub closed : (u t : Task) (d : Cell) → u.0 < t.0 → t.0 < n → chosen t ≡ true → wider u ≡ true → has_cell (written_cells p u (by' u)) d ≡ true → has_cell (cells_of p t (by t)) d ≡ true → chosen u ≡ true

-- each of the wider chosen tasks below n that writes the cell is chosen
abbrev pub HasWriters : Program → (Task → Bool) → (Task → Bool) → (Task → Worker) → ℕ → Cell → Type 0
HasWriters p chosen wider by' n c = (u : Task) → u.0 < n → wider u ≡ true → has_cell (written_cells p u (by' u)) c ≡ true → chosen u ≡ true

-- a cell all of whose writers are in a cone holds the same after the tasks of the cone alone
pub cone-holds : (eq : Equations) (p : Program) (chosen wider : Task → Bool) (by by' : Task → Worker) (n : ℕ) → IsCone p chosen wider by by' n → (c : Cell) → HasWriters p chosen wider by' n c → held_in p (after_chosen eq p chosen by n) c ≡ held_in p (after_chosen eq p wider by' n) c
cone-holds eq p chosen wider by by' zero k c writers = refl
cone-holds eq p chosen wider by by' (suc n) k c writers = by_choice (chosen t) (wider t) refl refl (cone-holds eq p chosen wider by by' n below)
  where
    t : Task
    t = task n

    below : IsCone p chosen wider by by' n
    below = record { within = λ u h. k.within u (omega arith); alike = λ u h. k.alike u (omega arith); closed = λ u v d before h. k.closed u v d before (omega arith) }

    by_choice : (a b : Bool) → chosen (task n) ≡ a → wider (task n) ≡ b → ((d : Cell) → HasWriters p chosen wider by' n d → held_in p (after_chosen eq p chosen by n) d ≡ held_in p (after_chosen eq p wider by' n) d) →
        held_in p (cond a (after_task eq p (by (task n)) (task n) (after_chosen eq p chosen by n)) (after_chosen eq p chosen by n)) c ≡ held_in p (cond b (after_task eq p (by' (task n)) (task n) (after_chosen eq p wider by' n)) (after_chosen eq p wider by' n)) c
    by_choice true true e f rest =
        after_task-same eq p (task n) (by (task n)) (by' (task n)) (after_chosen eq p chosen by n) (after_chosen eq p wider by' n) c
        (k.alike (task n) (omega arith) e)
        (λ d has. rest d (λ u h among writes. k.closed u (task n) d h (omega arith) e among writes has))
        (rest c (λ u h. writers u (omega arith)))
    by_choice true false e f rest = absurd (false≢true (sym f ∙ k.within (task n) (omega arith) e))
    by_choice false true e f rest =
        let other = false_from_ne_true (has_cell (written_cells p (task n) (by' (task n))) c) (λ writes. false≢true (sym e ∙ writers (task n) (omega arith) f writes)) in
        rest c (λ u h. writers u (omega arith)) ∙ sym (after_task-other eq p (by' (task n)) (task n) (after_chosen eq p wider by' n) c other)
    by_choice false false e f rest = rest c (λ u h. writers u (omega arith))

-- ---- one task more

-- the task is chosen too, with that worker
pub record AddsTask (chosen chosen' : Task → Bool) (by by' : Task → Worker) (t : Task) (w : Worker) : Type 0 where
  pub absent : chosen t ≡ false
  pub present : chosen' t ≡ true
  pub worker : by' t ≡ w
  pub others : (u : Task) → u ≢ t → chosen' u ≡ chosen u
  pub workers : (u : Task) → u ≢ t → by' u ≡ by u
