-- What a claimed or running task finds in the cells whose old value it reads; and which cells no running task writes, before
-- and after a step.
use Rattle.sj_core.proofs.Words.{Access, ap, arith, Array, Arrays, AtNode, Bool, Cell, cells_of, Coherent, cond, Contains, content, copy_of, count_by, dims_of, done_by, Equations, false, fresh_cells, gives_value, has_cell, has_copy, HasDependencies, HasRows, HoldsContent, if◌then◌else◌, inl, inr, is_being_written, is_redux, is_running_on, is_task_of, is_written, length, Machine, node_of, not, Place, Program, Progress, progress, Proper, refl, Running, same_cell, State, sym, Task, task_of, tasks_of, true, worked_on, Worker, worker_of, writes, written_cells, zeros, ◌&&◌, ◌<◌, ◌∙◌, ◌≡◌}
use Rattle.std.proofs.lemmas.{Bool.and_from, Bool.and_parts, Bool.false_from_ne_true, Bool.false≢true, Bool.not-true, List.Folds.Any-from_list_any}
use Rattle.sj_base.proofs.Lists.{list_any-numbered}
use Rattle.sj_core.proofs.{Advancing.Advances, Advancing.running_on-is, Advancing.same_task, Advancing.task_of-worker, Reading.progress-inside, Replicas.same_worker-refl, Separation.separated, Sharing.operand-has_cell, Sums.counted-has}

-- ---- lists

-- a task of the program that passes is counted
pub task-counted : (p : Program) (test : Task → Bool) (u : Task) → u.0 < length p.tasks → test u ≡ true → 0 < count_by test (tasks_of p)
task-counted p test u inside passes = counted-has test (tasks_of p) (list_any-numbered (λ n. record { 0 = n }) test u.0 (length p.tasks) inside passes)

-- ---- running tasks

-- a cell that is being written has a running task that writes it
pub being_written-by : (p : Program) (s : State) (c : Cell) → is_being_written p s c ≡ true → (u : Task) × (progress s u ≡ Running (done_by s u)) × (has_cell (written_cells p u (done_by s u)) c ≡ true)
being_written-by p s c h = search (arith, Any-from_list_any, and_parts, running_on-is)

pub being_written-here : (p : Program) (s : State) (c : Cell) (u : Task) (v : Worker) → u.0 < length p.tasks → progress s u ≡ Running v → has_cell (written_cells p u v) c ≡ true → is_being_written p s c ≡ true
being_written-here p s c u v inside running writes =
    let test : Progress → Task → Bool = λ x t. is_running_on (worker_of x) x && has_cell (written_cells p t (worker_of x)) c in
    list_any-numbered (λ n. record { 0 = n }) (λ t. test (progress s t) t) u.0 (length p.tasks) inside
    (ap (λ x. test x u) running ∙ ap (λ b. b && has_cell (written_cells p u v) c) (same_worker-refl v) ∙ writes)

-- ---- cells of tasks

-- a cell of a task is written by no running task but this
pub not_being_written : (p : Program) (m : Machine) → Proper p → HasDependencies p → (s : State) → Coherent p m s → (t : Task) (w : Worker) (c : Cell) → is_task_of w (progress s t) ≡ true → has_cell (cells_of p t w) c ≡ true → (progress s t ≡ Running w → has_cell (written_cells p t w) c ≡ false) → is_being_written p s c ≡ false
not_being_written p m proper deps s sound t w c mine has spared = false_from_ne_true (is_being_written p s c) (λ h. (let by = being_written-by p s c h in by_task by.0 by.1 by.2))
  where
    by_task : (u : Task) → progress s u ≡ Running (done_by s u) → has_cell (written_cells p u (done_by s u)) c ≡ true → ⊥
    by_task u running writes =
        elim (same_task u t) [
          | inl e ↦ (search (arith, task_of-worker, false≢true))
          | inr d ↦ separated p m proper.cells deps s sound.state sound.workers sound.order t u w (done_by s u) c (λ e. d (sym e)) mine (ap (is_task_of (done_by s u)) running ∙ same_worker-refl (done_by s u)) has writes
        ]

-- a task that gives a cell a value writes it, whichever worker runs it
pub gives-writes : (p : Program) (u : Task) (v : Worker) (c : Cell) → gives_value (task_of p u) c ≡ true → has_cell (written_cells p u v) c ≡ true
gives-writes p u v c h =
    let gives : Access → Bool = λ a. is_written a.mode && not (is_redux a.mode) && same_cell a.cell c in
    let given = Any-from_list_any gives (task_of p u).accesses h in
    let b = given.1 in
    let among : Contains (task_of p u).accesses b = (given.0, given.2, given.3) in
    let tests = three (is_written b.mode) (not (is_redux b.mode)) (same_cell b.cell c) given.4 in
    let direct : worked_on p v b ≡ b.cell = ap (λ x. cond x (copy_of p b.cell v) b.cell) (not-true (is_redux b.mode) tests.1) in
    operand-has_cell (worked_on p v) (λ a. is_written a.mode) (task_of p u).accesses b c among tests.0 (ap (λ (q : Cell). same_cell q c) direct ∙ tests.2)
  where
    three : (x y z : Bool) → (x && y && z) ≡ true → (x ≡ true) × (y ≡ true) × (z ≡ true)
    three x y z h = search (arith, false≢true)

-- ---- cells at rest

pub running-inside : (p : Program) (m : Machine) (s : State) (u : Task) (v : Worker) → HasRows p m s → progress s u ≡ Running v → u.0 < length p.tasks
running-inside p m s u v rows running = search (arith, progress-inside)

-- a cell that isn't being written after a step wasn't before, unless the task of the step wrote it
pub not_written-before : (p : Program) (m : Machine) (s s' : State) (t : Task) (old new : Progress) (c : Cell) → HasRows p m s → Advances s s' t old new → is_being_written p s' c ≡ false → ((v : Worker) → old ≡ Running v → has_cell (written_cells p t v) c ≡ false) → is_being_written p s c ≡ false
not_written-before p m s s' t old new c rows a resting spared =
    search (arith, false_from_ne_true, being_written-by, same_task, false≢true, being_written-here, running-inside)

-- and the other way round: one that isn't being written isn't after a step whose task doesn't begin to write it
pub not_written-after : (p : Program) (m : Machine) (s s' : State) (t : Task) (old new : Progress) (c : Cell) → HasRows p m s' → Advances s s' t old new → is_being_written p s c ≡ false → ((v : Worker) → new ≡ Running v → has_cell (written_cells p t v) c ≡ false) → is_being_written p s' c ≡ false
not_written-after p m s s' t old new c rows a resting spared = not_written-before p m s' s t new old c rows (record { was = a.is; is = a.was; others = λ u d. sym (a.others u d) }) resting spared

-- ---- arrays

-- a choice by two tests, where both pass and where the second fails
pub both_pass : {X : Type 0} (a b : Bool) (x y : X) → a ≡ true → b ≡ true → (if a && b then x else y) ≡ x
both_pass a b x y e f = ap (λ c. cond c x y) (and_from a b e f)

pub second_fails : {X : Type 0} (a b : Bool) (x y : X) → b ≡ false → (if a && b then x else y) ≡ y
second_fails true b x y e = ap (λ c. cond c x y) e
second_fails false b x y e = refl

-- where no array changes, no task more runs or is done, and there are no more copies, the arrays are what they ought to be
pub HoldsContent-kept : (eq : Equations) (p : Program) (m : Machine) (s s' : State) (A A' : Arrays) → ((c : Cell) (q : Place) → A' c q ≡ A c q) → ((t : Task) (w : Worker) → progress s' t ≡ Running w → progress s t ≡ Running w) →
    ((c : Cell) → content eq p s' c ≡ content eq p s c) → ((c : Cell) → writes s' c ≡ writes s c) → ((c : Cell) → is_being_written p s' c ≡ false → is_being_written p s c ≡ false) →
    ((c : Cell) (q : Place) → has_copy p m s' c q ≡ true → has_copy p m s c q ≡ true) → HoldsContent eq p m s A → HoldsContent eq p m s' A'
HoldsContent-kept eq p m s s' A A' same runs contents count rested was holds = record {
  begun = λ t w c running written. same c (AtNode (node_of m w)) ∙ holds.begun t w c (runs t w running) written ∙ ap (λ (a : Array). cond (has_cell (fresh_cells p t w) c) (zeros (dims_of p c)) a) (sym (contents c));
  alike = λ c q some resting valid. same c q ∙ holds.alike c q (omega (arith, count c, some)) (rested c resting) (was c q valid) ∙ sym (contents c);
}
