-- The commuting cells of a task that a claimed or running task has: those that a worker pins.
use Rattle.sj_machine.proofs.Words.{[], ap, arith, Bool, Cell, cells_of, Coherent, commuter_in_use, CommutersAreFree, commuting_cells, find, first_held, get_or, has_cell, HoldsCommutersAlone, is_active, is_held, is_in_use, is_task_of, IsHeld, length, List, list_all, Machine, None, not, pins, Program, Progress, progress, refl, State, sym, Task, task_of, tasks_of, true, Waiting, Worker, worker_of, WorkerState, ◌&&◌, ◌<◌, ◌∙◌, ◌∷◌, ◌≡◌, ◌≢◌}
use Rattle.std.proofs.lemmas.{Bool.and_parts, Bool.false_from_ne_true, Bool.false≢true, List.get_or_default, List.Folds.list_any_at}
use Rattle.sj_core.proofs.{Advancing.task_of-active, Advancing.task_of-worker, Claiming.pins-inside, Readiness.list_any-some, Reading.idle_row, Reading.progress-inside, Separation.in_use, Sums.same_test}

-- ---- lists

-- where a search finds none, each fails the test
pub found-none : {X : Type 0} (f : X → Bool) (xs : List X) → find f xs ≡ None → list_all (λ x. not (f x)) xs ≡ true
found-none f [] none = refl
found-none f (x ∷ xs) none = search (arith, found-none f xs)

-- ---- who holds a cell

module _ (p : Program) (m : Machine) (s : State) (coherent : Coherent p m s) where
  task-known : (u : Task) (v : Worker) → is_task_of v (progress s u) ≡ true → u.0 < length p.tasks
  task-known u v has = omega (arith, progress-inside s u (λ e. active-isn't_waiting (progress s u) (task_of-active v (progress s u) has) e), coherent.state.rows.tasks)
    where
      active-isn't_waiting : (x : Progress) → is_active x ≡ true → x ≡ Waiting → ⊥
      active-isn't_waiting x h e = false≢true (sym (ap is_active e) ∙ h)

  -- a worker pins a cell exactly where it belongs to a claimed or running task
  held-is : (c : Cell) → is_held s.workers c ≡ is_in_use p s c
  held-is c = same_test (is_held s.workers c) (is_in_use p s c) there back
    where
      there : is_held s.workers c ≡ true → is_in_use p s c ≡ true
      there held =
          let found = list_any-some (λ (row : WorkerState). has_cell row.pins c) s.workers held in
          let v : Worker = record { 0 = found.1.0 } in
          let row : get_or s.workers v.0 idle_row ≡ found.0 = get_or_default s.workers v.0 idle_row found.0 found.1.1 ∙ found.1.2 in
          let pinned : has_cell (pins s v) c ≡ true = ap (λ (x : WorkerState). has_cell x.pins c) row ∙ found.2 in
          let own = coherent.pins.own v c pinned in
          in_use p s own.task c (task-known own.task v own.has) (task_of-active v (progress s own.task) own.has) (ap (λ (x : Worker). has_cell (cells_of p own.task x) c) (task_of-worker v (progress s own.task) own.has) ∙ own.cell)

      back : is_in_use p s c ≡ true → is_held s.workers c ≡ true
      back used =
          let found = list_any-some (λ (u : Task). is_task_of (worker_of (progress s u)) (progress s u) && has_cell (cells_of p u (worker_of (progress s u))) c) (tasks_of p) used in
          let v = worker_of (progress s found.0) in
          let both = and_parts (is_task_of v (progress s found.0)) (has_cell (cells_of p found.0 v) c) found.2 in
          let pinned = coherent.cells.pinned found.0 v c both.0 both.1 in
          list_any_at (λ (row : WorkerState). has_cell row.pins c) s.workers v.0 idle_row (pins-inside s v c pinned) pinned

  -- so the first commuting cell that a worker pins is the first that is in use
  pub first-is : (t : Task) → first_held s.workers (task_of p t).accesses ≡ commuter_in_use p s t
  first-is t = ap (λ (f : Cell → Bool). find f (commuting_cells p t)) (λ i c. held-is c i)

  -- a worker with a task holds its commuting cells alone
  pub holds-alone : (t : Task) (w : Worker) → is_task_of w (progress s t) ≡ true → HoldsCommutersAlone p s t w
  holds-alone t w mine c v commutes other = false_from_ne_true (has_cell (pins s v) c) (λ pinned. shared (coherent.pins.own v c pinned))
    where
      shared : IsHeld p s v c → ⊥
      shared own =
          let differ : t ≢ own.task = λ e. other (sym (task_of-worker v (progress s own.task) own.has) ∙ ap (λ (u : Task). worker_of (progress s u)) (sym e) ∙ task_of-worker w (progress s t) mine) in
          coherent.order.commuting t own.task (task_of-active w (progress s t) mine) (task_of-active v (progress s own.task) own.has) differ
          (record { cell = c; commuting = commutes; shared = ap (λ (x : Worker). has_cell (cells_of p own.task x) c) (task_of-worker v (progress s own.task) own.has) ∙ own.cell })

-- and all are free, where none is found
pub commuters-alone : (p : Program) (s : State) (t : Task) → CommutersAreFree p s t → list_all (λ c. not (is_in_use p s c)) (commuting_cells p t) ≡ true
commuters-alone p s t free = found-none (is_in_use p s) (commuting_cells p t) free
