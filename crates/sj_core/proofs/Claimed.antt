-- A claimed task of a coherent state: its worker, and what it finds in the cells whose old values it reads.
use Rattle.sj_core.proofs.Words.{ap, arith, Bool, Cell, cells_of, Claimed, false, fresh_cells, has_cell, is_begun, is_being_written, IsSound, length, list_any, Machine, Program, progress, Running, State, sym, Task, tasks_of, true, Worker, writes, ◌<◌, ◌∙◌, ◌≡◌}
use Rattle.sj_base.proofs.Lists.{list_any-numbered}
use Rattle.sj_core.proofs.{Advancing.claimed-task_of, Dependencies.Proper-dependencies, Finding.not_being_written, Reading.progress-inside, Separation.worker-inside, Values.old_value-written}

-- some task of the program passes a test that this one passes
pub list_any-task : (p : Program) (test : Task → Bool) (t : Task) → t.0 < length p.tasks → test t ≡ true → list_any test (tasks_of p) ≡ true
list_any-task p test t inside passes = list_any-numbered (λ n. record { 0 = n }) test t.0 (length p.tasks) inside passes

module _ (p : Program) (m : Machine) (s : State) (h : IsSound p m s) (t : Task) (w : Worker) (claimed : progress s t ≡ Claimed w) where
  pub claimed-staffed : w.0 < p.workers
  claimed-staffed = worker-inside p m h.proper.cells (Proper-dependencies p h.proper) s h.coherent.state h.coherent.workers h.coherent.order t w (claimed-task_of s t w claimed)

  pub claimed-inside : t.0 < length p.tasks
  claimed-inside = search (arith, progress-inside)

  -- no running task writes a cell of the claimed one
  pub claimed-not_written : (c : Cell) → has_cell (cells_of p t w) c ≡ true → is_being_written p s c ≡ false
  claimed-not_written c has = not_being_written p m h.proper (Proper-dependencies p h.proper) s h.coherent t w c (claimed-task_of s t w claimed) has (λ e. absurd (let f : Claimed w ≡ Running w = sym claimed ∙ e in cc))

  -- a cell of the task that it doesn't find as zeros has been written
  pub claimed-old_value : (c : Cell) → has_cell (cells_of p t w) c ≡ true → has_cell (fresh_cells p t w) c ≡ false → 0 < writes s c
  claimed-old_value c has not_fresh = old_value-written p h.proper s t w claimed-inside claimed-staffed (h.coherent.order.earlier t (ap is_begun claimed)) c h.coherent.counts has not_fresh
