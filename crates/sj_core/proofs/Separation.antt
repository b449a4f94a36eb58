-- Claimed and running tasks keep apart: none writes a cell on which another works. And a claim keeps the order of tasks.
use Rattle.sj_core.proofs.Words.{after_claim, ap, arith, Bool, CanClaim, Cell, cells_of, Claimed, commuting_cells, copy_of, has_cell, HasDependencies, if◌then◌else◌, inl, inr, is_active, is_commute, is_done, is_in_use, is_task_of, is_written, IsStateOf, IsTrue, length, Machine, NamesCells, not, OrderIsKept, Program, Progress, progress, SharesCommuting, State, subst, sym, Task, task_of, true, Waiting, worked_on, Worker, worker_of, WorkersAreSound, written_cells, ℕ, ◌&&◌, ◌<◌, ◌∙◌, ◌≡◌, ◌≢◌}
use Rattle.sj_core.proofs.{Advancing.active-begun, Advancing.active_isn't_done, Advancing.Advances, Advancing.apart-from_earlier, Advancing.Claims-advances, Advancing.Claims-keeps_earlier, Advancing.idle-has_none, Advancing.same_task, Advancing.task_of-active, Advancing.task_of-worker, Eviction.evicted_by, Modes.commute_isn't_redux, Modes.commutes_is_written, Readiness.Ready-earlier, Reading.list_all-has, Reading.progress-inside, Sharing.Commuting, Sharing.Conflicting, Sharing.Contributing, Sharing.operand-has_cell, Sharing.operand_for, Sharing.Sharing, Sharing.sharing, TaskCells.written-among_cells}
use Rattle.std.proofs.lemmas.{Bool.cases_lt, Bool.false≢true, Bool.true≢false, Bool.Decides.Decides-eqb}
use Rattle.sj_base.proofs.Lists.{list_any-numbered}

active-isn't_waiting : (x : Progress) → is_active x ≡ true → x ≢ Waiting
active-isn't_waiting x h e = false≢true (sym (ap is_active e) ∙ h)

-- ---- commuting cells are written

pub commuting-among_written : (p : Program) (t : Task) (w : Worker) (c : Cell) → has_cell (commuting_cells p t) c ≡ true → has_cell (written_cells p t w) c ≡ true
commuting-among_written p t w c h =
    let a = operand_for (λ b. b.cell) (λ b. is_commute b.mode) (task_of p t).accesses c h in
    let plain : worked_on p w a.0 ≡ c = ap (λ b. if b then copy_of p a.0.cell w else a.0.cell) (commute_isn't_redux a.0.mode a.2) ∙ a.3 in
    operand-has_cell (worked_on p w) (λ b. is_written b.mode) (task_of p t).accesses a.0 c a.1 (commutes_is_written a.0.mode a.2) ((Decides-eqb (worked_on p w a.0).0 c.0).1 (ap (λ (k : Cell). k.0) plain))

-- ---- active tasks keep apart

-- a claimed or running task's cells are in use
pub in_use : (p : Program) (s : State) (u : Task) (c : Cell) → u.0 < length p.tasks → is_active (progress s u) ≡ true → has_cell (cells_of p u (worker_of (progress s u))) c ≡ true → is_in_use p s c ≡ true
in_use p s u c inside active has =
    let test : Task → Bool = λ t. is_task_of (worker_of (progress s t)) (progress s t) && has_cell (cells_of p t (worker_of (progress s t))) c in
    list_any-numbered (λ n. record { 0 = n }) test u.0 (length p.tasks) inside (ap (λ b. b && has_cell (cells_of p u (worker_of (progress s u))) c) active ∙ has)

module _ (p : Program) (m : Machine) (names : NamesCells p) (deps : HasDependencies p) (s : State) (state : IsStateOf p m s) (sound : WorkersAreSound p m s) (kept : OrderIsKept p s) where
  task-inside : (t : Task) → is_active (progress s t) ≡ true → t.0 < length p.tasks
  task-inside t h = omega (arith, progress-inside s t (active-isn't_waiting (progress s t) h), state.rows.tasks)

  pub worker-inside : (t : Task) (w : Worker) → is_task_of w (progress s t) ≡ true → w.0 < p.workers
  worker-inside t w h = subst (λ (v : Worker). v.0 < p.workers) (task_of-worker w (progress s t) h) (state.staff.staffed t (active-begun (progress s t) (task_of-active w (progress s t) h)))

  -- no claimed or running task works on a cell that another one writes
  pub separated : (u t : Task) (v w : Worker) (c : Cell) → u ≢ t → is_task_of v (progress s u) ≡ true → is_task_of w (progress s t) ≡ true → has_cell (cells_of p u v) c ≡ true → has_cell (written_cells p t w) c ≡ true → ⊥
  separated u t v w c d hu ht cu ct = search (arith, task_of-active, by_sharing, sharing, task-inside, worker-inside)
    where
      by_sharing : Sharing p u t v w c → is_active (progress s u) ≡ true → is_active (progress s t) ≡ true → ⊥
      by_sharing (Conflicting forward backward) au at = elim (cases_lt u.0 t.0) [
        | inl before ↦ kept.apart t u at au before forward
        | inr after ↦
            let differ : u.0 ≢ t.0 = λ e. d (ap (λ (i : ℕ). let j : Task = record { 0 = i } in j) e) in
            kept.apart u t au at (omega (arith, after, differ)) backward
      ]
      by_sharing (Commuting hu' ht') au at = kept.commuting t u at au (λ e. d (sym e)) (record { cell = c; commuting = ht'; shared = subst (λ (x : Worker). IsTrue (has_cell (cells_of p u x) c)) (sym (task_of-worker v (progress s u) hu)) cu })
      by_sharing (Contributing e) au at = d (sound.one_task u t w (subst (λ (x : Worker). IsTrue (is_task_of x (progress s u))) e hu) ht)

  -- ---- a claim keeps the order

  module _ (t : Task) (w : Worker) (s' : State) (staffed : w.0 < p.workers) (claim : CanClaim p m s t w) (leaves : s' ≡ after_claim p m s t w (evicted_by p m s t w)) where
    advance : Advances s s' t Waiting (Claimed w)
    advance = Claims-advances p m s t w s' state.rows claim leaves

    was_active : (u : Task) → u ≢ t → is_active (progress s' u) ≡ true → is_active (progress s u) ≡ true
    was_active u d h = sym (ap is_active (advance.others u d)) ∙ h

    -- a commuting cell of the claimed task is a cell of no other active one
    claim-alone : (u : Task) (c : Cell) → is_active (progress s u) ≡ true → has_cell (commuting_cells p t) c ≡ true → has_cell (cells_of p u (worker_of (progress s u))) c ≡ true → ⊥
    claim-alone u c active commutes has =
        false≢true (sym (ap not (in_use p s u c (task-inside u active) active has)) ∙ list_all-has (λ x. not (is_in_use p s x)) (commuting_cells p t) c claim.alone commutes)

    -- nor has the claimed task a commuting cell of another active one
    claim-apart : (u : Task) (c : Cell) → is_active (progress s u) ≡ true → has_cell (commuting_cells p u) c ≡ true → has_cell (cells_of p t w) c ≡ true → ⊥
    claim-apart u c active commutes has =
        search (arith, commuting-among_written, by_sharing, sharing, task-inside, worker-inside)
      where
        by_sharing : Sharing p t u w (worker_of (progress s u)) c → has_cell (written_cells p u (worker_of (progress s u))) c ≡ true → ⊥
        by_sharing (Conflicting forward backward) written = elim (cases_lt u.0 t.0) [
          | inl before ↦ true≢false (sym (Ready-earlier p s t claim.ready u before backward) ∙ active_isn't_done (progress s u) active)
          | inr after ↦
              let differ : u.0 ≢ t.0 = λ e. active-isn't_waiting (progress s u) active (ap (λ (i : ℕ). let j : Task = record { 0 = i } in progress s j) e ∙ claim.waiting) in
              true≢false (sym (kept.earlier u (active-begun (progress s u) active) t (omega (arith, after, differ)) forward) ∙ ap is_done claim.waiting)
        ]
        by_sharing (Commuting ht hu) written = claim-alone u c active ht (written-among_cells p u (worker_of (progress s u)) c written)
        by_sharing (Contributing e) written = false≢true (sym (idle-has_none s w u claim.idle) ∙ ap (λ (x : Worker). is_task_of x (progress s u)) e ∙ active)

    claim-commuting : (u v : Task) → IsTrue (is_active (progress s' u)) → IsTrue (is_active (progress s' v)) → u ≢ v → ¬ SharesCommuting p s' u v
    claim-commuting u v au av d h =
        elim (same_task u t) [
          | inl e ↦
              let other : v ≢ t = λ f. d (e ∙ sym f) in
              claim-alone v h.cell (was_active v other av) (subst (λ (k : Task). IsTrue (has_cell (commuting_cells p k) h.cell)) e h.commuting) (subst (λ (x : Progress). IsTrue (has_cell (cells_of p v (worker_of x)) h.cell)) (advance.others v other) h.shared)
          | inr du ↦ elim (same_task v t) [
            | inl f ↦
                let mine : has_cell (cells_of p t (worker_of (progress s' t))) h.cell ≡ true = subst (λ (k : Task). IsTrue (has_cell (cells_of p k (worker_of (progress s' k))) h.cell)) f h.shared in
                claim-apart u h.cell (was_active u du au) h.commuting (subst (λ (x : Progress). IsTrue (has_cell (cells_of p t (worker_of x)) h.cell)) advance.is mine)
            | inr dv ↦ kept.commuting u v (was_active u du au) (was_active v dv av) d (record { cell = h.cell; commuting = h.commuting; shared = subst (λ (x : Progress). IsTrue (has_cell (cells_of p v (worker_of x)) h.cell)) (advance.others v dv) h.shared })
          ]
        ]

    -- a claim keeps the order of conflicting tasks
    pub Claims-keeps_order : OrderIsKept p s'
    Claims-keeps_order = search (arith, Claims-keeps_earlier, apart-from_earlier, claim-commuting)
