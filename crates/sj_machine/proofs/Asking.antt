-- What the rows say of a claimed task's next step.
use Rattle.sj_machine.proofs.Words.{ap, arith, Bool, Cell, cell_info, CellInfo, cells_of, Claimed, false, find, fresh_cells, get_or, has_cell, HasNumbers, IfSome, is_brought, is_claimed_by, is_coming_by, is_fresh, is_some, is_to_come, IsCopyOf, IsSound, length, Machine, mark, next_cell, node_of, None, not, Option, Program, progress, refl, Some, State, sym, Task, task_of, true, worked_among, Worker, ℕ, ◌&&◌, ◌+◌, ◌<◌, ◌^◌, ◌∙◌, ◌≡◌}
use Rattle.std.proofs.{Math.Path.fun_ext}
use Rattle.std.proofs.lemmas.{Bool.and_from, Bool.and_parts, Bool.false_from_ne_true, Bool.false≢true, List.get_or_default}
use Rattle.sj_core.proofs.{Advancing.claimed-task_of, Advancing.claimed_by-is, Claimed.claimed-inside, Claimed.claimed-staffed, Claimed.list_any-task, Readiness.list_any-some, Replicas.same_worker-refl}

module _ (p : Program) (m : Machine) (s : State) (h : IsSound p m s) (t : Task) (w : Worker) (claimed : progress s t ≡ Claimed w) where
  -- the worker's partial copies have numbers
  pub numbers : HasNumbers p w
  numbers = record { copies = λ i d inside. by_partials i d inside (get_or p.cells i d).partials refl }
    where
      by_partials : (i : ℕ) (d : CellInfo) → i < length p.cells → (o : Option Cell) → (get_or p.cells i d).partials ≡ o → IfSome o (λ first. first.0 + w.0 < 2 ^ 32)
      by_partials i d inside None e = tt
      by_partials i d inside (Some first) e =
          let c : Cell = record { 0 = i } in
          let q : Cell = record { 0 = first.0 + w.0 } in
          let info : (cell_info p c).partials ≡ Some first = ap (λ (x : CellInfo). x.partials) (get_or_default p.cells i _ d inside) ∙ e in
          let copy : IsCopyOf p q c w = record { has_copies = ap is_some info; of_worker = claimed-staffed p m s h t w claimed; is = sym (ap (λ (o : Option Cell). elim o as (λ _. Cell) [ None ↦ c | Some f ↦ record { 0 = f.0 + w.0 } ]) info) } in
          omega (arith, (h.proper.cells.copies q c w copy).0, h.proper.limits.cells)

  -- the cells whose old value it doesn't read are those of the task
  pub fresh_is : (c : Cell) → has_cell (fresh_cells p t w) c ≡ is_fresh p s w c
  fresh_is c = sym (by_task (has_cell (fresh_cells p t w) c) refl)
    where
      by_task : (b : Bool) → has_cell (fresh_cells p t w) c ≡ b → is_fresh p s w c ≡ b
      by_task true e = list_any-task p (λ u. is_claimed_by w (progress s u) && has_cell (fresh_cells p u w) c) t (claimed-inside p m s h t w claimed) (and_from (is_claimed_by w (progress s t)) (has_cell (fresh_cells p t w) c) (ap (is_claimed_by w) claimed ∙ same_worker-refl w) e)
      by_task false e = false_from_ne_true (is_fresh p s w c) (λ some.
          (let found = list_any-some (λ u. is_claimed_by w (progress s u) && has_cell (fresh_cells p u w) c) _ some in
          let parts = and_parts (is_claimed_by w (progress s found.0)) (has_cell (fresh_cells p found.0 w) c) found.2 in
          let one = h.coherent.workers.one_task found.0 t w (claimed-task_of s found.0 w (claimed_by-is w (progress s found.0) parts.0)) (claimed-task_of s t w claimed) in
          false≢true (sym e ∙ ap (λ (u : Task). has_cell (fresh_cells p u w) c) (sym one) ∙ parts.1)))

  -- the cell that is brought next
  pub cell_is : find (is_brought s.cells p (node_of m w) w (task_of p t).accesses) (worked_among p w (task_of p t).accesses) ≡ next_cell p m s t w
  cell_is = ap (λ (f : Cell → Bool). find f (cells_of p t w)) (fun_ext {f = is_brought s.cells p (node_of m w) w (task_of p t).accesses} {g = is_to_come p m s w} (λ c. ap (λ b. is_coming_by w (mark s c (node_of m w)) && not b) (fresh_is c)))
