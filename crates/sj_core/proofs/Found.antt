-- What a claimed or running task finds where it works, whatever the modes: the content of each cell whose old value it reads.
use Rattle.sj_core.proofs.Words.{Access, ap, arith, Arrays, AtNode, Bool, Cell, cells_of, Codelet, Coherent, cond, Contains, content, data_operands, dims_of, Equations, false, fresh_cells, has_cell, HoldsContent, is_redux, is_running_on, is_scratch, is_task_of, is_valid, IsTrue, Machine, mark, Mode, no_task, node_of, not, Program, progress, Proper, R, refl, Running, same_cell, starts_as_zeros, State, subst, sym, Task, task_of, true, Uses, W, worked_on, Worker, Write, written_cells, zeros, ◌<◌, ◌∙◌, ◌≡◌, ◌⊎◌}
use Rattle.std.proofs.lemmas.Bool.{false_from_ne_true, false≢true}
use Rattle.sj_core.proofs.{Advancing.active-begun, Advancing.running_on-is, Advancing.task_of-active, CellLists.same_cell-from, Copies.direct-cell, Dependencies.Proper-dependencies, Finding.not_being_written, Folding.read-among_cells, Modes.reads_isn't_scratch, Readiness.AllPairs-two, Readiness.Contains-filter, Readiness.Contains-from_filter, Readiness.filter-Contains, Replicas.same_worker-refl, Separation.worker-inside, Sharing.manner_of, Sharing.operand_for, TaskCells.operand-inside, Updating.operand-used, Values.old_value-written}

module _ (p : Program) (proper : Proper p) where
  -- a cell whose old value one operand reads is none that another one finds as zeros
  pub found-not_fresh : (t : Task) (w : Worker) → w.0 < p.workers → (a : Access) → Contains (task_of p t).accesses a → starts_as_zeros a.mode ≡ false → has_cell (fresh_cells p t w) (worked_on p w a) ≡ false
  found-not_fresh t w staffed a h reads = false_from_ne_true (has_cell (fresh_cells p t w) (worked_on p w a)) (λ fresh.
      (let l = task_of p t in
      let accessed : Access → Bool = λ x. not (is_scratch x.mode) in
      let b = operand_for (worked_on p w) (λ x. starts_as_zeros x.mode) (data_operands l) (worked_on p w a) fresh in
      let b_in = Contains-from_filter accessed l.accesses b.0 b.1 in
      let b_data : not (is_scratch b.0.mode) ≡ true = filter-Contains accessed l.accesses b.0 b.1 in
      let a_in = Contains-filter accessed l.accesses a (reads_isn't_scratch a.mode reads) h in
      let inside = operand-inside p t a h in
      let first = operand-used p proper t inside w staffed a h (reads_isn't_scratch a.mode reads) in
      let second = subst (λ (q : Cell). Uses p t.0 q.0 (manner_of l.codelet b.0.mode)) b.3 (operand-used p proper t inside w staffed b.0 b_in b_data) in
      let manners : manner_of l.codelet a.mode ≡ manner_of l.codelet b.0.mode = (Proper-dependencies p proper).manners t.0 (worked_on p w a).0 (manner_of l.codelet a.mode) (manner_of l.codelet b.0.mode) first second in
      let write = fresh-write l.codelet b.0.mode b_data b.2 in
      let update = reads-update l.codelet a.mode reads (manners ∙ write.1) in
      let cells : a.cell ≡ b.0.cell = sym (direct-cell p w a update) ∙ sym b.3 ∙ direct-cell p w b.0 (ap is_redux write.0) in
      by_places a b.0 reads b.2 cells (AllPairs-two (λ x y. IsTrue (same_cell x.cell y.cell) → (x.mode ≡ R) × (y.mode ≡ R)) (data_operands l) a b.0 (proper.unaliased t.0 no_task inside) a_in b.1)))
    where
      fresh-write : (k : Codelet) (x : Mode) → not (is_scratch x) ≡ true → starts_as_zeros x ≡ true → (x ≡ W) × (manner_of k x ≡ Write)
      fresh-write k x e f = search (arith, false≢true)

      reads-update : (k : Codelet) (x : Mode) → starts_as_zeros x ≡ false → manner_of k x ≡ Write → is_redux x ≡ false
      reads-update k x e f = search arith

      read_isn't_fresh : (x : Mode) → starts_as_zeros x ≡ true → x ≡ R → ⊥
      read_isn't_fresh x e f = false≢true (sym (ap starts_as_zeros f) ∙ e)

      by_places : (a b : Access) → starts_as_zeros a.mode ≡ false → starts_as_zeros b.mode ≡ true → a.cell ≡ b.cell → ((a ≡ b) ⊎ ((IsTrue (same_cell a.cell b.cell) → (a.mode ≡ R) × (b.mode ≡ R)) ⊎ (IsTrue (same_cell b.cell a.cell) → (b.mode ≡ R) × (a.mode ≡ R)))) → ⊥
      by_places a b reads fresh e x = search (arith, false≢true, read_isn't_fresh, same_cell-from)

  module _ (eq : Equations) (m : Machine) (s : State) (sound : Coherent p m s) (A : Arrays) (holds : HoldsContent eq p m s A) (t : Task) (w : Worker) (mine : is_task_of w (progress s t) ≡ true) where
    task-staffed : w.0 < p.workers
    task-staffed = worker-inside p m proper.cells (Proper-dependencies p proper) s sound.state sound.workers sound.order t w mine

    -- a task finds the content of each cell whose old value it reads
    pub found-content : (a : Access) → Contains (task_of p t).accesses a → starts_as_zeros a.mode ≡ false → is_valid (mark s (worked_on p w a) (node_of m w)) ≡ true →
        A (worked_on p w a) (AtNode (node_of m w)) ≡ content eq p s (worked_on p w a)
    found-content a h reads valid = by_kind (is_running_on w (progress s t)) refl (has_cell (written_cells p t w) (worked_on p w a)) refl
      where
        c : Cell
        c = worked_on p w a

        has : has_cell (cells_of p t w) c ≡ true
        has = read-among_cells p t w a h reads

        not_fresh : has_cell (fresh_cells p t w) c ≡ false
        not_fresh = found-not_fresh t w task-staffed a h reads

        shared : (progress s t ≡ Running w → has_cell (written_cells p t w) c ≡ false) → A c (AtNode (node_of m w)) ≡ content eq p s c
        shared spared =
            let earlier = sound.order.earlier t (active-begun (progress s t) (task_of-active w (progress s t) mine)) in
            let resting = not_being_written p m proper (Proper-dependencies p proper) s sound t w c mine has spared in
            let some = old_value-written p proper s t w (operand-inside p t a h) task-staffed earlier c sound.counts has not_fresh in
            holds.alike c (AtNode (node_of m w)) some resting valid

        by_kind : (x : Bool) → is_running_on w (progress s t) ≡ x → (y : Bool) → has_cell (written_cells p t w) c ≡ y → A c (AtNode (node_of m w)) ≡ content eq p s c
        by_kind true e true f = holds.begun t w c (running_on-is w (progress s t) e) f ∙ ap (λ b. cond b (zeros (dims_of p c)) (content eq p s c)) not_fresh
        by_kind true e false f = shared (λ runs. f)
        by_kind false e y f = shared (λ runs. absurd (false≢true (sym e ∙ ap (is_running_on w) runs ∙ same_worker-refl w)))
