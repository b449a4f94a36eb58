-- What a task finds where it works: the contents of its cells; and in a settled cell of an access in order what all tasks
-- before it leave, in submission order. Where all tasks are done, cells hold what all tasks leave.
use Rattle.sj_core.proofs.Words.{[], Access, access, ap, arith, Arrays, AtNode, Bool, Brought, Cell, cell_info, cells_of, Claimed, Conflict, Contains, content, copy_of, done_by, done_in, EarlierAreDone, Equations, false, filter, final, get_or, given, gives_value, has_cell, has_written, HasAtHand, held_before, held_in, HoldsContent, HoldsFinal, inl, inr, is_begun, is_being_written, is_done, is_in_order, is_redux, is_scratch, is_some, is_task_of, is_written, IsComplete, IsContribution, IsFirstUnit, IsLawful, IsOfPhase, IsOpenAt, IsPhase, IsPlain, IsSettled, IsSound, IsTrue, Kernel, length, List, Machine, map, node_of, not, Phase, Program, Progress, progress, Proper, R, reads_value, Redux, refl, Running, RW, same_cell, slice_index_or, State, subst, sym, Task, task_number, task_of, true, W, Waiting, worked_on, Worker, worker_of, Works, writes, written_cells, ℕ, ◌&&◌, ◌<◌, ◌||◌, ◌∙◌, ◌∷◌, ◌≡◌, ◌≢◌, ◌⊎◌}
use Rattle.std.proofs.lemmas.{Bool.false_from_ne_true, Bool.false≢true, List.Elements.All-contains, List.Elements.Contains-get_or, List.Folds.Any-from_list_any, List.Sums.AllPass-from_list_all}
use Rattle.sj_base.proofs.Lists.{one_is}
use Rattle.sj_core.proofs.{Advancing.done-begun, Copies.combine-of, Copies.direct-cell, Copies.init-of, Ending.all-staffed, Ending.later-free, Finding.being_written-by, Finding.gives-writes, Finding.running-inside, Finding.task-counted, Folding.after_chosen-same, Folding.held-until, Folding.read-among_cells, Found.found-content, Modes.plain_isn't_redux, Modes.reads_isn't_scratch, Readiness.Contains-filter, Replicas.same_worker-refl, Sharing.Conflict-sym, Sharing.one, Sharing.redux-has_copies, TaskCells.operand-inside, Workers.cone-shared, Workers.in_order-conflicts, Workers.workers-alike}

-- ---- phases

module _ (p : Program) (proper : Proper p) where
  -- the cell of a phase has partial copies
  phase-has_copies : (f : Phase) → IsPhase p f → is_some (cell_info p f.cell).partials ≡ true
  phase-has_copies f phase =
      let n = get_or f.contributions 0 0 in
      let named = (All-contains (λ i. IsContribution f.by f.cell (task_number p i)) f.contributions n phase.contributions (Contains-get_or f.contributions 0 0 phase.contributed)).operand in
      let t : Task = record { 0 = n } in
      ap is_some (redux-has_copies p proper.cells t (operand-inside p t (access Redux f.cell) named) Redux f.cell named refl).1.1

  -- no phase is open after the last task
  pub none-open : (f : Phase) → IsPhase p f → ¬ IsOpenAt f (length p.tasks)
  none-open f phase is_open =
      let k = is_open.unfinished.0 in
      let t : Task = record { 0 = k } in
      let combine = combine-of p proper f phase (phase-has_copies f phase) k is_open.unfinished.1 in
      let inside = operand-inside p t (access RW f.cell) (subst (λ (xs : List Access). Contains xs (access RW f.cell)) (sym combine.2.operands) (1, omega arith, refl)) in
      omega (arith, inside, is_open.unfinished.2)

  -- the cell of a task that reads it and does nothing else is settled
  pub read-settled : (t : Task) (c : Cell) → (task_of p t).accesses ≡ access R c ∷ [] → IsSettled p t.0 c
  read-settled t c alone = record {
    plain = λ d w copy. (let found = proper.phases.copies t.0 (access R c) d w reads copy in
        of_phase found.0 (All-contains (IsPhase p) proper.phases.phases found.0 proper.phases.each found.1) found.3);
    closed = λ f phase same is_open. by_kind f phase (phase.alone t.0 (access R c) is_open (Contains-filter (λ b. not (is_scratch b.mode)) (task_of p t).accesses (access R c) refl reads) (inl (sym same)));
  }
    where
      reads : Contains (task_of p t).accesses (access R c)
      reads = subst (λ (xs : List Access). Contains xs (access R c)) (sym alone) (one (access R c))

      fills_not : (d : Cell) → (task_of p t).accesses ≡ access W d ∷ [] → ⊥
      fills_not d e = let f : R ≡ W = ap (λ (xs : List Access). (get_or xs 0 (access W d)).mode) (sym alone ∙ e) in cc

      of_phase : (f : Phase) → IsPhase p f → (Contains f.inits t.0 ⊎ Contains f.combines t.0) → ⊥
      of_phase f phase (inl init) = let own = init-of p proper f phase (phase-has_copies f phase) t.0 init in fills_not (copy_of p f.cell own.0) own.1.operands
      of_phase f phase (inr combine) =
          let own = combine-of p proper f phase (phase-has_copies f phase) t.0 combine in
          let e : access R c ∷ [] ≡ access R (copy_of p f.cell own.0) ∷ access RW f.cell ∷ [] = sym alone ∙ own.2.operands in
          cc

      by_kind : (f : Phase) → IsPhase p f → IsOfPhase f t.0 ⊎ IsFirstUnit p f t.0 → ⊥
      by_kind f phase x = search (arith, of_phase, All-contains, one_is, fills_not)

-- ---- what a task finds

module _ (p : Program) (m : Machine) (s : State) (h : IsSound p m s) where
  some_worker : 0 < p.workers
  some_worker = omega (arith, h.machine.workers, h.machine.some_worker)

  staffed : (u : Task) → (done_by s u).0 < p.workers
  staffed = all-staffed p s some_worker h.coherent.state.staff

  -- each operand whose old value is read is found as the content of the cell that is worked on
  pub finds-content : (eq : Equations) (A : Arrays) → HoldsContent eq p m s A → (t : Task) (w : Worker) (a : Access) → Contains (task_of p t).accesses a → IsTrue (reads_value a.mode) → HasAtHand m s t w (worked_on p w a) → A (worked_on p w a) (AtNode (node_of m w)) ≡ content eq p s (worked_on p w a)
  finds-content eq A holds t w a among reads (Works running) = found-content p h.proper eq m s h.coherent A holds t w (ap (is_task_of w) running ∙ same_worker-refl w) a among (ap not reads) (h.coherent.cells.running t w (worked_on p w a) running (read-among_cells p t w a among (ap not reads)))
  finds-content eq A holds t w a among reads (Brought claimed valid) = found-content p h.proper eq m s h.coherent A holds t w (ap (is_task_of w) claimed ∙ ap (λ b. b || false) (same_worker-refl w)) a among (ap not reads) valid

  module _ (eq : Equations) (has : Kernel → Bool) (lawful : IsLawful eq has p) where
    -- the content of a settled cell of an access in order is what the cell holds after all tasks before
    content-settled : (t : Task) (w : Worker) → w.0 < p.workers → (a : Access) → Contains (task_of p t).accesses a → not (is_scratch a.mode) ≡ true → is_in_order a.mode ≡ true → done_in s t ≡ false → EarlierAreDone p s t → IsSettled p t.0 a.cell → content eq p s a.cell ≡ held_before eq p t.0 a.cell
    content-settled t w w_in a among accessed in_order undone earlier settled =
        held-until eq p (done_in s) (done_by s) a.cell t.0 (length p.tasks) (omega (arith, inside)) (λ u l k done. false_from_ne_true (has_cell (written_cells p u (done_by s u)) a.cell) (λ writes.
        (let differ : t.0 ≢ u.0 = λ e. false≢true (sym undone ∙ ap (λ (n : ℕ). done_in s (record { 0 = n })) e ∙ done) in
        later-free p s t h.coherent.order undone u (omega (arith, differ)) done (Conflict-sym p u.0 t.0 (conflicts u k writes)))))
        ∙ cone-shared eq has p h.proper lawful (done_by s) staffed (done_in s) t.0 (omega (arith, inside)) (λ u v before l done conflict. h.coherent.order.earlier v (done-begun (progress s v) done) u before conflict) a.cell
        (λ u l writes. earlier u l (conflicts u (omega (arith, l, inside)) writes))
        ∙ workers-alike eq has p h.proper lawful t.0 (omega (arith, inside)) a.cell settled.plain settled.closed (done_by s) (λ u. record { 0 = 0 }) staffed (λ u. some_worker)
      where
        inside : t.0 < length p.tasks
        inside = operand-inside p t a among

        conflicts : (u : Task) → u.0 < length p.tasks → has_cell (written_cells p u (done_by s u)) a.cell ≡ true → Conflict p u.0 t.0
        conflicts u u_in writes = in_order-conflicts p h.proper u t u_in inside (done_by s u) w (staffed u) w_in a among accessed in_order (ap (has_cell (written_cells p u (done_by s u))) (direct-cell p w a (plain_isn't_redux a.mode in_order)) ∙ writes)

    pub finds-earlier : (A : Arrays) → HoldsContent eq p m s A → (t : Task) (w : Worker) (a : Access) → Contains (task_of p t).accesses a → IsTrue (reads_value a.mode) → IsTrue (is_in_order a.mode) → IsSettled p t.0 a.cell → HasAtHand m s t w a.cell → A a.cell (AtNode (node_of m w)) ≡ held_before eq p t.0 a.cell
    finds-earlier A holds t w a among reads in_order settled at_hand =
        let same = direct-cell p w a (plain_isn't_redux a.mode in_order) in
        ap (λ (c : Cell). A c (AtNode (node_of m w))) (sym same)
        ∙ finds-content eq A holds t w a among reads (subst (HasAtHand m s t w) (sym same) at_hand)
        ∙ ap (content eq p s) same
        ∙ by_hand at_hand
      where
        by_progress : (x : Progress) → progress s t ≡ x → is_begun x ≡ true → is_done x ≡ false → worker_of x ≡ w → content eq p s a.cell ≡ held_before eq p t.0 a.cell
        by_progress x e begins undone own =
            let begun = ap is_begun e ∙ begins in
            let w_in = subst (λ (v : Worker). v.0 < p.workers) (ap worker_of e ∙ own) (h.coherent.state.staff.staffed t begun) in
            content-settled t w w_in a among (reads_isn't_scratch a.mode (ap not reads)) in_order (ap is_done e ∙ undone) (h.coherent.order.earlier t begun) settled

        by_hand : HasAtHand m s t w a.cell → content eq p s a.cell ≡ held_before eq p t.0 a.cell
        by_hand (Works running) = by_progress (Running w) running refl refl refl
        by_hand (Brought claimed valid) = by_progress (Claimed w) claimed refl refl refl

    -- a task with one R operand hands over what it is given
    pub delivers-given : (A : Arrays) → HoldsContent eq p m s A → (t : Task) (w : Worker) (c : Cell) → (task_of p t).accesses ≡ access R c ∷ [] → HasAtHand m s t w c → A c (AtNode (node_of m w)) ≡ given eq p t
    delivers-given A holds t w c alone at_hand =
        let among : Contains (task_of p t).accesses (access R c) = subst (λ (xs : List Access). Contains xs (access R c)) (sym alone) (one (access R c)) in
        let v : Worker = record { 0 = 0 } in
        let named : cells_of p t v ≡ c ∷ [] = ap (λ (xs : List Access). map (worked_on p v) (filter (λ a. not (is_scratch a.mode)) xs)) alone in
        finds-earlier A holds t w (access R c) among refl refl (read-settled p h.proper t c alone) at_hand
        ∙ ap (λ (cs : List Cell). held_before eq p t.0 (slice_index_or cs 0 (record { 0 = 0 }))) (sym named)

  -- ---- where all tasks are done

  module _ (complete : IsComplete s) where
    all-done : (u : Task) → u.0 < length p.tasks → done_in s u ≡ true
    all-done u inside = AllPass-from_list_all is_done s.tasks complete u.0 Waiting (omega (arith, inside, h.coherent.state.rows.tasks))

    none-written : (c : Cell) → is_being_written p s c ≡ false
    none-written c =
        search (arith, false_from_ne_true, being_written-by, running-inside, false≢true, all-done, h.coherent.state.rows)

    -- a cell to which a task gives a value has been written
    all-written : (t : Task) (c : Cell) → gives_value (task_of p t) c ≡ true → 0 < writes s c
    all-written t c gives =
        let given_by = Any-from_list_any (λ (a : Access). is_written a.mode && not (is_redux a.mode) && same_cell a.cell c) (task_of p t).accesses gives in
        let inside = operand-inside p t given_by.1 (given_by.0, given_by.2, given_by.3) in
        let counted = task-counted p (has_written p s c) t inside (ap (λ b. b && has_cell (written_cells p t (done_by s t)) c) (all-done t inside) ∙ gives-writes p t (done_by s t) c gives) in
        omega (arith, h.coherent.counts.counted c)

    -- the content of a cell that is no partial copy is what all tasks leave
    all-content : (eq : Equations) (has : Kernel → Bool) → IsLawful eq has p → (c : Cell) → IsPlain p c → content eq p s c ≡ final eq p c
    all-content eq has lawful c plain =
        ap (λ z. held_in p z c) (after_chosen-same eq p (done_in s) (λ u. true) (done_by s) (done_by s) (length p.tasks) (λ u l. all-done u l) (λ u l e. refl))
        ∙ workers-alike eq has p h.proper lawful (length p.tasks) (omega arith) c plain (λ f phase same. none-open p h.proper f phase) (done_by s) (λ u. record { 0 = 0 }) staffed (λ u. some_worker)

    pub complete-final : (eq : Equations) (A : Arrays) → HoldsContent eq p m s A → (has : Kernel → Bool) → IsLawful eq has p → HoldsFinal eq p m s A
    complete-final eq A holds has lawful = record {
      somewhere = λ t c gives. h.coherent.copies.somewhere c (all-written t c gives) (none-written c);
      alike = λ t c q gives plain valid. holds.alike c q (all-written t c gives) (none-written c) valid ∙ all-content eq has lawful c plain;
    }
