-- What a worker works on for the operands of a task: each written cell comes once, and all are cells of the program.
use Rattle.sj_machine.proofs.Words.{[], Access, All, AllPairs, ap, area, arith, Bool, CanWorkOn, Cell, CellInfo, Codelet, Contains, copy_of, data_operands, false, get_or, has_cell, if◌then◌else◌, inl, inr, is_data, is_redux, is_some, is_written, IsCopyOf, IsSmallCell, IsTrue, length, List, map, Mode, no_cell, no_task, Program, Proper, R, Redux, same_cell, subst, suc, sym, Task, task_of, true, Uses, worked_on, Worker, written_cells, ◌&&◌, ◌<◌, ◌^◌, ◌∙◌, ◌∷◌, ◌≡◌, ◌≢◌, ◌≤◌, ◌⊎◌}
use Rattle.std.specs.Prelude.{filter}
use Rattle.std.proofs.lemmas.{Bool.cases_Bool, Bool.false_from_ne_true, Bool.false≢true, List.Elements.All-get_or, List.Elements.Contains-get_or, List.Kept.AllPairs-filter}
use Rattle.sj_base.proofs.{Bools.tally-le}
use Rattle.sj_core.proofs.{CellLists.same_cell-from, CellLists.times, CellLists.times-cons, CellLists.times-none, Copies.direct-cell, Copies.redux_or, Dependencies.Proper-dependencies, Modes.written_isn't_scratch, Reading.same_cell-is, Readiness.Contains-from_filter, Readiness.filter-Contains, Readiness.list_any-map, Readiness.list_any-some, Sharing.manner_of, Sharing.redux-has_copies, Sharing.contributing-is, Sums.tally, TaskCells.filter-filter, Updating.operand-used}

abbrev Unaliased : Access → Access → Type 0
Unaliased a b = IsTrue (same_cell a.cell b.cell) → (a.mode ≡ R) × (b.mode ≡ R)

-- where no two of these accesses work on one cell
once : (g : Access → Cell) (xs : List Access) → AllPairs (λ a b. g a ≢ g b) xs → (c : Cell) → times (map g xs) c ≤ 1
once g [] pairs c = omega arith
once g (x ∷ xs) pairs c =
    let rest = once g xs (λ i j d before within. pairs (suc i) (suc j) d (omega arith) (omega arith)) c in
    let all = times-cons (g x) (map g xs) c in
    elim (cases_Bool (has_cell (map g xs) c)) [
      | inr none ↦ omega (arith, times-none (map g xs) c none, tally-le (same_cell (g x) c))
      | inl has ↦
          let found = list_any-some (λ (a : Access). same_cell (g a) c) xs (sym (list_any-map (λ d. same_cell d c) g xs) ∙ has) in
          let apart : g x ≢ g found.0 = subst (λ (a : Access). g x ≢ g a) found.1.2 (pairs 0 (suc found.1.0) found.0 (omega arith) (let k = found.1.1 in omega arith)) in
          let other : same_cell (g x) c ≡ false = false_from_ne_true (same_cell (g x) c) (λ e. apart (same_cell-is (g x) c e ∙ sym (same_cell-is (g found.0) c found.2))) in
          omega (arith, ap tally other)
    ]

written-data : (x : Mode) → (is_data x && is_written x) ≡ is_written x
written-data x = search arith

written_isn't_read : (x : Mode) → is_written x ≡ true → x ≡ R → ⊥
written_isn't_read x w e = false≢true (sym (ap is_written e) ∙ w)

module _ (p : Program) (proper : Proper p) (t : Task) (inside : t.0 < length p.tasks) (w : Worker) (staffed : w.0 < p.workers) where
  abbrev k : Codelet
  k = (task_of p t).codelet

  abbrev ws : List Access
  ws = filter (λ (a : Access). is_written a.mode) (task_of p t).accesses

  -- what is worked on for a contribution is the worker's copy
  copy : (a : Access) → Contains (task_of p t).accesses a → is_redux a.mode ≡ true → IsCopyOf p (worked_on p w a) a.cell w
  copy a has redux = record {
    has_copies = ap is_some (redux-has_copies p proper.cells t inside a.mode a.cell has redux).1.1;
    of_worker = staffed;
    is = ap (λ b. if b then copy_of p a.cell w else a.cell) redux;
  }

  -- two written operands that work on one cell are of one cell, since a task accesses a cell in one manner
  one_cell : (a b : Access) → Contains (task_of p t).accesses a → Contains (task_of p t).accesses b → is_written a.mode ≡ true → is_written b.mode ≡ true → worked_on p w a ≡ worked_on p w b → a.cell ≡ b.cell
  one_cell a b ha hb wa wb same = by_modes (redux_or a.mode) (redux_or b.mode)
    where
      manners : manner_of k a.mode ≡ manner_of k b.mode
      manners = (Proper-dependencies p proper).manners t.0 (worked_on p w a).0 (manner_of k a.mode) (manner_of k b.mode)
          (operand-used p proper t inside w staffed a ha (written_isn't_scratch a.mode wa))
          (subst (λ (q : Cell). Uses p t.0 q.0 (manner_of k b.mode)) (sym same) (operand-used p proper t inside w staffed b hb (written_isn't_scratch b.mode wb)))

      by_modes : (a.mode ≡ Redux) ⊎ (is_redux a.mode ≡ false) → (b.mode ≡ Redux) ⊎ (is_redux b.mode ≡ false) → a.cell ≡ b.cell
      by_modes (inr ra) (inr rb) = sym (direct-cell p w a ra) ∙ same ∙ direct-cell p w b rb
      by_modes (inl ra) (inr rb) = absurd (false≢true (sym rb ∙ ap is_redux (contributing-is k b.mode (sym manners ∙ ap (manner_of k) ra))))
      by_modes (inr ra) (inl rb) = absurd (false≢true (sym ra ∙ ap is_redux (contributing-is k a.mode (manners ∙ ap (manner_of k) rb))))
      by_modes (inl ra) (inl rb) = proper.cells.apart (worked_on p w a) a.cell b.cell w w (copy a ha (ap is_redux ra)) (subst (λ (q : Cell). IsCopyOf p q b.cell w) (sym same) (copy b hb (ap is_redux rb)))

  -- each cell that the worker writes comes once
  pub written-once : (c : Cell) → times (written_cells p t w) c ≤ 1
  written-once c = once (worked_on p w) ws apart c
    where
      among_data : filter (λ (a : Access). is_written a.mode) (data_operands (task_of p t)) ≡ ws
      among_data = filter-filter (λ (a : Access). is_written a.mode) (λ (a : Access). is_data a.mode) (task_of p t).accesses ∙ ap (λ (f : Access → Bool). filter f (task_of p t).accesses) (λ i a. written-data a.mode i)

      pairs : AllPairs Unaliased ws
      pairs = subst (AllPairs Unaliased) among_data (AllPairs-filter Unaliased (λ (a : Access). is_written a.mode) (data_operands (task_of p t)) (proper.unaliased t.0 no_task inside))

      apart : AllPairs (λ a b. worked_on p w a ≢ worked_on p w b) ws
      apart i j d before within same =
          let a : Access = get_or ws i d in
          let b : Access = get_or ws j d in
          let ha : Contains ws a = Contains-get_or ws i d (omega arith) in
          let hb : Contains ws b = Contains-get_or ws j d within in
          let wa = filter-Contains (λ (x : Access). is_written x.mode) (task_of p t).accesses a ha in
          let wb = filter-Contains (λ (x : Access). is_written x.mode) (task_of p t).accesses b hb in
          let cells = one_cell a b (Contains-from_filter (λ (x : Access). is_written x.mode) (task_of p t).accesses a ha) (Contains-from_filter (λ (x : Access). is_written x.mode) (task_of p t).accesses b hb) wa wb same in
          written_isn't_read a.mode wa (pairs i j d before within (same_cell-from a.cell b.cell cells)).0

  -- ---- the cells that are worked on

  named-inside : (a : Access) → Contains (task_of p t).accesses a → a.cell.0 < length p.cells
  named-inside a (i, l, e) = subst (λ (x : Access). x.cell.0 < length p.cells) e (proper.cells.named t.0 no_task inside i a l)

  worked-inside : (a : Access) → Contains (task_of p t).accesses a → (worked_on p w a).0 < length p.cells
  worked-inside a h = elim (redux_or a.mode) [
    | inr direct ↦ subst (λ (c : Cell). c.0 < length p.cells) (sym (direct-cell p w a direct)) (named-inside a h)
    | inl redux ↦ (proper.cells.copies (worked_on p w a) a.cell w (copy a h (ap is_redux redux))).0
  ]

  pub can-work : All (CanWorkOn p w) (task_of p t).accesses
  can-work i d h = (let has = Contains-get_or (task_of p t).accesses i d h in record { cell = named-inside _ has; number = omega (arith, worked-inside _ has, proper.limits.cells) })

  pub works-small : All (λ a. IsSmallCell p (worked_on p w a)) (task_of p t).accesses
  works-small i d h = (let has = worked-inside _ (Contains-get_or (task_of p t).accesses i d h) in record { cell = has; small = All-get_or (λ (c : CellInfo). area c.dims ≤ 2 ^ 24) p.cells (worked_on p w (get_or (task_of p t).accesses i d)).0 no_cell has proper.limits.elements })
