-- The program of a job is proper.
use Rattle.sj_lower.proofs.Words.{Access, AllPairs, ap, area, arith, Cell, cell_info, CellInfo, Cells, Contains, copy_info, copy_of, count_by, Deliver, DeliversInOrder, DeliversPrinted, Delivery, FitsCodelet, get_or, HasDeliveries, HasPhases, HasValueBefore, info_at, inl, inr, is_redux, is_some, IsCopyOf, IsPlain, IsUnaliased, IsWithinLimits, kernel_of, length, List, Lowered, NamesCells, NamesDeliverTasks, nat_eq, no_cell, no_task, printed, Program, Proper, reads_value, ReadsValues, Some, Statement, subst, sym, Table, task, task_number, task_of, true, Worker, ℕ, ◌+◌, ◌<◌, ◌^◌, ◌∙◌, ◌≡◌, ◌≤◌, ◌⊎◌}
use Rattle.std.specs.List.{All}
use Rattle.std.proofs.lemmas.{Bool.cases_lt, List.get_or_past, List.Elements.All-from_get_or, List.Elements.All-nil}
use Rattle.sj_lower.proofs.{Combined.IsTrusted, Copies.HaveCopies, Delivered.AreDelivered, Delivered.AreHanded, Delivered.of_print, Good.IsGood, Logging.has-phases, Logging.Logged, Lowered.IsWhole, Owning.first-of}

module _ (T : Table) (p : Program) (ss : List (Statement (List ℕ))) (w : IsWhole T p ss) where
  abbrev C : Cells
  C = w.lowering.cells

  abbrev copies : HaveCopies p.workers C
  copies = w.fine.agrees.theirs.copies

  abbrev delivered : AreDelivered T p w.lowering (printed ss)
  delivered = w.fine.delivered

  good : (n : ℕ) → n < length p.tasks → IsGood p n (task_of p (task n))
  good n h = w.fine.good n (subst (λ (ts : List Lowered). n < length ts) w.tasks h)

  each_task : (P : Lowered → Type 0) → ((n : ℕ) → IsGood p n (task_of p (task n)) → P (task_of p (task n))) → All P p.tasks
  each_task P f = All-from_get_or P p.tasks no_task (λ n h. f n (good n h))

  -- the rows of the program's cells are those of the lowering
  same-info : (c : Cell) → cell_info p c ≡ info_at C c
  same-info c = ap (λ (is : List CellInfo). get_or is c.0 no_cell) w.cells

  its_first : (q c : Cell) (v : Worker) → IsCopyOf p q c v → (f : Cell) × ((info_at C c).partials ≡ Some f) × (q.0 ≡ f.0 + v.0)
  its_first q c v h = let o = first-of p q c v h in (o.0, sym (ap (λ (i : CellInfo). i.partials) (same-info c)) ∙ o.1, o.2)

  -- the row of a partial copy
  its_row : (q c : Cell) (v : Worker) (h : IsCopyOf p q c v) → cell_info p q ≡ copy_info (info_at C c)
  its_row q c v h = let o = its_first q c v h in same-info q ∙ ap (λ n. get_or C.rows n no_cell) o.2 ∙ copies.copy c o.0 v.0 o.1 h.of_worker

  -- what holds of each operand of each task of the program holds of each operand of any number's task
  every_task : (P : ℕ → Access → Type 0) → ((n : ℕ) → n < length p.tasks → All (P n) (task_of p (task n)).accesses) → (n : ℕ) → All (P n) (task_of p (task n)).accesses
  every_task P f n =
      elim (cases_lt n (length p.tasks)) [
        | inl inside ↦ f n inside
        | inr past ↦ subst (λ (l : Lowered). All (P n) l.accesses) (sym (get_or_past p.tasks n no_task past)) (All-nil (P n))
      ]

  names_cells : NamesCells p
  names_cells = record {
    named = each_task (λ (l : Lowered). All (λ (a : Access). a.cell.0 < length p.cells) l.accesses) (λ n g. g.cells);
    copies = λ q c v h. (let o = its_first q c v h in (omega (arith, o.2, copies.inside c o.0 o.1, h.of_worker, ap length w.cells), ap (λ (i : CellInfo). i.dims) (its_row q c v h) ∙ sym (ap (λ (i : CellInfo). i.dims) (same-info c))));
    apart = λ q c d v u h k. (let o = its_first q c v h in let i = its_first q d u k in copies.apart c d o.0 i.0 v.0 u.0 o.1 i.1 h.of_worker k.of_worker (sym o.2 ∙ i.2));
    plain = λ q c v h. ap (λ (i : CellInfo). i.partials) (its_row q c v h);
    reduced = each_task (λ (l : Lowered). All (λ (a : Access). is_redux a.mode ≡ true → is_some (cell_info p a.cell).partials ≡ true) l.accesses) (λ n g k d h e. (g.copies k d h e).0);
  }

  reads_values : ReadsValues p
  reads_values = record {
    cells = λ t. every_task (λ n a. reads_value a.mode ≡ true → HasValueBefore p (task n) a.cell) (λ n h. (good n h).values) t.0;
    copies = λ t. every_task (λ n a. is_redux a.mode ≡ true → (v : Worker) → v.0 < p.workers → HasValueBefore p (task n) (copy_of p a.cell v)) (λ n h k d l e. ((good n h).copies k d l e).1) t.0;
  }

  its_phases : HasPhases p
  its_phases = has-phases p w.lowering.phase w.shut (subst (λ (ts : List Lowered). Logged p (length ts) w.lowering.phase) (sym w.tasks) w.fine.logged) inside
    where
      inside : (m : ℕ) (a : Access) → Contains (task_number p m).accesses a → m < length p.tasks
      inside m a h = elim (cases_lt m (length p.tasks)) [
        | inl here ↦ here
        | inr past ↦ absurd (let k = subst (λ (l : Lowered). Contains l.accesses a) (get_or_past p.tasks m no_task past) h in omega (arith, k.1))
      ]

  has_deliveries : HasDeliveries p
  has_deliveries = record {
    once = λ t e h. ap (count_by (λ (d : Delivery). nat_eq d.task.0 t.0)) w.deliveries ∙ delivered.once t.0 (subst (λ (ts : List Lowered). t.0 < length ts) w.tasks h) e;
    plain = λ t e. by_task t.0 e (cases_lt t.0 (length p.tasks));
  }
    where
      by_task : (n : ℕ) → kernel_of (task_of p (task n)).codelet ≡ Some Deliver → (n < length p.tasks) ⊎ (length p.tasks ≤ n) → All (λ (a : Access). IsPlain p a.cell) (task_of p (task n)).accesses
      by_task n e (inl inside) = (good n inside).plain e
      by_task n e (inr past) = subst (λ (l : Lowered). All (λ (a : Access). IsPlain p a.cell) l.accesses) (sym (get_or_past p.tasks n no_task past)) (All-nil (λ (a : Access). IsPlain p a.cell))

  within_limits : length p.tasks ≤ 262144 → length p.cells ≤ 262144 → IsWithinLimits p
  within_limits few_tasks few_cells = record {
    tasks = omega (arith, few_tasks);
    cells = omega (arith, few_cells);
    elements = subst (All (λ (i : CellInfo). area i.dims ≤ 2 ^ 24)) (sym w.cells) w.fine.agrees.laid.small;
  }

  pub proper : length p.tasks ≤ 262144 → length p.cells ≤ 262144 → Proper p
  proper few_tasks few_cells = record {
    cells = names_cells;
    codelets = each_task (FitsCodelet p) (λ n g. g.fits);
    unaliased = each_task IsUnaliased (λ n g. g.unaliased);
    values = reads_values;
    phases = its_phases;
    deliveries = has_deliveries;
    limits = within_limits few_tasks few_cells;
  }

  -- by the laws of the program's set its deliveries hand over what the print statements find
  pub delivers_printed : IsTrusted p → DeliversPrinted T p ss
  delivers_printed trust = record {
    each = λ k x e.
        let h = subst (λ (ds : List Delivery). AreHanded T p (of_print k ds) x) (sym w.deliveries) (delivered.each k x e) in
        record { some = h.some; named = h.named; dims = h.dims; within = h.within trust; array = h.array trust };
    below = subst (λ (ds : List Delivery). All (λ (d : Delivery). d.print < length (printed ss)) ds) (sym w.deliveries) delivered.printed;
    ascending = subst (λ (ds : List Delivery). AllPairs (λ (d e : Delivery). d.print ≤ e.print) ds) (sym w.deliveries) delivered.in_order;
    rooted = subst (λ (ds : List Delivery). All (λ (d : Delivery). d.root.0 < length T.names) ds) (sym w.deliveries) delivered.rooted;
  }

  pub names_deliver_tasks : NamesDeliverTasks p
  names_deliver_tasks k d h =
      let ds = w.lowering.deliveries in
      let inside : k < length ds = subst (λ (xs : List Delivery). k < length xs) w.deliveries h in
      subst (λ (xs : List Delivery). (get_or xs k d).task.0 < length p.tasks × (kernel_of (task_of p (get_or xs k d).task).codelet ≡ Some Deliver)) (sym w.deliveries)
      (subst (λ (ts : List Lowered). (get_or ds k d).task.0 < length ts) (sym w.tasks) (delivered.below k d inside), delivered.delivers k d inside)

  pub delivers_in_order : DeliversInOrder p
  delivers_in_order = subst (λ (xs : List Delivery). AllPairs (λ (d e : Delivery). d.task.0 < e.task.0) xs) (sym w.deliveries) delivered.ascending
