-- A claim is refused only while another worker has a task: where none has one, nothing is in use, nothing leaves, and the node
-- has room.
use Rattle.sj_machine.proofs.Words.{[], Access, AllPairs, AnotherHasTask, ap, area, arith, Bool, Cell, cells_of, ClaimPlan, Commute, commuter_in_use, cond, Contains, covers, data_operands, dims_of, distinct, Err, false, filter, free, get_or, has_cell, IfErr, inl, inr, is_in_use, is_leaving, is_pinned, is_redux, is_task_of, IsSound, IsWhy, length, List, list_any, Machine, map, mark, MayClaim, no_task, Node, node_of, node_size, None, NoRoom, not, Ok, OnErr, order, pins, Program, progress, Proper, R, Result, same_cell, scratch, scratch_bytes, Some, State, suc, sum_by, sym, Task, task_of, tasks_of, tile_bytes, to_come, true, victims_for, Why, worked_on, Worker, worker_of, workers_at, ℕ, ◌&&◌, ◌*◌, ◌+◌, ◌<◌, ◌∙◌, ◌∷◌, ◌≡◌, ◌≤◌}
use Rattle.std.proofs.Common.{IsTrue}
use Rattle.std.proofs.lemmas.{Bool.and_parts, Bool.cases_Bool, Bool.false_from_ne_true, Bool.false≢true, Bool.le-leb, List.get_or_default, List.Elements.filter_agree, List.Folds.list_any_at, List.Sums.sum_by-cons}
use Rattle.sj_core.proofs.{Advancing.claimed_by-task_of, Advancing.idle-has_none, Advancing.task_of-worker, Bytes.bytes_where, Bytes.entry-cell, Bytes.once-bytes, CellLists.has_cell-distinct, CellLists.has_cell-filter_is, CellLists.same_cell-from, CellLists.times-distinct, CellLists.times-filter, Copies.direct-cell, Eviction.shortest_suffix-none, Readiness.list_any-map, Readiness.list_any-some, Reading.list_any-numbered, Reading.progress-inside, Reading.same_cell-is, Replicas.leaving-by_some, Sized.worked_on-dims, Sums.sum-filter, Sums.sum-nothing, Sums.sum-plus}
use Rattle.sj_machine.specs.declared.plan.Why.TheVariants.{Leaving}
use Rattle.sj_base.proofs.{Bools.and_swap, Lists.find-passes}

-- ---- lists

-- those that pass a test, and the others
sum-split : {X : Type 0} (f : X → ℕ) (test : X → Bool) (xs : List X) → sum_by f xs ≡ sum_by f (filter test xs) + sum_by f (filter (λ x. not (test x)) xs)
sum-split {X} f test xs =
    omega (arith, sum-plus f (λ x. cond (test x) (f x) 0) (λ x. cond (not (test x)) (f x) 0) (λ x. by_case x (test x)) xs, sum-filter f test xs, sum-filter f (λ x. not (test x)) xs)
  where
    by_case : (x : X) (b : Bool) → f x ≡ cond b (f x) 0 + cond (not b) (f x) 0
    by_case x b = search arith

-- ---- what a task brings is no more than what it needs

module _ (p : Program) (w : Worker) (sized : (a : Access) → dims_of p (worked_on p w a) ≡ dims_of p a.cell) where
  same-bytes : (a : Access) → tile_bytes p (worked_on p w a) ≡ tile_bytes p a.cell
  same-bytes a = ap (λ d. 8 * area d) (sized a)

  worked-le : (xs : List Access) → AllPairs (λ a b. IsTrue (same_cell a.cell b.cell) → (a.mode ≡ R) × (b.mode ≡ R)) xs → sum_by (tile_bytes p) (distinct (map (worked_on p w) xs)) ≤ sum_by (tile_bytes p) (distinct (map (λ a. a.cell) xs))
  worked-le [] pairs = omega arith
  worked-le (x ∷ xs) pairs =
      grind (arith, sum_by-cons (tile_bytes p) (worked_on p w x) (distinct (map (worked_on p w) xs)), sum_by-cons (tile_bytes p) x.cell (distinct (map (λ a. a.cell) xs)), worked-le xs (λ i j d before within. pairs (suc i) (suc j) d (omega (arith, before)) (omega (arith, within))), again, same-bytes x)
    where
      direct : (a : Access) → a.mode ≡ R → worked_on p w a ≡ a.cell
      direct a e = direct-cell p w a (ap is_redux e)

      again : has_cell (map (λ (a : Access). a.cell) xs) x.cell ≡ true → has_cell (map (worked_on p w) xs) (worked_on p w x) ≡ true
      again named =
          let found = list_any-some (λ (a : Access). same_cell a.cell x.cell) xs (sym (list_any-map (λ c. same_cell c x.cell) (λ (a : Access). a.cell) xs) ∙ named) in
          has found.0 found.1 (same_cell-is found.0.cell x.cell found.2)
        where
          has : (a : Access) → Contains xs a → a.cell ≡ x.cell → has_cell (map (worked_on p w) xs) (worked_on p w x) ≡ true
          has a (k, inside, e) cells =
              let here : get_or xs k x ≡ a = get_or_default xs k x a inside ∙ e in
              let both = pairs 0 (suc k) x (omega arith) (omega (arith, inside)) (same_cell-from x.cell (get_or xs k x).cell (sym cells ∙ ap (λ (b : Access). b.cell) (sym here))) in
              let mode : a.mode ≡ R = ap (λ (b : Access). b.mode) (sym here) ∙ both.1 in
              list_any-map (λ c. same_cell c (worked_on p w x)) (worked_on p w) xs
              ∙ list_any_at (λ b. same_cell (worked_on p w b) (worked_on p w x)) xs k x inside (same_cell-from (worked_on p w (get_or xs k x)) (worked_on p w x) (ap (worked_on p w) here ∙ direct a mode ∙ cells ∙ sym (direct x both.0)))

-- ---- where no worker has a task

module _ (p : Program) (m : Machine) (s : State) (h : IsSound p m s) (t : Task) (w : Worker) (may : MayClaim p m s t w)
    (nobody : (v : Worker) (u : Task) → is_task_of v (progress s u) ≡ true → ⊥) where
  abbrev n : Node
  n = node_of m w

  no-commuter : (c : Cell) → commuter_in_use p s t ≡ Some c → ⊥
  no-commuter c found =
      let used = list_any-some (λ (u : Task). is_task_of (worker_of (progress s u)) (progress s u) && has_cell (cells_of p u (worker_of (progress s u))) c) (tasks_of p) (find-passes (is_in_use p s) _ c found) in
      nobody (worker_of (progress s used.0)) used.0 (and_parts (is_task_of (worker_of (progress s used.0)) (progress s used.0)) (has_cell (cells_of p used.0 (worker_of (progress s used.0))) c) used.2).0

  no-leaving : (c : Cell) → is_leaving (mark s c n) ≡ true → ⊥
  no-leaving c leaves =
      let by = leaving-by_some (mark s c n) leaves in
      let claims = (h.coherent.workers.evicted by.0 c n by.1).claims in
      nobody by.0 claims.0 (claimed_by-task_of by.0 (progress s claims.0) claims.1)

  unpinned : (c : Cell) → is_pinned m s n c ≡ false
  unpinned c = false_from_ne_true (is_pinned m s n c) (λ pinned.
      (let found = list_any-some (λ (v : Worker). has_cell (pins s v) c) (workers_at m n) pinned in
      let own = h.coherent.pins.own found.0 c found.2 in
      nobody found.0 own.task own.has))

  no-scratch : sum_by (scratch s) (workers_at m n) ≡ 0
  no-scratch = sum-nothing (scratch s) (λ v. (h.coherent.workers.scratch v).none (λ u. false_from_ne_true (is_task_of v (progress s u)) (nobody v u))) (workers_at m n)

  abbrev cells : List Cell
  cells = cells_of p t w

  abbrev bytes : List Cell → ℕ
  bytes cs = sum_by (tile_bytes p) cs

  -- the task's entries, counted along the order and along its cells
  entries : bytes (filter (has_cell cells) (order s n)) ≡ bytes (filter (has_cell (order s n)) (distinct cells))
  entries =
      once-bytes p (filter (has_cell cells) (order s n)) (λ c x. entry-cell p m s h.coherent.state n c (and_parts (has_cell cells c) (has_cell (order s n) c) (sym (has_cell-filter_is (has_cell cells) (order s n) c) ∙ x)).1)
      (λ c. omega (arith, times-filter (has_cell cells) (order s n) c, h.coherent.state.entries.once n c))
      ∙ ap (bytes_where p) (λ i c. (has_cell-filter_is (has_cell cells) (order s n) c ∙ and_swap (has_cell cells c) (has_cell (order s n) c) ∙ ap (λ b. has_cell (order s n) c && b) (sym (has_cell-distinct cells c)) ∙ sym (has_cell-filter_is (has_cell (order s n)) (distinct cells) c)) i)
      ∙ sym (once-bytes p (filter (has_cell (order s n)) (distinct cells)) (λ c x. entry-cell p m s h.coherent.state n c (and_parts (has_cell (order s n) c) (has_cell (distinct cells) c) (sym (has_cell-filter_is (has_cell (order s n)) (distinct cells) c) ∙ x)).0)
      (λ c. omega (arith, times-filter (has_cell (order s n)) (distinct cells) c, times-distinct cells c)))

  needs : bytes (distinct cells) + scratch_bytes p (task_of p t) ≤ node_size m n
  needs = omega (arith, worked-le p w (worked_on-dims p h.proper w may.worker) (data_operands (task_of p t)) (h.proper.unaliased t.0 no_task may.ready.task), may.fits)

  abbrev spare : Cell → Bool
  spare c = not (is_pinned m s n c) && not (has_cell cells c)

  others : filter spare (order s n) ≡ filter (λ c. not (has_cell cells c)) (order s n)
  others = filter_agree spare (λ c. not (has_cell cells c)) (λ c. ap (λ b. not b && not (has_cell cells c)) (unpinned c)) (order s n)

  enough : to_come p s t w n ≤ free p m s n + bytes (filter spare (order s n))
  enough = omega (arith, needs, entries, no-scratch, ap bytes others, h.coherent.bytes.entries n, sum-split (tile_bytes p) (has_cell cells) (order s n), sum-split (tile_bytes p) (has_cell (order s n)) (distinct cells))

  no-want : victims_for p m s t w ≡ None → ⊥
  no-want none =
      let fails : covers (tile_bytes p) (free p m s n) (to_come p s t w n) (filter spare (order s n)) ≡ false = shortest_suffix-none (covers (tile_bytes p) (free p m s n) (to_come p s t w n)) (filter spare (order s n)) none 0 in
      false≢true (sym fails ∙ le-leb (to_come p s t w n) (free p m s n + bytes (filter spare (order s n))) enough)

  pub never : (why : Why) → IsWhy p m s t w why → ⊥
  never (Commute c) is = no-commuter c is
  never (Leaving c) is = no-leaving c is.1
  never NoRoom is = no-want is.2

-- ---- so where a claim is refused some worker has one, and it is another

module _ (p : Program) (m : Machine) (s : State) (h : IsSound p m s) (t : Task) (w : Worker) (may : MayClaim p m s t w) where
  -- the task is claimed or runs
  abbrev is_held : Task → Bool
  is_held u = is_task_of (worker_of (progress s u)) (progress s u)

  -- a worker's task is among those of the program
  held : (v : Worker) (u : Task) → is_task_of v (progress s u) ≡ true → list_any is_held (tasks_of p) ≡ true
  held v u mine =
      let known = progress-inside s u (λ e. false≢true (sym (ap (is_task_of v) e) ∙ mine)) in
      let inside : u.0 < length p.tasks = omega (arith, known, h.coherent.state.rows.tasks) in
      list_any-numbered (λ i. let k : Task = record { 0 = i } in k) is_held u.0 (length p.tasks) inside (ap (λ (x : Worker). is_task_of x (progress s u)) (task_of-worker v (progress s u) mine) ∙ mine)

  waits-for : (why : Why) → IsWhy p m s t w why → AnotherHasTask s w
  waits-for why is = elim (cases_Bool (list_any is_held (tasks_of p))) [
    | inl some ↦ (
        let found = list_any-some is_held (tasks_of p) some in
        record {
          worker = worker_of (progress s found.0);
          other = λ same. false≢true (sym (idle-has_none s w found.0 may.idle) ∙ ap (λ (x : Worker). is_task_of x (progress s found.0)) (sym same) ∙ found.2);
          task = found.0;
          has = found.2;
        }
        )
    | inr none ↦ absurd (never p m s h t w may (λ v u mine. false≢true (sym none ∙ held v u mine)) why is)
  ]

-- of what was found
pub found-waits : (p : Program) (m : Machine) (s : State) (h : IsSound p m s) (t : Task) (w : Worker) (may : MayClaim p m s t w) (found : Result ClaimPlan Why) → IfErr found (IsWhy p m s t w) → OnErr found (AnotherHasTask s w)
found-waits p m s h t w may (Ok plan) is = tt
found-waits p m s h t w may (Err why) is = waits-for p m s h t w may why is
