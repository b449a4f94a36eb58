-- What the end of a run leaves.
use Rattle.sj_machine.proofs.Words.{[], Access, after, All, ap, arith, Bool, CanCount, CanRelease, CanWorkOn, Cell, CellState, Done, End, has_written, HasStores, is_begun, is_valid, is_written, IsSound, KeepsStores, length, let_go, List, Machine, MayHappen, Node, node_of, node_size, order, pins, pins_on, Program, Progress, progress, refl, released, row_at, Rows, Running, scratch, set, State, state_in, Store, store, store_at, store_of, subst, sum_by, sym, Task, task_of, tasks_of, tile_bytes, worked_on, Worker, worker_of, worker_state, workers_at, WorkerState, writes, written_cells, written_each, written_once_more, ℕ, ◌+◌, ◌-◌, ◌<◌, ◌^◌, ◌∙◌, ◌≡◌, ◌≢◌, ◌≤◌}
use Rattle.sj_machine.proofs.{FewPins.few-operands, Happening.All-has, Happening.AreLeft, Happening.HasStores-set, Happening.mark-inside, Happening.may-happen, Happening.pinned-entry, Happening.rows-left, Happening.rows_in, Happening.store-at, Happening.store-same, Loops.rows-written, NodeSums.sum-at, NodeSums.sum-grown, Unpinning.all-less, Unpinning.can-unpin, Written.can-work, Written.written-once}
use Rattle.std.specs.Prelude.{filter}
use Rattle.std.proofs.lemmas.{Nat.mod_below, List.length-map, List.Elements.All-from_get_or, List.FromFn.length-map-range_with_len, List.Sums.count_by-le-length, List.Sums.length-filter}
use Rattle.sj_core.proofs.{CellLists.times, Finding.running-inside, Reading.no_row, Reading.worker-other, Reading.worker-same}

module _ (p : Program) (m : Machine) (tasks : List Progress) (cells : List CellState) (nodes : List Store) (workers : List WorkerState) (keeps : KeepsStores p m (state_in tasks cells nodes workers) nodes) (r : Rows) (same : rows_in p m (state_in tasks cells nodes workers) ≡ r) (t : Task) (w : Worker) (can : MayHappen r (End t w)) where
  abbrev s : State
  s = state_in tasks cells nodes workers

  abbrev s' : State
  s' = after p m s (End t w)

  abbrev n : Node
  n = node_of m w

  abbrev ws : List Cell
  ws = written_cells p t w

  h : IsSound p m s
  h = keeps.sound

  ended : progress s t ≡ Running w
  ended = may-happen p m s h r same (End t w) can

  program_task : t.0 < length p.tasks
  program_task = running-inside p m s t w h.coherent.state.rows ended

  staffed : w.0 < p.workers
  staffed = subst (λ (x : Progress). (worker_of x).0 < p.workers) ended (h.coherent.state.staff.staffed t (ap is_begun ended))

  at_machine : w.0 < m.workers
  at_machine = omega (arith, staffed, h.machine.workers)

  node : n.0 < length m.nodes
  node = mod_below w.0 (length m.nodes) (let one = h.machine.some_node in omega arith)

  pub end-can_work : All (CanWorkOn p w) (task_of p t).accesses
  end-can_work = can-work p h.proper t program_task w staffed

  -- ---- the cells that the task wrote

  pub end-cells : All (λ c. c.0 < length cells) ws
  end-cells = All-has (λ c. c.0 < length cells) ws (λ c has. (mark-inside is_valid refl s c n (ap is_valid (h.coherent.writers.owned t w c ended has).valid)).0)

  few-written : length ws ≤ 5
  few-written =
      let written : Access → Bool = λ a. is_written a.mode in
      let count : length ws ≡ length (filter written (task_of p t).accesses) = length-map (filter written (task_of p t).accesses) (worked_on p w) in
      omega (arith, count, length-filter written (task_of p t).accesses, count_by-le-length written (task_of p t).accesses, few-operands p h.proper t)

  pub end-few : All (CanCount (length ws)) cells
  end-few = All-from_get_or (CanCount (length ws)) cells no_row (λ i inside. (
      let c : Cell = record { 0 = i } in
      let number : ℕ → Task = λ k. record { 0 = k } in
      let all : length (tasks_of p) ≡ length p.tasks = length-map-range_with_len number 0 (length p.tasks) in
      let z : writes s c + length ws < 2 ^ 64 = omega (arith, h.coherent.counts.counted c, count_by-le-length (has_written p s c) (tasks_of p), all, h.proper.limits.tasks, few-written) in
      z
      ))

  -- ---- the worker's pins and scratch

  abbrev idle : WorkerState
  idle = record (worker_state s w) { pins = []; scratch = 0 }

  own-row : worker_state s' w ≡ idle
  own-row = worker-same s w idle (omega (arith, at_machine, h.coherent.state.rows.workers))

  other-row : (v : Worker) → v ≢ w → worker_state s v ≡ worker_state s' v
  other-row v other = sym (worker-other s w v idle other)

  pins-before : (c : Cell) → pins_on m s n c ≡ pins_on m s' n c + times (pins s w) c
  pins-before c =
      sum-grown m n w (times (pins s w) c) (λ v. times (pins s v) c) (λ v. times (pins s' v) c) (λ v other. ap (λ (row : WorkerState). times row.pins c) (other-row v other))
      (let none : times (pins s' w) c ≡ 0 = ap (λ (row : WorkerState). times row.pins c) own-row in omega arith) refl at_machine

  scratch-before : sum_by (scratch s) (workers_at m n) ≡ sum_by (scratch s') (workers_at m n) + scratch s w
  scratch-before =
      sum-grown m n w (scratch s w) (scratch s) (scratch s') (λ v other. ap (λ (row : WorkerState). row.scratch) (other-row v other))
      (let none : scratch s' w ≡ 0 = ap (λ (row : WorkerState). row.scratch) own-row in omega arith) refl at_machine

  can-release : CanRelease (pins s w) (scratch s w) (store_of p m s n)
  can-release = record {
    pins = can-unpin (tile_bytes p) (pins s w) (pins_on m s n) (order s n) (λ c pin. h.coherent.state.entries.entries n c ∙ pinned-entry p m s h.coherent w c pin) (λ c. (let e = pins-before c in omega arith));
    held = omega (arith, scratch-before);
  }

  pub end-can_release : (at : Node) → at ≡ n → (found : List WorkerState) → found ≡ workers → CanRelease (row_at found w).pins (row_at found w).scratch (store_at nodes at)
  end-can_release at bound found read =
      subst (λ (rs : List WorkerState). CanRelease (row_at rs w).pins (row_at rs w).scratch (store_at nodes at)) (sym read)
      (subst (λ (j : Node). CanRelease (pins s w) (scratch s w) (store_at nodes j)) (sym bound)
      (subst (λ (x : Store). CanRelease (pins s w) (scratch s w) x) (sym (store-at p m s nodes keeps.stores n _ node)) can-release))

  released-is : released (pins s w) (scratch s w) (store_of p m s n) ≡ store_of p m s' n
  released-is =
      ap (λ es. store (node_size m n) (sum_by (scratch s) (workers_at m n) - scratch s w) (length p.cells) es) (all-less (tile_bytes p) (pins s w) (pins_on m s n) (order s n))
      ∙ store-same p m n (order s n) _ _ (λ c. pins_on m s n c - times (pins s w) c) (pins_on m s' n) (omega (arith, scratch-before)) (λ c. (let e = pins-before c in let z : pins_on m s n c - times (pins s w) c ≡ pins_on m s' n c = omega arith in z))

  store-elsewhere : (k : Node) → k ≢ n → store_of p m s k ≡ store_of p m s' k
  store-elsewhere k far = store-same p m k (order s k) _ _ (pins_on m s k) (pins_on m s' k) (sum-at m k (scratch s) (scratch s') (λ v at. ap (λ (x : WorkerState). x.scratch) (row v at))) (λ c. sum-at m k (λ v. times (pins s v) c) (λ v. times (pins s' v) c) (λ v at. ap (λ (x : WorkerState). times x.pins c) (row v at)))
    where
      row : (v : Worker) → node_of m v ≡ k → worker_state s v ≡ worker_state s' v
      row v at = other-row v (λ e. far (sym at ∙ ap (node_of m) e))

  -- ---- all of it, as the code leaves it

  pub end-left : (at : Node) → at ≡ n → (written : List Cell) → written ≡ ws → (found : List WorkerState) → found ≡ workers → (cells' : List CellState) (nodes' : List Store) (workers' : List WorkerState) → cells' ≡ written_each written cells → nodes' ≡ set nodes at.0 (released (row_at found w).pins (row_at found w).scratch (store_at nodes at)) → workers' ≡ let_go workers w → AreLeft r (End t w) p m (state_in (set tasks t.0 (Done w)) cells' nodes' workers') nodes'
  end-left at bound written are found read cells' nodes' workers' as_cells as_nodes as_workers =
      rows-left p m s h r same (End t w) can keeps.few (set tasks t.0 (Done w)) cells' nodes' workers' refl
      (as_cells ∙ ap (λ (cs : List Cell). written_each cs cells) are ∙ rows-written written_once_more ws cells (written-once p h.proper t program_task w staffed)) as_workers
      (subst (λ (l : List Store). HasStores p m s' l) (sym (as_nodes ∙ ap (λ (rs : List WorkerState). set nodes at.0 (released (row_at rs w).pins (row_at rs w).scratch (store_at nodes at))) read ∙ ap (λ (j : Node). set nodes j.0 (released (pins s w) (scratch s w) (store_at nodes j))) bound))
      (HasStores-set p m s s' nodes n (released (pins s w) (scratch s w) (store_at nodes n)) node (ap (released (pins s w) (scratch s w)) (store-at p m s nodes keeps.stores n _ node) ∙ released-is) (λ k far. sym (store-elsewhere k far)) keeps.stores))
