-- What the beginning of a run leaves.
use Rattle.sj_machine.proofs.Words.{[], after, All, ap, AreMarked, AreUnpinned, arith, Bool, CanRun, CanWorkOn, Cell, CellState, evicted_at, false, get_or, has_cell, has_entry, if◌then◌else◌, is_entry, is_of_cells, is_valid, IsOwnedBy, IsSound, KeepsStores, length, List, Machine, map, mark, MayHappen, nat_eq, Node, node_entry_of, node_of, node_size, NodeEntry, not, order, owned_at, owned_each, pins, pins_on, Program, Progress, refl, Rows, Run, Running, scratch, set, State, state_in, Store, store, store_of, subst, sum_by, sym, Task, task_of, tile_bytes, true, with_entries, without, without_all, Worker, workers_at, WorkerState, written_cells, ℕ, ◌<◌, ◌∙◌, ◌≡◌, ◌≢◌}
use Rattle.sj_machine.proofs.{ClaimEntries.entries-has, Happening.All-has, Happening.AreLeft, Happening.mark-inside, Happening.may-happen, Happening.pinned-entry, Happening.rows-left, Happening.rows_in, Happening.sound-after, Happening.store-at, Loops.rows-written, NodeSums.sum-at, Written.can-work, Written.written-once}
use Rattle.std.proofs.lemmas.{Bool.false_from_ne_true, Bool.false≢true, List.get_or-map, List.length-map}
use Rattle.sj_core.proofs.{CellLists.times, CellLists.times-none, Claimed.claimed-inside, Claimed.claimed-staffed, Reading.progress-same, Sums.sum-nothing, Tables.renewed-at}
use Rattle.sj_node.proofs.{CallerLemmas.filter-map}

module _ (p : Program) (m : Machine) (tasks : List Progress) (cells : List CellState) (nodes : List Store) (workers : List WorkerState) (keeps : KeepsStores p m (state_in tasks cells nodes workers) nodes) (r : Rows) (same : rows_in p m (state_in tasks cells nodes workers) ≡ r) (t : Task) (w : Worker) (can : MayHappen r (Run t w)) where
  abbrev s : State
  s = state_in tasks cells nodes workers

  abbrev s' : State
  s' = after p m s (Run t w)

  abbrev n : Node
  n = node_of m w

  abbrev ws : List Cell
  ws = written_cells p t w

  h : IsSound p m s
  h = keeps.sound

  -- the state after it
  h' : IsSound p m s'
  h' = sound-after p m s h r same (Run t w) can

  run : CanRun p m s t w
  run = may-happen p m s h r same (Run t w) can

  program_task : t.0 < length p.tasks
  program_task = claimed-inside p m s h t w run.claimed

  staffed : w.0 < p.workers
  staffed = claimed-staffed p m s h t w run.claimed

  pub run-can_work : All (CanWorkOn p w) (task_of p t).accesses
  run-can_work = can-work p h.proper t program_task w staffed

  -- the cells that the task writes are its worker's own afterwards
  own : (c : Cell) → has_cell ws c ≡ true → IsOwnedBy m s' c w
  own c has = h'.coherent.writers.owned t w c (progress-same s t (Running w) (omega (arith, program_task, h.coherent.state.rows.tasks))) has

  pub run-cells : All (λ c. c.0 < length cells) ws
  run-cells = All-has (λ c. c.0 < length cells) ws (λ c has. omega (arith, (mark-inside is_valid refl s' c n (ap is_valid (own c has).valid)).0, h.coherent.state.rows.cells, h'.coherent.state.rows.cells))

  -- ---- the nodes

  pub run-marked : (k : Node) (d : Store) → k.0 < length nodes → AreMarked cells k (get_or nodes k.0 d).entries
  run-marked k d inside c =
      ap (λ (x : Store). has_entry x.entries c) (store-at p m s nodes keeps.stores k d (omega (arith, inside, keeps.stores.every_node)))
      ∙ entries-has (tile_bytes p) (pins_on m s k) (order s k) c ∙ h.coherent.state.entries.entries k c

  -- no worker of another node pins a cell that is the node's own: it has an entry for what it pins
  unpinned : (k : Node) → k ≢ n → (c : Cell) → has_cell ws c ≡ true → pins_on m s k c ≡ 0
  unpinned k far c has =
      let none : (v : Worker) → node_of m v ≡ k → is_entry (mark s' c (node_of m v)) ≡ false = λ v at. ap is_entry ((own c has).only (node_of m v) (λ e. far (sym at ∙ e))) in
      sum-at m k (λ v. times (pins s v) c) (λ v. 0) (λ v at. times-none (pins s v) c (false_from_ne_true (has_cell (pins s v) c) (λ pin. false≢true (sym (none v at) ∙ pinned-entry p m s' h'.coherent v c pin))))
      ∙ sum-nothing (λ (v : Worker). 0) (λ v. refl) (workers_at m k)

  node-unpinned : (k : ℕ) (d : Store) → k < length nodes → k ≢ n.0 → AreUnpinned ws (get_or nodes k d).entries
  node-unpinned k d inside far =
      let j : Node = record { 0 = k } in
      subst (λ (x : Store). AreUnpinned ws x.entries) (sym (store-at p m s nodes keeps.stores j d (omega (arith, inside, keeps.stores.every_node)))) (λ i e within among. (
      let c0 : Cell = record { 0 = 0 } in
      let here : i < length (order s j) = omega (arith, within, length-map (order s j) (node_entry_of p m s j)) in
      let is : get_or (map (node_entry_of p m s j) (order s j)) i e ≡ node_entry_of p m s j (get_or (order s j) i c0) = get_or-map (node_entry_of p m s j) (order s j) i c0 e here in
      ap (λ (x : NodeEntry). x.pins) is ∙ unpinned j (λ e. far (ap (λ (x : Node). x.0) e)) (get_or (order s j) i c0) (sym (ap (is_of_cells ws) is) ∙ among)
      ))

  pub run-unpinned : (at : Node) → at ≡ n → (written : List Cell) → written ≡ ws → (k : ℕ) (d : Store) → k < length nodes → k ≢ at.0 → AreUnpinned written (get_or nodes k d).entries
  run-unpinned at bound written are k d inside far =
      subst (λ (cs : List Cell). AreUnpinned cs (get_or nodes k d).entries) (sym are) (node-unpinned k d inside (λ e. far (e ∙ sym (ap (λ (j : Node). j.0) bound))))

  -- the store of a node keeps the entries of other cells, and that of the worker's node keeps all
  store-after : (k : Node) → k.0 < length m.nodes → store_of p m s' k ≡ evicted_at n ws k.0 (store_of p m s k)
  store-after k inside =
      let left : ℕ → List Cell → List Cell = λ i cs. if nat_eq i n.0 then cs else without ws cs in
      ap (λ (cs : List Cell). store (node_size m k) (sum_by (scratch s) (workers_at m k)) (length p.cells) (map (node_entry_of p m s k) cs)) (renewed-at left s.orders k.0 [] (omega (arith, inside, h.coherent.state.rows.orders)))
      ∙ by_node (nat_eq k.0 n.0)
    where
      by_node : (b : Bool) → store (node_size m k) (sum_by (scratch s) (workers_at m k)) (length p.cells) (map (node_entry_of p m s k) (if b then order s k else without ws (order s k))) ≡ (if b then store_of p m s k else with_entries (store_of p m s k) (without_all ws (store_of p m s k).entries))
      by_node true = refl
      by_node false = ap (λ (es : List NodeEntry). store (node_size m k) (sum_by (scratch s) (workers_at m k)) (length p.cells) es) (sym (filter-map (node_entry_of p m s k) (λ (e : NodeEntry). not (is_of_cells ws e)) (order s k)))

  -- ---- all of it, as the code leaves it

  pub run-left : (at : Node) → at ≡ n → (written : List Cell) → written ≡ ws → (cells' : List CellState) (nodes' : List Store) → cells' ≡ owned_each at written cells → length nodes' ≡ length nodes → ((k : ℕ) (d : Store) → k < length nodes → get_or nodes' k d ≡ evicted_at at written k (get_or nodes k d)) → AreLeft r (Run t w) p m (state_in (set tasks t.0 (Running w)) cells' nodes' workers) nodes'
  run-left at bound written are cells' nodes' as_cells every each =
      rows-left p m s h r same (Run t w) can keeps.few (set tasks t.0 (Running w)) cells' nodes' workers refl
      (as_cells ∙ ap (λ (j : Node). owned_each j written cells) bound ∙ ap (λ (cs : List Cell). owned_each n cs cells) are ∙ rows-written (owned_at n) ws cells (written-once p h.proper t program_task w staffed)) refl
      (record {
        every_node = every ∙ keeps.stores.every_node;
        stores = λ k inside. (
            let d : Store = store_of p m s' k in
            each k.0 d (omega (arith, inside, keeps.stores.every_node)) ∙ ap (evicted_at at written k.0) (store-at p m s nodes keeps.stores k d inside)
            ∙ ap (λ (j : Node). evicted_at j written k.0 (store_of p m s k)) bound ∙ ap (λ (cs : List Cell). evicted_at n cs k.0 (store_of p m s k)) are ∙ sym (store-after k inside)
            );
      })
