-- What one event leaves: a sound state, and rows of it where the nodes' stores are those of that state.
use Rattle.sj_machine.proofs.Words.{[], after, ap, arith, Bool, Cell, cell_state, CellState, Coherent, Event, false, get_or, has_cell, has_happened, HasStores, inl, inr, Invalid, is_claimed_by, is_entry, is_running_on, IsSound, KeepsStores, length, List, Machine, map, Mark, mark, May, MayHappen, Node, node_entry_of, node_of, node_size, NodeEntry, order, order_in, pins, PinsFew, Program, Progress, progress, refl, row_of, Rows, same_cell, set, State, state_in, Store, store, store_of, subst, suc, sym, tile_bytes, true, Worker, WorkerState, zero, ℕ, ◌<◌, ◌∙◌, ◌∷◌, ◌≡◌, ◌≢◌}
use Rattle.std.proofs.Common.{All}
use Rattle.std.proofs.lemmas.{Bool.cases_lt, Bool.false≢true, Bool.or_cases, List.ext_get_or, List.get_or-map, List.get_or-set_other, List.get_or-set_same, List.get_or_past, List.length-map, List.length-set, List.Folds.list_any_at}
use Rattle.sj_base.proofs.{SameIds.other_node, SameIds.same_cell-itself}
use Rattle.sj_core.proofs.{Advancing.claimed_by-is, Advancing.running_on-is, Replicas.valid-entry, Replaying.Step-keeps_coherence, Reading.no_row, Reading.same_node}
use Rattle.std.proofs.{Math.Path.fun_ext}
use Rattle.sj_machine.proofs.{FewPins.few-after}

-- ---- reading

pub get-any : {X : Type 0} (xs : List X) (k : ℕ) (a b : X) → k < length xs → get_or xs k a ≡ get_or xs k b
get-any [] k a b h = absurd (omega arith)
get-any (x ∷ xs) zero a b h = refl
get-any (x ∷ xs) (suc k) a b h = get-any xs k a b (omega arith)

-- a fact of each cell that a list has
pub All-has : (P : Cell → Type 0) (xs : List Cell) → ((c : Cell) → has_cell xs c ≡ true → P c) → All P xs
All-has P xs h = λ i d inside. h (get_or xs i d) (list_any_at (λ e. same_cell e (get_or xs i d)) xs i d inside (same_cell-itself (get_or xs i d)))

-- the row of a cell, whatever stands for one past the end
pub row-at : (cells : List CellState) (c : Cell) (row : CellState) → c.0 < length cells → row ≡ get_or cells c.0 row → row ≡ row_of cells c
row-at cells c row inside is = is ∙ get-any cells c.0 row no_row inside

-- where a mark is another than of no copy, the cell has a row, and the row the node
pub mark-inside : (test : Mark → Bool) → test Invalid ≡ false → (s : State) (c : Cell) (n : Node) → test (mark s c n) ≡ true → (c.0 < length s.cells) × (n.0 < length (cell_state s c).marks)
mark-inside test none s c n h = search (arith, cases_lt, false≢true, get_or_past, no_row)

-- a cell that a worker pins has an entry on the worker's node
pub pinned-entry : (p : Program) (m : Machine) (s : State) → Coherent p m s → (v : Worker) (c : Cell) → has_cell (pins s v) c ≡ true → is_entry (mark s c (node_of m v)) ≡ true
pinned-entry p m s coherent v c pin =
    let held = coherent.pins.own v c pin in
    elim (or_cases (is_claimed_by v (progress s held.task)) (is_running_on v (progress s held.task)) held.has) [
      | inl claimed ↦ coherent.cells.claimed held.task v c (claimed_by-is v (progress s held.task) claimed) held.cell
      | inr running ↦ valid-entry (mark s c (node_of m v)) (coherent.cells.running held.task v c (running_on-is v (progress s held.task) running) held.cell) (coherent.pins.stays v c pin)
    ]

-- ---- stores

pub entry-cells : (f : Cell → NodeEntry) → ((c : Cell) → (f c).cell ≡ c) → (cs : List Cell) → map (λ (e : NodeEntry). e.cell) (map f cs) ≡ cs
entry-cells f same [] = refl
entry-cells f same (c ∷ cs) = ap (λ (x : Cell). x ∷ map (λ (e : NodeEntry). e.cell) (map f cs)) (same c) ∙ ap (λ (xs : List Cell). c ∷ xs) (entry-cells f same cs)

module _ (p : Program) (m : Machine) (s : State) (nodes : List Store) (had : HasStores p m s nodes) where
  -- the store of a node, whatever stands for one past the end
  pub store-at : (n : Node) (d : Store) → n.0 < length m.nodes → get_or nodes n.0 d ≡ store_of p m s n
  store-at n d inside = get-any nodes n.0 d (store_of p m s n) (omega (arith, inside, had.every_node)) ∙ had.stores n inside

  -- the cells of the entries are the state's orders
  pub orders-in : length s.orders ≡ length m.nodes → map order_in nodes ≡ s.orders
  orders-in every =
      ext_get_or [] (map order_in nodes) s.orders (omega (arith, length-map nodes order_in, had.every_node, every)) (λ i inside. (
      let n : Node = record { 0 = i } in
      let within : i < length nodes = omega (arith, inside, length-map nodes order_in) in
      let node : i < length m.nodes = omega (arith, within, had.every_node) in
      get_or-map order_in nodes i (store_of p m s n) [] within ∙ ap order_in (had.stores n node) ∙ entry-cells (node_entry_of p m s n) (λ c. refl) (order s n)
      ))

-- what a node's store is by its order, by what its workers hold there, and by how many pins they have on each cell
abbrev pub store_by : Program → Machine → Node → List Cell → ℕ → (Cell → ℕ) → Store
store_by p m n cs held pins = store (node_size m n) held (length p.cells) (map (λ c. record { cell = c; bytes = tile_bytes p c; pins = pins c }) cs)

pub store-same : (p : Program) (m : Machine) (n : Node) (cs : List Cell) (held held' : ℕ) (pins pins' : Cell → ℕ) → held ≡ held' → ((c : Cell) → pins c ≡ pins' c) → store_by p m n cs held pins ≡ store_by p m n cs held' pins'
store-same p m n cs held held' pins pins' same each =
    ap (λ k. store_by p m n cs k pins) same ∙ ap (λ (f : Cell → ℕ). store_by p m n cs held' f) (fun_ext {f = pins} {g = pins'} each)

-- stores stay where each node's does
pub HasStores-same : (p : Program) (m : Machine) (s s' : State) (nodes : List Store) → ((n : Node) → store_of p m s' n ≡ store_of p m s n) → HasStores p m s nodes → HasStores p m s' nodes
HasStores-same p m s s' nodes same had = record {
  every_node = had.every_node;
  stores = λ n inside. subst (λ (x : Store). get_or nodes n.0 x ≡ x) (sym (same n)) (had.stores n inside);
}

-- and where one node's is written
pub HasStores-set : (p : Program) (m : Machine) (s s' : State) (nodes : List Store) (n : Node) (x : Store) → n.0 < length m.nodes → x ≡ store_of p m s' n → ((k : Node) → k ≢ n → store_of p m s' k ≡ store_of p m s k) → HasStores p m s nodes → HasStores p m s' (set nodes n.0 x)
HasStores-set p m s s' nodes n x here is others had = record {
  every_node = length-set nodes n.0 x ∙ had.every_node;
  stores = λ k inside. elim (same_node k n) [
    | inl e ↦ subst (λ (j : Node). get_or (set nodes n.0 x) j.0 (store_of p m s' j) ≡ store_of p m s' j) (sym e) (get_or-set_same nodes n.0 x (store_of p m s' n) (omega (arith, here, had.every_node)) ∙ is)
    | inr far ↦ get_or-set_other nodes n.0 k.0 x (store_of p m s' k) (other_node n k far) ∙ store-at p m s nodes had k (store_of p m s' k) inside ∙ sym (others k far)
  ];
}

-- ---- rows

abbrev pub rows_in : Program → Machine → State → Rows
rows_in p m s = record { program = p; machine = m; state = s }

-- these are the rows that the event leaves
pub record AreLeft (r : Rows) (e : Event) (p : Program) (m : Machine) (s : State) (nodes : List Store) : Type 0 where
  pub happened : rows_in p m s ≡ has_happened r e
  pub keeps : KeepsStores p m s nodes

module _ (p : Program) (m : Machine) (s : State) (h : IsSound p m s) (r : Rows) (same : rows_in p m s ≡ r) (e : Event) (can : MayHappen r e) where
  pub may-happen : May p m s e
  may-happen = subst (λ (x : Rows). MayHappen x e) (sym same) can

  pub sound-after : IsSound p m (after p m s e)
  sound-after = record { proper = h.proper; machine = h.machine; coherent = Step-keeps_coherence p m h.proper h.machine s e h.coherent may-happen }

  -- the nodes' entries have the orders, where the stores are those of the state
  pub rows-left : PinsFew s → (tasks : List Progress) (cells : List CellState) (nodes : List Store) (workers : List WorkerState) → tasks ≡ (after p m s e).tasks → cells ≡ (after p m s e).cells → workers ≡ (after p m s e).workers → HasStores p m (after p m s e) nodes → AreLeft r e p m (state_in tasks cells nodes workers) nodes
  rows-left few tasks cells nodes workers as_tasks as_cells as_workers stores =
      let now : State = after p m s e in
      let is : state_in tasks cells nodes workers ≡ now =
      ap (λ (x : List Progress). state_in x cells nodes workers) as_tasks ∙ ap (λ (x : List CellState). state_in now.tasks x nodes workers) as_cells
      ∙ ap (λ (x : List WorkerState). state_in now.tasks now.cells nodes x) as_workers
      ∙ ap (λ (x : List (List Cell)). let z : State = record now { orders = x } in z) (orders-in p m now nodes stores sound-after.coherent.state.rows.orders) in
      record {
        happened = ap (rows_in p m) is ∙ ap (λ (x : Rows). has_happened x e) same;
        keeps = subst (λ (z : State). KeepsStores p m z nodes) (sym is) (record { sound = sound-after; few = few-after p m h.proper s e few; stores = stores });
      }
