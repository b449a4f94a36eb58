-- The tiles that the beginning of a kernel's run leaves, and the shares that its task takes.
use Rattle.sj_board.proofs.Words.{[], Access, after, All, all_out, AllTell, AllZip, ap, AreSharesFor, arith, Arrays, arrays_after, AtNode, Bool, CanGive, CanHappen, CanWorkOn, Cell, CellState, dims_of, DiskState, Equations, false, fresh_cells, get_or, has_cell, has_happened, HasTiles, if◌then◌else◌, inl, inr, is_being_written, is_some, is_valid, IsShareIn, IsSound, IsTileOf, Keeps, kept_at, LendingState, length, List, Machine, map, Node, node_of, None, not, on_disk, Option, out_each, owned_at, Program, reads_of, reads_value, Recorded, refl, renewed, Rows, Run, run_arrays, same_place, shared, shares_at, Slot, standing, StandingBy, starts_as_zeros, State, state, subst, suc, sym, Task, task_of, tile_at, tile_in, tiles_of, true, with_event, worked_on, Worker, writes, written_among, written_cells, zeros, ℕ, ◌++◌, ◌+◌, ◌<◌, ◌∙◌, ◌∷◌, ◌≡◌, ◌≤◌}
use Rattle.std.specs.Prelude.{Contains}
use Rattle.std.proofs.lemmas.{Bool.cases_Bool, Bool.cond_both, Bool.false≢true, List.Elements.Contains-get_or, Nat.mod_below}
use Rattle.sj_core.proofs.{CellLists.cells-written, CellLists.times, Changing.All-renewed, Claimed.claimed-inside, Claimed.claimed-not_written, Claimed.claimed-staffed, Finding.second_fails, Folding.read-among_cells, Readiness.Contains-from_filter, Readiness.filter-Contains, Reading.cells-untouched, Reading.entry-inside, Running.run-other, Running.run-rested, Running.run-rests, Running.run-spared, Running.run-stale, Running.run-unstored, Sized.worked_on-dims, Tables.length-renewed, Tables.renewed-at_or, TaskCells.written-among_cells}
use Rattle.sj_machine.proofs.{FewPins.few-operands, Happening.All-has, Written.can-work, Written.works-small, Written.written-once}
use Rattle.sj_board.proofs.{Delivering.read-valid, EventTiles.as_read, EventTiles.keeps-blocks_stay, EventTiles.tile_there, Keeping.keeps-told, Keeping.sound_state, TileTables.out-length, TileTables.out-none, TileTables.Places, TileTables.wide-at}

-- ---- tiles that are out

-- the places of a cell of which the tile is out, or not
abbrev out_if : Bool → Places → Places
out_if b places = if b then all_out places else places

module _ (cs : List Cell) (tiles : List Places) (once : (c : Cell) → times cs c ≤ 1) where
  abbrev outs : ℕ → Places → Places
  outs k places = out_if (has_cell cs (record { 0 = k })) places

  outs-all : out_each cs tiles ≡ renewed outs tiles
  outs-all = cells-written (λ c places. all_out places) [] cs tiles once

  out_each-length : length (out_each cs tiles) ≡ length tiles
  out_each-length = ap length outs-all ∙ length-renewed outs tiles

  out_each-wide : (w : ℕ) → All (λ places. length places ≡ w) tiles → All (λ places. length places ≡ w) (out_each cs tiles)
  out_each-wide w wide = subst (All (λ places. length places ≡ w)) (sym outs-all) (All-renewed (λ places. length places ≡ w) outs tiles (λ k places same. cond_both (has_cell cs (record { 0 = k })) (all_out places) places (λ (row : Places). length row ≡ w) (λ out. out-length places ∙ same) (λ left. same)) wide)

  out_each-row : (c : Cell) → tiles_of (out_each cs tiles) c ≡ out_if (has_cell cs c) (tiles_of tiles c)
  out_each-row c = ap (λ (ts : List Places). tiles_of ts c) outs-all ∙ renewed-at_or outs tiles c.0 [] (cond_both (has_cell cs c) (all_out []) [] (λ (row : Places). row ≡ []) (λ out. refl) (λ left. refl))

  out_each-out : (c : Cell) (k : Node) → has_cell cs c ≡ true → tile_at (out_each cs tiles) c k ≡ None
  out_each-out c k has = ap (λ (places : Places). tile_in places k) (out_each-row c ∙ ap (λ b. out_if b (tiles_of tiles c)) has) ∙ out-none (tiles_of tiles c) k

  out_each-left : (c : Cell) (k : Node) → has_cell cs c ≡ false → tile_at (out_each cs tiles) c k ≡ tile_at tiles c k
  out_each-left c k left = ap (λ (places : Places). tile_in places k) (out_each-row c ∙ ap (λ b. out_if b (tiles_of tiles c)) left)

-- ---- lists

zipped : {X Y : Type 0} (Q : X → Y → Type 0) (f : X → Y) (xs : List X) → ((x : X) → Contains xs x → Q x (f x)) → AllZip Q xs (map f xs)
zipped Q f [] all = tt
zipped Q f (x ∷ xs) all = (all x (0, omega arith, refl), zipped Q f xs (λ y (k, inside, e). all y (suc k, omega arith, e)))

module _ {D : Type 0} {eq : Equations} (size faults mismatches : D → ℕ) (held : D → Option (List ℕ)) (b : StandingBy eq D) (rows : Rows) (tiles : List Places) (spare : ℕ) (keeps : Keeps size faults mismatches held b rows tiles spare) (t : Task) (w : Worker) (can : CanHappen b (Run t w)) where
  abbrev p : Program
  p = b.program

  abbrev m : Machine
  m = b.machine

  abbrev s : State
  s = state b

  abbrev n : Node
  n = node_of m w

  abbrev s' : State
  s' = after p m s (Run t w)

  abbrev A' : Arrays
  A' = arrays_after eq p m (run_arrays b) (Run t w)

  h : IsSound p m s
  h = sound_state size faults mismatches held b rows tiles spare keeps

  program_task : t.0 < length p.tasks
  program_task = claimed-inside p m s h t w can.claimed

  staffed : w.0 < p.workers
  staffed = claimed-staffed p m s h t w can.claimed

  node : n.0 < length m.nodes
  node = mod_below w.0 (length m.nodes) (let one = keeps.sound.run.machine.some_node in omega arith)

  -- ---- the cells that the task writes

  abbrev ws : List Cell
  ws = written_cells p t w

  once : (c : Cell) → times ws c ≤ 1
  once = written-once p h.proper t program_task w staffed

  inside : (c : Cell) → has_cell ws c ≡ true → c.0 < length tiles
  inside c has = omega (arith, (entry-inside s c n (h.coherent.cells.claimed t w c can.claimed (written-among_cells p t w c has))).0, h.coherent.state.rows.cells, keeps.tiles.every_cell)

  pub run-cells : All (λ c. c.0 < length tiles) ws
  run-cells = All-has (λ c. c.0 < length tiles) ws inside

  was-being : (c : Cell) → has_cell ws c ≡ false → is_being_written p s' c ≡ true → is_being_written p s c ≡ true
  was-being c left being = search (arith, cases_Bool, run-rests p m s h t w s' can refl c left, false≢true)

  -- ---- the blocks

  blocks-stay : (c : Cell) → on_disk s' c ≡ true → (on_disk s c ≡ true) × (writes s' c ≡ writes s c)
  blocks-stay c there = elim (cases_Bool (has_cell ws c)) [
    | inl has ↦ absurd (false≢true (sym (run-unstored p m s t w s' can refl c has) ∙ there))
    | inr left ↦ (sym (run-other p m s t w s' can refl c left).disk ∙ there, ap (λ (row : CellState). row.writes) (cells-untouched s (has_cell ws) (λ d row. owned_at n row) c left))
  ]

  -- ---- the tiles

  abbrev new : List Places
  new = out_each ws tiles

  array-left : (c : Cell) (k : Node) → has_cell ws c ≡ false → A' c (AtNode k) ≡ run_arrays b c (AtNode k)
  array-left c k left = second_fails (same_place (AtNode k) (AtNode n)) (has_cell (fresh_cells p t w) c) (zeros (dims_of p c)) (run_arrays b c (AtNode k)) (run-stale p m s h t w s' can refl c left)

  tiles-agree : HasTiles p m s' A' (AllTell held b) new
  tiles-agree = record {
    every_cell = out_each-length ws tiles once ∙ keeps.tiles.every_cell;
    every_node = out_each-wide ws tiles once (length m.nodes) keeps.tiles.every_node;
    there = λ c k rests. (
        let left : has_cell ws c ≡ false = run-spared p m s h t w s' can refl c rests in
        ap is_some (out_each-left ws tiles once c k left) ∙ keeps.tiles.there c k (run-rested p m s h t w s' can refl c rests) ∙ ap is_valid (sym ((run-other p m s t w s' can refl c left).marks k))
        );
    out = λ c k being. search (arith, cases_Bool (has_cell ws c), out_each-out ws tiles once c k, out_each-left ws tiles once c k, keeps.tiles.out c k, was-being c);
    dims = λ c k. search (arith, cases_Bool (has_cell ws c), out_each-out ws tiles once c k, out_each-left ws tiles once c k, keeps.tiles.dims c k);
    arrays = λ tells c k. search (arith, cases_Bool (has_cell ws c), out_each-out ws tiles once c k, out_each-left ws tiles once c k, keeps.tiles.arrays tells c k, array-left c k);
  }

  pub keeps-run : (spare' : ℕ) → spare' + 1 ≡ spare → Keeps size faults mismatches held (with_event b (Run t w)) (has_happened rows (Run t w)) new spare'
  keeps-run spare' left = keeps-blocks_stay size faults mismatches held b rows tiles spare keeps (Run t w) can new spare' (λ c d. refl) blocks-stay tiles-agree left

  -- ---- the operands that are read

  module _ (a : Access) (has : Contains (task_of p t).accesses a) (reads : reads_value a.mode ≡ true) where
    abbrev worked : Cell
    worked = worked_on p w a

    reads-old : starts_as_zeros a.mode ≡ false
    reads-old = ap not reads

    read-there : is_some (tile_at tiles worked n) ≡ true
    read-there =
        keeps.tiles.there worked n (claimed-not_written p m s h t w can.claimed worked (read-among_cells p t w a has reads-old))
        ∙ read-valid p h.proper m s t w staffed can a has reads-old

    -- the tile that is kept of what the worker works on is the array there
    read-tile : IsTileOf held b worked (AtNode n) (kept_at tiles n worked)
    read-tile = (tile_there size faults mismatches held b rows tiles spare keeps worked n read-there).1

    read-share : IsShareIn held b w a (shared (kept_at tiles n worked))
    read-share = record {
      shared = refl;
      dims = read-tile.dims ∙ worked_on-dims p h.proper w staffed a;
      array = read-tile.array;
    }

  pub run-can_work : All (CanWorkOn p w) (task_of p t).accesses
  run-can_work = can-work p h.proper t program_task w staffed

  pub run-can_give : All (CanGive p w tiles n) (task_of p t).accesses
  run-can_give k d within =
      let a = get_or (task_of p t).accesses k d in
      let small = works-small p h.proper t program_task w staffed k d within in
      let cell : (worked_on p w a).0 < length tiles = omega (arith, small.cell, keeps.tiles.every_cell) in
      record {
        works = run-can_work k d within;
        cell = cell;
        node = omega (arith, wide-at (length m.nodes) tiles (worked_on p w a) keeps.tiles.every_node cell, node);
        tile = read-there a (Contains-get_or (task_of p t).accesses k d within);
      }

  pub run-shares : AreSharesFor held b t w (shares_at p w tiles n (task_of p t).accesses)
  run-shares = zipped (IsShareIn held b w) (λ (a : Access). shared (kept_at tiles n (worked_on p w a))) (reads_of (task_of p t).accesses) (λ a among. read-share a (Contains-from_filter (λ (x : Access). reads_value x.mode) (task_of p t).accesses a among) (filter-Contains (λ (x : Access). reads_value x.mode) (task_of p t).accesses a among))

-- ---- as the code finds it

module _ {D : Type 0} (size faults mismatches : D → ℕ) (held : D → Option (List ℕ)) (eq : Equations) (rows : Rows) (trace : Recorded) (lent : LendingState D) (opened : DiskState D) (tiles : List Places) (keeps : Keeps size faults mismatches held (standing eq rows.program rows.machine trace lent opened) rows tiles trace.spare) (t : Task) (w : Worker) (b' : StandingBy eq D) (same : standing eq rows.program rows.machine trace lent opened ≡ b') (can' : CanHappen b' (Run t w))
    (at : Node) (bound : at ≡ node_of rows.machine w) (q : Program) (program : q ≡ rows.program) (accesses : List Access) (of_task : accesses ≡ (task_of q t).accesses) where
  abbrev b : StandingBy eq D
  b = standing eq rows.program rows.machine trace lent opened

  can : CanHappen b (Run t w)
  can = subst (λ (x : StandingBy eq D). CanHappen x (Run t w)) (sym same) can'

  found : (P : Program → Node → List Access → Type 0) → P rows.program (node_of rows.machine w) (task_of rows.program t).accesses → P q at accesses
  found P is = as_read P rows.program q (node_of rows.machine w) at t accesses program bound of_task is

  pub found-can_work : All (CanWorkOn q w) accesses
  found-can_work = found (λ x j l. All (CanWorkOn x w) l) (run-can_work size faults mismatches held b rows tiles trace.spare keeps t w can)

  pub found-few : length accesses ≤ 5
  found-few = found (λ x j l. length l ≤ 5) (few-operands rows.program keeps.sound.run.proper t)

  module _ (now : List Places) (kept : now ≡ tiles) where
    pub found-can_give : All (CanGive q w now at) accesses
    found-can_give =
        subst (λ (ts : List Places). All (CanGive q w ts at) accesses) (sym kept)
        (found (λ x j l. All (CanGive x w tiles j) l) (run-can_give size faults mismatches held b rows tiles trace.spare keeps t w can))

    pub found-shares : (before slots : List Slot) → before ≡ [] → slots ≡ before ++ shares_at q w now at accesses → AreSharesFor held b' t w slots
    found-shares before slots none made =
        subst (λ (x : StandingBy eq D). AreSharesFor held x t w slots) same
        (subst (AreSharesFor held b t w) (sym (made ∙ ap (λ (l : List Slot). l ++ shares_at q w now at accesses) none ∙ ap (λ (ts : List Places). shares_at q w ts at accesses) kept))
        (found (λ x j l. AreSharesFor held b t w (shares_at x w tiles j l)) (run-shares size faults mismatches held b rows tiles trace.spare keeps t w can)))

  module _ (written : List Cell) (are : written ≡ written_among q w accesses) where
    all-written : written ≡ written_cells rows.program t w
    all-written = are ∙ found (λ x j l. written_among x w l ≡ written_cells rows.program t w) refl

    pub found-cells : All (λ c. c.0 < length tiles) written
    found-cells = subst (All (λ c. c.0 < length tiles)) (sym all-written) (run-cells size faults mismatches held b rows tiles trace.spare keeps t w can)

    pub found-keeps_run : (rows' : Rows) (tiles' : List Places) (trace' : Recorded) → rows' ≡ has_happened rows (Run t w) → tiles' ≡ out_each written tiles → trace'.events ≡ trace.events ++ Run t w ∷ [] → trace'.spare + 1 ≡ trace.spare → Keeps size faults mismatches held (standing eq rows'.program rows'.machine trace' lent opened) rows' tiles' trace'.spare
    found-keeps_run rows' tiles' trace' happened out told left =
        keeps-told size faults mismatches held eq rows trace lent opened (Run t w) (out_each (written_cells rows.program t w) tiles) rows' tiles' trace' happened
        (out ∙ ap (λ (l : List Cell). out_each l tiles) all-written) told
        (keeps-run size faults mismatches held b rows tiles trace.spare keeps t w can trace'.spare left)
