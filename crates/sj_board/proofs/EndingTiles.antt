-- The tiles that the end of a kernel's run leaves.
use Rattle.sj_board.proofs.Words.{[], Access, after, AllByRecursion, AllTell, AllZip, ap, AreResultsFor, AreShared, arith, Array, Arrays, arrays, arrays_after, AtNode, Bool, CanHappen, CanPutBack, Cell, CellState, cond, dims_of, DiskState, Done, End, Equations, false, has_cell, has_happened, HasTiles, held_at, held_in, inl, inr, is_begun, is_being_written, is_entry, is_task_of, IsOwnedBy, IsShare, IsSound, Keeps, LendingState, length, List, Machine, map, mark, Node, node_of, None, on_disk, Option, Program, Progress, progress, put_each, Recorded, refl, result_in, Rows, run_arrays, Running, same_cell, same_place, Slot, Some, standing, StandingBy, State, state, subst, sym, Task, task_of, tile_at, tile_in, tiles_of, true, with_event, worked_on, Worker, worker_of, writes, written_among, written_cells, written_operands, zip, ℕ, ◌++◌, ◌+◌, ◌<◌, ◌||◌, ◌∙◌, ◌∷◌, ◌≡◌, ◌≢◌}
use Rattle.std.proofs.lemmas.{Bool.cases_Bool, Bool.false≢true, List.get_or-set_other, List.get_or-set_same, List.length-map, List.Elements.All-from_recursion, Nat.mod_below, Slice.Zip.AllZip-long}
use Rattle.sj_base.proofs.SameIds.{other_node, same_place-itself}
use Rattle.sj_core.proofs.{Advancing.Ends-advances, Ending.end-alone, Ending.end-spared_row, Ending.end-spares, Finding.being_written-by, Finding.being_written-here, Finding.both_pass, Finding.not_written-before, Finding.running-inside, Finding.second_fails, Reading.entry-inside, Reading.same_cell-is, Reading.same_node, Replicas.same_worker-refl, Sized.worked_on-dims, TaskCells.written-among_cells}
use Rattle.sj_machine.proofs.{Happening.All-has, Written.can-work, Written.works-small, Written.written-once}
use Rattle.sj_board.proofs.{EventTiles.as_read, EventTiles.keeps-blocks_stay, Keeping.keeps-told, Keeping.sound_state, PuttingBack.at_node, PuttingBack.held_in-cons, PuttingBack.length-put_each, PuttingBack.put-row, PuttingBack.put-row_none, PuttingBack.wide-put_each, TileTables.Places, TileTables.wide-at}

-- ---- the results of a task

-- the array of a written cell has its dimensions
held-dims : (p : Program) (w : Worker) → ((a : Access) → dims_of p (worked_on p w a) ≡ dims_of p a.cell) → (ops : List Access) (slots : List Slot) (c : Cell) → AllZip (IsShare p) ops slots → has_cell (map (worked_on p w) ops) c ≡ true → (held_in p (zip (map (worked_on p w) ops) (arrays slots)) c).dims ≡ dims_of p c
held-dims p w worked [] slots c each h = absurd (false≢true h)
held-dims p w worked (a ∷ ops) [] c each h = absurd each
held-dims p w worked (a ∷ ops) (x ∷ slots) c each h =
    ap (λ (y : Array). y.dims) (held_in-cons p (worked_on p w a) c x.array (map (worked_on p w) ops) (arrays slots))
    ∙ by_case (same_cell (worked_on p w a) c) refl h (held-dims p w worked ops slots c each.1)
  where
    by_case : (b : Bool) → same_cell (worked_on p w a) c ≡ b → (b || has_cell (map (worked_on p w) ops) c) ≡ true → (has_cell (map (worked_on p w) ops) c ≡ true → (held_in p (zip (map (worked_on p w) ops) (arrays slots)) c).dims ≡ dims_of p c) → (cond b x.array (held_in p (zip (map (worked_on p w) ops) (arrays slots)) c)).dims ≡ dims_of p c
    by_case true e has rest = each.0.dims ∙ sym (worked a) ∙ ap (dims_of p) (same_cell-is (worked_on p w a) c e)
    by_case false e has rest = rest has

all-shared : (p : Program) (ops : List Access) (slots : List Slot) → AllZip (IsShare p) ops slots → AllByRecursion (λ (x : Slot). x.owned ≡ false) slots
all-shared p [] [] each = tt
all-shared p [] (x ∷ slots) each = absurd each
all-shared p (a ∷ ops) [] each = absurd each
all-shared p (a ∷ ops) (x ∷ slots) each = (each.0.shared, all-shared p ops slots each.1)

module _ {D : Type 0} {eq : Equations} (size faults mismatches : D → ℕ) (held : D → Option (List ℕ)) (b : StandingBy eq D) (rows : Rows) (tiles : List Places) (spare : ℕ) (keeps : Keeps size faults mismatches held b rows tiles spare) (t : Task) (w : Worker) (can : CanHappen b (End t w)) where
  abbrev p : Program
  p = b.program

  abbrev m : Machine
  m = b.machine

  abbrev s : State
  s = state b

  abbrev n : Node
  n = node_of m w

  abbrev s' : State
  s' = after p m s (End t w)

  abbrev A' : Arrays
  A' = arrays_after eq p m (run_arrays b) (End t w)

  h : IsSound p m s
  h = sound_state size faults mismatches held b rows tiles spare keeps

  program_task : t.0 < length p.tasks
  program_task = running-inside p m s t w h.coherent.state.rows can

  staffed : w.0 < p.workers
  staffed = subst (λ (x : Progress). (worker_of x).0 < p.workers) can (h.coherent.state.staff.staffed t (ap is_begun can))

  node : n.0 < length m.nodes
  node = mod_below w.0 (length m.nodes) (let one = keeps.sound.run.machine.some_node in omega arith)

  -- ---- the cells that the task wrote

  abbrev ws : List Cell
  ws = written_cells p t w

  own : (c : Cell) → has_cell ws c ≡ true → IsOwnedBy m s c w
  own c has = h.coherent.writers.owned t w c can has

  being : (c : Cell) → has_cell ws c ≡ true → is_being_written p s c ≡ true
  being c has = being_written-here p s c t w program_task can has

  inside : (c : Cell) → has_cell ws c ≡ true → c.0 < length tiles
  inside c has = omega (arith, (entry-inside s c n (ap is_entry (own c has).valid)).0, h.coherent.state.rows.cells, keeps.tiles.every_cell)

  place : (c : Cell) → has_cell ws c ≡ true → n.0 < length (tiles_of tiles c)
  place c has = omega (arith, wide-at (length m.nodes) tiles c keeps.tiles.every_node (inside c has), node)

  -- no mark changes
  same : (c : Cell) (k : Node) → mark s' c k ≡ mark s c k
  same c k = (end-alone p m s t w s' can refl c).marks k

  -- a cell that rests afterwards and that the task didn't write rested before
  rested : (c : Cell) → has_cell ws c ≡ false → is_being_written p s' c ≡ false → is_being_written p s c ≡ false
  rested c left rests = not_written-before p m s s' t (Running w) (Done w) c h.coherent.state.rows (Ends-advances p m s t w s' can refl) rests (λ v e. (let is : w ≡ v = cc in sym (ap (λ (x : Worker). has_cell (written_cells p t x) c) is) ∙ left))

  -- one that is being written afterwards is another task's, which wrote it before
  still-being : (c : Cell) → is_being_written p s' c ≡ true → (has_cell ws c ≡ false) × (is_being_written p s c ≡ true)
  still-being c now =
      let by = being_written-by p s' c now in
      let v : Worker = worker_of (progress s' by.0) in
      let a = Ends-advances p m s t w s' can refl in
      let differs : by.0 ≢ t = λ e. (let f : Running v ≡ Done w = sym by.1 ∙ ap (progress s') e ∙ a.is in cc) in
      let before : progress s by.0 ≡ Running v = sym (a.others by.0 differs) ∙ by.1 in
      let mine : is_task_of v (progress s by.0) ≡ true = ap (is_task_of v) before ∙ same_worker-refl v in (
        end-spares p m s h t w s' can refl by.0 v c differs mine (written-among_cells p by.0 v c by.2),
        being_written-here p s c by.0 v (running-inside p m s by.0 v h.coherent.state.rows before) before by.2,
      )

  -- ---- the blocks

  blocks-stay : (c : Cell) → on_disk s' c ≡ true → (on_disk s c ≡ true) × (writes s' c ≡ writes s c)
  blocks-stay c there =
      let was : on_disk s c ≡ true = sym (end-alone p m s t w s' can refl c).disk ∙ there in (
        was,
        elim (cases_Bool (has_cell ws c)) [
          | inr left ↦ ap (λ (row : CellState). row.writes) (end-spared_row p m s t w s' can refl c left)
          | inl has ↦ absurd (false≢true (sym (own c has).unstored ∙ was))
        ],
      )

  -- ---- the tiles

  module _ (slots : List Slot) (given : AreResultsFor held b t w slots) where
    abbrev xs : List Array
    xs = arrays slots

    abbrev new : List Places
    new = put_each n ws xs tiles

    abbrev put : Cell → Array
    put c = held_in p (zip ws xs) c

    shared : AreShared slots
    shared = All-from_recursion (λ (x : Slot). x.owned ≡ false) slots (all-shared p (written_operands (task_of p t)) slots given.each)

    count : length slots ≡ length ws
    count = AllZip-long (IsShare p) (written_operands (task_of p t)) slots given.each ∙ sym (length-map (written_operands (task_of p t)) (worked_on p w))

    pub end-can_put : CanPutBack p w tiles n (task_of p t).accesses slots
    end-can_put = record {
      works = can-work p h.proper t program_task w staffed;
      cells = λ k d within. (let small = works-small p h.proper t program_task w staffed k d within in omega (arith, small.cell, keeps.tiles.every_cell));
      places = λ k d within. omega (arith, keeps.tiles.every_node k d within, node);
      shares = shared;
      count = count;
    }

    -- a place afterwards: what the task wrote has its result at its node, and is nowhere else
    tile-left : (c : Cell) (k : Node) → has_cell ws c ≡ false → tile_at new c k ≡ tile_at tiles c k
    tile-left c k left = ap (λ (places : Places). tile_in places k) (put-row_none n ws xs tiles c left)

    row-put : (c : Cell) → has_cell ws c ≡ true → tiles_of new c ≡ at_node n (put c) (tiles_of tiles c)
    row-put c has = put-row p n ws xs tiles c (written-once p h.proper t program_task w staffed) (sym count ∙ sym (length-map slots (λ (x : Slot). x.array))) (inside c has) has

    tile-here : (c : Cell) (k : Node) → has_cell ws c ≡ true → k ≡ n → tile_at new c k ≡ Some (put c)
    tile-here c k has at = ap (λ (places : Places). tile_in places k) (row-put c has) ∙ ap (tile_in (at_node n (put c) (tiles_of tiles c))) at ∙ get_or-set_same (tiles_of tiles c) n.0 (Some (put c)) None (place c has)

    tile-far : (c : Cell) (k : Node) → has_cell ws c ≡ true → k ≢ n → tile_at new c k ≡ None
    tile-far c k has far = ap (λ (places : Places). tile_in places k) (row-put c has) ∙ get_or-set_other (tiles_of tiles c) n.0 k.0 (Some (put c)) None (other_node n k far) ∙ keeps.tiles.out c k (being c has)

    put-dims : (c : Cell) → has_cell ws c ≡ true → (put c).dims ≡ dims_of p c
    put-dims c has = held-dims p w (worked_on-dims p h.proper w staffed) (written_operands (task_of p t)) slots c given.each has

    array-left : (c : Cell) (k : Node) → has_cell ws c ≡ false → A' c (AtNode k) ≡ run_arrays b c (AtNode k)
    array-left c k left = second_fails (same_place (AtNode k) (AtNode n)) (has_cell ws c) (result_in eq p t w (held_at (run_arrays b) (AtNode n)) c) (run_arrays b c (AtNode k)) left

    put-is : AllTell held b → (c : Cell) → has_cell ws c ≡ true → put c ≡ A' c (AtNode n)
    put-is tells c has =
        ap (λ (l : List Array). held_in p (zip ws l) c) (given.told tells)
        ∙ sym (both_pass (same_place (AtNode n) (AtNode n)) (has_cell ws c) (result_in eq p t w (held_at (run_arrays b) (AtNode n)) c) (run_arrays b c (AtNode n)) (same_place-itself (AtNode n)) has)

    tiles-agree : HasTiles p m s' A' (AllTell held b) new
    tiles-agree = record {
      every_cell = length-put_each n ws xs tiles ∙ keeps.tiles.every_cell;
      every_node = wide-put_each (length m.nodes) n ws xs tiles (All-has (λ c. c.0 < length tiles) ws inside) keeps.tiles.every_node;
      there = λ c k rests. search (arith, cases_Bool (has_cell ws c), same_node k n, tile-left c k, tile-here c k, tile-far c k, keeps.tiles.there c k, rested c, same c k, own c);
      out = λ c k now. (let both = still-being c now in tile-left c k both.0 ∙ keeps.tiles.out c k both.1);
      dims = λ c k. search (arith, cases_Bool (has_cell ws c), same_node k n, tile-left c k, tile-here c k, tile-far c k, keeps.tiles.dims c k, put-dims c);
      arrays = λ tells c k. search (arith, cases_Bool (has_cell ws c), same_node k n, tile-left c k, tile-here c k, tile-far c k, keeps.tiles.arrays tells c k, array-left c k, put-is tells c);
    }

    pub keeps-end : (spare' : ℕ) → spare' + 1 ≡ spare → Keeps size faults mismatches held (with_event b (End t w)) (has_happened rows (End t w)) new spare'
    keeps-end spare' left = keeps-blocks_stay size faults mismatches held b rows tiles spare keeps (End t w) can new spare' (λ c d. refl) blocks-stay tiles-agree left

-- ---- as the code finds it

module _ {D : Type 0} (size faults mismatches : D → ℕ) (held : D → Option (List ℕ)) (eq : Equations) (rows : Rows) (trace : Recorded) (lent : LendingState D) (opened : DiskState D) (tiles : List Places) (keeps : Keeps size faults mismatches held (standing eq rows.program rows.machine trace lent opened) rows tiles trace.spare) (t : Task) (w : Worker) (b' : StandingBy eq D) (same : standing eq rows.program rows.machine trace lent opened ≡ b') (can' : CanHappen b' (End t w)) (slots : List Slot) (given' : AreResultsFor held b' t w slots)
    (at : Node) (bound : at ≡ node_of rows.machine w) (q : Program) (program : q ≡ rows.program) (accesses : List Access) (of_task : accesses ≡ (task_of q t).accesses) where
  abbrev b : StandingBy eq D
  b = standing eq rows.program rows.machine trace lent opened

  can : CanHappen b (End t w)
  can = subst (λ (x : StandingBy eq D). CanHappen x (End t w)) (sym same) can'

  given : AreResultsFor held b t w slots
  given = subst (λ (x : StandingBy eq D). AreResultsFor held x t w slots) (sym same) given'

  pub found-can_put : CanPutBack q w tiles at accesses slots
  found-can_put =
      as_read (λ x j l. CanPutBack x w tiles j l slots) rows.program q (node_of rows.machine w) at t accesses program bound of_task
      (end-can_put size faults mismatches held b rows tiles trace.spare keeps t w can slots given)

  pub found-keeps_end : (rows' : Rows) (tiles' : List Places) (trace' : Recorded) → rows' ≡ has_happened rows (End t w) → tiles' ≡ put_each at (written_among q w accesses) (arrays slots) tiles → trace'.events ≡ trace.events ++ End t w ∷ [] → trace'.spare + 1 ≡ trace.spare → Keeps size faults mismatches held (standing eq rows'.program rows'.machine trace' lent opened) rows' tiles' trace'.spare
  found-keeps_end rows' tiles' trace' happened are told left =
      keeps-told size faults mismatches held eq rows trace lent opened (End t w) (put_each (node_of rows.machine w) (written_cells rows.program t w) (arrays slots) tiles) rows' tiles' trace' happened
      (are ∙ as_read (λ x j l. put_each j (written_among x w l) (arrays slots) tiles ≡ put_each (node_of rows.machine w) (written_cells rows.program t w) (arrays slots) tiles) rows.program q (node_of rows.machine w) at t accesses program bound of_task refl) told
      (keeps-end size faults mismatches held b rows tiles trace.spare keeps t w can slots given trace'.spare left)
