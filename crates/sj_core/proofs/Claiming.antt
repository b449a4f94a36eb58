-- What a claim changes, and that it leaves a coherent state: a victim leaves, a missing cell comes, and the rest stays as it is.
use Rattle.sj_core.proofs.Words.{[], after_claim, ap, arith, Arrays, AtNode, Bool, CanClaim, Cell, cell_state, cells_of, cells_of_program, CellState, Claimed, claimed_mark, Coherent, Coming, cond, covers, distinct, Equations, false, filter, fold, free, has_cell, has_copy, HasEntries, HasRows, HoldsContent, inl, inr, Invalid, is_being_written, is_claimed_by, is_coming_by, is_entry, is_home, is_leaving, is_leaving_by, is_pinned, is_scratch, is_task_of, is_valid, IsMachineFor, IsOwnedBy, IsSound, IsStateOf, leave, Leaving, length, List, Machine, Mark, mark, mark_in, missing, nat_eq, Node, node_of, node_size, NodesSuffice, not, on_disk, OnDisk, order, OrderIsKept, pins, PinsHold, Place, Program, progress, refl, Running, same_worker, scratch, scratch_bytes, Some, State, subst, sum_by, sym, Task, task_of, TasksHaveCells, tile_bytes, to_come, to_front, Transfer, transfer, TransfersAreSound, true, used, used_while_leaving, Valid, Waiting, with_mark, without, worked_on, Worker, worker_state, workers_at, workers_of, WorkersAreSound, WorkerState, WritersOwn, writes, WritesAreCounted, written_cells, WrittenIsKept, ℕ, ◌&&◌, ◌++◌, ◌+◌, ◌<◌, ◌||◌, ◌∙◌, ◌≡◌, ◌≢◌, ◌≤◌, ◌⊎◌}
use Rattle.std.proofs.lemmas.{Bool.and_from, Bool.and_parts, Bool.cases_Bool, Bool.cases_lt, Bool.false_from_ne_true, Bool.false≢true, Bool.leb-true, Bool.not-true, Bool.Decides.Decides-eqb, List.get_or-set_other, List.get_or-set_same, List.get_or_past, List.length-set}
use Rattle.sj_base.proofs.{Lists.list_any-filter, SameIds.workers_differ}
use Rattle.sj_core.proofs.{Advancing.Advances, Advancing.claimed-is_mine, Advancing.claimed-task_of, Advancing.claimed_by-task_of, Advancing.Claims-advances, Advancing.idle-has_none, Advancing.same_task, Advancing.task_of-worker, Bytes.beside-bytes, Bytes.bytes_where, Bytes.entry-cell, Bytes.fewer-entries, Bytes.fewer-leaving, Bytes.leaving-bytes, Bytes.once-bytes, Bytes.order-bytes, Bytes.others-le, Bytes.worker-once_at, CellLists.filter-has_cell, CellLists.has_cell-append, CellLists.has_cell-distinct, CellLists.has_cell-filter, CellLists.has_cell-fronted, CellLists.has_cell-without, CellLists.share, CellLists.times, CellLists.times-append, CellLists.times-distinct, CellLists.times-filter, CellLists.times-fronted, Changing.HasBlocks-kept, Changing.HasRows-kept, Changing.HasWorkers-kept, Changing.moves-kept, Changing.TransfersAreSound-kept, Dependencies.Proper-dependencies, Ending.content-kept, Ending.counted-same, Ending.written-undone, Eviction.evicted-chosen, Eviction.evicted_by, Eviction.shortest_suffix-passes, Eviction.shortest_suffix-suffix, Finding.HoldsContent-kept, Finding.not_written-after, Finding.not_written-before, Placing.mark_in-cases, Reading.cells-renewed_or, Reading.entry-inside, Reading.idle_row, Reading.list_any-worker, Reading.mark_in-same, Reading.no_row, Reading.same_node, Reading.settled-at, Reading.worker-other, Reading.worker-same, Replicas.coming_by-is, Replicas.entry-cases, Replicas.invalid-is, Replicas.leaving-by_some, Replicas.leaving_by-leaves, Replicas.leaving_by-no_entry, Replicas.same_worker-is, Replicas.same_worker-refl, Separation.Claims-keeps_order, Separation.separated, Sharing.manner_of, Sharing.operand_for, Sums.filter-sum-le, Sums.sum-balanced, Sums.sum-one_more, Sums.sum-within, Tables.renewed-at, Updating.operand-used}

-- ---- what a claim evicts and brings

module _ (p : Program) (m : Machine) (s : State) (t : Task) (w : Worker) (s' : State) (claim : CanClaim p m s t w) (leaves : s' ≡ after_claim p m s t w (evicted_by p m s t w)) where
  -- a victim is an entry of the node, pinned by nobody, and no cell of the task
  pub evicted-free : (c : Cell) → has_cell (evicted_by p m s t w) c ≡ true → (is_pinned m s (node_of m w) c ≡ false) × (has_cell (cells_of p t w) c ≡ false) × (has_cell (order s (node_of m w)) c ≡ true)
  evicted-free c h =
      let n = node_of m w in
      let test : Cell → Bool = λ d. not (is_pinned m s n d) && not (has_cell (cells_of p t w) d) in
      let end = shortest_suffix-suffix (covers (tile_bytes p) (free p m s n) (to_come p s t w n)) (filter test (order s n)) (evicted_by p m s t w) (evicted-chosen p m s t w claim) in
      let all : has_cell (filter test (order s n)) c ≡ true = ap (λ (xs : List Cell). has_cell xs c) (sym end.1) ∙ has_cell-append end.0 (evicted_by p m s t w) c h in
      let both = has_cell-filter test (order s n) c all in
      search (arith, both, and_parts, not-true)

  -- what the claim brings is a cell of the task without an entry on the node
  pub missing-absent : (c : Cell) → has_cell (missing p s t w (node_of m w)) c ≡ true → (has_cell (order s (node_of m w)) c ≡ false) × (has_cell (cells_of p t w) c ≡ true)
  missing-absent c h = search (arith, has_cell-filter, not-true, has_cell-distinct)

  pub absent-missing : (c : Cell) → has_cell (order s (node_of m w)) c ≡ false → has_cell (cells_of p t w) c ≡ true → has_cell (missing p s t w (node_of m w)) c ≡ true
  absent-missing c absent has = search (arith, filter-has_cell, has_cell-distinct)

  abbrev new_mark : Cell → Mark
  new_mark c = claimed_mark w (evicted_by p m s t w) (missing p s t w (node_of m w)) c (mark s c (node_of m w))

  claim-row : (c : Cell) → (cell_state s' c ≡ with_mark (cell_state s c) (node_of m w) (new_mark c)) ⊎ ((cell_state s c ≡ no_row) × (cell_state s' c ≡ no_row))
  claim-row c = search (arith, cells-renewed_or)

  claim-at : (c : Cell) (k : Node) → (mark s' c k ≡ mark s c k) ⊎ ((k ≡ node_of m w) × (mark s' c k ≡ new_mark c))
  claim-at c k = grind (arith, claim-row c, mark_in-cases (cell_state s c) (node_of m w) k (new_mark c))

  pub claim-writes : (c : Cell) → writes s' c ≡ writes s c
  claim-writes c = elim (claim-row c) [ inl row ↦ ap (λ (r : CellState). r.writes) row | inr none ↦ ap (λ (r : CellState). r.writes) (none.1 ∙ sym none.0) ]

  -- at every node but the worker's the marks stay, and so do blocks
  pub claim-elsewhere : (c : Cell) (k : Node) → k ≢ node_of m w → mark s' c k ≡ mark s c k
  claim-elsewhere c k d = elim (claim-at c k) [ inl same ↦ same | inr (at, is) ↦ absurd (d at) ]

  pub claim-on_disk : (c : Cell) → on_disk s' c ≡ on_disk s c
  claim-on_disk c = elim (claim-row c) [ inl row ↦ ap (λ (r : CellState). r.on_disk) row | inr none ↦ ap (λ (r : CellState). r.on_disk) (none.1 ∙ sym none.0) ]

  -- on the node, victims leave and missing cells come
  pub claim-here : (c : Cell) → c.0 < length s.cells → (node_of m w).0 < length (cell_state s c).marks → mark s' c (node_of m w) ≡ new_mark c
  claim-here c inside within =
      ap (λ (z : State). mark z c (node_of m w)) leaves
      ∙ ap (λ (row : CellState). mark_in row (node_of m w)) (renewed-at (λ k row. with_mark row (node_of m w) (claimed_mark w (evicted_by p m s t w) (missing p s t w (node_of m w)) (record { 0 = k }) (mark_in row (node_of m w)))) s.cells c.0 no_row inside)
      ∙ mark_in-same (cell_state s c) (node_of m w) (new_mark c) within

-- ---- the rows of the workers

pub Claims-worker : (p : Program) (m : Machine) (s : State) (t : Task) (w : Worker) (s' : State) → HasRows p m s → IsMachineFor p m → (claim : CanClaim p m s t w) → s' ≡ after_claim p m s t w (evicted_by p m s t w) →
    worker_state s' w ≡ record { pins = cells_of p t w; scratch = scratch_bytes p (task_of p t); victims = (evicted_by p m s t w); transfer = transfer s w }
Claims-worker p m s t w s' rows fit claim leaves = search (arith, worker-same)

pub Claims-other_worker : (p : Program) (m : Machine) (s : State) (t : Task) (w v : Worker) (s' : State) → CanClaim p m s t w → s' ≡ after_claim p m s t w (evicted_by p m s t w) → v ≢ w → worker_state s' v ≡ worker_state s v
Claims-other_worker p m s t w v s' claim leaves d = search (arith, worker-other)

-- ---- pins on a node

-- a worker with a pin is one of the table
pub pins-inside : (s : State) (v : Worker) (c : Cell) → has_cell (pins s v) c ≡ true → v.0 < length s.workers
pins-inside s v c h = search (arith, cases_lt, false≢true, get_or_past, idle_row)

-- what a worker of the node pins is pinned there
pub pinned-at : (m : Machine) (s : State) (v : Worker) (n : Node) (c : Cell) → v.0 < m.workers → node_of m v ≡ n → has_cell (pins s v) c ≡ true → is_pinned m s n c ≡ true
pinned-at m s v n c inside here h =
    let at_n : Worker → Bool = λ u. nat_eq (node_of m u).0 n.0 in
    let pins_it : Worker → Bool = λ u. has_cell (pins s u) c in
    list_any-filter pins_it at_n (workers_of m) ∙ list_any-worker (λ u. at_n u && pins_it u) m v inside (and_from (at_n v) (pins_it v) ((Decides-eqb (node_of m v).0 n.0).1 (ap (λ (k : Node). k.0) here)) h)

-- ---- what a mark becomes

-- of the mark at a node after a claim: it stays, or is a victim's and leaves, or a missing cell's and comes
pub data ClaimCase (m : Machine) (s s' : State) (w : Worker) (evicted brought : List Cell) (c : Cell) (k : Node) : Type 0 where
  Stays : mark s' c k ≡ mark s c k → ClaimCase m s s' w evicted brought c k
  Leaves : k ≡ node_of m w → has_cell evicted c ≡ true → mark s c k ≡ Valid → mark s' c k ≡ Leaving w → ClaimCase m s s' w evicted brought c k
  Comes : k ≡ node_of m w → has_cell brought c ≡ true → mark s c k ≡ Invalid → mark s' c k ≡ Coming w → ClaimCase m s s' w evicted brought c k

module _ (p : Program) (m : Machine) (s : State) (h : IsSound p m s) (t : Task) (w : Worker) (s' : State) (claim : CanClaim p m s t w) (leaves : s' ≡ after_claim p m s t w (evicted_by p m s t w)) where
  pub claim-advance : Advances s s' t Waiting (Claimed w)
  claim-advance = Claims-advances p m s t w s' h.coherent.state.rows claim leaves

  -- a worker with a task isn't the one that claims
  pub claimer-other : (v : Worker) (u : Task) → is_task_of v (progress s u) ≡ true → v ≢ w
  claimer-other v u has e = false≢true (sym (idle-has_none s w u claim.idle) ∙ ap (λ (x : Worker). is_task_of x (progress s u)) (sym e) ∙ has)

  own_row : worker_state s' w ≡ record { pins = cells_of p t w; scratch = scratch_bytes p (task_of p t); victims = (evicted_by p m s t w); transfer = transfer s w }
  own_row = Claims-worker p m s t w s' h.coherent.state.rows h.machine claim leaves

  other_row : (v : Worker) → v ≢ w → worker_state s' v ≡ worker_state s v
  other_row v d = Claims-other_worker p m s t w v s' claim leaves d

  pub claim-transfer : (v : Worker) → transfer s' v ≡ transfer s v
  claim-transfer v = grind (arith, workers_differ v w, own_row, other_row v)

  pub claim-own_pins : (c : Cell) → has_cell (pins s' w) c ≡ has_cell (cells_of p t w) c
  claim-own_pins c = ap (λ (row : WorkerState). has_cell row.pins c) (own_row)

  pub claim-other_pins : (v : Worker) (c : Cell) → v ≢ w → has_cell (pins s' v) c ≡ has_cell (pins s v) c
  claim-other_pins v c d = ap (λ (row : WorkerState). has_cell row.pins c) (other_row v d)

  -- the cells of the task are cells of the table
  pub task-cell : (c : Cell) → has_cell (cells_of p t w) c ≡ true → c.0 < length s.cells
  task-cell c has =
      let found = operand_for (worked_on p w) (λ a. not (is_scratch a.mode)) (task_of p t).accesses c has in
      let uses = operand-used p h.proper t claim.ready.task w claim.worker found.0 found.1 found.2 in
      let named = (Proper-dependencies p h.proper).cells t.0 (worked_on p w found.0).0 (manner_of (task_of p t).codelet found.0.mode) uses in
      omega (arith, ap (λ (d : Cell). d.0) found.3, h.coherent.state.rows.cells)

  pub node-inside : (c : Cell) → c.0 < length s.cells → (node_of m w).0 < length (cell_state s c).marks
  node-inside c inside = let row = h.coherent.state.rows.marks c.0 no_row inside in let some = h.machine.some_node in omega arith

  -- what a worker pins isn't evicted, nor is a cell of the task
  pub pin-spared : (v : Worker) (c : Cell) → has_cell (pins s v) c ≡ true → node_of m v ≡ node_of m w → has_cell (evicted_by p m s t w) c ≡ false
  pin-spared v c pin here = false_from_ne_true (has_cell (evicted_by p m s t w) c) (λ evicted.
      (let inside : v.0 < m.workers = omega (arith, pins-inside s v c pin, h.coherent.state.rows.workers) in
      false≢true (sym (evicted-free p m s t w s' claim leaves c evicted).0 ∙ pinned-at m s v (node_of m w) c inside here pin)))

  pub own-spared : (c : Cell) → has_cell (cells_of p t w) c ≡ true → has_cell (evicted_by p m s t w) c ≡ false
  own-spared c has = false_from_ne_true (has_cell (evicted_by p m s t w) c) (λ evicted. false≢true (sym (evicted-free p m s t w s' claim leaves c evicted).1 ∙ has))

  -- a victim is valid
  pub victim-valid : (c : Cell) → has_cell (evicted_by p m s t w) c ≡ true → mark s c (node_of m w) ≡ Valid
  victim-valid c evicted =
      elim (entry-cases (mark s c (node_of m w)) (sym (h.coherent.state.entries.entries (node_of m w) c) ∙ (evicted-free p m s t w s' claim leaves c evicted).2)) [
        | inr valid ↦ valid
        | inl (v, coming) ↦
            let by : is_coming_by v (mark s c (node_of m w)) ≡ true = ap (is_coming_by v) coming ∙ same_worker-refl v in
            absurd (false≢true (sym (pin-spared v c (h.coherent.pins.coming_pinned v c (node_of m w) by) (sym (h.coherent.pins.coming_here v c (node_of m w) by))) ∙ evicted))
      ]

  -- a missing cell has no copy on the node
  pub missing-invalid : (c : Cell) → has_cell (missing p s t w (node_of m w)) c ≡ true → mark s c (node_of m w) ≡ Invalid
  missing-invalid c lacks = invalid-is (mark s c (node_of m w)) (sym (h.coherent.state.entries.entries (node_of m w) c) ∙ (missing-absent p m s t w s' claim leaves c lacks).0) (settled-at s (node_of m w) c claim.settled)

  pub claim-cases : (c : Cell) (k : Node) → ClaimCase m s s' w (evicted_by p m s t w) (missing p s t w (node_of m w)) c k
  claim-cases c k = elim (claim-at p m s t w s' claim leaves c k) [
    | inl same ↦ Stays same
    | inr (at, is) ↦ elim (cases_Bool (has_cell (evicted_by p m s t w) c)) [
      | inl e ↦ let valid = victim-valid c e in Leaves at e (grind (arith, at, valid)) (grind (arith, is, e, valid))
      | inr e ↦ elim (cases_Bool (has_cell (missing p s t w (node_of m w)) c)) [
        | inl f ↦ Comes at f (ap (mark s c) at ∙ missing-invalid c f) (grind (arith, is, e, f))
        | inr f ↦ Stays (grind (arith, at, is, e, f))
      ]
    ]
  ]

  -- what is valid stays so, and nothing else is
  pub claim-valid : (c : Cell) (k : Node) → is_valid (mark s' c k) ≡ is_valid (mark s c k)
  claim-valid c k = search (arith, claim-cases)

  pub claim-copy : (c : Cell) (q : Place) → has_copy p m s' c q ≡ has_copy p m s c q
  claim-copy c (AtNode k) = claim-valid c k
  claim-copy c (OnDisk d) = ap (λ b. b && is_home p m c d) (claim-on_disk p m s t w s' claim leaves c)

  -- an entry that isn't evicted stays
  pub entry-stays : (c : Cell) (k : Node) → is_entry (mark s c k) ≡ true → (k ≡ node_of m w → has_cell (evicted_by p m s t w) c ≡ false) → mark s' c k ≡ mark s c k
  entry-stays c k entry spared = search (arith, claim-cases c k, false≢true)

  -- what leaves after a claim is a victim of it, or left before; what leaves still leaves
  pub claim-leaving : (v : Worker) (c : Cell) (k : Node) → is_leaving_by v (mark s' c k) ≡ true → ((k ≡ node_of m w) × (v ≡ w) × (has_cell (evicted_by p m s t w) c ≡ true)) ⊎ ((k ≢ node_of m w) × (is_leaving_by v (mark s c k) ≡ true))
  claim-leaving v c k leaving = search (arith, claim-cases, false≢true, settled-at, leaving_by-leaves, same_worker-is)

  pub claim-still_leaves : (v : Worker) (c : Cell) (k : Node) → is_leaving_by v (mark s c k) ≡ true → is_leaving_by v (mark s' c k) ≡ true
  claim-still_leaves v c k leaving = search (arith, claim-cases, false≢true)

  -- what comes after a claim is what it brings, or came before
  pub claim-coming : (v : Worker) (c : Cell) (k : Node) → is_coming_by v (mark s' c k) ≡ true → ((k ≡ node_of m w) × (v ≡ w) × (has_cell (cells_of p t w) c ≡ true)) ⊎ (is_coming_by v (mark s c k) ≡ true)
  claim-coming v c k coming = grind (arith, claim-cases c k, same_worker-is w v, missing-absent p m s t w s' claim leaves c)

  -- the task's own cells are entries after the claim: those that were, and those that come
  pub claim-own_cells : (c : Cell) → has_cell (cells_of p t w) c ≡ true → (is_entry (mark s' c (node_of m w)) ≡ true) × (has_cell (order s (node_of m w)) c ≡ false → is_coming_by w (mark s' c (node_of m w)) ≡ true)
  claim-own_cells c has =
      let inside = task-cell c has in
      let now = claim-here p m s t w s' claim leaves c inside (node-inside c inside) in
      let entry = h.coherent.state.entries.entries (node_of m w) c in
      (grind (arith, now, own-spared c has, entry, absent-missing p m s t w s' claim leaves c), λ absent. (grind (arith, now, own-spared c has, absent-missing p m s t w s' claim leaves c, same_worker-refl w)))

  -- ---- the state's own form

  abbrev claim_order : List Cell
  claim_order = fold to_front (without (evicted_by p m s t w) (order s (node_of m w))) (cells_of p t w)

  claim-rows : HasRows p m s'
  claim-rows = HasRows-kept p m s s' _ (ap (λ (z : State). z.cells) leaves) (λ i row. length-set row.marks (node_of m w).0 _)
      (ap (λ (z : State). length z.tasks) leaves ∙ length-set s.tasks t.0 (Claimed w)) (ap (λ (z : State). length z.orders) leaves ∙ length-set s.orders (node_of m w).0 claim_order)
      (ap (λ (z : State). length z.workers) leaves ∙ length-set s.workers w.0 _) h.coherent.state.rows

  pub claim-order_here : order s' (node_of m w) ≡ claim_order
  claim-order_here = search (arith, get_or-set_same, claim_order)

  pub claim-order_elsewhere : (k : Node) → k ≢ node_of m w → order s' k ≡ order s k
  claim-order_elsewhere k d = ap (λ (z : State). order z k) leaves ∙ get_or-set_other s.orders (node_of m w).0 k.0 claim_order [] (λ e. d (ap (λ (i : ℕ). let j : Node = record { 0 = i } in j) e))

  -- the node's order has what it had, but the victims, and the task's cells
  pub order-now : (c : Cell) → has_cell (order s' (node_of m w)) c ≡ (has_cell (cells_of p t w) c || (not (has_cell (evicted_by p m s t w) c) && has_cell (order s (node_of m w)) c))
  order-now c = ap (λ (cs : List Cell). has_cell cs c) claim-order_here ∙ has_cell-fronted (cells_of p t w) (without (evicted_by p m s t w) (order s (node_of m w))) c ∙ ap (λ b. has_cell (cells_of p t w) c || b) (has_cell-without (evicted_by p m s t w) (order s (node_of m w)) c)

  elsewhere : (c : Cell) (k : Node) → k ≢ node_of m w → mark s' c k ≡ mark s c k
  elsewhere c k d = claim-elsewhere p m s t w s' claim leaves c k d

  -- a victim leaves
  evicted-leaves : (c : Cell) → has_cell (evicted_by p m s t w) c ≡ true → mark s' c (node_of m w) ≡ Leaving w
  evicted-leaves c evicted =
      let valid = victim-valid c evicted in
      let inside = entry-inside s c (node_of m w) (ap is_entry valid) in
      claim-here p m s t w s' claim leaves c inside.0 inside.1 ∙ ap (λ x. cond x (leave w (mark s c (node_of m w))) (cond (has_cell (missing p s t w (node_of m w)) c) (Coming w) (mark s c (node_of m w)))) evicted ∙ ap (leave w) valid

  entries-here : (c : Cell) → has_cell (order s' (node_of m w)) c ≡ is_entry (mark s' c (node_of m w))
  entries-here c = grind (arith, order-now c, claim-cases c (node_of m w), claim-own_cells c, evicted-leaves c, missing-absent p m s t w s' claim leaves c, h.coherent.state.entries.entries (node_of m w) c)

  claim-entries : HasEntries s'
  claim-entries = record {
    entries = λ k c. (search (arith, same_node, entries-here, claim-order_elsewhere, elsewhere));
    once = λ k c. elim (same_node k (node_of m w)) [
      | inl e ↦
          let fewer = times-filter (λ d. not (has_cell (evicted_by p m s t w) d)) (order s (node_of m w)) c in
          grind (arith, e, claim-order_here, fewer, times-fronted (cells_of p t w) (without (evicted_by p m s t w) (order s (node_of m w))) c, h.coherent.state.entries.once (node_of m w) c)
      | inr d ↦ subst (λ (cs : List Cell). times cs c ≤ 1) (sym (claim-order_elsewhere k d)) (h.coherent.state.entries.once k c)
    ];
  }

  claim-state : IsStateOf p m s'
  claim-state = record {
    rows = claim-rows;
    entries = claim-entries;
    blocks = HasBlocks-kept p m s s' (λ c there. sym (claim-on_disk p m s t w s' claim leaves c) ∙ there) (claim-transfer) h.coherent.state.blocks;
    staff = HasWorkers-kept p s s' t Waiting (Claimed w) (claim-advance) claim.worker h.coherent.state.staff;
  }

  -- ---- what each worker has in hand

  other_than : (u : Task) (v : Worker) → is_task_of v (progress s u) ≡ true → u ≢ t
  other_than u v has e = false≢true (sym (ap (λ (k : Task). is_task_of v (progress s k)) e ∙ ap (is_task_of v) claim.waiting) ∙ has)

  -- the tasks of a worker after a claim: the claimed one, or its own from before
  now_task : (u : Task) (v : Worker) → is_task_of v (progress s' u) ≡ true → ((u ≡ t) × (v ≡ w)) ⊎ ((v ≢ w) × (is_task_of v (progress s u) ≡ true))
  now_task u v has = elim (same_task u t) [
    | inl e ↦ inl (e, sym (task_of-worker v (Claimed w) (sym (ap (λ (k : Task). is_task_of v (progress s' k)) e ∙ ap (is_task_of v) claim-advance.is) ∙ has)))
    | inr d ↦ let before = sym (ap (is_task_of v) (claim-advance.others u d)) ∙ has in inr (claimer-other v u before, before)
  ]

  still_task : (u : Task) (v : Worker) → is_task_of v (progress s u) ≡ true → progress s' u ≡ progress s u
  still_task u v has = claim-advance.others u (other_than u v has)

  still_claims : (u : Task) (v : Worker) → is_claimed_by v (progress s u) ≡ true → is_claimed_by v (progress s' u) ≡ true
  still_claims u v claims = ap (is_claimed_by v) (still_task u v (claimed_by-task_of v (progress s u) claims)) ∙ claims

  now_claims : (u : Task) (v : Worker) → progress s' u ≡ Claimed v → ((u ≡ t) × (v ≡ w)) ⊎ (progress s u ≡ Claimed v)
  now_claims u v claims = grind (arith, same_task u t, claim-advance)

  runs_before : (u : Task) (v : Worker) → progress s' u ≡ Running v → progress s u ≡ Running v
  runs_before u v runs = grind (arith, same_task u t, claim-advance)

  other_scratch : (v : Worker) → v ≢ w → scratch s' v ≡ scratch s v
  other_scratch v d = ap (λ (row : WorkerState). row.scratch) (other_row v d)

  claim-workers : WorkersAreSound p m s'
  claim-workers =
      let before = h.coherent.workers in
      record {
        evicted = λ v c k leaving. elim (claim-leaving v c k leaving) [
          | inl (at, own, victim) ↦ record { here = grind (arith, at, own); claims = (t, grind (arith, claim-advance, own, same_worker-refl w)); victim = grind (arith, own, own_row, victim) }
          | inr (away, was) ↦
              let old = before.evicted v c k was in
              let d = claimer-other v old.claims.0 (claimed_by-task_of v (progress s old.claims.0) old.claims.1) in
              record { here = old.here; claims = (old.claims.0, still_claims old.claims.0 v old.claims.1); victim = ap (λ (r : WorkerState). has_cell r.victims c) (other_row v d) ∙ old.victim }
        ];
        one_evicts = λ u v c d k hu hv. (grind (arith, claim-leaving u c k hu, claim-leaving v d k hv, before.one_evicts u v c d k));
        one_task = λ u v x hu hv. (grind (arith, now_task u x hu, now_task v x hv, before.one_task u v x));
        moves_for_claim = λ v x under_way. (let old = before.moves_for_claim v x (sym (claim-transfer v) ∙ under_way) in (old.0, still_claims old.0 v old.1));
        scratch = λ v. record {
          own = λ u has. (grind (arith, now_task u v has, own_row, other_scratch v, (before.scratch v).own u));
          none = λ idle.
              (let other : v ≢ w = λ e. (search (arith, claimed-is_mine, false≢true, idle t, claim-advance)) in
              other_scratch v other ∙ (before.scratch v).none (λ u. false_from_ne_true (is_task_of v (progress s u)) (λ has. false≢true (sym (idle u) ∙ ap (is_task_of v) (still_task u v has) ∙ has))));
        };
      }

  -- ---- cells, pins and transfers

  still_pinned : (v : Worker) (u : Task) (c : Cell) → is_task_of v (progress s u) ≡ true → has_cell (pins s' v) c ≡ has_cell (pins s v) c
  still_pinned v u c has = claim-other_pins v c (claimer-other v u has)

  -- a pinned entry stays
  pinned-entry : (v : Worker) (c : Cell) → has_cell (pins s v) c ≡ true → is_entry (mark s c (node_of m v)) ≡ true → mark s' c (node_of m v) ≡ mark s c (node_of m v)
  pinned-entry v c pin entry = entry-stays c (node_of m v) entry (pin-spared v c pin)

  claim-cells : TasksHaveCells p m s'
  claim-cells =
      let before = h.coherent.cells in
      record {
        running = λ u v c runs has. claim-valid c (node_of m v) ∙ before.running u v c (runs_before u v runs) has;
        claimed = λ u v c claims has. elim (now_claims u v claims) [
          | inl (e, own) ↦ let mine : has_cell (cells_of p t w) c ≡ true = cc in let entry = (claim-own_cells c mine).0 in cc
          | inr was ↦ let entry = before.claimed u v c was has in ap is_entry (pinned-entry v c (before.pinned u v c (claimed-task_of s u v was) has) entry) ∙ entry
        ];
        pinned = λ u v c has cell. (grind (arith, now_task u v has, claim-own_pins c, still_pinned v u c, before.pinned u v c));
      }

  claim-pins : PinsHold p m s'
  claim-pins =
      let before = h.coherent.pins in
      record {
        stays = λ v c pin. false_from_ne_true (is_leaving (mark s' c (node_of m v))) (λ leaves.
            (let by = leaving-by_some (mark s' c (node_of m v)) leaves in
            grind (arith, workers_differ v w, claim-leaving by.0 c (node_of m v) by.1, own-spared c, pin-spared v c, claim-own_pins c, claim-other_pins v c, leaving_by-leaves by.0, before.stays v c)));
        own = λ v c pin. elim (workers_differ v w) [
          | inl e ↦ record { task = t; has = grind (arith, claim-advance, e, claimed-is_mine w); cell = grind (arith, e, claim-own_pins c) }
          | inr d ↦ let old = before.own v c (sym (claim-other_pins v c d) ∙ pin) in record { task = old.task; has = ap (is_task_of v) (still_task old.task v old.has) ∙ old.has; cell = old.cell }
        ];
        coming_here = λ v c k coming. (grind (arith, claim-coming v c k coming, before.coming_here v c k));
        coming_claimed = λ v c k coming. (search (arith, claim-coming v c k coming, still_task, claimed-task_of, claim-advance));
        coming_pinned = λ v c k coming. elim (claim-coming v c k coming) [
          | inl (here, own, has) ↦ grind (arith, own, claim-own_pins c, has)
          | inr was ↦ let old = before.coming_claimed v c k was in still_pinned v old.task c (claimed-task_of s old.task v old.claimed) ∙ before.coming_pinned v c k was
        ];
      }

  claim-transfers : TransfersAreSound p m s'
  claim-transfers = TransfersAreSound-kept p m s s' was (λ v x now there. claim-copy x.cell x.from ∙ there)
      (λ v x k now here coming. ap (is_coming_by v) (entry-stays x.cell k (ap is_entry (coming_by-is v (mark s x.cell k) coming))
      (λ e. pin-spared v x.cell (h.coherent.pins.coming_pinned v x.cell k coming) (sym here ∙ e))) ∙ coming)
      (λ v x k now from. claim-still_leaves v x.cell k) (λ v x d now e none. claim-on_disk p m s t w s' claim leaves x.cell ∙ none)
      (λ v x c k now leaving. elim (claim-leaving v c k leaving) [ inl (at, own, evicted) ↦ absurd (mover_other v x now own) | inr (away, left) ↦ left ]) h.coherent.transfers
    where
      was : (v : Worker) (x : Transfer) → transfer s' v ≡ Some x → transfer s v ≡ Some x
      was v x now = sym (claim-transfer v) ∙ now

      -- a worker with a transfer isn't the one that claims
      mover_other : (v : Worker) (x : Transfer) → transfer s' v ≡ Some x → v ≢ w
      mover_other v x now = let old = h.coherent.workers.moves_for_claim v x (was v x now) in claimer-other v old.0 (claimed_by-task_of v (progress s old.0) old.1)

  claim-order : OrderIsKept p s'
  claim-order = Claims-keeps_order p m h.proper.cells (Proper-dependencies p h.proper) s h.coherent.state h.coherent.workers h.coherent.order t w s' claim.worker claim leaves

  -- ---- what running tasks write

  claim-writers : WritersOwn p m s'
  claim-writers = record { owned = λ u v c runs written. owned u v c (runs_before u v runs) written }
    where
      -- a running task's written cell is no cell of the claimed one
      not_ours : (u : Task) (v : Worker) (c : Cell) → is_task_of v (progress s u) ≡ true → has_cell (written_cells p u v) c ≡ true → has_cell (missing p s t w (node_of m w)) c ≡ true → ⊥
      not_ours u v c runs written lacks = separated p m h.proper.cells (Proper-dependencies p h.proper) s' claim-state claim-workers claim-order t u w v c (λ e. other_than u v runs (sym e)) (ap (is_task_of w) claim-advance.is ∙ claimed-is_mine w) (ap (is_task_of v) (still_task u v runs) ∙ runs) (missing-absent p m s t w s' claim leaves c lacks).1 written

      owned : (u : Task) (v : Worker) (c : Cell) → progress s u ≡ Running v → has_cell (written_cells p u v) c ≡ true → IsOwnedBy m s' c v
      owned u v c runs written =
          let old = h.coherent.writers.owned u v c runs written in
          let has : is_task_of v (progress s u) ≡ true = ap (is_task_of v) runs ∙ same_worker-refl v in
          record {
            valid = pinned-entry v c old.pinned (ap is_entry old.valid) ∙ old.valid;
            only = λ k away. (let invalid = old.only k away in search (arith, claim-cases c k, not_ours));
            unstored = claim-on_disk p m s t w s' claim leaves c ∙ old.unstored;
            pinned = still_pinned v u c has ∙ old.pinned;
            unmoved = λ x. moves-kept s s' x c (claim-transfer x) ∙ old.unmoved x;
          }

  pub claim-rested : (c : Cell) → is_being_written p s' c ≡ false → is_being_written p s c ≡ false
  claim-rested c resting = not_written-before p m s s' t Waiting (Claimed w) c h.coherent.state.rows claim-advance resting (λ v e. absurd (let f : Waiting ≡ Running v = e in cc))

  pub claim-rests : (c : Cell) → is_being_written p s c ≡ false → is_being_written p s' c ≡ false
  claim-rests c resting = not_written-after p m s s' t Waiting (Claimed w) c claim-rows claim-advance resting (λ v e. absurd (let f : Claimed w ≡ Running v = e in cc))

  claim-copies : WrittenIsKept p m s'
  claim-copies = record {
    somewhere = λ c some resting. (let q = h.coherent.copies.somewhere c (omega (arith, claim-writes p m s t w s' claim leaves c, some)) (claim-rested c resting) in (q.0, claim-copy c q.0 ∙ q.1));
  }

  claim-counts : WritesAreCounted p s'
  claim-counts = record { counted = λ c. claim-writes p m s t w s' claim leaves c ∙ h.coherent.counts.counted c ∙ sym (counted-same p s s' c (λ u. written-undone p s s' c t u Waiting (Claimed w) claim-advance refl refl)) }

  -- ---- bytes

  evicted-bytes : sum_by (tile_bytes p) (evicted_by p m s t w) ≡ bytes_where p (has_cell (evicted_by p m s t w))
  evicted-bytes =
      let unpinned : Cell → Bool = λ d. not (is_pinned m s (node_of m w) d) && not (has_cell (cells_of p t w) d) in
      let suffix = shortest_suffix-suffix (covers (tile_bytes p) (free p m s (node_of m w)) (to_come p s t w (node_of m w))) (filter unpinned (order s (node_of m w))) (evicted_by p m s t w) (evicted-chosen p m s t w claim) in
      once-bytes p (evicted_by p m s t w) (λ c has. entry-cell p m s h.coherent.state (node_of m w) c (evicted-free p m s t w s' claim leaves c has).2) (λ c.
      (let same : times (suffix.0 ++ (evicted_by p m s t w)) c ≡ times (filter unpinned (order s (node_of m w))) c = ap (λ (cs : List Cell). times cs c) suffix.1 in
      let all = times-filter unpinned (order s (node_of m w)) c in
      omega (arith, times-append suffix.0 (evicted_by p m s t w) c, h.coherent.state.entries.once (node_of m w) c)))

  missing-bytes : sum_by (tile_bytes p) (missing p s t w (node_of m w)) ≡ bytes_where p (has_cell (missing p s t w (node_of m w)))
  missing-bytes =
      once-bytes p (missing p s t w (node_of m w))
      (λ c has. omega (arith, task-cell c (missing-absent p m s t w s' claim leaves c has).1, h.coherent.state.rows.cells))
      (λ c. (let fewer = times-filter (λ d. not (has_cell (order s (node_of m w)) d)) (distinct (cells_of p t w)) c in let once = times-distinct (cells_of p t w) c in omega arith))

  balance : (c : Cell) → share (tile_bytes p) (has_cell (order s' (node_of m w))) c + share (tile_bytes p) (has_cell (evicted_by p m s t w)) c ≡ share (tile_bytes p) (has_cell (order s (node_of m w))) c + share (tile_bytes p) (has_cell (missing p s t w (node_of m w))) c
  balance c = grind (arith, order-now c, evicted-free p m s t w s' claim leaves c, missing-absent p m s t w s' claim leaves c, absent-missing p m s t w s' claim leaves c)

  order-balance : sum_by (tile_bytes p) (order s' (node_of m w)) + sum_by (tile_bytes p) (evicted_by p m s t w) ≡ sum_by (tile_bytes p) (order s (node_of m w)) + sum_by (tile_bytes p) (missing p s t w (node_of m w))
  order-balance =
      let f = tile_bytes p in
      let n = node_of m w in
      let all = sum-balanced (share f (has_cell (order s' n))) (share f (has_cell (evicted_by p m s t w))) (share f (has_cell (order s n))) (share f (has_cell (missing p s t w n))) balance (cells_of_program p) in
      let more = order-bytes p m s h.coherent.state n in
      omega (arith, order-bytes p m s' claim-state n, evicted-bytes, missing-bytes)

  claim-scratch : sum_by (scratch s') (workers_at m (node_of m w)) ≤ sum_by (scratch s) (workers_at m (node_of m w)) + scratch_bytes p (task_of p t)
  claim-scratch = sum-one_more (scratch s') (scratch s) (λ v. same_worker v w) (scratch_bytes p (task_of p t)) (λ v. (grind (arith, cases_Bool (same_worker v w), other_scratch v, own_row, same_worker-is v w, same_worker-refl w))) (workers_at m (node_of m w)) (worker-once_at m (node_of m w) w)

  claim-enough : used p m s' (node_of m w) ≤ node_size m (node_of m w)
  claim-enough = search (arith, evicted-chosen p m s t w claim, shortest_suffix-passes, leb-true, balance, order-balance, claim-scratch)

  -- what leaves the node, and its entries beside what comes, were its entries
  claim-leaving_within : (c : Cell) → share (tile_bytes p) (λ d. is_leaving_by w (mark s' d (node_of m w))) c + share (tile_bytes p) (λ d. not (is_coming_by w (mark s' d (node_of m w))) && has_cell (order s' (node_of m w)) d) c ≤ share (tile_bytes p) (has_cell (order s (node_of m w))) c
  claim-leaving_within c = grind (arith, claim-leaving w c (node_of m w), evicted-free p m s t w s' claim leaves c, order-now c, claim-own_cells c, leaving_by-no_entry w (mark s' c (node_of m w)), claim-state.entries.entries (node_of m w) c)

  claim-bytes : NodesSuffice p m s'
  claim-bytes = record {
    entries = λ k. (search (arith, same_node, claim-enough, fewer-entries, claim-state, same_entries, same_scratch));
    leaving = λ k v c leaving. elim (claim-leaving v c k leaving) [
      | inl (at, own, evicted) ↦ subst (λ (j : Node). used_while_leaving p m s' v j ≤ node_size m j) (sym at) (subst (λ (x : Worker). used_while_leaving p m s' x (node_of m w) ≤ node_size m (node_of m w)) (sym own) here)
      | inr (d, was) ↦
          let all = fewer-leaving p m s s' h.coherent.state claim-state k (same_entries k d) (same_scratch k d) v (λ x by. sym (ap (is_leaving_by v) (elsewhere x k d)) ∙ by) (λ x by. ap (is_coming_by v) (elsewhere x k d) ∙ by) in
          omega (arith, h.coherent.bytes.leaving k v c was)
    ];
  }
    where
      same_entries : (k : Node) → k ≢ node_of m w → (x : Cell) → has_cell (order s' k) x ≡ true → has_cell (order s k) x ≡ true
      same_entries k d x has = ap (λ (cs : List Cell). has_cell cs x) (sym (claim-order_elsewhere k d)) ∙ has

      same_scratch : (k : Node) → k ≢ node_of m w → (v : Worker) → node_of m v ≡ k → scratch s' v ≤ scratch s v
      same_scratch k d v here = let e = other_scratch v (λ own. d (sym here ∙ ap (node_of m) own)) in omega arith

      here : used_while_leaving p m s' w (node_of m w) ≤ node_size m (node_of m w)
      here =
          let f = tile_bytes p in
          let n = node_of m w in
          let all = sum-within (share f (λ d. is_leaving_by w (mark s' d n))) (share f (λ d. not (is_coming_by w (mark s' d n)) && has_cell (order s' n) d)) (share f (has_cell (order s n))) claim-leaving_within (cells_of_program p) in
          let more = others-le m n w (scratch s') (scratch s) (λ v here d. (let same = other_scratch v d in omega arith)) in
          let one = filter-sum-le (scratch s) (λ v. not (nat_eq v.0 w.0)) (workers_at m n) in
          let both = leaving-bytes p m s' claim-state n w in
          let rest = order-bytes p m s h.coherent.state n in
          omega (arith, beside-bytes p m s' claim-state n w, h.coherent.bytes.entries n)

  pub Claims-coherent : Coherent p m s'
  Claims-coherent = record { state = claim-state; writers = claim-writers; copies = claim-copies; cells = claim-cells; pins = claim-pins; transfers = claim-transfers; bytes = claim-bytes; workers = claim-workers; order = claim-order; counts = claim-counts }

  -- no array changes
  pub Claims-content : (eq : Equations) (A A' : Arrays) → ((c : Cell) (q : Place) → A' c q ≡ A c q) → HoldsContent eq p m s A → HoldsContent eq p m s' A'
  Claims-content eq A A' same = HoldsContent-kept eq p m s s' A A' same runs_before (content-kept eq p s s' t Waiting (Claimed w) claim-advance refl refl) (claim-writes p m s t w s' claim leaves) claim-rested (λ c q valid. sym (claim-copy c q) ∙ valid)
