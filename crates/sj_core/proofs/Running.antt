-- The beginning of a kernel's run leaves a coherent state.
use Rattle.sj_core.proofs.Words.{after_run, ap, arith, Array, Arrays, arrays_after, AtNode, Bool, CanRun, Cell, cell_state, cells_of, CellState, Claimed, Coherent, cond, content, dims_of, Equations, false, fresh_cells, has_cell, HasEntries, HasRows, HoldsContent, if◌then◌else◌, inl, inr, Invalid, is_begun, is_being_written, is_coming_by, is_entry, is_leaving_by, is_moving, is_task_of, is_valid, IsSound, IsStateOf, length, List, Machine, map, Mark, mark, mark_in, nat_eq, Node, node_of, not, on_disk, order, owned_at, Place, Program, Progress, progress, refl, Run, Running, same_place, Some, State, subst, sym, Task, Transfer, transfer, true, Valid, without, Worker, worker_of, worker_state, WorkerState, WritersOwn, writes, written_cells, written_content, WrittenIsKept, zeros, ℕ, ◌<◌, ◌||◌, ◌∙◌, ◌≡◌, ◌≢◌, ◌≤◌, ◌⊎◌}
use Rattle.std.proofs.lemmas.{Bool.cases_Bool, Bool.cond_both, Bool.false_from_ne_true, Bool.false≢true, Bool.not-true, Bool.true_from_ne_false, Bool.Decides.Decides-eqb, List.get_or-set_same, List.length-map, List.length-set}
use Rattle.sj_base.proofs.SameIds.{same_place-itself}
use Rattle.sj_core.proofs.{Advancing.Advances, Advancing.claimed-is_mine, Advancing.claimed-task_of, Advancing.OrderIsKept-advances, Advancing.Runs-advances, Advancing.same_task, CellLists.has_cell-without, CellLists.times, CellLists.times-filter, Changing.Changes, Changing.Changes-coherent, Changing.Changes-writers, Changing.copies-left, Changing.HasBlocks-kept, Changing.HasRows-kept, Changing.HasWorkers-kept, Changing.IsLeftAlone, Changing.left_alone, Changing.moves-kept, Changing.TransfersAreSound-spared, Claimed.claimed-not_written, Claimed.claimed-old_value, Dependencies.Proper-dependencies, Ending.content-kept, Ending.counted-same, Ending.written-undone, Finding.being_written-here, Finding.both_pass, Finding.not_written-after, Finding.not_written-before, Finding.running-inside, Finding.second_fails, Placing.mark_in-cases, Placing.room-leaves_none, Reading.all_invalid, Reading.cells-renewed_or, Reading.cells-touched, Reading.cells-untouched, Reading.entry-inside, Reading.list_all-has, Reading.moves-it, Reading.same_node, Reading.unmoved-by, Reading.unmoved-from, Replicas.coming_by-is, Replicas.same_worker-is, Replicas.same_worker-refl, Separation.separated, Tables.length-renewed, Tables.renewed-at_or, TaskCells.fresh-among_written, TaskCells.written-among_cells}

module _ (p : Program) (m : Machine) (s : State) (t : Task) (w : Worker) (s' : State) (run : CanRun p m s t w) (leaves : s' ≡ after_run p m s t w) where
  abbrev owns : Cell → CellState → CellState
  owns c row = owned_at (node_of m w) row

  run-row : (c : Cell) → has_cell (written_cells p t w) c ≡ false → cell_state s' c ≡ cell_state s c
  run-row c spared = ap (λ (z : State). cell_state z c) leaves ∙ cells-untouched s (has_cell (written_cells p t w)) owns c spared

  -- what the task doesn't write stays as it is
  pub run-other : (c : Cell) → has_cell (written_cells p t w) c ≡ false → IsLeftAlone s s' c
  run-other c spared = left_alone s s' c (run-row c spared)

  -- what it writes is valid on its worker's node
  pub run-own : (c : Cell) → has_cell (written_cells p t w) c ≡ true → c.0 < length s.cells → (node_of m w).0 < length (cell_state s c).marks → mark s' c (node_of m w) ≡ Valid
  run-own c written inside within =
      let nowhere : List Mark = map (λ r. Invalid) (cell_state s c).marks in
      grind (arith, leaves, cells-touched s (has_cell (written_cells p t w)) owns c inside written, get_or-set_same nowhere (node_of m w).0 Valid Invalid, length-map (cell_state s c).marks (λ (r : Mark). Invalid), within)

  -- and nowhere else
  run-written : (c : Cell) (k : Node) → has_cell (written_cells p t w) c ≡ true → (mark s' c k ≡ Invalid) ⊎ ((k ≡ node_of m w) × (mark s' c k ≡ Valid))
  run-written c k written =
      let bare : CellState = record { marks = map (λ r. Invalid) (cell_state s c).marks; on_disk = false; writes = writes s c } in
      elim (cells-renewed_or s (λ d row. if has_cell (written_cells p t w) d then owns d row else row) c) [
        | inr none ↦ inl (ap (λ (z : State). mark z c k) leaves ∙ ap (λ (row : CellState). mark_in row k) none.1)
        | inl row ↦ grind (arith, leaves, row, written, mark_in-cases bare (node_of m w) k Valid, all_invalid (cell_state s c).marks k.0)
      ]

  pub run-only : (c : Cell) (k : Node) → has_cell (written_cells p t w) c ≡ true → k ≢ node_of m w → mark s' c k ≡ Invalid
  run-only c k written away = elim (run-written c k written) [ inl none ↦ none | inr (at, is) ↦ absurd (away at) ]

  pub run-unstored : (c : Cell) → has_cell (written_cells p t w) c ≡ true → on_disk s' c ≡ false
  run-unstored c written = search (arith, cells-renewed_or)

  -- a test that an invalid and a valid mark fail is passed by none that didn't before, and by none of a written cell
  run-fewer : (test : Mark → Bool) → test Invalid ≡ false → test Valid ≡ false → (c : Cell) (k : Node) → test (mark s' c k) ≡ true → (has_cell (written_cells p t w) c ≡ false) × (test (mark s c k) ≡ true)
  run-fewer test none valid c k passes = search (arith, run-other, run-written, false≢true)

  pub run-leaving : (v : Worker) (c : Cell) (k : Node) → is_leaving_by v (mark s' c k) ≡ true → is_leaving_by v (mark s c k) ≡ true
  run-leaving v c k leaving = (run-fewer (is_leaving_by v) refl refl c k leaving).1

  pub run-writes : (c : Cell) → writes s' c ≡ writes s c
  run-writes c = search (arith, cells-renewed_or, cond_both)

  pub run-worker : (v : Worker) → worker_state s' v ≡ worker_state s v
  run-worker v = ap (λ (z : State). worker_state z v) leaves

  run-transfer : (v : Worker) → transfer s' v ≡ transfer s v
  run-transfer v = ap (λ (row : WorkerState). row.transfer) (run-worker v)

  -- ---- orders

  order-after : (k : Node) → order s' k ≡ (if nat_eq k.0 (node_of m w).0 then order s k else without (written_cells p t w) (order s k))
  order-after k = search (arith, renewed-at_or)

  pub run-order_here : order s' (node_of m w) ≡ order s (node_of m w)
  run-order_here = order-after (node_of m w) ∙ ap (λ b. if b then order s (node_of m w) else without (written_cells p t w) (order s (node_of m w))) ((Decides-eqb (node_of m w).0 (node_of m w).0).1 refl)

  pub run-order_elsewhere : (k : Node) → k ≢ node_of m w → order s' k ≡ without (written_cells p t w) (order s k)
  run-order_elsewhere k d = order-after k ∙ ap (λ b. if b then order s k else without (written_cells p t w) (order s k)) (false_from_ne_true (nat_eq k.0 (node_of m w).0) (λ e. d (ap (λ (i : ℕ). let j : Node = record { 0 = i } in j) ((Decides-eqb k.0 (node_of m w).0).0 e))))

module _ (p : Program) (m : Machine) (s : State) (h : IsSound p m s) (t : Task) (w : Worker) (s' : State) (run : CanRun p m s t w) (leaves : s' ≡ after_run p m s t w) where
  advance : Advances s s' t (Claimed w) (Running w)
  advance = Runs-advances p m s t w s' run leaves

  mine : is_task_of w (progress s t) ≡ true
  mine = claimed-task_of s t w run.claimed

  -- a written cell is an entry of the node
  entry : (c : Cell) → has_cell (written_cells p t w) c ≡ true → is_entry (mark s c (node_of m w)) ≡ true
  entry c written = h.coherent.cells.claimed t w c run.claimed (written-among_cells p t w c written)

  own : (c : Cell) → has_cell (written_cells p t w) c ≡ true → mark s' c (node_of m w) ≡ Valid
  own c written = let inside = entry-inside s c (node_of m w) (entry c written) in run-own p m s t w s' run leaves c written inside.0 inside.1

  -- another task's cells aren't written
  pub run-spares : (u : Task) (v : Worker) (c : Cell) → u ≢ t → is_task_of v (progress s u) ≡ true → has_cell (cells_of p u v) c ≡ true → has_cell (written_cells p t w) c ≡ false
  run-spares u v c d has cell = false_from_ne_true (has_cell (written_cells p t w) c) (separated p m h.proper.cells (Proper-dependencies p h.proper) s h.coherent.state h.coherent.workers h.coherent.order u t v w c d has mine cell)

  -- a cell of the task whose old value it reads is valid on the node
  present : (c : Cell) → has_cell (cells_of p t w) c ≡ true → has_cell (fresh_cells p t w) c ≡ false → is_valid (mark s c (node_of m w)) ≡ true
  present c has not_fresh = sym (ap (λ b. b || is_valid (mark s c (node_of m w))) not_fresh) ∙ list_all-has (λ d. has_cell (fresh_cells p t w) d || is_valid (mark s d (node_of m w))) (cells_of p t w) c run.present has

  spared-present : (c : Cell) → has_cell (cells_of p t w) c ≡ true → has_cell (written_cells p t w) c ≡ false → is_valid (mark s c (node_of m w)) ≡ true
  spared-present c has spared = present c has (false_from_ne_true (has_cell (fresh_cells p t w) c) (λ fresh. false≢true (sym spared ∙ fresh-among_written p t w c fresh)))

  -- none of the worker's victims leaves any more, and what comes by its claim is written without being read
  none_leaves : (c : Cell) (k : Node) → is_leaving_by w (mark s c k) ≡ false
  none_leaves = room-leaves_none p m s h w run.room

  coming-is_fresh : (c : Cell) (k : Node) → is_coming_by w (mark s c k) ≡ true → has_cell (written_cells p t w) c ≡ true
  coming-is_fresh c k coming =
      let own = h.coherent.pins.coming_claimed w c k coming in
      let one = h.coherent.workers.one_task own.task t w (claimed-task_of s own.task w own.claimed) mine in
      true_from_ne_false (has_cell (written_cells p t w) c) (λ spared. (grind (arith, own.cell, one, h.coherent.pins.coming_here w c k coming, spared-present c, spared, coming_by-is w (mark s c k) coming)))

  -- a cell that moves isn't written, and so the worker itself moves none
  pub run-unmoved : (v : Worker) (x : Transfer) → transfer s v ≡ Some x → has_cell (written_cells p t w) x.cell ≡ false
  run-unmoved v x under_way = false_from_ne_true (has_cell (written_cells p t w) x.cell) (λ written.
      (let still = list_all-has (λ c. not (is_moving s c)) (written_cells p t w) x.cell run.unmoved written in
      false≢true (sym (unmoved-by s x.cell v (not-true (is_moving s x.cell) still)) ∙ moves-it s v x under_way)))

  moves_none : (x : Transfer) → transfer s w ≡ Some x → ⊥
  moves_none x under_way = search (arith, false≢true, run-unmoved, coming-is_fresh, none_leaves)

  -- ---- the state's own form

  run-rows : HasRows p m s'
  run-rows = HasRows-kept p m s s' _ (ap (λ (z : State). z.cells) leaves)
      (λ i row. cond_both (has_cell (written_cells p t w) (record { 0 = i })) _ row (λ (r : CellState). length r.marks ≡ length row.marks) (λ b. length-set (map (λ r. Invalid) row.marks) (node_of m w).0 _ ∙ length-map row.marks (λ (r : Mark). Invalid)) (λ b. refl))
      (ap (λ (z : State). length z.tasks) leaves ∙ length-set s.tasks t.0 (Running w))
      (ap (λ (z : State). length z.orders) leaves ∙ length-renewed (λ i cs. if nat_eq i (node_of m w).0 then cs else without (written_cells p t w) cs) s.orders) (ap (λ (z : State). length z.workers) leaves) h.coherent.state.rows

  run-entries : HasEntries s'
  run-entries = record {
    entries = λ k c. elim (same_node k (node_of m w)) [
      | inl e ↦ grind (arith, e, run-order_here p m s t w s' run leaves, cases_Bool (has_cell (written_cells p t w) c), run-other p m s t w s' run leaves c, own c, entry c, h.coherent.state.entries.entries k c)
      | inr d ↦ grind (arith, run-order_elsewhere p m s t w s' run leaves k d, has_cell-without (written_cells p t w) (order s k) c, run-other p m s t w s' run leaves c, run-only p m s t w s' run leaves c k, d, h.coherent.state.entries.entries k c)
    ];
    once = λ k c. elim (same_node k (node_of m w)) [
      | inl e ↦ subst (λ (j : Node). times (order s' j) c ≤ 1) (sym e) (subst (λ (cs : List Cell). times cs c ≤ 1) (sym (run-order_here p m s t w s' run leaves)) (h.coherent.state.entries.once (node_of m w) c))
      | inr d ↦
          let fewer = times-filter (λ x. not (has_cell (written_cells p t w) x)) (order s k) c in
          grind (arith, run-order_elsewhere p m s t w s' run leaves k d, fewer, h.coherent.state.entries.once k c)
    ];
  }

  run-state : IsStateOf p m s'
  run-state = record {
    rows = run-rows;
    entries = run-entries;
    blocks = HasBlocks-kept p m s s' (λ c there. elim (cases_Bool (has_cell (written_cells p t w) c)) [ inl written ↦ absurd (false≢true (sym (run-unstored p m s t w s' run leaves c written) ∙ there)) | inr spared ↦ sym (run-other p m s t w s' run leaves c spared).disk ∙ there ]) (run-transfer p m s t w s' run leaves) h.coherent.state.blocks;
    staff = HasWorkers-kept p s s' t (Claimed w) (Running w) advance (subst (λ (x : Progress). (worker_of x).0 < p.workers) run.claimed (h.coherent.state.staff.staffed t (ap is_begun run.claimed))) h.coherent.state.staff;
  }

  -- ---- the change

  fewer_entries : (c : Cell) (k : Node) → is_entry (mark s' c k) ≡ true → is_entry (mark s c k) ≡ true
  fewer_entries c k now = grind (arith, cases_Bool (has_cell (written_cells p t w) c), run-other p m s t w s' run leaves c, run-written p m s t w s' run leaves c k, entry c)

  -- what comes by the claim of a worker whose victims leave still comes
  still_comes : (v : Worker) (c d : Cell) (k : Node) → is_leaving_by v (mark s' d k) ≡ true → is_coming_by v (mark s c k) ≡ true → is_coming_by v (mark s' c k) ≡ true
  still_comes v c d k leaving coming =
      let claimed = h.coherent.pins.coming_claimed v c k coming in
      let other : claimed.task ≢ t = λ e. (let same : Claimed v ≡ Claimed w = sym claimed.claimed ∙ ap (λ (u : Task). progress s u) e ∙ run.claimed in let is : v ≡ w = cc in grind (arith, is, none_leaves d k, run-leaving p m s t w s' run leaves v d k leaving)) in
      ap (is_coming_by v) ((run-other p m s t w s' run leaves c (run-spares claimed.task v c other (claimed-task_of s claimed.task v claimed.claimed) claimed.cell)).marks k) ∙ coming

  pub run-change : Changes p m s s' t (Claimed w) (Running w) w
  run-change = record {
    advance = advance;
    mine = claimed-is_mine w;
    still_mine = λ v has. sym (same_worker-is w v has);
    state = run-state;
    rows = λ v. inl (ap (λ (row : WorkerState). row.pins) (run-worker p m s t w s' run leaves v), ap (λ (row : WorkerState). row.scratch) (run-worker p m s t w s' run leaves v), λ e. same_worker-refl w);
    victims = λ v. ap (λ (row : WorkerState). row.victims) (run-worker p m s t w s' run leaves v);
    entries = fewer_entries;
    leaves = run-leaving p m s t w s' run leaves;
    comes = λ v c k coming. (run-fewer p m s t w s' run leaves (is_coming_by v) refl refl c k coming).1;
    still_comes = still_comes;
    moves_on = λ v x under_way. h.coherent.workers.moves_for_claim v x (sym (run-transfer p m s t w s' run leaves v) ∙ under_way);
    claims_on = λ claimed. inl (
      λ c k. false_from_ne_true (is_leaving_by w (mark s' c k)) (λ leaving. false≢true (sym (none_leaves c k) ∙ run-leaving p m s t w s' run leaves w c k leaving)),
      λ c k. false_from_ne_true (is_coming_by w (mark s' c k)) (λ coming. (let was = run-fewer p m s t w s' run leaves (is_coming_by w) refl refl c k coming in false≢true (sym was.0 ∙ coming-is_fresh c k was.1))),
      λ x under_way. moves_none x (sym (run-transfer p m s t w s' run leaves w) ∙ under_way),
    );
    stays = λ u v c d has cell. (let same = (run-other p m s t w s' run leaves c (run-spares u v c d has cell)).marks (node_of m v) in (λ was. ap is_entry same ∙ was, λ was. ap is_valid same ∙ was));
    claimed = λ c e has. absurd (let f : Running w ≡ Claimed w = e in cc);
    running = λ c e has. elim (cases_Bool (has_cell (written_cells p t w) c)) [ inl written ↦ ap is_valid (own c written) | inr spared ↦ ap is_valid ((run-other p m s t w s' run leaves c spared).marks (node_of m w)) ∙ spared-present c has spared ];
    transfers = TransfersAreSound-spared p m s s' (has_cell (written_cells p t w)) (run-other p m s t w s' run leaves) (run-leaving p m s t w s' run leaves) (run-transfer p m s t w s' run leaves) run-unmoved h.coherent.transfers;
    order = OrderIsKept-advances p s s' t (Claimed w) (Running w) advance refl refl (claimed-is_mine w) refl h.coherent.order;
    counts = record { counted = λ c. run-writes p m s t w s' run leaves c ∙ h.coherent.counts.counted c ∙ sym (counted-same p s s' c (λ u. written-undone p s s' c t u (Claimed w) (Running w) advance refl refl)) };
  }

  -- ---- what running tasks write

  run-writers : WritersOwn p m s'
  run-writers = Changes-writers p m s h s' t (Claimed w) (Running w) w run-change
      (λ u v c d runs written.
      (let spared = run-spares u v c d (ap (is_task_of v) runs ∙ same_worker-refl v) (written-among_cells p u v c written) in
      (run-other p m s t w s' run leaves c spared, λ x. moves-kept s s' x c (run-transfer p m s t w s' run leaves x) ∙ (h.coherent.writers.owned u v c runs written).unmoved x)))
      (λ c e written. record {
        valid = own c written;
        only = λ k away. run-only p m s t w s' run leaves c k written away;
        unstored = run-unstored p m s t w s' run leaves c written;
        pinned = ap (λ (row : WorkerState). has_cell row.pins c) (run-worker p m s t w s' run leaves w) ∙ h.coherent.cells.pinned t w c mine (written-among_cells p t w c written);
        unmoved = λ v. moves-kept s s' v c (run-transfer p m s t w s' run leaves v) ∙ unmoved-from s v c (λ x under_way e. false≢true (sym (run-unmoved v x under_way) ∙ ap (has_cell (written_cells p t w)) e ∙ written));
      })

  pub run-rested : (c : Cell) → is_being_written p s' c ≡ false → is_being_written p s c ≡ false
  run-rested c resting = not_written-before p m s s' t (Claimed w) (Running w) c h.coherent.state.rows advance resting (λ v e. absurd (let f : Claimed w ≡ Running v = e in cc))

  -- a cell that isn't being written after the run isn't the task's; and one that the task doesn't write rests as before
  pub run-spared : (c : Cell) → is_being_written p s' c ≡ false → has_cell (written_cells p t w) c ≡ false
  run-spared c resting = false_from_ne_true (has_cell (written_cells p t w) c) (λ written. false≢true (sym resting ∙ being_written-here p s' c t w (running-inside p m s' t w run-rows advance.is) advance.is written))

  pub run-rests : (c : Cell) → has_cell (written_cells p t w) c ≡ false → is_being_written p s c ≡ false → is_being_written p s' c ≡ false
  run-rests c spared resting = not_written-after p m s s' t (Claimed w) (Running w) c run-rows advance resting (λ v e. (let is : w ≡ v = cc in ap (λ (x : Worker). has_cell (written_cells p t x) c) (sym is) ∙ spared))

  run-copies : WrittenIsKept p m s'
  run-copies = record {
    somewhere = λ c some resting.
        (let q = h.coherent.copies.somewhere c (omega (arith, run-writes p m s t w s' run leaves c, some)) (run-rested c resting) in
        (q.0, copies-left p m s s' c (run-other p m s t w s' run leaves c (run-spared c resting)) q.0 ∙ q.1));
  }

  pub Runs-coherent : Coherent p m s'
  Runs-coherent = Changes-coherent p m s h s' t (Claimed w) (Running w) w run-change run-writers run-copies

  -- ---- contents

  run-content : (eq : Equations) (c : Cell) → content eq p s' c ≡ content eq p s c
  run-content eq = content-kept eq p s s' t (Claimed w) (Running w) advance refl refl

  -- what the task doesn't write isn't fresh
  pub run-stale : (c : Cell) → has_cell (written_cells p t w) c ≡ false → has_cell (fresh_cells p t w) c ≡ false
  run-stale c spared = false_from_ne_true (has_cell (fresh_cells p t w) c) (λ fresh. false≢true (sym spared ∙ fresh-among_written p t w c fresh))

  module _ (eq : Equations) (A : Arrays) (holds : HoldsContent eq p m s A) where
    abbrev begun : Arrays
    begun = arrays_after eq p m A (Run t w)

    same_array : (c : Cell) (q : Place) → has_cell (fresh_cells p t w) c ≡ false → begun c q ≡ A c q
    same_array c q stale = second_fails (same_place q (AtNode (node_of m w))) (has_cell (fresh_cells p t w) c) (zeros (dims_of p c)) (A c q) stale

    -- a written cell begins with zeros, or with what it ought to hold
    own_array : (c : Cell) → has_cell (written_cells p t w) c ≡ true → begun c (AtNode (node_of m w)) ≡ written_content eq p s' t w c
    own_array c written = by_fresh (has_cell (fresh_cells p t w) c) refl
      where
        has : has_cell (cells_of p t w) c ≡ true
        has = written-among_cells p t w c written

        by_fresh : (b : Bool) → has_cell (fresh_cells p t w) c ≡ b → begun c (AtNode (node_of m w)) ≡ written_content eq p s' t w c
        by_fresh true fresh =
            both_pass (same_place (AtNode (node_of m w)) (AtNode (node_of m w))) (has_cell (fresh_cells p t w) c) (zeros (dims_of p c)) (A c (AtNode (node_of m w))) (same_place-itself (AtNode (node_of m w))) fresh
            ∙ sym (ap (λ b. cond b (zeros (dims_of p c)) (content eq p s' c)) fresh)
        by_fresh false stale =
            same_array c (AtNode (node_of m w)) stale
            ∙ holds.alike c (AtNode (node_of m w)) (claimed-old_value p m s h t w run.claimed c has stale) (claimed-not_written p m s h t w run.claimed c has) (present c has stale)
            ∙ sym (run-content eq c)
            ∙ sym (ap (λ b. cond b (zeros (dims_of p c)) (content eq p s' c)) stale)

    pub Runs-content : HoldsContent eq p m s' begun
    Runs-content = record {
      begun = λ u v c runs written. elim (same_task u t) [
        | inl e ↦
            let now : Running w ≡ Running v = sym (ap (λ (k : Task). progress s' k) e ∙ advance.is) ∙ runs in
            let is : w ≡ v = cc in
            subst (λ (k : Task). begun c (AtNode (node_of m v)) ≡ written_content eq p s' k v c) (sym e) (subst (λ (x : Worker). begun c (AtNode (node_of m x)) ≡ written_content eq p s' t x c) is
            (own_array c (ap (λ (x : Worker). has_cell (written_cells p t x) c) is ∙ ap (λ (k : Task). has_cell (written_cells p k v) c) (sym e) ∙ written)))
        | inr d ↦
            let was : progress s u ≡ Running v = sym (advance.others u d) ∙ runs in
            let spared = run-spares u v c d (ap (is_task_of v) was ∙ same_worker-refl v) (written-among_cells p u v c written) in
            same_array c (AtNode (node_of m v)) (run-stale c spared) ∙ holds.begun u v c was written ∙ ap (λ (a : Array). cond (has_cell (fresh_cells p u v) c) (zeros (dims_of p c)) a) (sym (run-content eq c))
      ];
      alike = λ c q some resting valid.
          (let spared = run-spared c resting in
          same_array c q (run-stale c spared)
          ∙ holds.alike c q (omega (arith, run-writes p m s t w s' run leaves c, some)) (run-rested c resting) (sym (copies-left p m s s' c (run-other p m s t w s' run leaves c spared) q) ∙ valid)
          ∙ sym (run-content eq c));
    }
