-- What a claim leaves of the nodes' stores.
use Rattle.sj_machine.proofs.Words.{[], admitting, after_claim, AllByRecursion, ap, AreDistinctCells, arith, Bool, CanClaim, CanHold, CanTakeAll, Cell, cells_of, cells_of_program, ClaimPlan, Coherent, cond, distinct, false, fold, free_bytes, has_cell, has_entry, holding, inl, inr, IsSound, IsTrue, length, List, Machine, map, missing, Node, node_entry_of, node_of, NodeEntry, not, order, pins, pins_of, pins_on, plan_with, Program, put_cells, refl, same_cell, scratch, scratch_bytes, State, Store, store_of, subst, sum, sum_by, sym, taken, taking, Task, task_of, tile_bytes, total, true, with_entries, without, without_all, Worker, worker_state, workers_at, WorkerState, ℕ, ◌+◌, ◌<◌, ◌||◌, ◌∙◌, ◌∷◌, ◌≡◌, ◌≢◌, ◌≤◌}
use Rattle.std.proofs.lemmas.{Bool.and_from, Bool.cases_Bool, Bool.false_from_ne_true, Bool.false≢true, Bool.or_cases, Bool.or_left, Bool.or_parts, Bool.or_right, Bool.Decides.Decides-eqb, List.length-map, List.FromFn.length-map-range_with_len, List.Sums.sum-map, List.Sums.sum_by-cons, List.Sums.sum_by-le-sum_by}
use Rattle.sj_core.proofs.{Advancing.idle-has_none, Bytes.entry-cell, Bytes.once-bytes, CellLists.has_cell-fronted, CellLists.has_cell-without, CellLists.same_cell-sym, CellLists.share, CellLists.sum-once, CellLists.times, CellLists.times-cons, CellLists.times-distinct, CellLists.times-filter, CellLists.times-has, CellLists.times-none, CellLists.times-program, Claiming.absent-missing, Claiming.Claims-other_worker, Claiming.Claims-worker, Claiming.evicted-free, Claiming.missing-absent, Claiming.own-spared, Claiming.pinned-at, Claiming.pins-inside, Claiming.task-cell, ClaimKeeps.claim-order_elsewhere, ClaimKeeps.claim-order_here, ClaimKeeps.Claims-coherent, Eviction.evicted_by, Sums.sum-agree, Sums.sum-nothing, Sums.tally}
use Rattle.sj_machine.proofs.{ClaimEntries.can_take-all, ClaimEntries.entries, ClaimEntries.entries-has, ClaimEntries.entries-pins, ClaimEntries.entries-put, ClaimEntries.entries-total, ClaimEntries.entries-without, ClaimEntries.fronted-put_first, ClaimEntries.has_cell-put_first, ClaimEntries.more, ClaimEntries.put_first, ClaimEntries.taken-all, ClaimEntries.times-put_first, Happening.All-has, Happening.pinned-entry, Happening.store-same, Happening.store_by, NodeSums.sum-at, NodeSums.sum-grown}
use Rattle.std.specs.List.{IsDistinct}
use Rattle.sj_base.proofs.{Bools.tally-le}

-- ---- lists

distinct-from_times : (xs : List Cell) → ((c : Cell) → times xs c ≤ 1) → AreDistinctCells xs
unfolding IsDistinct
distinct-from_times [] once = tt
distinct-from_times (x ∷ xs) once = (
  apart xs (false_from_ne_true (has_cell xs x) (λ h. (let o = once x in let t = times-cons x xs x in let one : tally (same_cell x x) ≡ 1 = ap tally ((Decides-eqb x.0 x.0).1 refl) in let more = times-has xs x h in omega arith))),
  distinct-from_times xs (λ c. (let o = once c in let t = times-cons x xs c in omega arith)),
)
  where
    apart : (ys : List Cell) → has_cell ys x ≡ false → AllByRecursion (λ y. same_cell x y ≡ false) ys
    apart [] h = tt
    apart (y ∷ ys) h = search (arith, cases_Bool, or_parts, same_cell-sym, apart ys)

sum-put_first : (f : Cell → ℕ) (new cs : List Cell) → sum_by f (put_first new cs) ≡ sum_by f new + sum_by f cs
sum-put_first f [] cs = omega arith
sum-put_first f (x ∷ new) cs = let rest = sum-put_first f new (x ∷ cs) in let a = sum_by-cons f x cs in let b = sum_by-cons f x new in omega arith

length-put_first : (new cs : List Cell) → length (put_first new cs) ≡ length new + length cs
length-put_first [] cs = omega arith
length-put_first (x ∷ new) cs = let rest = length-put_first new (x ∷ cs) in omega arith

sum-ones : (xs : List Cell) → sum_by (λ c. 1) xs ≡ length xs
sum-ones [] = refl
sum-ones (x ∷ xs) = let a = sum_by-cons (λ (c : Cell). 1) x xs in let rest = sum-ones xs in omega arith

-- a list that has cells of the program, each at most once, is no longer than the program's
pub length-once : (p : Program) (xs : List Cell) → ((c : Cell) → has_cell xs c ≡ true → c.0 < length p.cells) → ((c : Cell) → times xs c ≤ 1) → length xs ≤ length p.cells
length-once p xs inside once =
    let number : ℕ → Cell = λ n. record { 0 = n } in
    let a = sum-ones xs in
    let b = sum-once (λ c. 1) (cells_of_program p) xs (λ c has. times-program p c (inside c has)) once in
    let c = sum_by-le-sum_by (share (λ c. 1) (has_cell xs)) (λ c. 1) (cells_of_program p) (λ c. tally-le (has_cell xs c)) in
    omega (arith, sum-ones (cells_of_program p), length-map-range_with_len number 0 (length p.cells))

implied_or : (a b : Bool) → (a ≡ true → b ≡ true) → (a || b) ≡ b
implied_or a b f = search (arith, cases_Bool)

-- ---- a claim

module _ (p : Program) (m : Machine) (s : State) (h : IsSound p m s) (t : Task) (w : Worker) (s' : State) (claim : CanClaim p m s t w) (leaves : s' ≡ after_claim p m s t w (evicted_by p m s t w)) where
  abbrev n : Node
  n = node_of m w

  abbrev bytes : Cell → ℕ
  bytes = tile_bytes p

  abbrev evicted : List Cell
  evicted = evicted_by p m s t w

  abbrev brought : List Cell
  brought = missing p s t w n

  abbrev own : List Cell
  own = cells_of p t w

  worker_inside : w.0 < m.workers
  worker_inside = omega (arith, claim.worker, h.machine.workers)

  idle-pins : (c : Cell) → has_cell (pins s w) c ≡ false
  idle-pins c = false_from_ne_true (has_cell (pins s w) c) (λ pin. (let held = h.coherent.pins.own w c pin in false≢true (sym (idle-has_none s w held.task claim.idle) ∙ held.has)))

  idle-scratch : scratch s w ≡ 0
  idle-scratch = (h.coherent.workers.scratch w).none (λ u. idle-has_none s w u claim.idle)

  pub pins-after : (c : Cell) → pins_on m s' n c ≡ pins_on m s n c + times own c
  pins-after c = sum-grown m n w (times own c) (λ v. times (pins s' v) c) (λ v. times (pins s v) c)
      (λ v other. ap (λ (row : WorkerState). times row.pins c) (Claims-other_worker p m s t w v s' claim leaves other))
      (let now : times (pins s' w) c ≡ times own c = ap (λ (row : WorkerState). times row.pins c) (Claims-worker p m s t w s' h.coherent.state.rows h.machine claim leaves) in let none = times-none (pins s w) c (idle-pins c) in omega arith)
      refl worker_inside

  pub scratch-after : sum_by (scratch s') (workers_at m n) ≡ sum_by (scratch s) (workers_at m n) + scratch_bytes p (task_of p t)
  scratch-after = sum-grown m n w (scratch_bytes p (task_of p t)) (scratch s') (scratch s)
      (λ v other. ap (λ (row : WorkerState). row.scratch) (Claims-other_worker p m s t w v s' claim leaves other))
      (let now : scratch s' w ≡ scratch_bytes p (task_of p t) = ap (λ (row : WorkerState). row.scratch) (Claims-worker p m s t w s' h.coherent.state.rows h.machine claim leaves) in let none = idle-scratch in omega arith)
      refl worker_inside

  -- the stores of other nodes stay
  pub store-elsewhere : (k : Node) → k ≢ n → store_of p m s' k ≡ store_of p m s k
  store-elsewhere k other =
      store-same p m k (order s' k) _ _ (pins_on m s' k) (pins_on m s k) (sum-at m k (scratch s') (scratch s) (λ v at. ap (λ (row : WorkerState). row.scratch) (kept v at))) (λ c. sum-at m k (λ v. times (pins s' v) c) (λ v. times (pins s v) c) (λ v at. ap (λ (row : WorkerState). times row.pins c) (kept v at)))
      ∙ ap (λ (cs : List Cell). store_by p m k cs (sum_by (scratch s) (workers_at m k)) (pins_on m s k)) (claim-order_elsewhere p m s h t w s' claim leaves k other)
    where
      kept : (v : Worker) → node_of m v ≡ k → worker_state s' v ≡ worker_state s v
      kept v at = Claims-other_worker p m s t w v s' claim leaves (λ e. other (sym at ∙ ap (node_of m) e))

  -- ---- the node's own store

  -- what isn't pinned by a worker of the node has no pins
  unpinned-none : (c : Cell) → ((v : Worker) → node_of m v ≡ n → has_cell (pins s v) c ≡ false) → pins_on m s n c ≡ 0
  unpinned-none c none = sum-at m n (λ v. times (pins s v) c) (λ v. 0) (λ v at. times-none (pins s v) c (none v at)) ∙ sum-nothing (λ (v : Worker). 0) (λ v. refl) (workers_at m n)

  pin-inside : (v : Worker) (c : Cell) → has_cell (pins s v) c ≡ true → v.0 < m.workers
  pin-inside v c pin = omega (arith, pins-inside s v c pin, h.coherent.state.rows.workers)

  -- what a worker pins has an entry
  pinned-there : (v : Worker) (c : Cell) → has_cell (pins s v) c ≡ true → node_of m v ≡ n → has_cell (order s n) c ≡ true
  pinned-there v c pin at = ap (λ (k : Node). has_cell (order s k) c) (sym at) ∙ h.coherent.state.entries.entries (node_of m v) c ∙ pinned-entry p m s h.coherent v c pin

  -- what has no entry isn't pinned
  absent-unpinned : (c : Cell) → has_cell (order s n) c ≡ false → pins_on m s n c ≡ 0
  absent-unpinned c absent = unpinned-none c (λ v at. false_from_ne_true (has_cell (pins s v) c) (λ pin. false≢true (sym absent ∙ pinned-there v c pin at)))

  brought-unpinned : (c : Cell) → has_cell brought c ≡ true → pins_on m s n c ≡ 0
  brought-unpinned c lacks = absent-unpinned c (missing-absent p m s t w s' claim leaves c lacks).0

  evicted-unpinned : (c : Cell) → has_cell evicted c ≡ true → pins_on m s n c ≡ 0
  evicted-unpinned c gone = unpinned-none c (λ v at. false_from_ne_true (has_cell (pins s v) c) (λ pin. false≢true (sym (evicted-free p m s t w s' claim leaves c gone).0 ∙ pinned-at m s v n c (pin-inside v c pin) at pin)))

  abbrev rest : List Cell
  rest = without evicted (order s n)

  abbrev first : List Cell
  first = put_first brought rest

  own-there : (c : Cell) → has_cell own c ≡ true → has_cell first c ≡ true
  own-there c has = has_cell-put_first brought rest c ∙ elim (cases_Bool (has_cell (order s n) c)) [
    | inl there ↦ or_right (has_cell brought c) (has_cell rest c) (has_cell-without evicted (order s n) c ∙ and_from (not (has_cell evicted c)) (has_cell (order s n) c) (ap not (own-spared p m s h t w s' claim leaves c has)) there)
    | inr absent ↦ or_left (has_cell brought c) (has_cell rest c) (absent-missing p m s t w s' claim leaves c absent has)
  ]

  brought-once : (c : Cell) → times brought c ≤ 1
  brought-once c = let fewer = times-filter (λ d. not (has_cell (order s n) d)) (distinct own) c in let once = times-distinct own c in omega arith

  -- what has at most these of the order has nothing twice
  put-once : (kept : List Cell) → ((c : Cell) → times kept c ≤ times (order s n) c) → (c : Cell) → times (put_first brought kept) c ≤ 1
  put-once kept fewer c = elim (cases_Bool (has_cell (order s n) c)) [
    | inl there ↦ omega (arith, times-put_first brought kept c, fewer c, h.coherent.state.entries.once n c, times-none brought c (false_from_ne_true (has_cell brought c) (λ lacks. false≢true (sym (missing-absent p m s t w s' claim leaves c lacks).0 ∙ there))))
    | inr absent ↦ omega (arith, times-put_first brought kept c, fewer c, times-none (order s n) c absent, brought-once c)
  ]

  rest-fewer : (c : Cell) → times rest c ≤ times (order s n) c
  rest-fewer c = times-filter (λ d. not (has_cell evicted d)) (order s n) c

  first-once : (c : Cell) → times first c ≤ 1
  first-once = put-once rest rest-fewer

  brought-own : (c : Cell) → has_cell brought c ≡ true → has_cell own c ≡ true
  brought-own c lacks = (missing-absent p m s t w s' claim leaves c lacks).1

  abbrev before : Store
  before = store_of p m s n

  abbrev plan : ClaimPlan
  plan = plan_with p m s t w evicted

  admitting-is : admitting before plan ≡ with_entries before (entries bytes (pins_on m s n) first)
  admitting-is =
      ap (λ (es : List NodeEntry). with_entries before (put_cells brought (map bytes brought) es)) (entries-without bytes (pins_on m s n) evicted (order s n))
      ∙ ap (with_entries before) (entries-put bytes (pins_on m s n) brought rest brought-unpinned)

  taking-is : taking before plan ≡ with_entries before (entries bytes (more bytes (pins_on m s n) own) (order s' n))
  taking-is =
      ap (λ (x : Store). fold taken x own) admitting-is
      ∙ taken-all bytes before (pins_on m s n) own first own-there first-once
      ∙ ap (λ (cs : List Cell). with_entries before (entries bytes (more bytes (pins_on m s n) own) cs)) (fronted-put_first own brought rest brought-own ∙ sym (claim-order_here p m s h t w s' claim leaves))

  -- the node's store after the claim
  pub holding-is : holding before plan ≡ store_of p m s' n
  holding-is =
      ap (λ (x : Store). record x { scratch = x.scratch + plan.scratch }) taking-is
      ∙ store-same p m n (order s' n) _ _ (more bytes (pins_on m s n) own) (pins_on m s' n) (sym scratch-after) (λ c. sym (pins-after c))

  -- ---- that it can

  abbrev after_state : Coherent p m s'
  after_state = Claims-coherent p m s h t w s' claim leaves

  -- the bytes of the order after the claim
  first-bytes : sum_by bytes (order s' n) ≡ sum_by bytes brought + sum_by bytes rest
  first-bytes =
      once-bytes p (order s' n) (entry-cell p m s' after_state.state n) (after_state.state.entries.once n)
      ∙ sum-agree (share bytes (has_cell (order s' n))) (share bytes (has_cell first)) (λ c. ap (λ b. cond b (bytes c) 0) (same c)) (cells_of_program p)
      ∙ sym (once-bytes p first (λ c has. entry-cell p m s' after_state.state n c (same c ∙ has)) first-once)
      ∙ sum-put_first bytes brought rest
    where
      same : (c : Cell) → has_cell (order s' n) c ≡ has_cell first c
      same c =
          ap (λ (cs : List Cell). has_cell cs c) (claim-order_here p m s h t w s' claim leaves ∙ sym (fronted-put_first own brought rest brought-own))
          ∙ has_cell-fronted own first c ∙ implied_or (has_cell own c) (has_cell first c) (own-there c)

  can-fit : sum (map bytes brought) ≤ free_bytes (with_entries before (without_all evicted before.entries))
  can-fit =
      let new = sum-map bytes brought in
      let all = first-bytes in
      let enough = after_state.bytes.entries n in
      let held = scratch-after in
      let kept : total (without_all evicted before.entries) ≡ sum_by bytes rest = ap total (entries-without bytes (pins_on m s n) evicted (order s n)) ∙ entries-total bytes (pins_on m s n) rest in
      omega arith

  can-be_few : length before.entries + length brought ≤ length p.cells
  can-be_few =
      let as_many = length-map (order s n) (node_entry_of p m s n) in
      let both = length-put_first brought (order s n) in
      let few = length-once p (put_first brought (order s n)) inside (put-once (order s n) (λ c. (omega arith))) in
      omega arith
    where
      inside : (c : Cell) → has_cell (put_first brought (order s n)) c ≡ true → c.0 < length p.cells
      inside c has = elim (or_cases (has_cell brought c) (has_cell (order s n) c) (sym (has_cell-put_first brought (order s n) c) ∙ has)) [
        | inl lacks ↦ omega (arith, task-cell p m s h t w s' claim leaves c (brought-own c lacks), h.coherent.state.rows.cells)
        | inr there ↦ entry-cell p m s h.coherent.state n c there
      ]

  can-hold_scratch : scratch_bytes p (task_of p t) ≤ free_bytes (taking before plan)
  can-hold_scratch = subst (λ (x : Store). scratch_bytes p (task_of p t) ≤ free_bytes x) (sym taking-is)
      (let held = scratch-after in
      let enough = after_state.bytes.entries n in
      let all = entries-total bytes (more bytes (pins_on m s n) own) (order s' n) in
      omega arith)

  -- where its entries have few pins
  pub can-hold : ((c : Cell) → pins_on m s n c + length own ≤ 1024) → CanHold before plan
  can-hold few = record {
    victims_there = All-has (λ c. IsTrue (has_entry before.entries c)) evicted (λ c gone. entries-has bytes (pins_on m s n) (order s n) c ∙ (evicted-free p m s t w s' claim leaves c gone).2);
    victims_unpinned = All-has (λ c. pins_of before.entries c ≡ 0) evicted (λ c gone. (let none = evicted-unpinned c gone in let most = entries-pins bytes (pins_on m s n) (order s n) c in omega arith));
    cells_differ = distinct-from_times brought brought-once;
    cells_absent = All-has (λ c. has_entry before.entries c ≡ false) brought (λ c lacks. entries-has bytes (pins_on m s n) (order s n) c ∙ (missing-absent p m s t w s' claim leaves c lacks).0);
    paired = sym (length-map brought bytes);
    fits = can-fit;
    few = can-be_few;
    cells = subst (λ (x : Store). CanTakeAll x own) (sym admitting-is) (can_take-all bytes before (pins_on m s n) own first own-there first-once few);
    scratch = can-hold_scratch;
  }
