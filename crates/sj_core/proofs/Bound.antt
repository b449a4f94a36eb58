-- A legal trace has at most three events for each task of its program and five for each operand.
use Rattle.sj_core.proofs.Words.{[], a_transfer, after, after_claim, after_end, after_run, ap, arith, arrived, AtNode, Bool, CanClaim, CanDrop, CanFollow, CanMoveIn, CanMoveOut, CanRun, Cell, cell, cell_state, cells_of, CellState, Claim, Claimed, claimed_mark, Coherent, Coming, cond, count_by, data_operands, DiskNo, Done, Drop, End, enumerate_from, Event, false, fold, get_or, has_cell, HasAtMostThreePerTaskAndFivePerOperand, if◌then◌else◌, Invalid, is_begun, is_entry, is_leaving, is_leaving_by, is_some, IsLegal, IsMachineFor, IsSound, IsTransferTo, leave, Leaving, length, List, Lowered, Machine, map, Mark, mark, mark_in, May, missing, Move, Moved, mover_of, nat_eq, nat_le, nat_lt, no_task, Node, node_of, None, on_disk, OnDisk, opening, operands, Option, owned_at, Place, Program, Progress, progress, Proper, range_with_len, refl, renewed, Run, Running, same_cell, scratch_bytes, set, slice_set, Some, State, state_of, stored, subst, suc, sum_by, sym, Task, task_of, tasks_of, Transfer, transfer, true, Valid, victims_of, Waiting, with_mark, with_row, with_transfer, worked_on, Worker, worker_of, WorkerState, written_cells, written_once_more, zero, ℕ, ◌&&◌, ◌*◌, ◌+◌, ◌<◌, ◌||◌, ◌∙◌, ◌∷◌, ◌≡◌, ◌≤◌}
use Rattle.std.proofs.lemmas.{Bool.eq-eqb, Bool.false≢true, Bool.ne_eqb, List.get_or_default, List.length-map, List.map-id, List.Folds.Any-from_list_any, List.Folds.sum_by-replicate, List.FromFn.fill_by_all, List.FromFn.get_or-map-range_with_len, List.FromFn.length-map-range_with_len, List.Sums.count_by-le-length, List.Sums.get_or-le-sum_by, List.Sums.length-filter, List.Sums.sum_by-cons, List.Sums.sum_by-le-sum_by, List.Sums.sum_by-set}
use Rattle.sj_base.proofs.{Bools.tally, Bools.tally-le, Lists.counted_some, Lists.sum_by-map}
use Rattle.sj_core.proofs.{Advancing.Advances, Advancing.claimed_by-is, Advancing.Ends-advances, Advancing.Runs-advances, Advancing.same_task, CellLists.same_cell-sym, Claimed.claimed-inside, Claiming.claim-advance, Claiming.missing-absent, Claiming.node-inside, Eviction.evicted-after, Eviction.evicted_by, Finding.running-inside, Moving.Ended_moves-keep_coherence, Opening.opening-coherent, Placing.copy-row, Placing.valid-within, Reading.entry-inside, Reading.idle_row, Reading.no_row, Reading.transfer-inside, Replaying.legal-coherent, Replaying.sound, Replaying.Step-keeps_coherence, Replicas.coming_by-is, Replicas.leaving-by_some, Replicas.leaving_by-leaves, Replicas.leaving_by-valid, Sums.count-numbered, Sums.sum-nothing, Sums.sum-one_more, Sums.sum-within, TaskCells.written-among_cells}

-- ---- sums that rise at one element, sums over a table whose rows were renewed, and sums over numbered elements

-- where no term falls, and those that pass a test rise by so much, a sum with such a term rises by so much
pub sum-rises : {X : Type 0} (f g : X → ℕ) (test : X → Bool) (more : ℕ) → ((x : X) → f x + cond (test x) more 0 ≤ g x) → (xs : List X) (i : ℕ) (d : X) → i < length xs → test (get_or xs i d) ≡ true → sum_by f xs + more ≤ sum_by g xs
sum-rises f g test more rises xs i d inside passes =
    let here : cond (test (get_or xs i d)) more 0 ≡ more = ap (λ b. cond b more 0) passes in
    omega (arith, sum-within f (λ x. cond (test x) more 0) g rises xs, get_or-le-sum_by (λ x. cond (test x) more 0) xs i d inside)

-- ---- tables

renewed-from : {X : Type 0} (f : X → ℕ) (g : ℕ → X → X) (more : ℕ → ℕ) (d : X) (xs : List X) (a : ℕ) → ((k i : ℕ) → k < length xs → i ≡ a + k → f (g i (get_or xs k d)) ≤ f (get_or xs k d) + more i) → sum_by f (map (λ row. g row.0 row.1) (enumerate_from a xs)) ≤ sum_by f xs + sum_by more (range_with_len a (length xs))
renewed-from f g more d [] a each = omega arith
renewed-from f g more d (x ∷ xs) a each =
    let all = renewed-from f g more d xs (a + 1) (λ k i inside e. each (suc k) i (omega (arith, inside)) (omega (arith, e))) in
    let one = sum_by-cons f (g a x) (map (λ row. g row.0 row.1) (enumerate_from (a + 1) xs)) in
    let both = sum_by-cons more a (range_with_len (a + 1) (length xs)) in
    omega (arith, each 0 a (omega arith) (omega arith), sum_by-cons f x xs)

-- where each row of a table rises by no more than its number allows
pub sum-renewed : {X : Type 0} (f : X → ℕ) (g : ℕ → X → X) (more : ℕ → ℕ) (d : X) (xs : List X) → ((i : ℕ) → i < length xs → f (g i (get_or xs i d)) ≤ f (get_or xs i d) + more i) → sum_by f (renewed g xs) ≤ sum_by f xs + sum_by more (range_with_len 0 (length xs))
sum-renewed f g more d xs each = renewed-from f g more d xs 0 (λ k i inside e. subst (λ j. f (g j (get_or xs k d)) ≤ f (get_or xs k d) + more j) (let same : k ≡ i = omega (arith, e) in same) (each k inside))

-- and where none rises
pub sum-renewed_within : {X : Type 0} (f : X → ℕ) (g : ℕ → X → X) (d : X) (xs : List X) → ((i : ℕ) → i < length xs → f (g i (get_or xs i d)) ≤ f (get_or xs i d)) → sum_by f (renewed g xs) ≤ sum_by f xs
sum-renewed_within f g d xs each =
    let all = sum-renewed f g (λ i. 0) d xs (λ i inside. (let here = each i inside in omega arith)) in
    omega (arith, sum-nothing (λ k. 0) (λ k. refl) (range_with_len 0 (length xs)))

-- the sum over the elements of a list by number
pub sum-numbered : {X : Type 0} (f : X → ℕ) (d : X) (xs : List X) → sum_by (λ i. f (get_or xs i d)) (range_with_len 0 (length xs)) ≡ sum_by f xs
sum-numbered f d xs = sym (ap (sum_by f) (fill_by_all (λ i. get_or xs i d) xs (length xs) d refl (λ k inside. refl)) ∙ sum_by-map f (λ i. get_or xs i d) (range_with_len 0 (length xs)))

-- ---- cells by number

-- a table has no more rows of cells that a list has than the list is long
pub rows-within : (n : ℕ) (cs : List Cell) → sum_by (λ k. cond (has_cell cs (cell k)) 5 0) (range_with_len 0 n) ≤ 5 * length cs
rows-within n [] = let none = sum-nothing (λ k. 0) (λ k. refl) (range_with_len 0 n) in omega arith
rows-within n (c ∷ cs) =
    let all = sum-one_more (λ k. cond (has_cell (c ∷ cs) (cell k)) 5 0) (λ k. cond (has_cell cs (cell k)) 5 0) (λ k. nat_eq k c.0) 5 (λ k. by_first (cell k) (same_cell c (cell k)) refl) (range_with_len 0 n) once in
    omega (arith, rows-within n cs)
  where
    by_first : (d : Cell) (b : Bool) → same_cell c d ≡ b → cond (b || has_cell cs d) 5 0 ≤ cond (has_cell cs d) 5 0 + cond (same_cell d c) 5 0
    by_first d b e = search (arith, same_cell-sym)

    once : count_by (λ k. nat_eq k c.0) (range_with_len 0 n) ≤ 1
    once =
        let all = count-numbered (λ k. k) (λ k. nat_eq k c.0) c.0 (λ i. refl) 0 n in
        let more = ap (count_by (λ k. nat_eq k c.0)) (map-id (range_with_len 0 n)) in
        omega (arith, tally-le (nat_le 0 c.0 && nat_lt c.0 (0 + n)))

-- ---- what the copies of a cell at nodes may still cost: the events that bring one and take it away again

-- one that comes is still moved in, which begins and ends, and is valid then; one that is valid is still moved out, which
-- begins and ends, and dropped; one that leaves is only dropped where a disk has the cell
abbrev pub weight : Bool → Mark → ℕ
weight on_disk Invalid = 0
weight on_disk (Coming w) = 5
weight on_disk Valid = 3
weight on_disk (Leaving w) = cond on_disk 1 3

-- what those of one cell may still cost
abbrev pub cost_of : CellState → ℕ
cost_of row = sum_by (weight (row.on_disk)) row.marks

-- what all copies may still cost
abbrev pub cost : State → ℕ
cost s = sum_by cost_of s.cells

-- ---- one mark

pub entry-weighs : (b : Bool) (r : Mark) → is_entry r ≡ true → 3 ≤ weight b r
entry-weighs b r h = search (arith, false≢true)

pub leaving-weighs : (b : Bool) (r : Mark) → is_leaving r ≡ true → 1 ≤ weight b r
leaving-weighs b r h = search (arith, false≢true)

-- a victim weighs no more than it did
leave-weighs : (w : Worker) (b : Bool) (r : Mark) → weight b (leave w r) ≤ weight b r
leave-weighs w b r = search arith

-- a claim adds the weight of a cell that comes
claimed-weighs : (w : Worker) (evicted missing : List Cell) (c : Cell) (brought : Bool) → (has_cell missing c ≡ true → brought ≡ true) → (b : Bool) (r : Mark) → weight b (claimed_mark w evicted missing c r) ≤ weight b r + cond brought 5 0
claimed-weighs w evicted missing c brought comes b r = search (arith, weight, leave-weighs)

-- ---- the row of a cell

-- one mark in place of another
pub replaced : (row : CellState) (n : Node) (r : Mark) → n.0 < length row.marks → cost_of (with_mark row n r) + weight (row.on_disk) (mark_in row n) ≡ cost_of row + weight (row.on_disk) r
replaced row n r inside = sum_by-set (weight (row.on_disk)) row.marks n.0 r Invalid inside

-- after a claim that brings the cell, or not
pub claimed-costs : (row : CellState) (n : Node) (w : Worker) (evicted missing : List Cell) (c : Cell) (brought : Bool) → (has_cell missing c ≡ true → brought ≡ true) → n.0 < length row.marks → cost_of (with_mark row n (claimed_mark w evicted missing c (mark_in row n))) ≤ cost_of row + cond brought 5 0
claimed-costs row n w evicted missing c brought comes inside = search (arith, replaced, claimed-weighs)

-- a cell with an entry on a node
pub entry-costs : (row : CellState) (n : Node) → n.0 < length row.marks → is_entry (mark_in row n) ≡ true → 3 ≤ cost_of row
entry-costs row n inside entry = search (arith, get_or-le-sum_by, weight, entry-weighs)

invalid-costs : (b : Bool) (rs : List Mark) → sum_by (weight b) (map (λ r. Invalid) rs) ≡ 0
invalid-costs b [] = refl
invalid-costs b (r ∷ rs) = let first = sum_by-cons (weight b) Invalid (map (λ q. Invalid) rs) in let rest = invalid-costs b rs in omega arith

-- a cell with one copy
pub owned-costs : (row : CellState) (n : Node) → n.0 < length row.marks → cost_of (owned_at n row) ≤ 3
owned-costs row n inside = alone false
  where
    alone : (b : Bool) → sum_by (weight b) (slice_set (map (λ r. Invalid) row.marks) n.0 Valid) ≤ 3
    alone b =
        let all = sum_by-set (weight b) (map (λ r. Invalid) row.marks) n.0 Valid Invalid (omega (arith, inside, length-map row.marks (λ (r : Mark). Invalid))) in
        omega (arith, invalid-costs b row.marks)

-- the cell's block becomes a copy, and it leaves a node
pub stored-costs : (row : CellState) (n : Node) → row.on_disk ≡ false → n.0 < length row.marks → is_leaving (mark_in row n) ≡ true → cost_of (stored row) + 2 ≤ cost_of row
stored-costs row n none inside leaving =
    omega (arith, sum-rises (weight true) (weight false) is_leaving 2 lighter row.marks n.0 Invalid inside leaving, ap (λ b. sum_by (weight b) row.marks) none)
  where
    lighter : (r : Mark) → weight true r + cond (is_leaving r) 2 0 ≤ weight false r
    lighter r = search arith

-- ---- the opening state

pub opening-costs : (p : Program) (m : Machine) → cost (opening p m) ≡ 0
opening-costs p m = search (arith, sum_by-replicate)

-- ---- each legal step is one event, and is paid for: a task pays one for each of its own events, and with its claim five for
-- each operand, which is what a copy that the claim brings may cost. A copy that comes, is valid or leaves still costs
-- as much as it weighs; a move that begins is paid for by being under way, and as it ends its copy weighs two less.

-- ---- what pays

-- the transfers that are under way
abbrev pub under_way : State → ℕ
under_way s = sum_by (λ row. tally (is_some row.transfer)) s.workers

-- the operands of a task but its scratch buffers
abbrev pub operands_of : Program → Task → ℕ
operands_of p t = length (data_operands (task_of p t))

-- what a task of so many operands has paid: one for each of its own events, and with its claim five for each operand
abbrev pub due : ℕ → Progress → ℕ
due n Waiting = 0
due n (Claimed w) = 1 + 5 * n
due n (Running w) = 2 + 5 * n
due n (Done w) = 3 + 5 * n

-- what all tasks have paid
abbrev pub paid : Program → State → ℕ
paid p s = sum_by (λ t. due (operands_of p t) (progress s t)) (tasks_of p)

-- one event is paid for between two states
abbrev pub Pays : Program → State → State → Type 0
Pays p s s' = 1 + cost s' + under_way s + paid p s ≤ cost s + under_way s' + paid p s'

-- what a task pays as it goes on
paid-advances : (p : Program) (s s' : State) (t : Task) (old new : Progress) → Advances s s' t old new → t.0 < length p.tasks → (more : ℕ) → due (operands_of p t) old + more ≡ due (operands_of p t) new → paid p s + more ≤ paid p s'
paid-advances p s s' t old new a inside more rises =
    let number : ℕ → Task = λ n. record { 0 = n } in
    let at_t : get_or (tasks_of p) t.0 t ≡ t = get_or-map-range_with_len number 0 (length p.tasks) t.0 t.0 t inside (omega arith) in
    sum-rises (λ u. due (operands_of p u) (progress s u)) (λ u. due (operands_of p u) (progress s' u)) (λ u. nat_eq u.0 t.0) more each (tasks_of p) t.0 t (omega (arith, inside, length-map-range_with_len number 0 (length p.tasks))) (ap (λ (u : Task). nat_eq u.0 t.0) at_t ∙ eq-eqb t.0 t.0 refl)
  where
    each : (u : Task) → due (operands_of p u) (progress s u) + cond (nat_eq u.0 t.0) more 0 ≤ due (operands_of p u) (progress s' u)
    each u = (search (arith, same_task, eq-eqb, ne_eqb))

-- the transfers under way where one worker's row is written
row-counts : (s : State) (w : Worker) (row : WorkerState) → w.0 < length s.workers → under_way (record s { workers = set s.workers w.0 row }) + tally (is_some (transfer s w)) ≡ under_way s + tally (is_some row.transfer)
row-counts s w row inside = sum_by-set (λ (r : WorkerState). tally (is_some r.transfer)) s.workers w.0 row idle_row inside

module _ (p : Program) (m : Machine) (s : State) (h : IsSound p m s) where
  -- ---- whose rows there are

  -- its worker is one of the table
  worker-inside : (t : Task) (x : Progress) → progress s t ≡ x → is_begun x ≡ true → (worker_of x).0 < length s.workers
  worker-inside t x is begun = search arith

  -- and so is the worker by whose claim a copy leaves
  leaving-inside : (w : Worker) (c : Cell) (n : Node) → is_leaving_by w (mark s c n) ≡ true → w.0 < length s.workers
  leaving-inside w c n leaving = search (arith, worker-inside, claimed_by-is)

  -- ---- claims, runs and ends

  module _ (t : Task) (w : Worker) (s' : State) (claim : CanClaim p m s t w) (leaves : s' ≡ after_claim p m s t w (evicted_by p m s t w)) where
    -- what comes by a claim costs five for each of its cells, and what is evicted costs no more than before
    claim-cost : cost s' ≤ cost s + 5 * length (cells_of p t w)
    claim-cost =
        let n = node_of m w in
        let brought : ℕ → Bool = λ k. has_cell (cells_of p t w) (cell k) in
        let all = sum-renewed cost_of (λ k row. with_mark row n (claimed_mark w (evicted_by p m s t w) (missing p s t w n) (cell k) (mark_in row n))) (λ k. cond (brought k) 5 0) no_row s.cells
        (λ k inside. claimed-costs (get_or s.cells k no_row) n w (evicted_by p m s t w) (missing p s t w n) (cell k) (brought k) (λ lacks. (missing-absent p m s t w s' claim leaves (cell k) lacks).1) (node-inside p m s h t w s' claim leaves (cell k) inside)) in
        omega (arith, rows-within (length s.cells) (cells_of p t w), ap cost leaves)

    Claims-pays : Pays p s s'
    Claims-pays =
        let named : length (cells_of p t w) ≡ operands_of p t = length-map (data_operands (task_of p t)) (worked_on p w) in
        let all = row-counts s w (record { pins = cells_of p t w; scratch = scratch_bytes p (task_of p t); victims = (evicted_by p m s t w); transfer = transfer s w }) (omega (arith, claim.worker, h.machine.workers, h.coherent.state.rows.workers)) in
        let more = paid-advances p s s' t Waiting (Claimed w) (claim-advance p m s h t w s' claim leaves) claim.ready.task (1 + 5 * operands_of p t) (omega arith) in
        omega (arith, claim-cost, ap under_way leaves)

  module _ (t : Task) (w : Worker) (s' : State) (run : CanRun p m s t w) (leaves : s' ≡ after_run p m s t w) where
    -- a written cell has one copy then, and had an entry on that node before
    run-cost : cost s' ≤ cost s
    run-cost =
        let n = node_of m w in
        let writes : Cell → Bool = has_cell (written_cells p t w) in
        let all = sum-renewed_within cost_of (λ k row. if writes (cell k) then owned_at n row else row) no_row s.cells (λ k inside. by_test (cell k) (writes (cell k)) refl) in
        omega (arith, ap cost leaves)
      where
        by_test : (c : Cell) (b : Bool) → has_cell (written_cells p t w) c ≡ b → cost_of (if b then owned_at (node_of m w) (cell_state s c) else cell_state s c) ≤ cost_of (cell_state s c)
        by_test c false e = omega arith
        by_test c true e =
            let n = node_of m w in
            let entry = h.coherent.cells.claimed t w c run.claimed (written-among_cells p t w c e) in
            let within = (entry-inside s c n entry).1 in
            omega (arith, entry-costs (cell_state s c) n within entry, owned-costs (cell_state s c) n within)

    Runs-pays : Pays p s s'
    Runs-pays =
        let all = paid-advances p s s' t (Claimed w) (Running w) (Runs-advances p m s t w s' run leaves) (claimed-inside p m s h t w run.claimed) 1 (omega arith) in
        omega (arith, run-cost, ap under_way leaves)

  module _ (t : Task) (w : Worker) (s' : State) (ended : progress s t ≡ Running w) (leaves : s' ≡ after_end p m s t w) where
    -- a write more costs nothing
    end-cost : cost s' ≤ cost s
    end-cost =
        let writes : Cell → Bool = has_cell (written_cells p t w) in
        let all = sum-renewed_within cost_of (λ k row. if writes (cell k) then written_once_more row else row) no_row s.cells (λ k inside. by_test (get_or s.cells k no_row) (writes (cell k))) in
        omega (arith, ap cost leaves)
      where
        by_test : (row : CellState) (b : Bool) → cost_of (if b then written_once_more row else row) ≤ cost_of row
        by_test row true = omega arith
        by_test row false = omega arith

    Ends-pays : Pays p s s'
    Ends-pays =
        let all = row-counts s w (record { pins = []; scratch = 0; victims = victims_of s w; transfer = transfer s w }) (worker-inside t (Running w) ended refl) in
        let more = paid-advances p s s' t (Running w) (Done w) (Ends-advances p m s t w s' ended leaves) (running-inside p m s t w h.coherent.state.rows ended) 1 (omega arith) in
        omega (arith, end-cost, ap under_way leaves)

  -- ---- transfers that begin

  begins-pays : (w : Worker) (x : Transfer) (s' : State) → w.0 < length s.workers → transfer s w ≡ None → s' ≡ with_transfer s w (Some x) → Pays p s s'
  begins-pays w x s' inside free leaves = search (arith, row-counts, tally, under_way, cost, paid)

  Moves_in-pay : (c : Cell) (from : Place) (n : Node) (w : Worker) (s' : State) → CanMoveIn p m s c from n w → s' ≡ with_transfer s w (Some (a_transfer c from (AtNode n))) → Pays p s s'
  Moves_in-pay c from n w s' move leaves = search (arith, begins-pays, worker-inside)

  Moves_out-pay : (c : Cell) (k : Node) (d : DiskNo) (w : Worker) (s' : State) → CanMoveOut p m s c k d w → s' ≡ with_transfer s w (Some (a_transfer c (AtNode k) (OnDisk d))) → Pays p s s'
  Moves_out-pay c k d w s' move leaves = begins-pays w (a_transfer c (AtNode k) (OnDisk d)) s' (leaving-inside w c k move.leaving) move.free leaves

  -- ---- copies that come and go

  -- one row of the table is written
  rewrites : (c : Cell) (row : CellState) → c.0 < length s.cells → (fewer : ℕ) → cost_of row + fewer ≤ cost_of (cell_state s c) → cost (record s { cells = set s.cells c.0 row }) + fewer ≤ cost s
  rewrites c row inside fewer falls = let all = sum_by-set cost_of s.cells c.0 row no_row inside in omega arith

  Drops-pays : (c : Cell) (n : Node) (s' : State) → CanDrop s c n → s' ≡ with_row s c (with_mark (cell_state s c) n Invalid) → Pays p s s'
  Drops-pays c n s' drop leaves =
      let by = leaving-by_some (mark s c n) drop.leaving in
      let valid = leaving_by-valid by.0 (mark s c n) by.1 in
      let gone = replaced (cell_state s c) n Invalid (valid-within (cell_state s c).marks n.0 valid) in
      let weighed = leaving-weighs (on_disk s c) (mark s c n) drop.leaving in
      let all = rewrites c (with_mark (cell_state s c) n Invalid) (copy-row p m s c (AtNode n) valid) 1 (omega (arith, gone, weighed)) in
      omega (arith, ap cost leaves, ap under_way leaves, ap (paid p) leaves)

  module _ (c : Cell) (from to : Place) (w : Worker) (s' : State) (moved : transfer s w ≡ Some (a_transfer c from to)) (leaves : s' ≡ with_transfer (with_row s c (arrived to (cell_state s c))) w None) where
    abbrev row : CellState
    row = cell_state s c

    -- the cell's row costs two less
    row-falls : (source target : Place) → IsTransferTo m s w c source target → (c.0 < length s.cells) × (cost_of (arrived target row) + 2 ≤ cost_of row)
    row-falls source (AtNode n) (here, coming, none) =
        let e = coming_by-is w (mark s c n) coming in
        let inside = entry-inside s c n (ap is_entry e) in
        let weighed : weight row.on_disk (mark s c n) ≡ 5 = ap (weight row.on_disk) e in
        (inside.0, omega (arith, replaced row n Valid inside.1))
    row-falls (AtNode k) (OnDisk d) (leaving, none) =
        let valid = leaving_by-valid w (mark s c k) leaving in
        (copy-row p m s c (AtNode k) valid, stored-costs row k none (valid-within row.marks k.0 valid) (leaving_by-leaves w (mark s c k) leaving))
    row-falls (OnDisk e) (OnDisk d) there = absurd (false≢true there)

    -- and so do all copies
    pub moved-cost : cost s' + 2 ≤ cost s
    moved-cost =
        let falls = row-falls from to (h.coherent.transfers.target w (a_transfer c from to) moved) in
        omega (arith, rewrites c (arrived to row) falls.0 2 falls.1, ap cost leaves)

    -- and one transfer less is under way
    pub moved-transfers : under_way s ≡ 1 + under_way s'
    moved-transfers = search (arith, tally, row-counts, transfer-inside)

    Ended_moves-pay : Pays p s s'
    Ended_moves-pay = omega (arith, moved-cost, moved-transfers, ap (paid p) leaves)

  -- ---- a step

  pub Step-pays : (e : Event) → May p m s e → Pays p s (after p m s e)
  Step-pays (Claim t w) may = Claims-pays t w (after p m s (Claim t w)) may (evicted-after p m s t w)
  Step-pays (Move c from (AtNode n)) may = Moves_in-pay c from n (mover_of s c from (AtNode n)) (after p m s (Move c from (AtNode n))) may refl
  Step-pays (Move c (AtNode k) (OnDisk d)) may = Moves_out-pay c k d (mover_of s c (AtNode k) (OnDisk d)) (after p m s (Move c (AtNode k) (OnDisk d))) may refl
  Step-pays (Move c (OnDisk e) (OnDisk d)) may = absurd (false≢true may)
  Step-pays (Moved c from to) may = Ended_moves-pay c from to (mover_of s c from to) (after p m s (Moved c from to)) may refl
  Step-pays (Drop c n) may = Drops-pays c n (after p m s (Drop c n)) may refl
  Step-pays (Run t w) may = Runs-pays t w (after p m s (Run t w)) may refl
  Step-pays (End t w) may = Ends-pays t w (after p m s (End t w)) may refl

-- ---- what all tasks pay

due-at_most : (n : ℕ) (x : Progress) → due n x ≤ 3 + 5 * n
due-at_most n x = search arith

-- three for each task and five for each operand, scratch buffers aside
abbrev price : Lowered → ℕ
price l = 3 + 5 * length (data_operands l)

prices-at_most : (ls : List Lowered) → sum_by price ls ≤ 3 * length ls + 5 * sum_by (λ l. length l.accesses) ls
prices-at_most [] = omega arith
prices-at_most (l ∷ ls) = search (arith, sum_by-cons, count_by-le-length, price, length-filter, prices-at_most ls)

paid-at_most : (p : Program) (s : State) → paid p s ≤ 3 * length p.tasks + 5 * operands p
paid-at_most p s =
    let number : ℕ → Task = λ n. record { 0 = n } in
    let all = sum_by-le-sum_by (λ t. due (operands_of p t) (progress s t)) (λ t. price (task_of p t)) (tasks_of p) (λ t. due-at_most (operands_of p t) (progress s t)) in
    let more = sum_by-map (λ t. price (task_of p t)) number (range_with_len 0 (length p.tasks)) in
    omega (arith, sum-numbered price no_task p.tasks, prices-at_most p.tasks)

-- ---- what is under way

-- the transfer of some worker, where one is under way
some-transfer : (s : State) → 0 < under_way s → (w : Worker) × (x : Transfer) × (transfer s w ≡ Some x)
some-transfer s some =
    let found = Any-from_list_any (λ (row : WorkerState). is_some row.transfer) s.workers (counted_some (λ (row : WorkerState). is_some row.transfer) s.workers some) in
    let w : Worker = record { 0 = found.0 } in
    let own = get_or_default s.workers found.0 idle_row found.1 found.2 ∙ found.3 in
    let x = by_option (transfer s w) (ap (λ (row : WorkerState). is_some row.transfer) own ∙ found.4) in
    (w, x.0, x.1)
  where
    by_option : (o : Option Transfer) → is_some o ≡ true → (x : Transfer) × (o ≡ Some x)
    by_option b h = search (arith, false≢true)

module _ (p : Program) (m : Machine) (proper : Proper p) (machine : IsMachineFor p m) where
  -- there are no more transfers under way than what copies may still cost: they may end, one after another
  transfers-within : (k : ℕ) (s : State) → Coherent p m s → under_way s ≡ k → under_way s ≤ cost s
  transfers-within zero s c e = omega (arith, e)
  transfers-within (suc k) s c e =
      let one = some-transfer s (omega (arith, e)) in
      let w = one.0 in
      let x = one.1 in
      let next : State = with_transfer (with_row s x.cell (arrived x.to (cell_state s x.cell))) w None in
      let fewer = moved-transfers p m s (sound p m proper machine s c) x.cell x.from x.to w next one.2 refl in
      let all = transfers-within k next (Ended_moves-keep_coherence p m s (sound p m proper machine s c) x.cell x.from x.to w one.2) (omega (arith, e, fewer)) in
      omega (arith, moved-cost p m s (sound p m proper machine s c) x.cell x.from x.to w next one.2 refl)

  -- ---- whole traces

  -- each event of a legal trace is paid for
  trace-pays : (trace : List Event) (s : State) → Coherent p m s → CanFollow p m s trace → length trace + cost (fold (after p m) s trace) + under_way s + paid p s ≤ cost s + under_way (fold (after p m) s trace) + paid p (fold (after p m) s trace)
  trace-pays [] s coherent follows = omega arith
  trace-pays (e ∷ trace) s coherent (may, rest) =
      let all = trace-pays trace (after p m s e) (Step-keeps_coherence p m proper machine s e coherent may) rest in
      omega (arith, Step-pays p m s (sound p m proper machine s coherent) e may)

  -- what they may still cost at the end is no less than the transfers under way
  pub legal-within_bound : (trace : List Event) → IsLegal p m trace → HasAtMostThreePerTaskAndFivePerOperand p trace
  legal-within_bound trace legal =
      let s = state_of p m trace in
      let all = transfers-within (under_way s) s (legal-coherent p m proper machine trace legal) refl in
      omega (arith, trace-pays trace (opening p m) (opening-coherent p m) legal, opening-costs p m, paid-at_most p s)
