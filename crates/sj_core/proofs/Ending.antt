-- The end of a kernel's run leaves a coherent state.
use Rattle.sj_core.proofs.Words.{[], after, after_chosen, after_end, after_task, ap, arith, Array, Arrays, arrays_after, AtNode, Bool, Cell, cell_state, cells_of, CellState, Claimed, Coherent, cond, Conflict, content, count_by, dims_of, Done, done_by, done_in, End, Equations, false, fresh_cells, has_cell, has_copy, has_written, HasRows, HasWorkers, held_at, held_in, HoldsContent, if◌then◌else◌, inl, inr, is_begun, is_being_written, is_coming_by, is_done, is_entry, is_home, is_leaving_by, is_task_of, is_valid, IsLawful, IsOwnedBy, IsSound, IsStateOf, Kernel, length, List, Machine, mark_in, nat_eq, nat_le, nat_lt, Node, node_of, OnDisk, order, OrderIsKept, Place, Program, Progress, progress, Proper, refl, result_in, results, Running, same_place, State, subst, sym, Task, tasks_of, TasksHaveCells, transfer, true, victims_of, worked_on, Worker, worker_of, worker_state, WorkerState, WritersOwn, writes, WritesAreCounted, written_cells, written_once_more, WrittenIsKept, zeros, zip, ◌&&◌, ◌+◌, ◌<◌, ◌∙◌, ◌≡◌, ◌≢◌, ◌≤◌, ◌⊎◌}
use Rattle.std.proofs.lemmas.{Bool.and_from, Bool.cases_Bool, Bool.cases_lt, Bool.cond_both, Bool.eq-eqb, Bool.false_from_ne_true, Bool.false≢true, Bool.le-leb, Bool.lt-ltb, Bool.ne_eqb, List.get_or_past, List.length-set}
use Rattle.sj_base.proofs.{Bools.tally, Lists.sum_by-agree, SameIds.workers_differ}
use Rattle.sj_core.proofs.{Advancing.Advances, Advancing.done-begun, Advancing.Ends-advances, Advancing.OrderIsKept-advances, Advancing.same_task, CellLists.times, Changing.Changes, Changing.Changes-coherent, Changing.Changes-writers, Changing.copies-left, Changing.HasBlocks-kept, Changing.HasRows-kept, Changing.HasWorkers-kept, Changing.IsLeftAlone, Changing.moves-kept, Changing.TransfersAreSound-spared, Dependencies.Proper-dependencies, Finding.both_pass, Finding.not_written-before, Finding.running-inside, Finding.second_fails, Folding.AddsTask, Folding.after_chosen-same, Folding.after_task-other, Folding.held-append, Folding.held_over, Folding.held_over-own, Folding.read-among_cells, Folding.results-same, Found.found-content, Phases.contributions-exchange, Placing.copy-row, Reading.cells-renewed_or, Reading.cells-touched, Reading.cells-untouched, Reading.idle_row, Reading.same_node, Reading.worker-other, Reading.worker-same, Replicas.same_worker-refl, Separation.separated, Sized.task-fits, Sized.task-makes_tiles, Sums.count-numbered, Sums.sum-plus, Swapping.put-last, TaskCells.written-among_cells, Updating.may-swap, Values.results-complete}

-- ---- where no task more is done

pub content-kept : (eq : Equations) (p : Program) (s s' : State) (t : Task) (old new : Progress) → Advances s s' t old new → is_done old ≡ false → is_done new ≡ false → (c : Cell) → content eq p s' c ≡ content eq p s c
content-kept eq p s s' t old new a was is c = search (arith, after_chosen-same, same_task, false≢true)

-- ---- an end

-- no task that is done and later conflicts with one that isn't done
pub later-free : (p : Program) (s : State) (t : Task) → OrderIsKept p s → done_in s t ≡ false → (u : Task) → t.0 < u.0 → done_in s u ≡ true → ¬ Conflict p t.0 u.0
later-free p s t kept undone u later done conflict = false≢true (sym undone ∙ kept.earlier u (done-begun (progress s u) done) t later conflict)

-- in the fold of a program a task with which no later chosen one conflicts may be put last, by the laws of a set
puts-last : (eq : Equations) (has : Kernel → Bool) (p : Program) → Proper p → IsLawful eq has p → (chosen chosen' : Task → Bool) (by by' : Task → Worker) (t : Task) (w : Worker) → t.0 < length p.tasks → w.0 < p.workers → ((u : Task) → (by u).0 < p.workers) → AddsTask chosen chosen' by by' t w → ((u : Task) → t.0 < u.0 → chosen u ≡ true → ¬ Conflict p t.0 u.0) →
    (c : Cell) → held_in p (after_chosen eq p chosen' by' (length p.tasks)) c ≡ held_in p (after_task eq p w t (after_chosen eq p chosen by (length p.tasks))) c
puts-last eq has p proper lawful chosen chosen' by by' t w inside w_in staffed adds free =
    put-last eq has p proper lawful chosen chosen' by by' t w staffed w_in adds (length p.tasks) inside (omega arith) (λ u later within done.
    may-swap eq has p proper lawful t u inside within w (by u) w_in (staffed u) (free u later done) (contributions-exchange p proper eq has lawful t u inside within w (by u) w_in (staffed u) (free u later done) later))

-- the workers by which tasks are done are the program's; where a task isn't begun the word gives the first one
pub all-staffed : (p : Program) (s : State) → 0 < p.workers → HasWorkers p s → (u : Task) → (done_by s u).0 < p.workers
all-staffed p s some staff u = search arith

module _ (eq : Equations) (has : Kernel → Bool) (p : Program) (m : Machine) (proper : Proper p) (lawful : IsLawful eq has p) (s : State) (sound : Coherent p m s) (t : Task) (w : Worker) (s' : State) (ended : progress s t ≡ Running w) (leaves : s' ≡ after_end p m s t w) where
  pub end-inside : t.0 < length p.tasks
  end-inside = running-inside p m s t w sound.state.rows ended

  staffed : w.0 < p.workers
  staffed = subst (λ (x : Progress). (worker_of x).0 < p.workers) ended (sound.state.staff.staffed t (ap is_begun ended))

  -- the ended task's results come over the contents before, as if no done task came after it
  end-content : (c : Cell) → content eq p s' c ≡ held_in p (after_task eq p w t (after_chosen eq p (done_in s) (done_by s) (length p.tasks))) c
  end-content c =
      let a = Ends-advances p m s t w s' ended leaves in
      let adds : AddsTask (done_in s) (done_in s') (done_by s) (done_by s') t w = record { absent = ap is_done a.was; present = ap is_done a.is; worker = ap worker_of a.is; others = λ u d. ap is_done (a.others u d); workers = λ u d. ap worker_of (a.others u d) } in
      puts-last eq has p proper lawful (done_in s) (done_in s') (done_by s) (done_by s') t w end-inside staffed (all-staffed p s (omega (arith, staffed)) sound.state.staff) adds (later-free p s t sound.order (ap is_done a.was)) c

  -- what the task doesn't write keeps its content
  pub end-content-other : (c : Cell) → has_cell (written_cells p t w) c ≡ false → content eq p s' c ≡ content eq p s c
  end-content-other c spared = end-content c ∙ after_task-other eq p w t (after_chosen eq p (done_in s) (done_by s) (length p.tasks)) c spared

  module _ (A : Arrays) (holds : HoldsContent eq p m s A) where
    -- the task works on the arrays of its worker's node as on the contents of its cells
    end-results : results eq p t w (content eq p s) ≡ results eq p t w (held_at A (AtNode (node_of m w)))
    end-results = results-same eq p t w w (content eq p s) (held_at A (AtNode (node_of m w))) (λ a h reads.
        (let mine : is_task_of w (progress s t) ≡ true = ap (is_task_of w) ended ∙ same_worker-refl w in
        let there = sound.cells.running t w (worked_on p w a) ended (read-among_cells p t w a h reads) in
        sym (found-content p proper eq m s sound A holds t w mine a h reads there)))

    -- what it writes has its result as content
    pub end-content-own : (c : Cell) → has_cell (written_cells p t w) c ≡ true → content eq p s' c ≡ result_in eq p t w (held_at A (AtNode (node_of m w))) c
    end-content-own c writes =
        let cs = written_cells p t w in
        let arrays = results eq p t w (held_at A (AtNode (node_of m w))) in
        let complete = results-complete eq p t w (held_at A (AtNode (node_of m w))) (task-fits p proper t end-inside) (task-makes_tiles eq has p proper lawful t end-inside) in
        end-content c
        ∙ held-append p (zip cs (results eq p t w (content eq p s))) (after_chosen eq p (done_in s) (done_by s) (length p.tasks)) c
        ∙ ap (λ (xs : List Array). held_over (zip cs xs) c (content eq p s c)) end-results
        ∙ held_over-own cs arrays c (content eq p s c) (zeros (dims_of p c)) writes (omega (arith, complete))

-- ---- which tasks have written a cell

written-other : (p : Program) (s s' : State) (c : Cell) (t u : Task) (old new : Progress) → Advances s s' t old new → u ≢ t → has_written p s' c u ≡ has_written p s c u
written-other p s s' c t u old new a d = ap (λ (x : Progress). is_done x && has_cell (written_cells p u (worker_of x)) c) (a.others u d)

pub written-undone : (p : Program) (s s' : State) (c : Cell) (t u : Task) (old new : Progress) → Advances s s' t old new → is_done old ≡ false → is_done new ≡ false → has_written p s' c u ≡ has_written p s c u
written-undone p s s' c t u old new a before after = search (arith, same_task, written-other)

pub counted-same : (p : Program) (s s' : State) (c : Cell) → ((u : Task) → has_written p s' c u ≡ has_written p s c u) → count_by (has_written p s' c) (tasks_of p) ≡ count_by (has_written p s c) (tasks_of p)
counted-same p s s' c same = sum_by-agree (λ u. tally (has_written p s' c u)) (λ u. tally (has_written p s c u)) (λ u. ap tally (same u)) (tasks_of p)

-- an end keeps that a cell's write count is the number of done tasks that wrote it
pub Ends-keeps_counts : (p : Program) (m : Machine) (s : State) (t : Task) (w : Worker) (s' : State) → IsStateOf p m s → TasksHaveCells p m s → progress s t ≡ Running w → s' ≡ after_end p m s t w → WritesAreCounted p s → WritesAreCounted p s'
Ends-keeps_counts p m s t w s' state cells ended leaves counts = record { counted = λ c. by_cases c (has_cell (written_cells p t w) c) refl }
  where
    undone : (c : Cell) → has_written p s c t ≡ false
    undone c = ap (λ (x : Progress). is_done x && has_cell (written_cells p t (worker_of x)) c) ended

    now : (c : Cell) → has_written p s' c t ≡ has_cell (written_cells p t w) c
    now c = ap (λ (x : Progress). is_done x && has_cell (written_cells p t (worker_of x)) c) (Ends-advances p m s t w s' ended leaves).is

    by_cases : (c : Cell) (b : Bool) → has_cell (written_cells p t w) c ≡ b → writes s' c ≡ count_by (has_written p s' c) (tasks_of p)
    by_cases c false e =
        let same : writes s' c ≡ writes s c = ap (λ (z : State). writes z c) leaves ∙ ap (λ (r : CellState). r.writes) (cells-untouched s (has_cell (written_cells p t w)) (λ d row. written_once_more row) c e) in
        same ∙ counts.counted c ∙ sym (counted-same p s s' c (λ u. (grind (arith, same_task u t, now c, e, undone c, written-other p s s' c t u (Running w) (Done w) (Ends-advances p m s t w s' ended leaves)))))
    by_cases c true e =
        let there = cells.running t w c ended (written-among_cells p t w c e) in
        let more : writes s' c ≡ writes s c + 1 = ap (λ (z : State). writes z c) leaves ∙ ap (λ (r : CellState). r.writes) (cells-touched s (has_cell (written_cells p t w)) (λ d row. written_once_more row) c (copy-row p m s c (AtNode (node_of m w)) there) e) in
        let is_t : Task → Bool = λ u. nat_eq u.0 t.0 in
        let each : (u : Task) → tally (has_written p s' c u) ≡ tally (has_written p s c u) + tally (is_t u) = λ u. elim (same_task u t) [
          | inl f ↦ grind (arith, f, now c, e, undone c, eq-eqb u.0 t.0)
          | inr d ↦ grind (arith, written-other p s s' c t u (Running w) (Done w) (Ends-advances p m s t w s' ended leaves) d, ne_eqb u.0 t.0 (λ g. d (ap (λ n. let k : Task = record { 0 = n } in k) g)))
        ] in
        let all = count-numbered (λ n. record { 0 = n }) is_t t.0 (λ n. refl) 0 (length p.tasks) ∙ ap tally (and_from (nat_le 0 t.0) (nat_lt t.0 (0 + length p.tasks)) (le-leb 0 t.0 (omega arith)) (lt-ltb t.0 (0 + length p.tasks) (omega (arith, running-inside p m s t w state.rows ended)))) in
        let one = sum-plus (λ u. tally (has_written p s' c u)) (λ u. tally (has_written p s c u)) (λ u. tally (is_t u)) each (tasks_of p) in
        omega (arith, counts.counted c)

-- a cell that a worker owns has its one copy on the worker's node
owned-here : (p : Program) (m : Machine) (s : State) (c : Cell) (w : Worker) → IsOwnedBy m s c w → (q : Place) → has_copy p m s c q ≡ true → same_place q (AtNode (node_of m w)) ≡ true
owned-here p m s c w own (AtNode k) there = elim (same_node k (node_of m w)) [
  | inl here ↦ eq-eqb k.0 (node_of m w).0 (ap (λ (n : Node). n.0) here)
  | inr away ↦ absurd (false≢true (sym (ap is_valid (own.only k away)) ∙ there))
]
owned-here p m s c w own (OnDisk d) there = absurd (false≢true (sym (ap (λ b. b && is_home p m c d) own.unstored) ∙ there))

-- ---- the end of a kernel's run leaves a coherent state

module _ (p : Program) (m : Machine) (s : State) (t : Task) (w : Worker) (s' : State) (ended : progress s t ≡ Running w) (leaves : s' ≡ after_end p m s t w) where
  -- what the task doesn't write stays as it is
  pub end-spared_row : (c : Cell) → has_cell (written_cells p t w) c ≡ false → cell_state s' c ≡ cell_state s c
  end-spared_row c spared = ap (λ (z : State). cell_state z c) leaves ∙ cells-untouched s (has_cell (written_cells p t w)) (λ d row. written_once_more row) c spared

  -- no mark changes, and no block
  pub end-alone : (c : Cell) → IsLeftAlone s s' c
  end-alone c = record { marks = λ k. same (λ row. mark_in row k) (λ row. refl); disk = same (λ row. row.on_disk) (λ row. refl) }
    where
      same : {X : Type 0} (f : CellState → X) → ((row : CellState) → f (written_once_more row) ≡ f row) → f (cell_state s' c) ≡ f (cell_state s c)
      same f e =
          ap (λ (z : State). f (cell_state z c)) leaves
          ∙ elim (cells-renewed_or s (λ d row. if has_cell (written_cells p t w) d then written_once_more row else row) c) [
            | inl row ↦ ap f row ∙ cond_both (has_cell (written_cells p t w) c) (written_once_more (cell_state s c)) (cell_state s c) (λ r. f r ≡ f (cell_state s c)) (λ b. e (cell_state s c)) (λ b. refl)
            | inr none ↦ ap f (none.1 ∙ sym none.0)
          ]

  -- ---- the rows of the workers

  abbrev pub end-row : WorkerState
  end-row = record { pins = []; scratch = 0; victims = victims_of s w; transfer = transfer s w }

  pub end-other_worker : (v : Worker) → v ≢ w → worker_state s' v ≡ worker_state s v
  end-other_worker v d = ap (λ (z : State). worker_state z v) leaves ∙ worker-other s w v end-row d

  -- the worker keeps its victims as chosen and its transfer, and pins and holds nothing
  pub end-own_worker : (worker_state s' w ≡ end-row) ⊎ ((worker_state s w ≡ idle_row) × (worker_state s' w ≡ idle_row))
  end-own_worker = search (arith, cases_lt, worker-same, end-row, get_or_past, idle_row, length-set)

  end-kept : {X : Type 0} (f : WorkerState → X) → f end-row ≡ f (worker_state s w) → (v : Worker) → f (worker_state s' v) ≡ f (worker_state s v)
  end-kept f same v = search (arith, workers_differ, end-other_worker, end-own_worker)

  pub end-transfer : (v : Worker) → transfer s' v ≡ transfer s v
  end-transfer = end-kept (λ row. row.transfer) refl

module _ (p : Program) (m : Machine) (s : State) (h : IsSound p m s) (t : Task) (w : Worker) (s' : State) (ended : progress s t ≡ Running w) (leaves : s' ≡ after_end p m s t w) where
  advance : Advances s s' t (Running w) (Done w)
  advance = Ends-advances p m s t w s' ended leaves

  mine : is_task_of w (progress s t) ≡ true
  mine = ap (is_task_of w) ended ∙ same_worker-refl w

  owned : (c : Cell) → has_cell (written_cells p t w) c ≡ true → IsOwnedBy m s c w
  owned c written = h.coherent.writers.owned t w c ended written

  alone : (c : Cell) → IsLeftAlone s s' c
  alone = end-alone p m s t w s' ended leaves

  -- another task's cells aren't written
  pub end-spares : (u : Task) (v : Worker) (c : Cell) → u ≢ t → is_task_of v (progress s u) ≡ true → has_cell (cells_of p u v) c ≡ true → has_cell (written_cells p t w) c ≡ false
  end-spares u v c d has cell = false_from_ne_true (has_cell (written_cells p t w) c) (separated p m h.proper.cells (Proper-dependencies p h.proper) s h.coherent.state h.coherent.workers h.coherent.order u t v w c d has mine cell)

  -- ---- the state's own form

  end-rows : HasRows p m s'
  end-rows = HasRows-kept p m s s' _ (ap (λ (z : State). z.cells) leaves)
      (λ i row. cond_both (has_cell (written_cells p t w) (record { 0 = i })) _ row (λ (r : CellState). length r.marks ≡ length row.marks) (λ b. refl) (λ b. refl))
      (ap (λ (z : State). length z.tasks) leaves ∙ length-set s.tasks t.0 (Done w)) (ap (λ (z : State). length z.orders) leaves)
      (ap (λ (z : State). length z.workers) leaves ∙ length-set s.workers w.0 _) h.coherent.state.rows

  end-state : IsStateOf p m s'
  end-state = record {
    rows = end-rows;
    entries = record {
      entries = λ k c. ap (λ (z : State). has_cell (order z k) c) leaves ∙ h.coherent.state.entries.entries k c ∙ sym (ap is_entry ((alone c).marks k));
      once = λ k c. subst (λ (z : State). times (order z k) c ≤ 1) (sym leaves) (h.coherent.state.entries.once k c);
    };
    blocks = HasBlocks-kept p m s s' (λ c there. sym (alone c).disk ∙ there) (end-transfer p m s t w s' ended leaves) h.coherent.state.blocks;
    staff = HasWorkers-kept p s s' t (Running w) (Done w) advance (subst (λ (x : Progress). (worker_of x).0 < p.workers) ended (h.coherent.state.staff.staffed t (ap is_begun ended))) h.coherent.state.staff;
  }

  -- ---- the change

  pub end-change : Changes p m s s' t (Running w) (Done w) w
  end-change = record {
    advance = advance;
    mine = same_worker-refl w;
    still_mine = λ v has. absurd (false≢true has);
    state = end-state;
    rows = λ v. elim (workers_differ v w) [
      | inr d ↦ (let same = end-other_worker p m s t w s' ended leaves v d in inl (ap (λ (row : WorkerState). row.pins) same, ap (λ (row : WorkerState). row.scratch) same, λ e. absurd (d e)))
      | inl e ↦ inr (e, grind (arith, e, end-own_worker p m s t w s' ended leaves), grind (arith, e, end-own_worker p m s t w s' ended leaves), refl)
    ];
    victims = end-kept p m s t w s' ended leaves (λ row. row.victims) refl;
    entries = λ c k now. sym (ap is_entry ((alone c).marks k)) ∙ now;
    leaves = λ v c k leaving. sym (ap (is_leaving_by v) ((alone c).marks k)) ∙ leaving;
    comes = λ v c k coming. sym (ap (is_coming_by v) ((alone c).marks k)) ∙ coming;
    still_comes = λ v c d k leaving coming. ap (is_coming_by v) ((alone c).marks k) ∙ coming;
    moves_on = λ v x under_way. h.coherent.workers.moves_for_claim v x (sym (end-transfer p m s t w s' ended leaves v) ∙ under_way);
    claims_on = λ e. absurd (let f : Running w ≡ Claimed w = e in cc);
    stays = λ u v c d has cell. (let same = (alone c).marks (node_of m v) in (λ was. ap is_entry same ∙ was, λ was. ap is_valid same ∙ was));
    claimed = λ c e has. absurd (let f : Done w ≡ Claimed w = e in cc);
    running = λ c e has. absurd (let f : Done w ≡ Running w = e in cc);
    transfers = TransfersAreSound-spared p m s s' (λ c. false) (λ c e. alone c) (λ v c k leaving. sym (ap (is_leaving_by v) ((alone c).marks k)) ∙ leaving) (end-transfer p m s t w s' ended leaves) (λ v x under_way. refl) h.coherent.transfers;
    order = OrderIsKept-advances p s s' t (Running w) (Done w) advance refl refl (same_worker-refl w) refl h.coherent.order;
    counts = Ends-keeps_counts p m s t w s' h.coherent.state h.coherent.cells ended leaves h.coherent.counts;
  }

  -- ---- what is written

  end-rested : (c : Cell) → has_cell (written_cells p t w) c ≡ false → is_being_written p s' c ≡ false → is_being_written p s c ≡ false
  end-rested c spared resting = not_written-before p m s s' t (Running w) (Done w) c h.coherent.state.rows advance resting (λ v e. (let is : w ≡ v = cc in ap (λ (x : Worker). has_cell (written_cells p t x) c) (sym is) ∙ spared))

  end-writers : WritersOwn p m s'
  end-writers = Changes-writers p m s h s' t (Running w) (Done w) w end-change
      (λ u v c d runs written. (alone c, λ x. moves-kept s s' x c (end-transfer p m s t w s' ended leaves x) ∙ (h.coherent.writers.owned u v c runs written).unmoved x))
      (λ c e. absurd (let f : Done w ≡ Running w = e in cc))

  spared-writes : (c : Cell) → has_cell (written_cells p t w) c ≡ false → writes s' c ≡ writes s c
  spared-writes c spared = ap (λ (r : CellState). r.writes) (end-spared_row p m s t w s' ended leaves c spared)

  end-copies : WrittenIsKept p m s'
  end-copies = record {
    somewhere = λ c some resting. elim (cases_Bool (has_cell (written_cells p t w) c)) [
      | inl written ↦ (AtNode (node_of m w), ap is_valid ((alone c).marks (node_of m w) ∙ (owned c written).valid))
      | inr spared ↦
          let q = h.coherent.copies.somewhere c (omega (arith, spared-writes c spared, some)) (end-rested c spared resting) in
          (q.0, copies-left p m s s' c (alone c) q.0 ∙ q.1)
    ];
  }

  pub Ends-coherent : Coherent p m s'
  Ends-coherent = Changes-coherent p m s h s' t (Running w) (Done w) w end-change end-writers end-copies

  -- ---- contents, by the laws of the program's set

  module _ (eq : Equations) (has : Kernel → Bool) (lawful : IsLawful eq has p) (A : Arrays) (holds : HoldsContent eq p m s A) where
    abbrev ended_with : Arrays
    ended_with = arrays_after eq p m A (End t w)

    -- what the task doesn't write keeps its array and its content
    same_array : (c : Cell) (q : Place) → has_cell (written_cells p t w) c ≡ false → ended_with c q ≡ A c q
    same_array c q spared = second_fails (same_place q (AtNode (node_of m w))) (has_cell (written_cells p t w) c) (result_in eq p t w (held_at A (AtNode (node_of m w))) c) (A c q) spared

    spared-content : (c : Cell) → has_cell (written_cells p t w) c ≡ false → content eq p s' c ≡ content eq p s c
    spared-content c spared = end-content-other eq has p m h.proper lawful s h.coherent t w s' ended leaves c spared

    -- what it writes has its result as content where it is valid, which is on its worker's node
    own_array : (c : Cell) (q : Place) → has_cell (written_cells p t w) c ≡ true → has_copy p m s c q ≡ true → ended_with c q ≡ content eq p s' c
    own_array c q written valid =
        both_pass (same_place q (AtNode (node_of m w))) (has_cell (written_cells p t w) c) (result_in eq p t w (held_at A (AtNode (node_of m w))) c) (A c q) (owned-here p m s c w (owned c written) q valid) written
        ∙ sym (end-content-own eq has p m h.proper lawful s h.coherent t w s' ended leaves A holds c written)

    pub Ends-content : HoldsContent eq p m s' ended_with
    Ends-content = record {
      begun = λ u v c runs written.
          (let other : u ≢ t = λ e. (let clash : Done w ≡ Running v = sym advance.is ∙ ap (λ (k : Task). progress s' k) (sym e) ∙ runs in cc) in
          let was : progress s u ≡ Running v = sym (advance.others u other) ∙ runs in
          let spared = end-spares u v c other (ap (is_task_of v) was ∙ same_worker-refl v) (written-among_cells p u v c written) in
          same_array c (AtNode (node_of m v)) spared ∙ holds.begun u v c was written ∙ ap (λ (a : Array). cond (has_cell (fresh_cells p u v) c) (zeros (dims_of p c)) a) (sym (spared-content c spared)));
      alike = λ c q some resting valid. (let was : has_copy p m s c q ≡ true = sym (copies-left p m s s' c (alone c) q) ∙ valid in elim (cases_Bool (has_cell (written_cells p t w) c)) [
        | inl written ↦ own_array c q written was
        | inr spared ↦ same_array c q spared ∙ holds.alike c q (omega (arith, spared-writes c spared, some)) (end-rested c spared resting) was ∙ sym (spared-content c spared)
      ]);
    }
