-- A step in which a claimed or running task goes on, or a copy moves: nothing more leaves or comes. What it owes, and that it
-- keeps what tasks, pins, bytes and workers ask of a coherent state.
use Rattle.sj_core.proofs.Words.{[], All, ap, arith, AtNode, Bool, Cell, cell_state, cells_of, CellState, Claimed, Coherent, DiskNo, false, get_or, has_cell, has_copy, HasBlocks, HasRows, HasWorkers, inl, inr, is_claimed_by, is_coming_by, is_entry, is_home, is_leaving, is_leaving_by, is_task_of, is_valid, IsOwnedBy, IsSound, IsStateOf, IsTransferTo, length, List, Machine, mark, mark_in, moves, Node, node_of, NodesSuffice, None, on_disk, OnDisk, Option, order, OrderIsKept, pins, PinsHold, Place, Program, Progress, progress, refl, renewed, Running, same_cell, scratch, Some, State, subst, sym, Task, TasksHaveCells, Transfer, transfer, TransfersAreSound, true, victims_of, Worker, worker_of, WorkersAreSound, WritersOwn, WritesAreCounted, written_cells, WrittenIsKept, ℕ, ◌&&◌, ◌<◌, ◌∙◌, ◌≡◌, ◌≢◌, ◌≤◌, ◌⊎◌}
use Rattle.std.proofs.lemmas.Bool.{false_from_ne_true, false≢true}
use Rattle.sj_core.proofs.{Advancing.Advances, Advancing.claimed_by-is, Advancing.claimed_by-task_of, Advancing.same_task, Advancing.task_of-worker, Bytes.fewer-entries, Bytes.fewer-leaving, Replicas.leaving-by_some, Replicas.leaving_by-leaves, Replicas.same_worker-refl, Tables.length-renewed, Tables.renewed-at}

-- ---- parts

-- what holds of each row of a table holds where each row was renewed so as to keep it
pub All-renewed : {X : Type 0} (P : X → Type 0) (f : ℕ → X → X) (xs : List X) → ((i : ℕ) (x : X) → P x → P (f i x)) → All P xs → All P (renewed f xs)
All-renewed P f xs keeps all i d inside = search (arith, length-renewed, renewed-at, get_or)

-- where a task advances to a worker of the program, each begun task still has one
pub HasWorkers-kept : (p : Program) (s s' : State) (t : Task) (old new : Progress) → Advances s s' t old new → (worker_of new).0 < p.workers → HasWorkers p s → HasWorkers p s'
HasWorkers-kept p s s' t old new a staffed before = search (arith, same_task)

-- where no block became a copy, and transfers are as they were, blocks are where they ought to be
pub HasBlocks-kept : (p : Program) (m : Machine) (s s' : State) → ((c : Cell) → on_disk s' c ≡ true → on_disk s c ≡ true) → ((v : Worker) → transfer s' v ≡ transfer s v) → HasBlocks p m s → HasBlocks p m s'
HasBlocks-kept p m s s' stored moves before = record {
  home = λ c there. before.home c (stored c there);
  aimed = λ v x d under_way e. before.aimed v x d (sym (moves v) ∙ under_way) e;
}

-- where each row of the cells was renewed so as to keep its nodes, and the other tables are as long as before, the tables fit
pub HasRows-kept : (p : Program) (m : Machine) (s s' : State) (f : ℕ → CellState → CellState) → s'.cells ≡ renewed f s.cells → ((i : ℕ) (row : CellState) → length (f i row).marks ≡ length row.marks) →
    length s'.tasks ≡ length s.tasks → length s'.orders ≡ length s.orders → length s'.workers ≡ length s.workers → HasRows p m s → HasRows p m s'
HasRows-kept p m s s' f cells rows tasks orders workers before = record {
  tasks = tasks ∙ before.tasks;
  cells = ap length cells ∙ length-renewed f s.cells ∙ before.cells;
  orders = orders ∙ before.orders;
  workers = workers ∙ before.workers;
  marks = subst (All (λ row. length row.marks ≡ length m.nodes)) (sym cells) (All-renewed (λ row. length row.marks ≡ length m.nodes) f s.cells (λ i row e. rows i row ∙ e) before.marks);
}

-- the cell has at each node the mark that it had, and on its disk what it had
pub record IsLeftAlone (s s' : State) (c : Cell) : Type 0 where
  pub marks : (k : Node) → mark s' c k ≡ mark s c k
  pub disk : on_disk s' c ≡ on_disk s c

-- so has one whose row is as it was
pub left_alone : (s s' : State) (c : Cell) → cell_state s' c ≡ cell_state s c → IsLeftAlone s s' c
left_alone s s' c same = record { marks = λ k. ap (λ (row : CellState). mark_in row k) same; disk = ap (λ (row : CellState). row.on_disk) same }

pub copies-left : (p : Program) (m : Machine) (s s' : State) (c : Cell) → IsLeftAlone s s' c → (q : Place) → has_copy p m s' c q ≡ has_copy p m s c q
copies-left p m s s' c alone (AtNode n) = ap is_valid (alone.marks n)
copies-left p m s s' c alone (OnDisk d) = ap (λ b. b && is_home p m c d) alone.disk

-- a worker with the same transfer moves the same cell
pub moves-kept : (s s' : State) (v : Worker) (c : Cell) → transfer s' v ≡ transfer s v → moves s' v c ≡ moves s v c
moves-kept s s' v c same = ap (λ (o : Option Transfer). elim o as (λ _. Bool) [ None ↦ false | Some x ↦ same_cell x.cell c ]) same

-- ---- the step

-- what a step of the task t of the worker w owes, in which the task goes from old to new
pub record Changes (p : Program) (m : Machine) (s s' : State) (t : Task) (old new : Progress) (w : Worker) : Type 0 where
  pub advance : Advances s s' t old new
  pub mine : is_task_of w old ≡ true
  pub still_mine : (v : Worker) → is_task_of v new ≡ true → v ≡ w
  pub state : IsStateOf p m s'
  -- a worker keeps its pins and scratch, or it was w, which has no task any more
  pub rows : (v : Worker) → ((pins s' v ≡ pins s v) × (scratch s' v ≡ scratch s v) × (v ≡ w → is_task_of w new ≡ true)) ⊎ ((v ≡ w) × (pins s' v ≡ []) × (scratch s' v ≡ 0) × (is_task_of w new ≡ false))
  pub victims : (v : Worker) → victims_of s' v ≡ victims_of s v
  -- no more entries; nothing more leaves or comes; w's claim has what it had only if it is still a claim
  pub entries : (c : Cell) (k : Node) → is_entry (mark s' c k) ≡ true → is_entry (mark s c k) ≡ true
  pub leaves : (v : Worker) (c : Cell) (k : Node) → is_leaving_by v (mark s' c k) ≡ true → is_leaving_by v (mark s c k) ≡ true
  pub comes : (v : Worker) (c : Cell) (k : Node) → is_coming_by v (mark s' c k) ≡ true → is_coming_by v (mark s c k) ≡ true
  pub still_comes : (v : Worker) (c d : Cell) (k : Node) → is_leaving_by v (mark s' d k) ≡ true → is_coming_by v (mark s c k) ≡ true → is_coming_by v (mark s' c k) ≡ true
  pub moves_on : (v : Worker) (x : Transfer) → transfer s' v ≡ Some x → (u : Task) × (is_claimed_by v (progress s u) ≡ true)
  pub claims_on : old ≡ Claimed w → (((c : Cell) (k : Node) → is_leaving_by w (mark s' c k) ≡ false) × ((c : Cell) (k : Node) → is_coming_by w (mark s' c k) ≡ false) × ((x : Transfer) → transfer s' w ≡ Some x → ⊥)) ⊎ (new ≡ Claimed w)
  -- other tasks' cells stay, its own are there
  pub stays : (u : Task) (v : Worker) (c : Cell) → u ≢ t → is_task_of v (progress s u) ≡ true → has_cell (cells_of p u v) c ≡ true → (is_entry (mark s c (node_of m v)) ≡ true → is_entry (mark s' c (node_of m v)) ≡ true) × (is_valid (mark s c (node_of m v)) ≡ true → is_valid (mark s' c (node_of m v)) ≡ true)
  pub claimed : (c : Cell) → new ≡ Claimed w → has_cell (cells_of p t w) c ≡ true → is_entry (mark s' c (node_of m w)) ≡ true
  pub running : (c : Cell) → new ≡ Running w → has_cell (cells_of p t w) c ≡ true → is_valid (mark s' c (node_of m w)) ≡ true
  pub transfers : TransfersAreSound p m s'
  pub order : OrderIsKept p s'
  pub counts : WritesAreCounted p s'

module _ (p : Program) (m : Machine) (s : State) (h : IsSound p m s) (s' : State) (t : Task) (old new : Progress) (w : Worker) (change : Changes p m s s' t old new w) where
  -- a task of a worker after the step was its task before; one of before still is, but for t
  was_task : (v : Worker) (u : Task) → is_task_of v (progress s' u) ≡ true → is_task_of v (progress s u) ≡ true
  was_task v u has = search (arith, same_task)

  its_worker : (v : Worker) → is_task_of v (progress s t) ≡ true → v ≡ w
  its_worker v has = sym (task_of-worker v (progress s t) has) ∙ task_of-worker w (progress s t) (ap (is_task_of w) change.advance.was ∙ change.mine)

  others-task : (u : Task) (v : Worker) → u ≢ t → is_task_of v (progress s u) ≡ true → v ≢ w
  others-task u v d has e = d (h.coherent.workers.one_task u t w (ap (λ (x : Worker). is_task_of x (progress s u)) (sym e) ∙ has) (ap (is_task_of w) change.advance.was ∙ change.mine))

  -- pins are where they were
  was_pinned : (v : Worker) (c : Cell) → has_cell (pins s' v) c ≡ true → has_cell (pins s v) c ≡ true
  was_pinned v c pin = search (arith, false≢true)

  -- and stay there while the worker has a task
  still_pinned : (v : Worker) (u : Task) (c : Cell) → is_task_of v (progress s' u) ≡ true → has_cell (pins s v) c ≡ true → has_cell (pins s' v) c ≡ true
  still_pinned v u c has pin = search (arith, same_task, others-task, was_task, false≢true)

  -- a claim is still one, where w's that goes on isn't one that still has something to do
  still_claims : (v : Worker) (u : Task) → is_claimed_by v (progress s u) ≡ true → (v ≡ w → old ≡ Claimed w → new ≡ Claimed w) → is_claimed_by v (progress s' u) ≡ true
  still_claims v u claims on =
      search (arith, same_task, its_worker, claimed_by-task_of, claimed_by-is, same_worker-refl)

  leaving_on : (c : Cell) (k : Node) → is_leaving_by w (mark s' c k) ≡ true → old ≡ Claimed w → new ≡ Claimed w
  leaving_on c k leaving claimed = elim (change.claims_on claimed) [ inr on ↦ on | inl (none, come, move) ↦ absurd (false≢true (sym (none c k) ∙ leaving)) ]

  coming_on : (c : Cell) (k : Node) → is_coming_by w (mark s' c k) ≡ true → old ≡ Claimed w → new ≡ Claimed w
  coming_on c k coming claimed = elim (change.claims_on claimed) [ inr on ↦ on | inl (leave, none, move) ↦ absurd (false≢true (sym (none c k) ∙ coming)) ]

  pub Changes-cells : TasksHaveCells p m s'
  Changes-cells = search (arith, same_task, same_worker-refl, still_pinned, was_task)

  pub Changes-pins : PinsHold p m s'
  Changes-pins =
      let before = h.coherent.pins in
      record {
        stays = λ v c pin. false_from_ne_true (is_leaving (mark s' c (node_of m v))) (λ leaves.
            (let by = leaving-by_some (mark s' c (node_of m v)) leaves in
            false≢true (sym (before.stays v c (was_pinned v c pin)) ∙ leaving_by-leaves by.0 (mark s c (node_of m v)) (change.leaves by.0 c (node_of m v) by.1))));
        own = λ v c pin. (let held = before.own v c (was_pinned v c pin) in record {
          task = held.task;
          cell = held.cell;
          has = grind (arith, same_task held.task t, change.advance, change.rows v, its_worker v, held.has);
        });
        coming_here = λ v c k coming. before.coming_here v c k (change.comes v c k coming);
        coming_claimed = λ v c k coming.
            (let claimed = before.coming_claimed v c k (change.comes v c k coming) in
            record { task = claimed.task; cell = claimed.cell; claimed = claimed_by-is v (progress s' claimed.task) (still_claims v claimed.task (ap (is_claimed_by v) claimed.claimed ∙ same_worker-refl v) (λ is. coming_on c k (ap (λ (x : Worker). is_coming_by x (mark s' c k)) (sym is) ∙ coming))) });
        coming_pinned = λ v c k coming.
            (search (arith, still_claims, same_worker-refl, coming_on, still_pinned, claimed_by-task_of));
      }

  pub Changes-bytes : NodesSuffice p m s'
  Changes-bytes =
      let fewer : (k : Node) (c : Cell) → has_cell (order s' k) c ≡ true → has_cell (order s k) c ≡ true = λ k c has. h.coherent.state.entries.entries k c ∙ change.entries c k (sym (change.state.entries.entries k c) ∙ has) in
      let scratches : (v : Worker) → scratch s' v ≤ scratch s v = λ v. elim (change.rows v) [ inl (pins, same, has) ↦ omega arith | inr (e, pins, none, has) ↦ omega arith ] in
      record {
        entries = λ k. (let less = fewer-entries p m s s' h.coherent.state change.state k (fewer k) (λ v here. scratches v) in let enough = h.coherent.bytes.entries k in omega arith);
        leaving = λ k v d leaving. (let less = fewer-leaving p m s s' h.coherent.state change.state k (fewer k) (λ v here. scratches v) v (λ c. change.leaves v c k) (λ c. change.still_comes v c d k leaving) in let enough = h.coherent.bytes.leaving k v d (change.leaves v d k leaving) in omega arith);
      }

  pub Changes-workers : WorkersAreSound p m s'
  Changes-workers =
      let before = h.coherent.workers in
      record {
        evicted = λ v c k leaving.
            (let was = before.evicted v c k (change.leaves v c k leaving) in
            record { here = was.here; claims = (was.claims.0, still_claims v was.claims.0 was.claims.1 (λ is. leaving_on c k (ap (λ (x : Worker). is_leaving_by x (mark s' c k)) (sym is) ∙ leaving))); victim = ap (λ (cs : List Cell). has_cell cs c) (change.victims v) ∙ was.victim });
        one_evicts = λ u v c d k lu lv. before.one_evicts u v c d k (change.leaves u c k lu) (change.leaves v d k lv);
        one_task = λ u v x hu hv. before.one_task u v x (was_task x u hu) (was_task x v hv);
        moves_for_claim = λ v x under_way.
            (let was = change.moves_on v x under_way in
            (was.0, still_claims v was.0 was.1 (λ is claimed. elim (change.claims_on claimed) [ inr on ↦ on | inl (leave, come, none) ↦ absurd (none x (ap (transfer s') (sym is) ∙ under_way)) ])));
        scratch = λ v. record {
          own = λ u has. elim (change.rows v) [
            | inl (pins, same, k) ↦ same ∙ (before.scratch v).own u (was_task v u has)
            | inr (e, pins, none, idle) ↦ (search (arith, same_task, others-task, was_task, false≢true))
          ];
          none = λ idle. elim (change.rows v) [
            | inr (e, pins, none, k) ↦ none
            | inl (pins, same, has) ↦ same ∙ (before.scratch v).none (λ u. false_from_ne_true (is_task_of v (progress s u)) (λ mine. (grind (arith, same_task u t, change.advance, its_worker v, has, idle u, idle t))))
          ];
        };
      }

  -- a writer's cells are its own, where another's are left alone, and t's are its own
  pub Changes-writers :
      ((u : Task) (v : Worker) (c : Cell) → u ≢ t → progress s u ≡ Running v → has_cell (written_cells p u v) c ≡ true → IsLeftAlone s s' c × ((x : Worker) → moves s' x c ≡ false)) →
      ((c : Cell) → new ≡ Running w → has_cell (written_cells p t w) c ≡ true → IsOwnedBy m s' c w) → WritersOwn p m s'
  Changes-writers alone own = record {
    owned = λ u v c runs written. elim (same_task u t) [
      | inl e ↦
          let now : new ≡ Running v = sym (ap (λ (k : Task). progress s' k) e ∙ change.advance.is) ∙ runs in
          let is : v ≡ w = change.still_mine v (ap (is_task_of v) now ∙ same_worker-refl v) in
          subst (λ (x : Worker). IsOwnedBy m s' c x) (sym is)
          (own c (now ∙ ap (λ (x : Worker). Running x) is) (ap (λ (x : Worker). has_cell (written_cells p t x) c) (sym is) ∙ ap (λ (k : Task). has_cell (written_cells p k v) c) (sym e) ∙ written))
      | inr d ↦
          let was : progress s u ≡ Running v = sym (change.advance.others u d) ∙ runs in
          let before = h.coherent.writers.owned u v c was written in
          let left = alone u v c d was written in
          record {
            valid = left.0.marks (node_of m v) ∙ before.valid;
            only = λ k elsewhere. left.0.marks k ∙ before.only k elsewhere;
            unstored = left.0.disk ∙ before.unstored;
            pinned = grind (arith, change.rows v, others-task u v d (ap (is_task_of v) was ∙ same_worker-refl v), before.pinned);
            unmoved = left.1;
          }
    ];
  }

  pub Changes-coherent : WritersOwn p m s' → WrittenIsKept p m s' → Coherent p m s'
  Changes-coherent writers copies = search (arith, Changes-cells, Changes-pins, Changes-bytes, Changes-workers)

-- a step that begins no transfer keeps them sound, where what moves stays a copy where it is read, awaited or evicted, and no
-- mover's victims are more
pub TransfersAreSound-kept : (p : Program) (m : Machine) (s s' : State) → ((v : Worker) (x : Transfer) → transfer s' v ≡ Some x → transfer s v ≡ Some x) →
    ((v : Worker) (x : Transfer) → transfer s' v ≡ Some x → has_copy p m s x.cell x.from ≡ true → has_copy p m s' x.cell x.from ≡ true) →
    ((v : Worker) (x : Transfer) (k : Node) → transfer s' v ≡ Some x → k ≡ node_of m v → is_coming_by v (mark s x.cell k) ≡ true → is_coming_by v (mark s' x.cell k) ≡ true) →
    ((v : Worker) (x : Transfer) (k : Node) → transfer s' v ≡ Some x → x.from ≡ AtNode k → is_leaving_by v (mark s x.cell k) ≡ true → is_leaving_by v (mark s' x.cell k) ≡ true) →
    ((v : Worker) (x : Transfer) (d : DiskNo) → transfer s' v ≡ Some x → x.to ≡ OnDisk d → on_disk s x.cell ≡ false → on_disk s' x.cell ≡ false) →
    ((v : Worker) (x : Transfer) (c : Cell) (k : Node) → transfer s' v ≡ Some x → is_leaving_by v (mark s' c k) ≡ true → is_leaving_by v (mark s c k) ≡ true) → TransfersAreSound p m s → TransfersAreSound p m s'
TransfersAreSound-kept p m s s' was read awaited evicted unstored leaves before = record {
  source = λ v x now. read v x now (before.source v x (was v x now));
  target = λ v x now. to_place v x now x.from x.to refl refl (before.target v x (was v x now));
  apart = λ u v x y d e hu hv. before.apart u v x y d e (was u x hu) (was v y hv);
}
  where
    to_place : (v : Worker) (x : Transfer) → transfer s' v ≡ Some x → (from to : Place) → x.from ≡ from → x.to ≡ to → IsTransferTo m s v x.cell from to → IsTransferTo m s' v x.cell from to
    to_place v x now from (AtNode k) f e target = (target.0, awaited v x k now target.0 target.1, λ d j. false_from_ne_true (is_leaving_by v (mark s' d j)) (λ leaving. false≢true (sym (target.2 d j) ∙ leaves v x d j now leaving)))
    to_place v x now (AtNode j) (OnDisk d) f e target = (evicted v x j now f target.0, unstored v x d now e target.1)
    to_place v x now (OnDisk j) (OnDisk d) f e target = target

-- so does one that leaves alone the cells that move
pub TransfersAreSound-spared : (p : Program) (m : Machine) (s s' : State) (touched : Cell → Bool) → ((c : Cell) → touched c ≡ false → IsLeftAlone s s' c) → ((v : Worker) (c : Cell) (k : Node) → is_leaving_by v (mark s' c k) ≡ true → is_leaving_by v (mark s c k) ≡ true) →
    ((v : Worker) → transfer s' v ≡ transfer s v) → ((v : Worker) (x : Transfer) → transfer s v ≡ Some x → touched x.cell ≡ false) → TransfersAreSound p m s → TransfersAreSound p m s'
TransfersAreSound-spared p m s s' touched alone leaves same spared = TransfersAreSound-kept p m s s' was (λ v x now copy. copies-left p m s s' x.cell (stays v x now) x.from ∙ copy)
    (λ v x k now here coming. ap (is_coming_by v) ((stays v x now).marks k) ∙ coming) (λ v x k now from leaving. ap (is_leaving_by v) ((stays v x now).marks k) ∙ leaving)
    (λ v x d now e none. (stays v x now).disk ∙ none) (λ v x c k now. leaves v c k)
  where
    was : (v : Worker) (x : Transfer) → transfer s' v ≡ Some x → transfer s v ≡ Some x
    was v x now = sym (same v) ∙ now

    stays : (v : Worker) (x : Transfer) → transfer s' v ≡ Some x → IsLeftAlone s s' x.cell
    stays v x now = alone x.cell (spared v x (was v x now))
