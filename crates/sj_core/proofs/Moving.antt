-- A move that begins, one that ends, and a drop leave a coherent state.
use Rattle.sj_core.proofs.Words.{a_transfer, ap, arith, Arrays, arrays_after, arrived, AtNode, Bool, CanDrop, CanMoveIn, CanMoveOut, Cell, cell_state, CellState, Claimed, Coherent, cond, disk_of, DiskNo, Equations, false, fresh_cells, has_cell, has_copy, HasBlocks, HasRows, HoldsContent, inl, inr, Invalid, is_claimed_by, is_coming_by, is_entry, is_fresh, is_leaving, is_leaving_by, is_read, is_valid, IsClaimed, IsOwnedBy, IsSound, IsTransferTo, IsTrue, length, List, Machine, Mark, mark, Moved, moves, Node, node_of, None, NoneLeavesBy, not, on_disk, OnDisk, Option, pins, Place, Program, progress, reads_in, refl, Running, same_cell, same_place, scratch, Some, State, subst, sym, Task, Transfer, transfer, TransfersAreSound, true, Valid, victims_of, with_mark, with_row, with_transfer, Worker, worker_state, WorkerState, writes, WrittenIsKept, ◌&&◌, ◌<◌, ◌∙◌, ◌≡◌, ◌≢◌, ◌⊎◌}
use Rattle.std.proofs.lemmas.{Bool.and_from, Bool.and_parts, Bool.cases_Bool, Bool.false_from_ne_true, Bool.false≢true, Bool.not-true, Bool.or_parts, Bool.true≢false, List.length-set, List.Quantifiers.position-Some}
use Rattle.sj_base.proofs.SameIds.{same_cell-itself, same_place-itself, same_cell-is}
use Rattle.sj_core.proofs.{Advancing.claimed-is_mine, Advancing.claimed_by-is, Advancing.task_of-worker, CellLists.same_cell-from, Changing.Changes, Changing.Changes-coherent, Changing.Changes-writers, Changing.HasBlocks-kept, Changing.IsLeftAlone, Changing.TransfersAreSound-kept, Claimed.claimed-inside, Claimed.claimed-not_written, Claimed.claimed-old_value, Claimed.list_any-task, Finding.HoldsContent-kept, Finding.second_fails, Placing.elsewhere-from, Placing.elsewhere-some, Placing.HasRows-written, Placing.home-from, Placing.home-is, Placing.mark-cases, Placing.mark_in-cases, Placing.on_disk-same, Placing.owned-fails, Placing.pins-same, Placing.position-none, Placing.room-leaves_none, Placing.row-cases, Placing.same_place-is, Placing.scratch-same, Placing.transfer-cases, Placing.transfer-is, Placing.transfer-own, Placing.valid-within, Placing.victims-same, Placing.writes-same, Reading.moves-it, Reading.transfer-inside, Reading.unmoved-from, Reading.unread-by, Replicas.coming_by-is, Replicas.coming_by-one, Replicas.leaving-by_some, Replicas.leaving-is_none, Replicas.leaving_by-one, Replicas.leaving_by-valid, Replicas.same_worker-refl}

-- ---- a step that changes rows of cells and transfers alone, and what it owes so as to leave a coherent state

-- the state with other cells and workers
abbrev pub shifted : State → List CellState → List WorkerState → State
shifted s cells workers = record { tasks = s.tasks; cells = cells; orders = s.orders; workers = workers }

-- what such a step owes: pins, scratch and victims stay, nothing leaves or comes that didn't, what is pinned stays valid,
-- what a writer owns is left alone, and transfers, blocks and copies are as they ought to be
pub record Shifts (p : Program) (m : Machine) (s : State) (cells : List CellState) (workers : List WorkerState) : Type 0 where
  pub rows : HasRows p m (shifted s cells workers)
  pub blocks : HasBlocks p m (shifted s cells workers)
  pub hands : (v : Worker) → (pins (shifted s cells workers) v ≡ pins s v) × (scratch (shifted s cells workers) v ≡ scratch s v) × (victims_of (shifted s cells workers) v ≡ victims_of s v)
  pub same_writes : (c : Cell) → writes (shifted s cells workers) c ≡ writes s c
  pub same_entries : (c : Cell) (k : Node) → is_entry (mark (shifted s cells workers) c k) ≡ is_entry (mark s c k)
  pub leaves : (v : Worker) (c : Cell) (k : Node) → is_leaving_by v (mark (shifted s cells workers) c k) ≡ true → is_leaving_by v (mark s c k) ≡ true
  pub comes : (v : Worker) (c : Cell) (k : Node) → is_coming_by v (mark (shifted s cells workers) c k) ≡ true → is_coming_by v (mark s c k) ≡ true
  pub still_comes : (v : Worker) (c d : Cell) (k : Node) → is_leaving_by v (mark (shifted s cells workers) d k) ≡ true → is_coming_by v (mark s c k) ≡ true → is_coming_by v (mark (shifted s cells workers) c k) ≡ true
  pub pinned : (v : Worker) (c : Cell) → has_cell (pins s v) c ≡ true → is_valid (mark s c (node_of m v)) ≡ true → is_valid (mark (shifted s cells workers) c (node_of m v)) ≡ true
  pub owned : (c : Cell) (v : Worker) → IsOwnedBy m s c v → IsLeftAlone s (shifted s cells workers) c
  pub unmoved : (c : Cell) (v : Worker) → IsOwnedBy m s c v → (x : Worker) → moves (shifted s cells workers) x c ≡ false
  pub movers : (v : Worker) (x : Transfer) → transfer (shifted s cells workers) v ≡ Some x → (t : Task) × (is_claimed_by v (progress s t) ≡ true)
  pub moving : TransfersAreSound p m (shifted s cells workers)
  pub copies : WrittenIsKept p m (shifted s cells workers)

module _ (p : Program) (m : Machine) (s : State) (h : IsSound p m s) (t : Task) (w : Worker) (claimed : progress s t ≡ Claimed w) (cells : List CellState) (workers : List WorkerState) (shift : Shifts p m s cells workers) where
  abbrev after : State
  after = shifted s cells workers

  change : Changes p m s after t (Claimed w) (Claimed w) w
  change = record {
    advance = record { was = claimed; is = claimed; others = λ u d. refl };
    mine = claimed-is_mine w;
    still_mine = λ v has. sym (task_of-worker v (Claimed w) has);
    state = (search arith);
    rows = λ v. inl ((shift.hands v).0, (shift.hands v).1, λ e. claimed-is_mine w);
    victims = λ v. (shift.hands v).2;
    entries = λ c k now. sym (shift.same_entries c k) ∙ now;
    leaves = shift.leaves;
    comes = shift.comes;
    still_comes = shift.still_comes;
    moves_on = shift.movers;
    claims_on = λ e. inr refl;
    stays = λ u v c d has cell. (λ was. shift.same_entries c (node_of m v) ∙ was, λ was. shift.pinned v c (h.coherent.cells.pinned u v c has cell) was);
    claimed = λ c e has. shift.same_entries c (node_of m w) ∙ h.coherent.cells.claimed t w c claimed has;
    running = λ c e has. absurd (let f : Claimed w ≡ Running w = e in cc);
    transfers = shift.moving;
    order = (let before = h.coherent.order in record { earlier = before.earlier; apart = before.apart; commuting = λ t u at au d shares. before.commuting t u at au d (record { cell = shares.cell; commuting = shares.commuting; shared = shares.shared }) });
    counts = record { counted = λ c. shift.same_writes c ∙ h.coherent.counts.counted c };
  }

  -- it leaves a coherent state
  pub Shifts-coherent : Coherent p m after
  Shifts-coherent = Changes-coherent p m s h after t (Claimed w) (Claimed w) w change
      (Changes-writers p m s h after t (Claimed w) (Claimed w) w change
      (λ u v c d runs written. (let old = h.coherent.writers.owned u v c runs written in (shift.owned c v old, shift.unmoved c v old)))
      (λ c e. absurd (let f : Claimed w ≡ Running w = e in cc)))
      shift.copies

-- a move that begins, of a cell that no running task owns: the blocks where it goes, the cell is valid where it begins and
-- awaited where it goes, no other worker moves it to a disk, and the worker has a claimed task
module _ (p : Program) (m : Machine) (s : State) (h : IsSound p m s) (w : Worker) (begun : Transfer) (aimed : (d : DiskNo) → begun.to ≡ OnDisk d → disk_of p m begun.cell ≡ Some d)
    (source : has_copy p m s begun.cell begun.from ≡ true) (target : IsTransferTo m s w begun.cell begun.from begun.to)
    (alone : (v : Worker) (x : Transfer) (d e : DiskNo) → transfer s v ≡ Some x → x.to ≡ OnDisk d → begun.to ≡ OnDisk e → x.cell ≡ begun.cell → v ≡ w)
    (free : (v : Worker) → IsOwnedBy m s begun.cell v → ⊥) (t : Task) (claimed : progress s t ≡ Claimed w) where
  abbrev now : State
  now = with_transfer s w (Some begun)

  moving : TransfersAreSound p m now
  moving =
      let before = h.coherent.transfers in
      record {
        source = λ v x under_way. (grind (arith, transfer-is s w begun v x under_way, before.source v x, source));
        target = λ v x under_way. to_place v x.cell x.from x.to (elim (transfer-is s w begun v x under_way) [
          | inl same ↦ before.target v x same
          | inr (e, is) ↦ subst (λ (y : Transfer). IsTransferTo m s v y.cell y.from y.to) is (subst (λ (u : Worker). IsTransferTo m s u begun.cell begun.from begun.to) (sym e) target)
        ]);
        apart = λ u v x y d e hu hv to_d to_e cell. (grind (arith, transfer-is s w begun u x hu, transfer-is s w begun v y hv, alone v y e d, alone u x d e, before.apart u v x y d e));
      }
    where
      to_place : (v : Worker) (d : Cell) (from to : Place) → IsTransferTo m s v d from to → IsTransferTo m now v d from to
      to_place v d from (AtNode k) target = target
      to_place v d (AtNode j) (OnDisk k) target = target
      to_place v d (OnDisk j) (OnDisk k) target = target

  begins : Shifts p m s now.cells now.workers
  begins = record {
    rows = (let rows = h.coherent.state.rows in record { tasks = rows.tasks; cells = rows.cells; orders = rows.orders; workers = length-set s.workers w.0 _ ∙ rows.workers; marks = rows.marks });
    blocks = (let blocks = h.coherent.state.blocks in record {
      home = blocks.home;
      aimed = λ v x d under_way to. elim (transfer-is s w begun v x under_way) [ inl same ↦ blocks.aimed v x d same to | inr (e, is) ↦ subst (λ (y : Transfer). disk_of p m y.cell ≡ Some d) is (aimed d (ap (λ (y : Transfer). y.to) is ∙ to)) ];
    });
    hands = λ v. (pins-same s w (Some begun) v, scratch-same s w (Some begun) v, victims-same s w (Some begun) v);
    same_writes = λ d. refl;
    same_entries = λ d k. refl;
    leaves = λ v d k leaving. leaving;
    comes = λ v d k coming. coming;
    still_comes = λ v x d k leaving coming. coming;
    pinned = λ v d pin valid. valid;
    owned = λ d v own. record { marks = λ k. refl; disk = refl };
    unmoved = λ d v own x. unmoved-from now x d (λ y under_way e. (grind (arith, transfer-is s w begun x y under_way, moves-it s x y, own.unmoved x, free v)));
    movers = λ v x under_way. elim (transfer-is s w begun v x under_way) [ inl same ↦ h.coherent.workers.moves_for_claim v x same | inr (e, is) ↦ (t, grind (arith, e, claimed, same_worker-refl w)) ];
    moving = moving;
    copies = record { somewhere = h.coherent.copies.somewhere };
  }

  -- it leaves a coherent state
  pub Begun-coherent : Coherent p m now
  Begun-coherent = Shifts-coherent p m s h t w claimed now.cells now.workers begins

-- ---- a move into a node that begins leaves a coherent state

module _ (p : Program) (m : Machine) (s : State) (h : IsSound p m s) (c : Cell) (from : Place) (n : Node) (w : Worker) (move : CanMoveIn p m s c from n w) where
  claimed : IsClaimed p s w c
  claimed = h.coherent.pins.coming_claimed w c n move.coming

  -- the claimed task reads the cell's old value
  not_fresh : has_cell (fresh_cells p claimed.task w) c ≡ false
  not_fresh = false_from_ne_true (has_cell (fresh_cells p claimed.task w) c) (λ fresh.
      (let ours : is_claimed_by w (progress s claimed.task) ≡ true = ap (is_claimed_by w) claimed.claimed ∙ same_worker-refl w in
      let both = and_from (is_claimed_by w (progress s claimed.task)) (has_cell (fresh_cells p claimed.task w) c) ours fresh in
      let some : is_fresh p s w c ≡ true = list_any-task p (λ t. is_claimed_by w (progress s t) && has_cell (fresh_cells p t w) c) claimed.task (claimed-inside p m s h claimed.task w claimed.claimed) both in
      false≢true (sym (ap not some) ∙ move.old_value_needed)))

  -- so it has a copy somewhere, and there the move begins
  somewhere : (q : Place) × IsTrue (has_copy p m s c q)
  somewhere = h.coherent.copies.somewhere c (claimed-old_value p m s h claimed.task w claimed.claimed c claimed.cell not_fresh) (claimed-not_written p m s h claimed.task w claimed.claimed c claimed.cell)

  source_valid : has_copy p m s c from ≡ true
  source_valid = search (arith, somewhere, position-Some, false≢true, position-none, valid-within, home-from, and_parts, and_from)

  pub Moves_in-keep_coherence : Coherent p m (with_transfer s w (Some (a_transfer c from (AtNode n))))
  Moves_in-keep_coherence = Begun-coherent p m s h w (a_transfer c from (AtNode n))
      (λ d to. absurd (let e : AtNode n ≡ OnDisk d = to in cc)) source_valid (move.own_node, move.coming, room-leaves_none p m s h w move.room)
      (λ v x d e under_way to aims cell. absurd (let f : AtNode n ≡ OnDisk e = aims in cc))
      (λ v own. false≢true (sym (owned-fails m s c v own (is_coming_by w) refl refl n) ∙ move.coming)) claimed.task claimed.claimed

-- ---- a move out to a disk that begins leaves a coherent state

module _ (p : Program) (m : Machine) (s : State) (h : IsSound p m s) (c : Cell) (k : Node) (d : DiskNo) (w : Worker) (move : CanMoveOut p m s c k d w) where
  -- a copy of the cell is the one that leaves
  only_one : (q : Place) → has_copy p m s c q ≡ true → q ≡ AtNode k
  only_one q copy = search (arith, cases_Bool, same_place-is, same_place-itself, elsewhere-from, not-true, false≢true)

  unstored : on_disk s c ≡ false
  unstored = search (arith, not-true, or_parts)

  -- another worker's transfer of the cell to a disk would read the same copy
  reads_the_same : (v : Worker) (x : Transfer) (j : DiskNo) → transfer s v ≡ Some x → x.to ≡ OnDisk j → x.cell ≡ c → v ≡ w
  reads_the_same v x j under_way to cell = by_source x.from (subst (λ (q : Place). IsTransferTo m s v x.cell x.from q) to (h.coherent.transfers.target v x under_way))
    where
      by_source : (from : Place) → IsTransferTo m s v x.cell from (OnDisk j) → v ≡ w
      by_source (AtNode i) target = grind (arith, target, cell, leaving_by-valid v (mark s c i), only_one (AtNode i), leaving_by-one v w (mark s c k), move.leaving)
      by_source (OnDisk i) target = absurd (false≢true target)

  -- the worker has a claimed task, since its victim is leaving
  claims : (t : Task) × (is_claimed_by w (progress s t) ≡ true)
  claims = (h.coherent.workers.evicted w c k move.leaving).claims

  pub Moves_out-keep_coherence : Coherent p m (with_transfer s w (Some (a_transfer c (AtNode k) (OnDisk d))))
  Moves_out-keep_coherence = Begun-coherent p m s h w (a_transfer c (AtNode k) (OnDisk d))
      (λ j to. move.target ∙ (let e : OnDisk d ≡ OnDisk j = to in cc)) (leaving_by-valid w (mark s c k) move.leaving) (move.leaving, unstored)
      (λ v x j i under_way to aims cell. reads_the_same v x j under_way to cell)
      (λ v own. false≢true (sym (owned-fails m s c v own (is_leaving_by w) refl refl k) ∙ move.leaving)) claims.0 (claimed_by-is w (progress s claims.0) claims.1)

-- ---- a move that ends leaves a coherent state

module _ (s : State) (c : Cell) (to : Place) where
  abbrev placed : State
  placed = with_row s c (arrived to (cell_state s c))

  -- each mark is as before, or is the one that was brought
  placed-marks : (x : Cell) (k : Node) → (mark placed x k ≡ mark s x k) ⊎ ((x ≡ c) × (to ≡ AtNode k) × (mark placed x k ≡ Valid))
  placed-marks x k = search (arith, row-cases, mark_in-cases)

  -- and so is what is on a disk
  placed-disks : (x : Cell) → (on_disk placed x ≡ on_disk s x) ⊎ ((x ≡ c) × ((d : DiskNo) × (to ≡ OnDisk d)) × (on_disk placed x ≡ true))
  placed-disks x = search (arith, row-cases)

  placed-long : length (arrived to (cell_state s c)).marks ≡ length (cell_state s c).marks
  placed-long = search (arith, length-set)

  placed-writes : (x : Cell) → writes placed x ≡ writes s x
  placed-writes x = search (arith, writes-same)

module _ (p : Program) (m : Machine) (s : State) (h : IsSound p m s) (c : Cell) (from to : Place) (w : Worker) (moved : transfer s w ≡ Some (a_transfer c from to)) where
  abbrev ending : Transfer
  ending = a_transfer c from to

  abbrev landed : State
  landed = with_transfer (placed s c to) w None

  target : IsTransferTo m s w c from to
  target = h.coherent.transfers.target w ending moved

  -- at a node the cell was coming by the worker's claim
  came : (k : Node) → to ≡ AtNode k → is_coming_by w (mark s c k) ≡ true
  came k e = (subst (λ (q : Place). IsTransferTo m s w c from q) e target).1

  -- and nothing leaves by its claim
  landed-none_leaves : (k : Node) → to ≡ AtNode k → NoneLeavesBy s w
  landed-none_leaves k e = (subst (λ (q : Place). IsTransferTo m s w c from q) e target).2

  landed-entries : (x : Cell) (k : Node) → is_entry (mark landed x k) ≡ is_entry (mark s x k)
  landed-entries x k = grind (arith, placed-marks s c to x k, coming_by-is, came)

  -- what the brought mark isn't was there before
  landed-fewer : (test : Mark → Bool) → test Valid ≡ false → (x : Cell) (k : Node) → test (mark landed x k) ≡ true → test (mark s x k) ≡ true
  landed-fewer test fails x k passes = grind (arith, placed-marks s c to x k)

  -- what comes by another worker's claim still comes
  others_come : (v : Worker) (x : Cell) (k : Node) → v ≢ w → is_coming_by v (mark s x k) ≡ true → is_coming_by v (mark landed x k) ≡ true
  others_come v x k other coming = grind (arith, placed-marks s c to x k, coming_by-one, came)

  landed-still_comes : (v : Worker) (x y : Cell) (k : Node) → is_leaving_by v (mark landed y k) ≡ true → is_coming_by v (mark s x k) ≡ true → is_coming_by v (mark landed x k) ≡ true
  landed-still_comes v x y k leaving coming = search (arith, placed-marks s c to x k, landed-fewer (is_leaving_by v) refl y k leaving, coming_by-one v w (mark s c k), came k, landed-none_leaves k, false≢true)

  copy_stays : (x : Cell) (q : Place) → has_copy p m s x q ≡ true → has_copy p m landed x q ≡ true
  copy_stays x q copy = search (arith, placed-marks s c to x, placed-disks s c to x, and_parts, and_from)

  -- a copy that wasn't there is the one that was brought
  copy_was : (x : Cell) (q : Place) → has_copy p m landed x q ≡ true → (has_copy p m s x q ≡ true) ⊎ ((x ≡ c) × (q ≡ to))
  copy_was x (AtNode k) copy = grind (arith, placed-marks s c to x k)
  copy_was x (OnDisk d) copy = search (arith, placed-disks s c to x, and_parts, home-is, h.coherent.state.blocks.aimed w ending)

  -- a transfer that is still under way is another worker's
  others : (v : Worker) (x : Transfer) → transfer landed v ≡ Some x → (v ≢ w) × (transfer s v ≡ Some x)
  others v x under_way = search (arith, landed, transfer-own, placed, transfer-inside, ending, transfer-cases)

  -- what leaves a node isn't brought there
  still_leaves : (v : Worker) (x : Cell) (k : Node) → is_leaving_by v (mark s x k) ≡ true → is_leaving_by v (mark landed x k) ≡ true
  still_leaves v x k leaving = grind (arith, placed-marks s c to x k, coming_by-is, came)

  landed-moving : TransfersAreSound p m landed
  landed-moving = TransfersAreSound-kept p m s landed (λ v x now. (others v x now).1) (λ v x now. copy_stays x.cell x.from) (λ v x k now here. others_come v x.cell k (others v x now).0) (λ v x k now from. still_leaves v x.cell k)
      (λ v x d now aims none. elim (placed-disks s c to x.cell) [ inl same ↦ same ∙ none | inr (e, at, is) ↦ absurd (let old = others v x now in old.0 (h.coherent.transfers.apart v w x ending d at.0 old.1 moved aims at.1 e)) ])
      (λ v x y k now. landed-fewer (is_leaving_by v) refl y k) h.coherent.transfers

  blocks : HasBlocks p m landed
  blocks =
      let before = h.coherent.state.blocks in
      record {
        home = λ x there. elim (placed-disks s c to x) [ inl same ↦ before.home x (sym same ∙ there) | inr (e, at, is) ↦ (at.0, ap (λ (y : Cell). disk_of p m y) e ∙ before.aimed w ending at.0 moved at.1) ];
        aimed = λ v x d under_way. before.aimed v x d (others v x under_way).1;
      }

  positive : (x : Cell) → 0 < writes landed x → 0 < writes s x
  positive x some = let same = placed-writes s c to x in omega arith

  landed-copies : WrittenIsKept p m landed
  landed-copies = record { somewhere = λ x some unwritten. (let old = h.coherent.copies.somewhere x (positive x some) unwritten in (old.0, copy_stays x old.0 old.1)) }

  -- a cell that a worker owns isn't the one that moved
  owned_apart : (x : Cell) (v : Worker) → IsOwnedBy m s x v → x ≡ c → ⊥
  owned_apart x v own e = search (arith, same_cell-itself, true≢false)

  landed-shift : Shifts p m s landed.cells landed.workers
  landed-shift = record {
    rows = (let rows = HasRows-written p m s c (arrived to (cell_state s c)) (placed-long s c to) h.coherent.state.rows in record { tasks = rows.tasks; cells = rows.cells; orders = rows.orders; workers = length-set s.workers w.0 _ ∙ rows.workers; marks = rows.marks });
    blocks = blocks;
    hands = λ v. (pins-same (placed s c to) w None v, scratch-same (placed s c to) w None v, victims-same (placed s c to) w None v);
    same_writes = placed-writes s c to;
    same_entries = landed-entries;
    leaves = λ v. landed-fewer (is_leaving_by v) refl;
    comes = λ v. landed-fewer (is_coming_by v) refl;
    still_comes = landed-still_comes;
    pinned = λ v x pin valid. copy_stays x (AtNode (node_of m v)) valid;
    owned = λ x v own. record { marks = λ k. (grind (arith, placed-marks s c to x k, owned_apart x v own)); disk = grind (arith, placed-disks s c to x, owned_apart x v own) };
    unmoved = λ x v own u. (search (arith, transfer-cases));
    movers = λ v x under_way. h.coherent.workers.moves_for_claim v x (others v x under_way).1;
    moving = landed-moving;
    copies = landed-copies;
  }

  pub Ended_moves-keep_coherence : Coherent p m landed
  Ended_moves-keep_coherence =
      let claims = h.coherent.workers.moves_for_claim w ending moved in
      Shifts-coherent p m s h claims.0 w (claimed_by-is w (progress s claims.0) claims.1) landed.cells landed.workers landed-shift

  -- what the cell holds where it came from it holds where it came to
  module _ (eq : Equations) (A : Arrays) (holds : HoldsContent eq p m s A) where
    abbrev copied : Arrays
    copied = arrays_after eq p m A (Moved c from to)

    pub Ended_moves-content : HoldsContent eq p m landed copied
    Ended_moves-content = record {
      begun = λ u v x runs written.
          (let own = h.coherent.writers.owned u v x runs written in
          second_fails (same_place (AtNode (node_of m v)) to) (same_cell c x) (A c from) (A x (AtNode (node_of m v))) (false_from_ne_true (same_cell c x) (λ same. owned_apart x v own (sym (same_cell-is c x same))))
          ∙ holds.begun u v x runs written);
      alike = λ x q some resting copy. elim (cases_Bool (same_place q to && same_cell c x)) [
        | inl both ↦
            let is : c ≡ x = same_cell-is c x (and_parts (same_place q to) (same_cell c x) both).1 in
            ap (λ b. cond b (A c from) (A x q)) both
            ∙ ap (λ (y : Cell). A y from) is
            ∙ holds.alike x from (positive x some) resting (ap (λ (y : Cell). has_copy p m s y from) (sym is) ∙ h.coherent.transfers.source w ending moved)
        | inr other ↦
            ap (λ b. cond b (A c from) (A x q)) other
            ∙ holds.alike x q (positive x some) resting (elim (copy_was x q copy) [
              | inl was ↦ was
              | inr (e, at) ↦ absurd (false≢true (sym other ∙ and_from (same_place q to) (same_cell c x) (ap (λ (k : Place). same_place k to) at ∙ same_place-itself to) (same_cell-from c x (sym e))))
            ])
      ];
    }

-- ---- a drop leaves a coherent state

module _ (p : Program) (m : Machine) (s : State) (h : IsSound p m s) (c : Cell) (n : Node) (drop : CanDrop s c n) where
  abbrev dropped : State
  dropped = with_row s c (with_mark (cell_state s c) n Invalid)

  -- each mark is as before, or it was leaving and is invalid
  dropped-cases : (d : Cell) (k : Node) → (mark dropped d k ≡ mark s d k) ⊎ ((d ≡ c) × (k ≡ n) × (mark dropped d k ≡ Invalid) × (is_leaving (mark s d k) ≡ true))
  dropped-cases d k = grind (arith, mark-cases s c n Invalid d k)

  dropped-disk : (d : Cell) → on_disk dropped d ≡ on_disk s d
  dropped-disk = on_disk-same s c (with_mark (cell_state s c) n Invalid) refl

  dropped-entries : (d : Cell) (k : Node) → is_entry (mark dropped d k) ≡ is_entry (mark s d k)
  dropped-entries d k = grind (arith, dropped-cases d k, leaving-is_none (mark s d k))

  -- what an invalid mark isn't was there before
  dropped-fewer : (test : Mark → Bool) → test Invalid ≡ false → (d : Cell) (k : Node) → test (mark dropped d k) ≡ true → test (mark s d k) ≡ true
  dropped-fewer test fails d k passes = grind (arith, dropped-cases d k)

  dropped-still_comes : (v : Worker) (d : Cell) (k : Node) → is_coming_by v (mark s d k) ≡ true → is_coming_by v (mark dropped d k) ≡ true
  dropped-still_comes v d k coming = grind (arith, dropped-cases d k, coming_by-is v (mark s d k))

  -- a copy is as before, or is the dropped one
  copy_left : (d : Cell) (q : Place) → (has_copy p m dropped d q ≡ has_copy p m s d q) ⊎ ((d ≡ c) × (q ≡ AtNode n))
  copy_left d q = search (arith, dropped-cases, dropped-disk)

  pub dropped-copy : (d : Cell) (q : Place) → has_copy p m dropped d q ≡ true → has_copy p m s d q ≡ true
  dropped-copy d q copy = search (arith, dropped-fewer is_valid refl, dropped-disk)

  -- no transfer reads the dropped copy
  dropped-unread : (v : Worker) (x : Transfer) → transfer s v ≡ Some x → x.cell ≡ c → x.from ≡ AtNode n → ⊥
  dropped-unread v x under_way cell from =
      let none : reads_in (worker_state s v) c (AtNode n) ≡ false = unread-by s c (AtNode n) v (not-true (is_read s c (AtNode n)) drop.unread) in
      let both : (same_cell x.cell c && same_place x.from (AtNode n)) ≡ true = and_from (same_cell x.cell c) (same_place x.from (AtNode n)) (same_cell-from x.cell c cell) (ap (λ (q : Place). same_place q (AtNode n)) from ∙ same_place-itself (AtNode n)) in
      false≢true (sym none ∙ ap (λ (o : Option Transfer). elim o as (λ _. Bool) [ None ↦ false | Some y ↦ same_cell y.cell c && same_place y.from (AtNode n) ]) under_way ∙ both)

  dropped-moving : TransfersAreSound p m dropped
  dropped-moving = TransfersAreSound-kept p m s dropped (λ v x now. now)
      (λ v x now copy. (grind (arith, copy_left x.cell x.from, dropped-unread v x now)))
      (λ v x k now here. dropped-still_comes v x.cell k)
      (λ v x k now from leaving. (grind (arith, dropped-cases x.cell k, dropped-unread v x now)))
      (λ v x d now e none. dropped-disk x.cell ∙ none)
      (λ v x d k now. dropped-fewer (is_leaving_by v) refl d k) h.coherent.transfers

  -- there is another copy of the dropped cell
  elsewhere : (q : Place) × (has_copy p m dropped c q ≡ true)
  elsewhere =
      let some = elsewhere-some p m s h.coherent.state.blocks c n drop.shared in
      (some.0, elim (copy_left c some.0) [ inl same ↦ same ∙ some.2 | inr (e, at) ↦ absurd (some.1 at) ])

  dropped-copies : WrittenIsKept p m dropped
  dropped-copies = record {
    somewhere = λ d some unwritten.
        (let old = h.coherent.copies.somewhere d (let same = writes-same s c (with_mark (cell_state s c) n Invalid) refl d in omega arith) unwritten in
        elim (copy_left d old.0) [
          | inl same ↦ (old.0, same ∙ old.1)
          | inr (e, at) ↦ (elsewhere.0, ap (λ (x : Cell). has_copy p m dropped x elsewhere.0) e ∙ elsewhere.1)
        ]);
  }

  dropped-shift : Shifts p m s dropped.cells dropped.workers
  dropped-shift = record {
    rows = HasRows-written p m s c (with_mark (cell_state s c) n Invalid) (length-set (cell_state s c).marks n.0 Invalid) h.coherent.state.rows;
    blocks = HasBlocks-kept p m s dropped (λ d there. sym (dropped-disk d) ∙ there) (λ v. refl) h.coherent.state.blocks;
    hands = λ v. (refl, refl, refl);
    same_writes = writes-same s c (with_mark (cell_state s c) n Invalid) refl;
    same_entries = dropped-entries;
    leaves = λ v. dropped-fewer (is_leaving_by v) refl;
    comes = λ v. dropped-fewer (is_coming_by v) refl;
    still_comes = λ v x d k leaving coming. dropped-still_comes v x k coming;
    pinned = λ v d pin valid. (grind (arith, dropped-cases d (node_of m v), h.coherent.pins.stays v d pin));
    owned = λ d v own. record { marks = λ k. (search (arith, dropped-cases, false≢true, owned-fails)); disk = dropped-disk d };
    unmoved = λ d v own x. own.unmoved x;
    movers = h.coherent.workers.moves_for_claim;
    moving = dropped-moving;
    copies = dropped-copies;
  }

  pub Drops-keeps_coherence : Coherent p m dropped
  Drops-keeps_coherence =
      let by = leaving-by_some (mark s c n) drop.leaving in
      let claims = (h.coherent.workers.evicted by.0 c n by.1).claims in
      Shifts-coherent p m s h claims.0 by.0 (claimed_by-is by.0 (progress s claims.0) claims.1) dropped.cells dropped.workers dropped-shift

  -- no array changes
  pub Drops-content : (eq : Equations) (A A' : Arrays) → ((d : Cell) (q : Place) → A' d q ≡ A d q) → HoldsContent eq p m s A → HoldsContent eq p m dropped A'
  Drops-content eq A A' same = HoldsContent-kept eq p m s dropped A A' same (λ t w runs. runs) (λ d. refl) (writes-same s c (with_mark (cell_state s c) n Invalid) refl) (λ d resting. resting) dropped-copy
