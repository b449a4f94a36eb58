-- What the beginning and the end of a move leave, and a drop.
use Rattle.sj_machine.proofs.Words.{a_transfer, after, ap, arrived, AtNode, CanDrop, Cell, cell_state, CellState, Drop, HasStores, Invalid, is_coming_by, is_leaving, is_leaving_by, IsTransferTo, KeepsStores, length, List, Machine, May, MayHappen, Move, Moved, mover_of, Node, None, OnDisk, Option, order, pins, pins_on, Place, Program, Progress, refl, row_of, Rows, scratch, set, slice_index_or, slice_set, Some, State, state_in, Store, store_of, subst, sym, Transfer, transfer, transfer_in, with_mark, with_row, with_row_of, with_transfer, with_transfer_of, Worker, workers_at, WorkerState, ◌<◌, ◌∙◌, ◌≡◌}
use Rattle.sj_machine.proofs.Happening.{AreLeft, HasStores-same, mark-inside, may-happen, row-at, rows_in, rows-left, store-same}
use Rattle.std.proofs.lemmas.{Bool.false≢true}
use Rattle.sj_base.proofs.{Lists.sum_by-agree}
use Rattle.sj_core.proofs.{CellLists.times, Placing.pins-same, Placing.scratch-same, States.one-mover}

-- a node's store stays where a transfer begins or ends
transfer-store : (p : Program) (m : Machine) (s : State) (w : Worker) (move : Option Transfer) (n : Node) → store_of p m (with_transfer s w move) n ≡ store_of p m s n
transfer-store p m s w move n =
    let s' : State = with_transfer s w move in
    store-same p m n (order s n) _ _ (pins_on m s' n) (pins_on m s n) (sum_by-agree (scratch s') (scratch s) (scratch-same s w move) (workers_at m n))
    (λ c. sum_by-agree (λ v. times (pins s' v) c) (λ v. times (pins s v) c) (λ v. ap (λ (cs : List Cell). times cs c) (pins-same s w move v)) (workers_at m n))

module _ (p : Program) (m : Machine) (tasks : List Progress) (cells : List CellState) (nodes : List Store) (workers : List WorkerState) (keeps : KeepsStores p m (state_in tasks cells nodes workers) nodes) (r : Rows) (same : rows_in p m (state_in tasks cells nodes workers) ≡ r) where
  abbrev s : State
  s = state_in tasks cells nodes workers

  -- ---- a move begins

  pub begun : (c : Cell) (from to : Place) (w : Worker) → MayHappen r (Move c from to) → mover_of r.state c from to ≡ w → (workers' : List WorkerState) → workers' ≡ with_transfer_of workers w (Some (a_transfer c from to)) → AreLeft r (Move c from to) p m (state_in tasks cells nodes workers') nodes
  begun c from to w can mover workers' is =
      let by : mover_of s c from to ≡ w = ap (λ (x : Rows). mover_of x.state c from to) same ∙ mover in
      let move : Option Transfer = Some (a_transfer c from to) in
      let leaves : after p m s (Move c from to) ≡ with_transfer s w move = ap (λ (v : Worker). with_transfer s v move) by in
      rows-left p m s keeps.sound r same (Move c from to) can keeps.few tasks cells nodes workers' refl refl (is ∙ ap (λ (z : State). z.workers) (sym leaves))
      (subst (λ (z : State). HasStores p m z nodes) (sym leaves) (HasStores-same p m s (with_transfer s w move) nodes (transfer-store p m s w move) keeps.stores))

  -- ---- a move ends

  module _ (w : Worker) (found : List WorkerState) (read : found ≡ workers) (x : Transfer) (has : transfer_in found w ≡ Some x) where
    under_way : transfer s w ≡ Some x
    under_way = ap (λ (ws : List WorkerState). transfer_in ws w) (sym read) ∙ has

    target : IsTransferTo m s w x.cell x.from x.to
    target = keeps.sound.coherent.transfers.target w x under_way

    pub target-cell : x.cell.0 < length cells
    target-cell = by_places x.from x.to target
      where
        by_places : (from to : Place) → IsTransferTo m s w x.cell from to → x.cell.0 < length cells
        by_places from (AtNode n) to_come = (mark-inside (is_coming_by w) refl s x.cell n to_come.1).0
        by_places (AtNode k) (OnDisk d) to_leave = (mark-inside (is_leaving_by w) refl s x.cell k to_leave.0).0
        by_places (OnDisk e) (OnDisk d) none = absurd (false≢true none)

    pub target-node : (n : Node) → x.to ≡ AtNode n → n.0 < length (row_of cells x.cell).marks
    target-node n at = (let to_come = subst (λ (q : Place). IsTransferTo m s w x.cell x.from q) at target in (mark-inside (is_coming_by w) refl s x.cell n to_come.1).1)

    pub ended : (cells' : List CellState) (workers' : List WorkerState) → cells' ≡ with_row_of cells x.cell (arrived x.to) → workers' ≡ with_transfer_of workers w None → AreLeft r (Moved x.cell x.from x.to) p m (state_in tasks cells' nodes workers') nodes
    ended cells' workers' as_cells as_workers =
        let by : w ≡ mover_of s x.cell x.from x.to = one-mover p m s x.cell x.from x.to w keeps.sound.coherent under_way in
        let moved : State = with_row s x.cell (arrived x.to (cell_state s x.cell)) in
        let leaves : after p m s (Moved x.cell x.from x.to) ≡ with_transfer moved w None = ap (λ (v : Worker). with_transfer moved v None) (sym by) in
        let now : May p m s (Moved x.cell x.from x.to) = subst (λ (v : Worker). transfer s v ≡ Some x) by under_way in
        let can : MayHappen r (Moved x.cell x.from x.to) = subst (λ (y : Rows). MayHappen y (Moved x.cell x.from x.to)) same now in
        rows-left p m s keeps.sound r same (Moved x.cell x.from x.to) can keeps.few tasks cells' nodes workers' refl as_cells (as_workers ∙ ap (λ (z : State). z.workers) (sym leaves))
        (subst (λ (z : State). HasStores p m z nodes) (sym leaves) (HasStores-same p m s (with_transfer moved w None) nodes (transfer-store p m moved w None) keeps.stores))

  -- ---- a drop

  module _ (c : Cell) (n : Node) (can : MayHappen r (Drop c n)) where
    drop : CanDrop s c n
    drop = may-happen p m s keeps.sound r same (Drop c n) can

    pub dropped : (row row' : CellState) → row ≡ slice_index_or cells c.0 row → row' ≡ with_mark row n Invalid → AreLeft r (Drop c n) p m (state_in tasks (slice_set cells c.0 row') nodes workers) nodes
    dropped row row' found is =
        let inside : c.0 < length cells = (mark-inside is_leaving refl s c n drop.leaving).0 in
        rows-left p m s keeps.sound r same (Drop c n) can keeps.few tasks (slice_set cells c.0 row') nodes workers refl
        (ap (λ (x : CellState). set cells c.0 x) (is ∙ ap (λ (x : CellState). with_mark x n Invalid) (row-at cells c row inside found))) refl
        (record { every_node = keeps.stores.every_node; stores = keeps.stores.stores })
