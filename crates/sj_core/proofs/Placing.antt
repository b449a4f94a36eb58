-- What the accessors of a state give after one row, one mark, or one worker's transfer was written.
use Rattle.sj_core.proofs.Words.{All, ap, arith, arrived, AtNode, Bool, Cell, cell_state, CellState, Claim, disk_of, DiskNo, Drop, End, EventsChangeRows, false, get_or, has_copy, has_room, HasBlocks, HasRows, if◌then◌else◌, inl, inr, Invalid, is_copy_beside, is_elsewhere, is_home, is_valid, IsOwnedBy, IsSound, length, List, list_any, Machine, Mark, mark, mark_in, Move, Moved, nat_eq, Node, None, NoneLeavesBy, not, on_disk, OnDisk, Option, pins, Place, position, Program, range_with_len, refl, Run, same_cell, same_place, scratch, Some, State, subst, sym, Transfer, transfer, true, Valid, victims_of, with_mark, with_row, with_transfer, Worker, worker_state, WorkerState, writes, ℕ, ◌<◌, ◌∙◌, ◌≡◌, ◌≢◌, ◌⊎◌}
use Rattle.std.proofs.lemmas.{Bool.and_from, Bool.and_parts, Bool.cases_Bool, Bool.cases_eq, Bool.cases_lt, Bool.false_from_ne_true, Bool.false≢true, Bool.ltb-false, Bool.not-true, Bool.or_cases, Bool.or_right, Bool.Decides.Decides-eqb, List.get_or-set_other, List.get_or-set_same, List.get_or_past, List.length-set, List.Elements.All-set, List.Folds.list_any_at, List.FromFn.get_or-range_with_len, List.FromFn.length-range_with_len, List.Sums.fails_before_first}
use Rattle.sj_base.proofs.SameIds.{same_cell-is, same_cell-unlike, workers_differ}
use Rattle.sj_core.proofs.{Readiness.list_any-some, Reading.idle_row, Reading.list_all-has, Reading.no_row, Reading.same_node, Tables.renewed-at}

pub cells_differ : (c d : Cell) → (c ≡ d) ⊎ (c ≢ d)
cells_differ c d = search (arith, cases_eq)

-- ---- one row

module _ (s : State) (c : Cell) (row : CellState) where
  -- each row is as before, or is the one that was written
  pub row-cases : (d : Cell) → (cell_state (with_row s c row) d ≡ cell_state s d) ⊎ ((d ≡ c) × (cell_state (with_row s c row) d ≡ row))
  row-cases d = search (arith, cells_differ, get_or-set_other, no_row, cases_lt, get_or-set_same, get_or_past, length-set)

  pub writes-same : row.writes ≡ writes s c → (d : Cell) → writes (with_row s c row) d ≡ writes s d
  writes-same same d = search (arith, row-cases)

  pub on_disk-same : row.on_disk ≡ on_disk s c → (d : Cell) → on_disk (with_row s c row) d ≡ on_disk s d
  on_disk-same same d = search (arith, row-cases)

  -- each row still has a mark for each node
  marks-kept : length row.marks ≡ length (cell_state s c).marks → (n : ℕ) → All (λ (r : CellState). length r.marks ≡ n) s.cells → All (λ (r : CellState). length r.marks ≡ n) (with_row s c row).cells
  marks-kept same n all =
      elim (cases_lt c.0 (length s.cells)) [
        | inl inside ↦ All-set (λ (r : CellState). length r.marks ≡ n) s.cells c.0 row (same ∙ all c.0 no_row inside) all
        | inr past ↦ λ i d inside. (let bound : i < length s.cells = omega (arith, inside, length-set s.cells c.0 row) in subst (λ (r : CellState). length r.marks ≡ n) (sym (get_or-set_other s.cells c.0 i row d (λ e. (omega arith)))) (all i d bound))
      ]

-- a state with a row written still has all its rows
pub HasRows-written : (p : Program) (m : Machine) (s : State) (c : Cell) (row : CellState) → length row.marks ≡ length (cell_state s c).marks → HasRows p m s → HasRows p m (with_row s c row)
HasRows-written p m s c row same rows = record { tasks = rows.tasks; cells = length-set s.cells c.0 row ∙ rows.cells; orders = rows.orders; workers = rows.workers; marks = marks-kept s c row same (length m.nodes) rows.marks }

-- ---- one mark

-- of a row in which one mark was written each is as before, or is that one
pub mark_in-cases : (row : CellState) (n k : Node) (x : Mark) → (mark_in (with_mark row n x) k ≡ mark_in row k) ⊎ ((k ≡ n) × (mark_in (with_mark row n x) k ≡ x))
mark_in-cases row n k x = search (arith, same_node, get_or-set_other, cases_lt, get_or-set_same, get_or_past, length-set)

-- each mark is as before, or is the one that was written
pub mark-cases : (s : State) (c : Cell) (n : Node) (x : Mark) (d : Cell) (k : Node) → (mark (with_row s c (with_mark (cell_state s c) n x)) d k ≡ mark s d k) ⊎ ((d ≡ c) × (k ≡ n) × (mark (with_row s c (with_mark (cell_state s c) n x)) d k ≡ x))
mark-cases s c n x d k = search (arith, row-cases, mark_in-cases)

-- ---- one transfer

module _ (s : State) (w : Worker) (move : Option Transfer) where
  abbrev moving_row : WorkerState
  moving_row = record (worker_state s w) { transfer = move }

  -- each worker's row is as before, but for the transfer of the one
  worker-cases : (v : Worker) → (worker_state (with_transfer s w move) v ≡ worker_state s v) ⊎ ((v ≡ w) × (worker_state (with_transfer s w move) v ≡ moving_row))
  worker-cases v =
      search (arith, workers_differ, get_or-set_other, moving_row, idle_row, cases_lt, get_or-set_same, get_or_past, length-set)

  pub pins-same : (v : Worker) → pins (with_transfer s w move) v ≡ pins s v
  pins-same v = elim (worker-cases v) [ inl same ↦ ap (λ (row : WorkerState). row.pins) same | inr (e, row) ↦ ap (λ (x : WorkerState). x.pins) row ∙ sym (ap (pins s) e) ]

  pub scratch-same : (v : Worker) → scratch (with_transfer s w move) v ≡ scratch s v
  scratch-same v = elim (worker-cases v) [ inl same ↦ ap (λ (row : WorkerState). row.scratch) same | inr (e, row) ↦ ap (λ (x : WorkerState). x.scratch) row ∙ sym (ap (scratch s) e) ]

  pub victims-same : (v : Worker) → victims_of (with_transfer s w move) v ≡ victims_of s v
  victims-same v = elim (worker-cases v) [ inl same ↦ ap (λ (row : WorkerState). row.victims) same | inr (e, row) ↦ ap (λ (x : WorkerState). x.victims) row ∙ sym (ap (victims_of s) e) ]

  -- each transfer is as before, or is the worker's new one
  pub transfer-cases : (v : Worker) → (transfer (with_transfer s w move) v ≡ transfer s v) ⊎ ((v ≡ w) × (transfer (with_transfer s w move) v ≡ move))
  transfer-cases v = elim (worker-cases v) [ inl same ↦ inl (ap (λ (row : WorkerState). row.transfer) same) | inr (e, row) ↦ inr (e, ap (λ (x : WorkerState). x.transfer) row) ]

  pub transfer-own : w.0 < length s.workers → transfer (with_transfer s w move) w ≡ move
  transfer-own inside = ap (λ (row : WorkerState). row.transfer) (get_or-set_same s.workers w.0 moving_row idle_row inside)

-- where a transfer was begun, each that is under way was before, or is that one
pub transfer-is : (s : State) (w : Worker) (begun : Transfer) (v : Worker) (x : Transfer) → transfer (with_transfer s w (Some begun)) v ≡ Some x → (transfer s v ≡ Some x) ⊎ ((v ≡ w) × (begun ≡ x))
transfer-is s w begun v x now = search (arith, transfer-cases)

-- ---- places

pub same_place-is : (q k : Place) → same_place q k ≡ true → q ≡ k
same_place-is q k h = search (arith, Decides-eqb, false≢true)

-- each mark of a cell that a worker owns is the valid one, or invalid
pub owned-cases : (m : Machine) (s : State) (c : Cell) (v : Worker) → IsOwnedBy m s c v → (n : Node) → (mark s c n ≡ Valid) ⊎ (mark s c n ≡ Invalid)
owned-cases m s c v own n = search (arith, same_node)

-- and so a mark of it passes no test that a valid and an invalid one fail
pub owned-fails : (m : Machine) (s : State) (c : Cell) (v : Worker) → IsOwnedBy m s c v → (test : Mark → Bool) → test Valid ≡ false → test Invalid ≡ false → (n : Node) → test (mark s c n) ≡ false
owned-fails m s c v own test valid invalid n = elim (owned-cases m s c v own n) [ inl e ↦ ap test e ∙ valid | inr e ↦ ap test e ∙ invalid ]

-- ---- where a copy is

pub valid-within : (xs : List Mark) (k : ℕ) → is_valid (get_or xs k Invalid) ≡ true → k < length xs
valid-within xs k valid = search (arith, cases_lt, false≢true, get_or_past)

-- the row of a cell that has a copy is one of the table
pub copy-row : (p : Program) (m : Machine) (s : State) (c : Cell) (q : Place) → has_copy p m s c q ≡ true → c.0 < length s.cells
copy-row p m s c q copy = search (arith, cases_lt, false≢true, get_or_past, no_row, and_parts)

-- the disk of the cell's block is the one on which it lies
pub home-from : (p : Program) (m : Machine) (c : Cell) (d : DiskNo) → disk_of p m c ≡ Some d → is_home p m c d ≡ true
home-from p m c d e = ap (λ (o : Option DiskNo). elim o as (λ _. Bool) [ None ↦ false | Some e ↦ nat_eq e.0 d.0 ]) e ∙ (Decides-eqb d.0 d.0).1 refl

pub home-is : (p : Program) (m : Machine) (c : Cell) (d : DiskNo) → is_home p m c d ≡ true → disk_of p m c ≡ Some d
home-is p m c d h = search (arith, Decides-eqb, false≢true)

-- a copy in another place than the node is one elsewhere
pub elsewhere-from : (p : Program) (m : Machine) (s : State) (c : Cell) (q : Place) (n : Node) → has_copy p m s c q ≡ true → q ≢ AtNode n → is_elsewhere s c n ≡ true
elsewhere-from p m s c (OnDisk d) n copy other = search (arith, and_parts)
elsewhere-from p m s c (AtNode k) n copy other =
    let marks = (cell_state s c).marks in
    let within = valid-within marks k.0 copy in
    let number : get_or (range_with_len 0 (length marks)) k.0 0 ≡ k.0 = get_or-range_with_len 0 (length marks) k.0 0 within ∙ omega arith in
    let apart : is_copy_beside marks n.0 k.0 ≡ true = and_from (not (nat_eq k.0 n.0)) (is_valid (get_or marks k.0 Invalid)) (ap not (false_from_ne_true (nat_eq k.0 n.0) (λ e. other (ap (λ (i : ℕ). AtNode (record { 0 = i })) ((Decides-eqb k.0 n.0).0 e))))) copy in
    or_right (on_disk s c) (list_any (is_copy_beside marks n.0) (range_with_len 0 (length marks))) (list_any_at (is_copy_beside marks n.0) (range_with_len 0 (length marks)) k.0 0 (omega (arith, within, length-range_with_len 0 (length marks))) (ap (is_copy_beside marks n.0) number ∙ apart))

-- and the other way round
pub elsewhere-some : (p : Program) (m : Machine) (s : State) → HasBlocks p m s → (c : Cell) (n : Node) → is_elsewhere s c n ≡ true → (q : Place) × (q ≢ AtNode n) × (has_copy p m s c q ≡ true)
elsewhere-some p m s blocks c n there = elim (or_cases (on_disk s c) (list_any (is_copy_beside (cell_state s c).marks n.0) (range_with_len 0 (length (cell_state s c).marks))) there) [
  | inl stored ↦ (let home = blocks.home c stored in (OnDisk home.0, λ e. (let f : OnDisk home.0 ≡ AtNode n = e in cc), and_from (on_disk s c) (is_home p m c home.0) stored (home-from p m c home.0 home.1)))
  | inr beside ↦ (let some = list_any-some (is_copy_beside (cell_state s c).marks n.0) (range_with_len 0 (length (cell_state s c).marks)) beside in
      let parts = and_parts (not (nat_eq some.0 n.0)) (is_valid (get_or (cell_state s c).marks some.0 Invalid)) some.2 in
      (AtNode (record { 0 = some.0 }), λ e. (let f : AtNode (record { 0 = some.0 }) ≡ AtNode n = e in grind (arith, parts, (Decides-eqb some.0 n.0))), parts.1))
]

-- ---- the first place that passes

-- where no place is found, none of the list passes
pub position-none : {X : Type 0} (test : X → Bool) (xs : List X) (k : ℕ) (d : X) → position test xs ≡ None → k < length xs → test (get_or xs k d) ≡ false
position-none {X} test xs k d none inside = search (arith, get_or, fails_before_first, ltb-false)

-- ---- victims

-- no victim of the worker leaves by its claim once it has room
pub room-leaves_none : (p : Program) (m : Machine) (s : State) → IsSound p m s → (w : Worker) → has_room m s w ≡ true → NoneLeavesBy s w
room-leaves_none p m s h w room c n = search (arith, false_from_ne_true, list_all-has, false≢true, not-true)

-- ---- what an event makes of a row

written-at : (s : State) (x : Cell) (f : CellState → CellState) (c : Cell) → c.0 < length s.cells → cell_state (with_row s x (f (cell_state s x))) c ≡ (if same_cell x c then f (cell_state s c) else cell_state s c)
written-at s x f c inside = search (arith, cases_Bool, same_cell-is, get_or-set_same, get_or-set_other, same_cell-unlike, no_row)

pub rows-changed : EventsChangeRows
rows-changed p m s (Claim t w) c inside = renewed-at _ s.cells c.0 no_row inside
rows-changed p m s (Move x from to) c inside = refl
rows-changed p m s (Moved x from to) c inside = written-at s x (arrived to) c inside
rows-changed p m s (Drop x n) c inside = written-at s x (λ row. with_mark row n Invalid) c inside
rows-changed p m s (Run t w) c inside = renewed-at _ s.cells c.0 no_row inside
rows-changed p m s (End t w) c inside = renewed-at _ s.cells c.0 no_row inside
