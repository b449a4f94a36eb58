-- The bytes on a node: sums over its entries, its leaving copies and its workers; a step that brings nothing keeps that
-- they suffice.
use Rattle.sj_core.proofs.Words.{ap, arith, Bool, Cell, cells_of_program, cond, count_by, entries_beside, filter, has_cell, is_coming_by, is_leaving_by, IsStateOf, leaving_by, length, List, Machine, mark, nat_eq, nat_le, nat_lt, Node, node_of, not, order, others_at, Program, refl, same_worker, scratch, State, sum_by, sym, tile_bytes, true, used, used_while_leaving, Worker, workers_at, workers_of, ℕ, ◌&&◌, ◌+◌, ◌<◌, ◌∙◌, ◌≡◌, ◌≢◌, ◌≤◌}
use Rattle.std.proofs.lemmas.{Bool.and_from, Bool.and_parts, Bool.false≢true, Bool.Decides.Decides-eqb, List.Sums.sum_by-le-sum_by}
use Rattle.sj_base.proofs.{Bools.tally, Bools.tally-le, Lists.sum_by-agree}
use Rattle.sj_core.proofs.{CellLists.has_cell-filter_is, CellLists.share, CellLists.sum-once, CellLists.times, CellLists.times-filter, CellLists.times-program, Reading.entry-inside, Sums.count-numbered, Sums.filter-sum-le, Sums.sum-filter, Sums.sum-filter-le, TaskCells.filter-filter}

-- ---- the bytes of the cells that pass a test

abbrev pub bytes_where : Program → (Cell → Bool) → ℕ
bytes_where p test = sum_by (share (tile_bytes p) test) (cells_of_program p)

bytes_where-le : (p : Program) (f g : Cell → Bool) → ((c : Cell) → f c ≡ true → g c ≡ true) → bytes_where p f ≤ bytes_where p g
bytes_where-le p f g wider = search (arith, sum_by-le-sum_by, share)

bytes_where-same : (p : Program) (f g : Cell → Bool) → ((c : Cell) → f c ≡ g c) → bytes_where p f ≡ bytes_where p g
bytes_where-same p f g same = sum_by-agree (share (tile_bytes p) f) (share (tile_bytes p) g) (λ c. ap (λ b. cond b (tile_bytes p c) 0) (same c)) (cells_of_program p)

-- the bytes of a list that has cells of the program, each at most once
pub once-bytes : (p : Program) (xs : List Cell) → ((c : Cell) → has_cell xs c ≡ true → c.0 < length p.cells) → ((c : Cell) → times xs c ≤ 1) → sum_by (tile_bytes p) xs ≡ bytes_where p (has_cell xs)
once-bytes p xs inside once = sum-once (tile_bytes p) (cells_of_program p) xs (λ c has. times-program p c (inside c has)) once

module _ (p : Program) (m : Machine) (s : State) (state : IsStateOf p m s) (n : Node) where
  pub entry-cell : (c : Cell) → has_cell (order s n) c ≡ true → c.0 < length p.cells
  entry-cell c has = omega (arith, (entry-inside s c n (sym (state.entries.entries n c) ∙ has)).0, state.rows.cells)

  pub order-bytes : sum_by (tile_bytes p) (order s n) ≡ bytes_where p (has_cell (order s n))
  order-bytes = once-bytes p (order s n) entry-cell (state.entries.once n)

  pub leaving-bytes : (w : Worker) → sum_by (tile_bytes p) (leaving_by p s w n) ≡ bytes_where p (λ c. is_leaving_by w (mark s c n))
  leaving-bytes w = sum-filter (tile_bytes p) (λ c. is_leaving_by w (mark s c n)) (cells_of_program p)

  pub beside-bytes : (w : Worker) → sum_by (tile_bytes p) (entries_beside s w n) ≡ bytes_where p (λ c. not (is_coming_by w (mark s c n)) && has_cell (order s n) c)
  beside-bytes w =
      let test : Cell → Bool = λ c. not (is_coming_by w (mark s c n)) in
      once-bytes p (filter test (order s n)) (λ c has. entry-cell c (and_parts (test c) (has_cell (order s n) c) (sym (has_cell-filter_is test (order s n) c) ∙ has)).1) (λ c. (let fewer = times-filter test (order s n) c in let once = state.entries.once n c in omega arith))
      ∙ bytes_where-same p (has_cell (filter test (order s n))) (λ c. test c && has_cell (order s n) c) (has_cell-filter_is test (order s n))

-- ---- the scratch of the workers

pub worker-once_at : (m : Machine) (n : Node) (w : Worker) → count_by (λ v. same_worker v w) (workers_at m n) ≤ 1
worker-once_at m n w =
    let all = filter-sum-le (λ (v : Worker). tally (same_worker v w)) (λ v. nat_eq (node_of m v).0 n.0) (workers_of m) in
    let more = count-numbered (λ i. record { 0 = i }) (λ v. same_worker v w) w.0 (λ i. refl) 0 m.workers in
    omega (arith, tally-le (nat_le 0 w.0 && nat_lt w.0 (0 + m.workers)))

-- a worker of a list of a node's workers is bound there
pub others-le : (m : Machine) (n : Node) (w : Worker) (f g : Worker → ℕ) → ((v : Worker) → node_of m v ≡ n → v ≢ w → f v ≤ g v) → sum_by f (others_at m n w) ≤ sum_by g (others_at m n w)
others-le m n w f g le = search (arith, filter-filter, sum-filter-le, and_parts, Decides-eqb, false≢true)

workers-le : (m : Machine) (n : Node) (f g : Worker → ℕ) → ((v : Worker) → node_of m v ≡ n → f v ≤ g v) → sum_by f (workers_at m n) ≤ sum_by g (workers_at m n)
workers-le m n f g le = search (arith, sum-filter-le, Decides-eqb)

-- ---- steps that bring nothing

-- where no more is an entry of the node, and no worker of it holds more scratch
module _ (p : Program) (m : Machine) (s s' : State) (before : IsStateOf p m s) (after : IsStateOf p m s') (k : Node)
    (entries : (c : Cell) → has_cell (order s' k) c ≡ true → has_cell (order s k) c ≡ true)
    (scratches : (v : Worker) → node_of m v ≡ k → scratch s' v ≤ scratch s v) where
  pub fewer-entries : used p m s' k ≤ used p m s k
  fewer-entries =
      let all = bytes_where-le p (has_cell (order s' k)) (has_cell (order s k)) entries in
      let one = workers-le m k (scratch s') (scratch s) scratches in
      omega (arith, order-bytes p m s' after k, order-bytes p m s before k)

  -- and none leaves that didn't, and what came still comes
  pub fewer-leaving : (v : Worker) → ((c : Cell) → is_leaving_by v (mark s' c k) ≡ true → is_leaving_by v (mark s c k) ≡ true) → ((c : Cell) → is_coming_by v (mark s c k) ≡ true → is_coming_by v (mark s' c k) ≡ true) → used_while_leaving p m s' v k ≤ used_while_leaving p m s v k
  fewer-leaving v leaves comes =
      let all = bytes_where-le p (λ c. not (is_coming_by v (mark s' c k)) && has_cell (order s' k) c) (λ c. not (is_coming_by v (mark s c k)) && has_cell (order s k) c) still in
      let more = bytes_where-le p (λ c. is_leaving_by v (mark s' c k)) (λ c. is_leaving_by v (mark s c k)) leaves in
      let one = others-le m k v (scratch s') (scratch s) (λ x here other. scratches x here) in
      let rest = leaving-bytes p m s' after k v in
      omega (arith, leaving-bytes p m s before k v, beside-bytes p m s' after k v, beside-bytes p m s before k v)
    where
      not_coming : (x y : Bool) → (x ≡ true → y ≡ true) → not y ≡ true → not x ≡ true
      not_coming b y f g = search arith

      still : (c : Cell) → (not (is_coming_by v (mark s' c k)) && has_cell (order s' k) c) ≡ true → (not (is_coming_by v (mark s c k)) && has_cell (order s k) c) ≡ true
      still c both = search (arith, and_parts, and_from, not_coming)
