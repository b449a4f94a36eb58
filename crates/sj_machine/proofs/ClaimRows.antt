-- What a claim leaves of the rows.
use Rattle.sj_machine.proofs.Words.{after, after_claim, All, ap, arith, Bool, CanClaim, CanHold, Cell, cell_state, cells_of, CellState, Claim, Claimed, claimed_mark, ClaimPlan, Coming, covers, distinct, false, filter, free, get_or, has_cell, HasStores, holding, if◌then◌else◌, is_pinned, IsPlan, KeepsStores, leave, Leaving, length, List, Machine, Mark, mark, mark_in, marked, MayHappen, missing, Node, node_of, not, order, plan_with, Program, Progress, refl, renewed, row_at, row_with, Rows, set, Some, State, state_in, Store, store_at, store_of, subst, sym, Task, tile_bytes, to_come, true, with_mark, Worker, WorkerState, ℕ, ◌&&◌, ◌<◌, ◌∙◌, ◌≡◌, ◌≤◌}
use Rattle.sj_machine.proofs.{ClaimStores.can-hold, ClaimStores.holding-is, ClaimStores.store-elsewhere, FewPins.few-cells, FewPins.pins_on-few, Happening.All-has, Happening.AreLeft, Happening.HasStores-set, Happening.may-happen, Happening.rows-left, Happening.rows_in, Happening.store-at, Loops.renewed-twice, Loops.rows-written}
use Rattle.std.proofs.lemmas.{Bool.false≢true, List.length-set, List.set-get_or}
use Rattle.sj_core.proofs.{Bytes.entry-cell, CellLists.times, CellLists.times-append, CellLists.times-distinct, CellLists.times-filter, Claiming.evicted-free, Claiming.missing-absent, Claiming.task-cell, Claiming.victim-valid, Eviction.evicted-after, Eviction.evicted-chosen, Eviction.evicted_by, Eviction.shortest_suffix-suffix, Reading.no_row, Tables.length-renewed, Tables.renewed-at}

some_is : (vs ws : List Cell) → Some vs ≡ Some ws → vs ≡ ws
some_is vs ws e = cc

-- what the calls of a claim require
pub record CanChange (cells : List CellState) (nodes : List Store) (n : Node) (w : Worker) (plan : ClaimPlan) : Type 0 where
  pub hold : CanHold (store_at nodes n) plan
  pub victims : All (λ c. c.0 < length cells) plan.victims
  pub missing : All (λ c. c.0 < length (marked cells plan.victims n (Leaving w))) plan.missing
  pub wide : All (λ row. n.0 < length row.marks) (marked cells plan.victims n (Leaving w))

module _ (p : Program) (m : Machine) (tasks : List Progress) (cells : List CellState) (nodes : List Store) (workers : List WorkerState) (keeps : KeepsStores p m (state_in tasks cells nodes workers) nodes) (t : Task) (w : Worker) (claim : CanClaim p m (state_in tasks cells nodes workers) t w) where
  abbrev s : State
  s = state_in tasks cells nodes workers

  abbrev s' : State
  s' = after p m s (Claim t w)

  abbrev n : Node
  n = node_of m w

  leaves : s' ≡ after_claim p m s t w (evicted_by p m s t w)
  leaves = evicted-after p m s t w

  abbrev evicted : List Cell
  evicted = evicted_by p m s t w

  abbrev brought : List Cell
  brought = missing p s t w n

  abbrev plan : ClaimPlan
  plan = plan_with p m s t w evicted

  within : n.0 < length m.nodes
  within = (let some = keeps.sound.machine.some_node in omega arith)

  store-is : store_at nodes n ≡ store_of p m s n
  store-is = store-at p m s nodes keeps.stores n _ within

  -- ---- cells

  brought-once : (c : Cell) → times brought c ≤ 1
  brought-once c = omega (arith, times-filter (λ d. not (has_cell (order s n) d)) (distinct (cells_of p t w)) c, times-distinct (cells_of p t w) c)

  evicted-once : (c : Cell) → times evicted c ≤ 1
  evicted-once c =
      let spare : Cell → Bool = λ d. not (is_pinned m s n d) && not (has_cell (cells_of p t w) d) in
      let end = shortest_suffix-suffix (covers (tile_bytes p) (free p m s n) (to_come p s t w n)) (filter spare (order s n)) evicted (evicted-chosen p m s t w claim) in
      omega (arith, times-append end.0 evicted c, ap (λ (cs : List Cell). times cs c) end.1, times-filter spare (order s n) c, keeps.sound.coherent.state.entries.once n c)

  abbrev put : List Cell → Mark → ℕ → CellState → CellState
  put cs x k row = let c : Cell = record { 0 = k } in if has_cell cs c then with_mark row n x else row

  left-is : marked cells evicted n (Leaving w) ≡ renewed (put evicted (Leaving w)) cells
  left-is = rows-written (λ row. with_mark row n (Leaving w)) evicted cells evicted-once

  came-is : marked (marked cells evicted n (Leaving w)) brought n (Coming w) ≡ s'.cells
  came-is =
      rows-written (λ row. with_mark row n (Coming w)) brought (marked cells evicted n (Leaving w)) brought-once
      ∙ ap (renewed (put brought (Coming w))) left-is
      ∙ renewed-twice (put brought (Coming w)) (put evicted (Leaving w)) (λ k row. with_mark row n (claimed_mark w evicted brought (record { 0 = k }) (mark_in row n))) cells no_row (λ k inside. (let c : Cell = record { 0 = k } in by_case c (has_cell evicted c) refl (has_cell brought c) refl))
      ∙ ap (λ (z : State). z.cells) (sym leaves)
    where
      by_case : (c : Cell) (a : Bool) → has_cell evicted c ≡ a → (b : Bool) → has_cell brought c ≡ b → put brought (Coming w) c.0 (put evicted (Leaving w) c.0 (cell_state s c)) ≡ with_mark (cell_state s c) n (claimed_mark w evicted brought c (mark s c n))
      by_case c true e true f = absurd (false≢true (sym (missing-absent p m s t w s' claim leaves c f).0 ∙ (evicted-free p m s t w s' claim leaves c e).2))
      by_case c true e false f = rw e (rw f (ap (λ x. with_mark (cell_state s c) n (leave w x)) (sym (victim-valid p m s keeps.sound t w s' claim leaves c e))))
      by_case c false e true f = rw e (rw f refl)
      by_case c false e false f = rw e (rw f (ap (λ xs. let row : CellState = record (cell_state s c) { marks = xs } in row) (sym (set-get_or (cell_state s c).marks n.0 _))))

  left-length : length (marked cells evicted n (Leaving w)) ≡ length cells
  left-length = ap length left-is ∙ length-renewed (put evicted (Leaving w)) cells

  left-wide : All (λ row. n.0 < length row.marks) (marked cells evicted n (Leaving w))
  left-wide i d inside =
      let before : i < length cells = omega (arith, inside, left-length) in
      let had : length (get_or cells i d).marks ≡ length m.nodes = keeps.sound.coherent.state.rows.marks i d before in
      rw left-is (rw (renewed-at (put evicted (Leaving w)) cells i d before) (by_case (has_cell evicted (record { 0 = i })) (get_or cells i d) (omega (arith, had, within))))
    where
      by_case : (b : Bool) (row : CellState) → n.0 < length row.marks → n.0 < length (if b then with_mark row n (Leaving w) else row).marks
      by_case true row h = omega (arith, h, length-set row.marks n.0 (Leaving w))
      by_case false row h = h

  pub can-change : CanChange cells nodes n w plan
  can-change = record {
    hold = subst (λ (x : Store). CanHold x plan) (sym store-is) (can-hold p m s keeps.sound t w s' claim leaves (λ c. omega (arith, pins_on-few p m keeps.sound.machine s keeps.few n c, few-cells p keeps.sound.proper t w)));
    victims = All-has (λ c. c.0 < length cells) evicted (λ c gone. omega (arith, entry-cell p m s keeps.sound.coherent.state n c (evicted-free p m s t w s' claim leaves c gone).2, keeps.sound.coherent.state.rows.cells));
    missing = All-has (λ c. c.0 < length (marked cells evicted n (Leaving w))) brought (λ c lacks. omega (arith, left-length, task-cell p m s keeps.sound t w s' claim leaves c (missing-absent p m s t w s' claim leaves c lacks).1));
    wide = left-wide;
  }

  -- ---- nodes

  pub stores-held : HasStores p m s' (set nodes n.0 (holding (store_at nodes n) plan))
  stores-held = HasStores-set p m s s' nodes n (holding (store_at nodes n) plan) within (ap (λ (x : Store). holding x plan) store-is ∙ holding-is p m s keeps.sound t w s' claim leaves) (store-elsewhere p m s keeps.sound t w s' claim leaves) keeps.stores

-- ---- as the code has it

module _ (p : Program) (m : Machine) (tasks : List Progress) (cells : List CellState) (nodes : List Store) (workers : List WorkerState) (keeps : KeepsStores p m (state_in tasks cells nodes workers) nodes) (r : Rows) (same : rows_in p m (state_in tasks cells nodes workers) ≡ r)
    (t : Task) (w : Worker) (can : MayHappen r (Claim t w)) (x : ClaimPlan) (asked : IsPlan r.program r.machine r.state t w x) (k : Node) (at : k ≡ node_of m w) where
  abbrev old : State
  old = state_in tasks cells nodes workers

  the_claim : CanClaim p m old t w
  the_claim = may-happen p m old keeps.sound r same (Claim t w) can

  abbrev the_plan : ClaimPlan
  the_plan = plan_with p m old t w (evicted_by p m old t w)

  plan-is : x ≡ the_plan
  plan-is = (let is = subst (λ (y : Rows). IsPlan y.program y.machine y.state t w x) (sym same) asked in is.rest ∙ ap (plan_with p m old t w) (some_is x.victims (evicted_by p m old t w) (sym is.chosen ∙ evicted-chosen p m old t w the_claim)))

  pub claim-can : CanChange cells nodes k w x
  claim-can = subst (λ (j : Node). CanChange cells nodes j w x) (sym at) (subst (λ (y : ClaimPlan). CanChange cells nodes (node_of m w) w y) (sym plan-is) (can-change p m tasks cells nodes workers keeps t w the_claim))

  pub claimed : (cells' : List CellState) (nodes' : List Store) (workers' : List WorkerState) → cells' ≡ marked (marked cells x.victims k (Leaving w)) x.missing k (Coming w) → nodes' ≡ set nodes k.0 (holding (store_at nodes k) x) → workers' ≡ set workers w.0 (row_with (row_at workers w) x) → AreLeft r (Claim t w) p m (state_in (set tasks t.0 (Claimed w)) cells' nodes' workers') nodes'
  claimed cells' nodes' workers' as_cells as_nodes as_workers =
      let n = node_of m w in
      rows-left p m old keeps.sound r same (Claim t w) can keeps.few (set tasks t.0 (Claimed w)) cells' nodes' workers' refl
      (as_cells ∙ ap (λ (j : Node). marked (marked cells x.victims j (Leaving w)) x.missing j (Coming w)) at ∙ ap (λ (y : ClaimPlan). marked (marked cells y.victims n (Leaving w)) y.missing n (Coming w)) plan-is ∙ came-is p m tasks cells nodes workers keeps t w the_claim)
      (as_workers ∙ ap (λ (y : ClaimPlan). set workers w.0 (row_with (row_at workers w) y)) plan-is ∙ ap (λ (z : State). z.workers) (sym (evicted-after p m old t w)))
      (subst (λ (ns : List Store). HasStores p m (after p m old (Claim t w)) ns) (sym (as_nodes ∙ ap (λ (j : Node). set nodes j.0 (holding (store_at nodes j) x)) at ∙ ap (λ (y : ClaimPlan). set nodes n.0 (holding (store_at nodes n) y)) plan-is)) (stores-held p m tasks cells nodes workers keeps t w the_claim))
