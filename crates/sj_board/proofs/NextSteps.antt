-- What follows of a worker's next step: that it can be made, by whom, and that a worker waits only while another goes on.
use Rattle.sj_board.proofs.Words.{[], AnotherGoesOn, ap, arith, AtNode, Bool, Brings, Cell, cell_state, cells_of, Claimed, Discard, disk_of, DiskNo, Evicts, false, fresh_cells, get_or, has_cell, has_room, HasSwapFor, idle_row, if◌then◌else◌, inl, inr, is_claimed_by, is_coming_by, is_elsewhere, is_entry, is_fresh, is_gone, is_leaving_by, is_moving, is_present, is_read, is_some, is_to_come, is_valid, IsClaimed, IsNext, IsSomeAnd, IsSound, length, List, list_all, list_any, Machine, mark, MatchBool, MatchOption, may_run, next_cell, next_victim, Node, node_of, None, not, OnDisk, Option, option_map, Place, position, Program, progress, refl, reverse, same_cell, same_place, Some, source_of, Start, State, subst, sym, Task, Todo, Transfer, transfer, TransferNext, true, victims_of, Wait, Worker, WorkerState, writes, written_cells, ℕ, ◌&&◌, ◌<◌, ◌||◌, ◌∙◌, ◌∷◌, ◌≡◌, ◌≢◌, ◌⊎◌}
use Rattle.std.proofs.lemmas.{Bool.and_cases, Bool.and_from, Bool.and_parts, Bool.cond_both, Bool.false_from_ne_true, Bool.false≢true, Bool.not-false, Bool.not-true, Bool.or_left, Bool.or_parts, Bool.or_right, List.get_or_default, List.Folds.Any-from_list_any, List.Sorted.All-permutation, List.Sorted.IsPermutation-reverse, List.Sorted.IsPermutation-sym, List.Sums.AllPass-from_list_all, List.Sums.list_all-from_AllPass}
use Rattle.sj_base.proofs.{Bools.not_not, Bools.same_test, Lists.find-passes, Options.IsSomeAnd-at, Options.IsSomeAnd-from}
use Rattle.sj_core.proofs.{Advancing.claimed-task_of, Advancing.claimed_by-is, Blocks.has-disk, CellLists.same_cell-refl, Claimed.claimed-inside, Claimed.list_any-task, Dependencies.Proper-dependencies, Placing.copy-row, Readiness.list_any-some, Reading.entry-inside, Reading.list_all-has, Replicas.coming_by-is, Replicas.entry-cases, Replicas.leaving_by-valid, Replicas.same_worker-refl, Separation.separated, TaskCells.fresh-among_written}
use Rattle.sj_machine.proofs.Commuting.{found-none}

-- a cell that fails, where not all of them pass
fails-some : (test : Cell → Bool) (xs : List Cell) → list_all test xs ≡ false → (c : Cell) × (has_cell xs c ≡ true) × (test c ≡ false)
fails-some test [] h = absurd (false≢true (sym h))
fails-some test (x ∷ xs) h =
    elim (and_cases (test x) (list_all test xs) h) [
      | inl fails ↦ (x, or_left (same_cell x x) (has_cell xs x) (same_cell-refl x), fails)
      | inr some ↦ let r = fails-some test xs some in (r.0, or_right (same_cell x r.0) (has_cell xs r.0) r.1, r.2)
    ]

-- ---- a worker's next victim, and its next cell

module _ (p : Program) (m : Machine) (s : State) (w : Worker) where
  abbrev n : Node
  n = node_of m w

  pub victim-leaves : (c : Cell) → next_victim m s w ≡ Some c → is_leaving_by w (mark s c n) ≡ true
  victim-leaves c e = sym (not_not (is_leaving_by w (mark s c n))) ∙ find-passes (λ (d : Cell). not (is_gone m s w d)) (reverse (victims_of s w)) c e

  -- where no victim is left, there is room
  pub none-room : next_victim m s w ≡ None → has_room m s w ≡ true
  none-room e =
      let victims = victims_of s w in
      let behind = AllPass-from_list_all (λ (c : Cell). not (not (is_gone m s w c))) (reverse victims) (found-none (λ (c : Cell). not (is_gone m s w c)) (reverse victims) e) in
      list_all-from_AllPass (is_gone m s w) victims (All-permutation (λ (c : Cell). is_gone m s w c ≡ true) (reverse victims) victims (IsPermutation-sym victims (reverse victims) (IsPermutation-reverse victims)) (λ k d inside. sym (not_not (is_gone m s w (get_or (reverse victims) k d))) ∙ behind k d inside))

  pub cell-comes : (t : Task) (c : Cell) → next_cell p m s t w ≡ Some c → (is_coming_by w (mark s c n) ≡ true) × (not (is_fresh p s w c) ≡ true)
  cell-comes t c e = and_parts (is_coming_by w (mark s c n)) (not (is_fresh p s w c)) (find-passes (is_to_come p m s w) (cells_of p t w) c e)

  -- where no cell is left to bring, none of the task's cells comes
  none-comes : (t : Task) → next_cell p m s t w ≡ None → (c : Cell) → has_cell (cells_of p t w) c ≡ true → is_to_come p m s w c ≡ false
  none-comes t e c has = not-true (is_to_come p m s w c) (list_all-has (λ d. not (is_to_come p m s w d)) (cells_of p t w) c (found-none (is_to_come p m s w) (cells_of p t w) e) has)

-- ---- how a step comes to be the next one

-- a victim goes to its disk, waits for who reads it, or is dropped; a cell is brought; the kernel begins, or can't yet
pub data NextCase (p : Program) (m : Machine) (s : State) (t : Task) (w : Worker) : Todo → Type 0 where
  GoesOut : (c : Cell) (d : DiskNo) → next_victim m s w ≡ Some c → is_elsewhere s c (node_of m w) ≡ false → disk_of p m c ≡ Some d → NextCase p m s t w (TransferNext c (AtNode (node_of m w)) (OnDisk d) (writes s c))
  IsRead : (c : Cell) → next_victim m s w ≡ Some c → is_elsewhere s c (node_of m w) ≡ true → is_read s c (AtNode (node_of m w)) ≡ true → NextCase p m s t w Wait
  GoesAway : (c : Cell) → next_victim m s w ≡ Some c → is_elsewhere s c (node_of m w) ≡ true → is_read s c (AtNode (node_of m w)) ≡ false → NextCase p m s t w (Discard c)
  ComesIn : (c : Cell) (from : Place) → next_victim m s w ≡ None → next_cell p m s t w ≡ Some c → source_of p m s c ≡ Some from → NextCase p m s t w (TransferNext c from (AtNode (node_of m w)) (writes s c))
  Begins : next_victim m s w ≡ None → next_cell p m s t w ≡ None → may_run p m s t w ≡ true → NextCase p m s t w Start
  CanNotYet : next_victim m s w ≡ None → next_cell p m s t w ≡ None → may_run p m s t w ≡ false → NextCase p m s t w Wait

pub next-case : (p : Program) (m : Machine) (s : State) (t : Task) (w : Worker) (todo : Todo) → IsNext p m s t w todo → NextCase p m s t w todo
next-case p m s t w todo next = by_victim (next_victim m s w) refl next
  where
    by_copies : (c : Cell) → next_victim m s w ≡ Some c → (b : Bool) → is_elsewhere s c (node_of m w) ≡ b → MatchBool b (todo ≡ (if is_read s c (AtNode (node_of m w)) then Wait else Discard c)) (IsSomeAnd (disk_of p m c) (λ d. todo ≡ TransferNext c (AtNode (node_of m w)) (OnDisk d) (writes s c))) → NextCase p m s t w todo
    by_copies c victim true shared is = subst (NextCase p m s t w) (sym is) (cond_both (is_read s c (AtNode (node_of m w))) Wait (Discard c) (NextCase p m s t w) (λ read. IsRead c victim shared read) (λ unread. GoesAway c victim shared unread))
    by_copies c victim false only is =
        let found = IsSomeAnd-at (λ (d : DiskNo). todo ≡ TransferNext c (AtNode (node_of m w)) (OnDisk d) (writes s c)) (disk_of p m c) is in
        subst (NextCase p m s t w) (sym found.2) (GoesOut c found.0 victim only found.1)

    by_cell : next_victim m s w ≡ None → (o : Option Cell) → next_cell p m s t w ≡ o → MatchOption o (todo ≡ (if may_run p m s t w then Start else Wait)) (λ c. Brings p m s c (node_of m w) todo) → NextCase p m s t w todo
    by_cell none None nothing is = subst (NextCase p m s t w) (sym is) (cond_both (may_run p m s t w) Start Wait (NextCase p m s t w) (λ may. Begins none nothing may) (λ stuck. CanNotYet none nothing stuck))
    by_cell none (Some c) cell is =
        let found = IsSomeAnd-at (λ (from : Place). todo ≡ TransferNext c from (AtNode (node_of m w)) (writes s c)) (source_of p m s c) is in
        subst (NextCase p m s t w) (sym found.2) (ComesIn c found.0 none cell found.1)

    by_victim : (o : Option Cell) → next_victim m s w ≡ o → MatchOption o (MatchOption (next_cell p m s t w) (todo ≡ (if may_run p m s t w then Start else Wait)) (λ c. Brings p m s c (node_of m w) todo)) (λ c. Evicts p m s c (node_of m w) todo) → NextCase p m s t w todo
    by_victim None none is = by_cell none (next_cell p m s t w) refl is
    by_victim (Some c) victim is = by_copies c victim (is_elsewhere s c (node_of m w)) refl is

-- ---- a cell whose old value is read

-- the worker's one claimed task says which cells it finds as zeros
pub fresh-is : (p : Program) (m : Machine) (s : State) (h : IsSound p m s) (t : Task) (w : Worker) → progress s t ≡ Claimed w → (c : Cell) → is_fresh p s w c ≡ has_cell (fresh_cells p t w) c
fresh-is p m s h t w claimed c = same_test (is_fresh p s w c) (has_cell (fresh_cells p t w) c)
    (λ some.
    (let found = list_any-some (λ u. is_claimed_by w (progress s u) && has_cell (fresh_cells p u w) c) _ some in
    let parts = and_parts (is_claimed_by w (progress s found.0)) (has_cell (fresh_cells p found.0 w) c) found.2 in
    let one = h.coherent.workers.one_task found.0 t w (claimed-task_of s found.0 w (claimed_by-is w (progress s found.0) parts.0)) (claimed-task_of s t w claimed) in
    ap (λ (u : Task). has_cell (fresh_cells p u w) c) (sym one) ∙ parts.1))
    (λ e. list_any-task p (λ u. is_claimed_by w (progress s u) && has_cell (fresh_cells p u w) c) t (claimed-inside p m s h t w claimed) (and_from (is_claimed_by w (progress s t)) (has_cell (fresh_cells p t w) c) (ap (is_claimed_by w) claimed ∙ same_worker-refl w) e))

-- ---- that another worker goes on

module _ (p : Program) (m : Machine) (s : State) (h : IsSound p m s) (swap : HasSwapFor p m) where
  -- a worker has a transfer under way
  abbrev SomeTransfer : Type 0
  SomeTransfer = (v : Worker) × (is_some (transfer s v) ≡ true)

  -- a transfer in a row that passes is a worker's
  some-transfer : (test : Transfer → Bool) → list_any (λ (row : WorkerState). elim row.transfer as (λ _. Bool) [ None ↦ false | Some move ↦ test move ]) s.workers ≡ true → SomeTransfer
  some-transfer test some =
      let found = Any-from_list_any (λ (row : WorkerState). elim row.transfer as (λ _. Bool) [ None ↦ false | Some move ↦ test move ]) s.workers some in
      (record { 0 = found.0 }, ap (λ (row : WorkerState). is_some row.transfer) (get_or_default s.workers found.0 idle_row found.1 found.2 ∙ found.3) ∙ under_way found.1.transfer found.4)
    where
      under_way : (o : Option Transfer) → elim o as (λ _. Bool) [ None ↦ false | Some move ↦ test move ] ≡ true → is_some o ≡ true
      under_way None e = absurd (false≢true e)
      under_way (Some x) e = refl

  reader : (c : Cell) (q : Place) → is_read s c q ≡ true → SomeTransfer
  reader c q read = some-transfer (λ move. same_cell move.cell c && same_place move.from q) read

  source-some : (c : Cell) → c.0 < length p.cells → (q : Place) × (source_of p m s c ≡ Some q)
  source-some c inside = by_position (position is_valid (cell_state s c).marks) refl
    where
      by_position : (o : Option ℕ) → position is_valid (cell_state s c).marks ≡ o → (q : Place) × ((elim o as (λ _. Option Place) [ None ↦ option_map OnDisk (disk_of p m c) | Some k ↦ Some (AtNode (record { 0 = k })) ]) ≡ Some q)
      by_position None e = let disk = has-disk p m c swap inside in (OnDisk disk.0, ap (λ (o : Option DiskNo). option_map OnDisk o) disk.1)
      by_position (Some k) e = (AtNode (record { 0 = k }), refl)

  module _ (v : Worker) (u : Task) where
    abbrev at : Node
    at = node_of m v

    -- there is a next step
    has-next : (todo : Todo) × IsNext p m s u v todo
    has-next = by_victim (next_victim m s v) refl
      where
        by_copies : (c : Cell) → c.0 < length p.cells → (b : Bool) → (todo : Todo) × MatchBool b (todo ≡ (if is_read s c (AtNode at) then Wait else Discard c)) (IsSomeAnd (disk_of p m c) (λ d. todo ≡ TransferNext c (AtNode at) (OnDisk d) (writes s c)))
        by_copies c inside true = ((if is_read s c (AtNode at) then Wait else Discard c), refl)
        by_copies c inside false =
            let disk = has-disk p m c swap inside in
            let todo : Todo = TransferNext c (AtNode at) (OnDisk disk.0) (writes s c) in
            (todo, IsSomeAnd-from (λ (d : DiskNo). todo ≡ TransferNext c (AtNode at) (OnDisk d) (writes s c)) (disk_of p m c) disk.0 disk.1 refl)

        by_cell : (o : Option Cell) → next_cell p m s u v ≡ o → (todo : Todo) × MatchOption o (todo ≡ (if may_run p m s u v then Start else Wait)) (λ c. Brings p m s c at todo)
        by_cell None e = ((if may_run p m s u v then Start else Wait), refl)
        by_cell (Some c) e =
            let inside = entry-inside s c at (ap is_entry (coming_by-is v (mark s c at) (cell-comes p m s v u c e).0)) in
            let source = source-some c (omega (arith, inside.0, h.coherent.state.rows.cells)) in
            let todo : Todo = TransferNext c source.0 (AtNode at) (writes s c) in
            (todo, IsSomeAnd-from (λ (from : Place). todo ≡ TransferNext c from (AtNode at) (writes s c)) (source_of p m s c) source.0 source.1 refl)

        by_victim : (o : Option Cell) → next_victim m s v ≡ o → (todo : Todo) × MatchOption o (MatchOption (next_cell p m s u v) (todo ≡ (if may_run p m s u v then Start else Wait)) (λ c. Brings p m s c at todo)) (λ c. Evicts p m s c at todo)
        by_victim None e = by_cell (next_cell p m s u v) refl
        by_victim (Some c) e = by_copies c (omega (arith, copy-row p m s c (AtNode at) (leaving_by-valid v (mark s c at) (victim-leaves p m s v c e)), h.coherent.state.rows.cells)) (is_elsewhere s c at)

    -- where it is to bring a cell, it waits only while a transfer goes on
    bringer-goes_on : (c : Cell) → has_cell (cells_of p u v) c ≡ true → is_to_come p m s v c ≡ true → (todo : Todo) → NextCase p m s u v todo → SomeTransfer ⊎ (todo ≡ Wait → ⊥)
    bringer-goes_on c has to_come todo (GoesOut d k victim only target) = inr (λ is. (let clash : TransferNext d (AtNode at) (OnDisk k) (writes s d) ≡ Wait = is in cc))
    bringer-goes_on c has to_come todo (IsRead d victim shared read) = inl (reader d (AtNode at) read)
    bringer-goes_on c has to_come todo (GoesAway d victim shared unread) = inr (λ is. (let clash : Discard d ≡ Wait = is in cc))
    bringer-goes_on c has to_come todo (ComesIn d from none cell source) = inr (λ is. (let clash : TransferNext d from (AtNode at) (writes s d) ≡ Wait = is in cc))
    bringer-goes_on c has to_come todo (Begins none nothing may) = absurd (false≢true (sym (none-comes p m s v u nothing c has) ∙ to_come))
    bringer-goes_on c has to_come todo (CanNotYet none nothing stuck) = absurd (false≢true (sym (none-comes p m s v u nothing c has) ∙ to_come))

  -- ---- a worker that waits

  module _ (t : Task) (w : Worker) (claimed : progress s t ≡ Claimed w) (free : transfer s w ≡ None) where
    abbrev home : Node
    home = node_of m w

    another : SomeTransfer → AnotherGoesOn p m s w
    another found = record { worker = found.0; other = λ e. false≢true (sym (ap is_some (ap (transfer s) e ∙ free)) ∙ found.1); goes_on = inl found.1 }

    -- the cell comes by another's claim
    awaited : next_cell p m s t w ≡ None → (c : Cell) → has_cell (cells_of p t w) c ≡ true → has_cell (fresh_cells p t w) c ≡ false → (v : Worker) → is_coming_by v (mark s c home) ≡ true → AnotherGoesOn p m s w
    awaited none c has read v coming =
        elim (bringer-goes_on v own.task c own.cell to_come next.0 (next-case p m s own.task v next.0 next.1)) [
          | inl found ↦ another found
          | inr goes ↦ record { worker = v; other = other; goes_on = inr (record { task = own.task; claimed = own.claimed; todo = next.0; next = next.1; goes_on = goes }) }
        ]
      where
        own : IsClaimed p s v c
        own = h.coherent.pins.coming_claimed v c home coming

        next : (todo : Todo) × IsNext p m s own.task v todo
        next = has-next v own.task

        at : home ≡ node_of m v
        at = h.coherent.pins.coming_here v c home coming

        other : v ≢ w
        other e = false≢true (sym (none-comes p m s w t none c has) ∙ and_from (is_coming_by w (mark s c home)) (not (is_fresh p s w c)) (ap (λ (x : Worker). is_coming_by x (mark s c home)) (sym e) ∙ coming) (ap not (fresh-is p m s h t w claimed c ∙ read)))

        tasks_differ : t ≢ own.task
        tasks_differ e = other (let same : Claimed v ≡ Claimed w = sym own.claimed ∙ ap (progress s) (sym e) ∙ claimed in cc)

        unfresh : has_cell (fresh_cells p own.task v) c ≡ false
        unfresh = false_from_ne_true (has_cell (fresh_cells p own.task v) c) (λ fresh.
            separated p m h.proper.cells (Proper-dependencies p h.proper) s h.coherent.state h.coherent.workers h.coherent.order t own.task w v c tasks_differ (claimed-task_of s t w claimed) (claimed-task_of s own.task v own.claimed) has (fresh-among_written p own.task v c fresh))

        to_come : is_to_come p m s v c ≡ true
        to_come = and_from (is_coming_by v (mark s c (node_of m v))) (not (is_fresh p s v c)) (ap (λ (j : Node). is_coming_by v (mark s c j)) (sym at) ∙ coming) (ap not (fresh-is p m s h own.task v own.claimed c ∙ unfresh))

    absent : next_cell p m s t w ≡ None → is_present p s t w home ≡ false → AnotherGoesOn p m s w
    absent none missing =
        let found = fails-some (λ c. has_cell (fresh_cells p t w) c || is_valid (mark s c home)) (cells_of p t w) missing in
        let neither = or_parts (has_cell (fresh_cells p t w) found.0) (is_valid (mark s found.0 home)) found.2 in
        elim (entry-cases (mark s found.0 home) (h.coherent.cells.claimed t w found.0 claimed found.1)) [
          | inl (v, is) ↦ awaited none found.0 found.1 neither.0 v (ap (is_coming_by v) is ∙ same_worker-refl v)
          | inr is ↦ absurd (false≢true (sym neither.1 ∙ ap is_valid is))
        ]

    ends : NextCase p m s t w Wait → AnotherGoesOn p m s w
    ends (IsRead c victim shared read) = another (reader c (AtNode home) read)
    ends (CanNotYet none nothing stuck) =
        elim (and_cases (is_present p s t w home) (list_all (λ c. not (is_moving s c)) (written_cells p t w)) stuck) [
          | inl missing ↦ absent nothing missing
          | inr some ↦
              let found = fails-some (λ c. not (is_moving s c)) (written_cells p t w) some in
              another (some-transfer (λ move. same_cell move.cell found.0) (not-false (is_moving s found.0) found.2))
        ]

    pub wait-ends : IsNext p m s t w Wait → AnotherGoesOn p m s w
    wait-ends next = ends (next-case p m s t w Wait next)
