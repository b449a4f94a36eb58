-- No event takes away a copy that a task or a transfer works on.
use Rattle.sj_board.proofs.Words.{a_transfer, after, ap, Array, Arrays, arrays_after, arrived, AtNode, CanHappen, Cell, cell_state, CellState, Claim, cond, dims_of, Drop, End, Equations, Event, EventsSpareUsed, false, fresh_cells, has_cell, has_copy, held_at, inl, inr, Invalid, is_home, is_leaving, is_pinned, is_read, is_used, is_valid, IsSound, IsTransferTo, Keeps, List, Machine, mark, mark_in, May, Move, Moved, mover_of, nat_eq, Node, node_of, on_disk, OnDisk, Option, pins, Place, Program, refl, result_in, Rows, Run, run_arrays, same_cell, same_place, Some, Spares, SparesUsed, StandingBy, State, state, stored, subst, sym, transfer, true, Valid, with_event, with_mark, with_row, Worker, workers_at, workers_of, written_cells, zeros, ℕ, ◌&&◌, ◌||◌, ◌∙◌, ◌≡◌}
use Rattle.std.proofs.lemmas.{Bool.and_parts, Bool.cases_Bool, Bool.false≢true, Bool.not-true, Bool.Decides.Decides-eqb}
use Rattle.sj_base.proofs.SameIds.{same_cell-is}
use Rattle.sj_core.proofs.{Changing.copies-left, Changing.left_alone, Claiming.claim-copy, Ending.end-alone, Eviction.evicted-after, Finding.second_fails, Placing.mark-cases, Placing.on_disk-same, Placing.row-cases, Placing.same_place-is, Readiness.filter-Contains, Readiness.list_any-some, Replicas.coming_by-is, Running.run-other, Running.run-stale, States.arrays_of-more, States.state_of-more}
use Rattle.sj_board.proofs.Keeping.{sound_state}

module _ (p : Program) (m : Machine) (s : State) (h : IsSound p m s) where
  -- what leaves isn't used, where nothing reads it
  left-unused : (c : Cell) (n : Node) → is_leaving (mark s c n) ≡ true → is_read s c (AtNode n) ≡ false → is_used m s c (AtNode n) ≡ true → ⊥
  left-unused c n leaving unread used =
      elim (cases_Bool (is_pinned m s n c)) [
        | inl pinned ↦ (
            let by = list_any-some (λ w. has_cell (pins s w) c) (workers_at m n) pinned in
            let at : node_of m by.0 ≡ n = (let e = (Decides-eqb (node_of m by.0).0 n.0).0 (filter-Contains (λ w. nat_eq (node_of m w).0 n.0) (workers_of m) by.0 by.1) in ap (λ (i : ℕ). let j : Node = record { 0 = i } in j) e) in
            false≢true (sym (h.coherent.pins.stays by.0 c by.2) ∙ ap (λ (k : Node). is_leaving (mark s c k)) at ∙ leaving)
            )
        | inr free ↦ false≢true (sym (ap (λ x. x || is_read s c (AtNode n)) free ∙ unread) ∙ used)
      ]

  -- a transfer's target has no copy
  target-none : (c : Cell) (from to : Place) (w : Worker) → transfer s w ≡ Some (a_transfer c from to) → has_copy p m s c to ≡ false
  target-none c from to w under_way = by_target from to (h.coherent.transfers.target w (a_transfer c from to) under_way)
    where
      by_target : (q k : Place) → IsTransferTo m s w c q k → has_copy p m s c k ≡ false
      by_target q (AtNode n) target = ap is_valid (coming_by-is w (mark s c n) target.1)
      by_target (AtNode k) (OnDisk d) target = ap (λ b. b && is_home p m c d) target.1
      by_target (OnDisk e) (OnDisk d) target = absurd (false≢true target)

  -- a mark that is written takes no other copy away
  marked-copy : (x : Cell) (n : Node) (r : _) (c : Cell) (q : Place) → has_copy p m s c q ≡ true → ((c ≡ x) → (q ≡ AtNode n) → is_valid r ≡ true) → has_copy p m (with_row s x (with_mark (cell_state s x) n r)) c q ≡ true
  marked-copy x n r c (AtNode k) copy new = elim (mark-cases s x n r c k) [
    | inl same ↦ ap is_valid same ∙ copy
    | inr (e, at, is) ↦ ap is_valid is ∙ new e (ap AtNode at)
  ]
  marked-copy x n r c (OnDisk d) copy new = ap (λ b. b && is_home p m c d) (on_disk-same s x (with_mark (cell_state s x) n r) refl c) ∙ copy

  -- and a block that becomes a copy none
  stored-copy : (x c : Cell) (q : Place) → has_copy p m s c q ≡ true → has_copy p m (with_row s x (stored (cell_state s x))) c q ≡ true
  stored-copy x c (AtNode k) copy = elim (row-cases s x (stored (cell_state s x)) c) [
    | inl same ↦ ap (λ (row : CellState). is_valid (mark_in row k)) same ∙ copy
    | inr (e, is) ↦ ap (λ (row : CellState). is_valid (mark_in row k)) is ∙ ap (λ (d : Cell). is_valid (mark s d k)) (sym e) ∙ copy
  ]
  stored-copy x c (OnDisk d) copy = elim (row-cases s x (stored (cell_state s x)) c) [
    | inl same ↦ ap (λ (row : CellState). row.on_disk && is_home p m c d) same ∙ copy
    | inr (e, is) ↦ ap (λ (row : CellState). row.on_disk && is_home p m c d) is ∙ (and_parts (on_disk s c) (is_home p m c d) copy).1
  ]

  arrived-copy : (x : Cell) (to : Place) (c : Cell) (q : Place) → has_copy p m s c q ≡ true → has_copy p m (with_row s x (arrived to (cell_state s x))) c q ≡ true
  arrived-copy x (AtNode n) c q copy = marked-copy x n Valid c q copy (λ e at. refl)
  arrived-copy x (OnDisk d) c q copy = stored-copy x c q copy

  module _ (eq : Equations) (A : Arrays) where
    -- a cell that a transfer brings has no copy where it comes to
    moved-array : (x : Cell) (from to : Place) (c : Cell) (q : Place) → transfer s (mover_of s x from to) ≡ Some (a_transfer x from to) → has_copy p m s c q ≡ true → arrays_after eq p m A (Moved x from to) c q ≡ A c q
    moved-array x from to c q under_way copy = elim (cases_Bool (same_place q to && same_cell x c)) [
      | inl both ↦
          let tests = and_parts (same_place q to) (same_cell x c) both in
          absurd (false≢true (sym (target-none x from to (mover_of s x from to) under_way) ∙ ap (λ (y : Cell). has_copy p m s y to) (same_cell-is x c tests.1) ∙ ap (λ (k : Place). has_copy p m s c k) (sym (same_place-is q to tests.0)) ∙ copy))
      | inr other ↦ ap (λ b. cond b (A x from) (A c q)) other
    ]

    pub Step-spares : (e : Event) → May p m s e → SparesUsed p m s A e (after p m s e) (arrays_after eq p m A e)
    Step-spares (Claim t w) may c q used copy spared = (claim-copy p m s h t w (after p m s (Claim t w)) may (evicted-after p m s t w) c q ∙ copy, refl)
    Step-spares (Move x from to) may c q used copy spared = (copies-left p m s (after p m s (Move x from to)) c (left_alone s (after p m s (Move x from to)) c refl) q ∙ copy, refl)
    Step-spares (Moved x from to) may c q used copy spared = (
      copies-left p m (with_row s x (arrived to (cell_state s x))) (after p m s (Moved x from to)) c (left_alone (with_row s x (arrived to (cell_state s x))) (after p m s (Moved x from to)) c refl) q ∙ arrived-copy x to c q copy,
      moved-array x from to c q may copy,
    )
    Step-spares (Drop x n) may c q used copy spared = (
      marked-copy x n Invalid c q copy (λ e at. absurd (left-unused x n may.leaving (not-true (is_read s x (AtNode n)) may.unread) (ap (λ (y : Cell). is_used m s y (AtNode n)) (sym e) ∙ ap (is_used m s c) (sym at) ∙ used))),
      refl,
    )
    Step-spares (Run t w) may c q used copy spared = (
      copies-left p m s (after p m s (Run t w)) c (run-other p m s t w (after p m s (Run t w)) may refl c spared) q ∙ copy,
      second_fails (same_place q (AtNode (node_of m w))) (has_cell (fresh_cells p t w) c) (zeros (dims_of p c)) (A c q) (run-stale p m s h t w (after p m s (Run t w)) may refl c spared),
    )
    Step-spares (End t w) may c q used copy spared = (
      copies-left p m s (after p m s (End t w)) c (end-alone p m s t w (after p m s (End t w)) may refl c) q ∙ copy,
      second_fails (same_place q (AtNode (node_of m w))) (has_cell (written_cells p t w) c) (result_in eq p t w (held_at A (AtNode (node_of m w))) c) (A c q) spared,
    )

pub spares-event : {D : Type 0} {eq : Equations} (b : StandingBy eq D) → IsSound b.program b.machine (state b) → (e : Event) → CanHappen b e → Spares b e (with_event b e)
spares-event {D} {eq} b sound e can =
    subst (λ (z : State). SparesUsed b.program b.machine (state b) (run_arrays b) e z (run_arrays (with_event b e))) (sym (state_of-more b.program b.machine b.trace e))
    (subst (λ (A : Arrays). SparesUsed b.program b.machine (state b) (run_arrays b) e (after b.program b.machine (state b) e) A) (sym (arrays_of-more eq b.program b.machine b.trace e))
    (Step-spares b.program b.machine (state b) sound eq (run_arrays b) e can))

pub events-spare : {D : Type 0} {eq : Equations} (size faults mismatches : D → ℕ) (held : D → Option (List ℕ)) (b : StandingBy eq D) (rows : Rows) (tiles : List (List (Option Array))) (spare : ℕ) → Keeps size faults mismatches held b rows tiles spare → (b' : StandingBy eq D) → b ≡ b' → EventsSpareUsed b'
events-spare size faults mismatches held b rows tiles spare keeps b' same = subst (λ (x : StandingBy _ _). EventsSpareUsed x) same (spares-event b (sound_state size faults mismatches held b rows tiles spare keeps))
