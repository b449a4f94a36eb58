-- What was last written of a cell with a copy on a disk stays so by each event that writes no cell and takes no copy from a disk,
-- and by the end of a task: a cell that a running task writes has no copy there.
use Rattle.sj_board.proofs.Words.{after, after_end, ap, area, arrived, AtNode, CanHappen, Cell, cell_state, CellState, Coherent, Damaged, dims_of, DiskNo, Drop, End, Equations, Event, false, has_cell, HasCause, Header, header, IfSome, inl, inr, Invalid, is_home, IsLastWritten, List, Machine, Mark, Moved, Node, None, on_disk, OnDisk, Option, Place, Program, progress, refl, RunFault, Running, Some, StandingBy, State, state, stored, subst, sym, Task, true, Valid, with_event, with_mark, with_row, Worker, writes, written_cells, written_once_more, ℕ, ◌∙◌, ◌≡◌}
use Rattle.std.proofs.lemmas.Bool.{and_from, false_from_ne_true, false≢true}
use Rattle.sj_core.proofs.{Placing.on_disk-same, Placing.row-cases, Placing.writes-same, Reading.cells-untouched, States.state_of-more}
use Rattle.sj_board.proofs.Keeping.{copy-on_disk}

-- copies on disks stay there, and their cells are written no more
abbrev pub KeepsOnDisks : State → State → Type 0
KeepsOnDisks s s' = (c : Cell) → on_disk s c ≡ true → (on_disk s' c ≡ true) × (writes s' c ≡ writes s c)

last-kept : (p : Program) (m : Machine) (s s' : State) → KeepsOnDisks s s' → (d : DiskNo) (want : Header) → IsLastWritten p m s d want → IsLastWritten p m s' d want
last-kept p m s s' keeps d want last =
    let parts = copy-on_disk p m s last.cell d last.copy in
    let kept = keeps last.cell parts.0 in
    record {
      cell = last.cell;
      copy = and_from (on_disk s' last.cell) (is_home p m last.cell d) kept.0 parts.1;
      header = last.header ∙ ap (λ n. header last.cell.0 n (area (dims_of p last.cell))) (sym kept.1);
    }

-- ---- one row is changed

marked-kept : (s : State) (c : Cell) (n : Node) (r : Mark) → KeepsOnDisks s (with_row s c (with_mark (cell_state s c) n r))
marked-kept s c n r x there = (on_disk-same s c (with_mark (cell_state s c) n r) refl x ∙ there, writes-same s c (with_mark (cell_state s c) n r) refl x)

arrived-kept : (s : State) (c : Cell) (to : Place) → KeepsOnDisks s (with_row s c (arrived to (cell_state s c)))
arrived-kept s c (AtNode n) x there = marked-kept s c n Valid x there
arrived-kept s c (OnDisk d) x there = (
  elim (row-cases s c (stored (cell_state s c)) x) [
    | inl same ↦ ap (λ (row : CellState). row.on_disk) same ∙ there
    | inr (e, is) ↦ ap (λ (row : CellState). row.on_disk) is
  ],
  writes-same s c (stored (cell_state s c)) refl x,
)

-- ---- a task ends

module _ (p : Program) (m : Machine) (s : State) (coherent : Coherent p m s) (t : Task) (w : Worker) (ends : progress s t ≡ Running w) where
  end-kept : KeepsOnDisks s (after_end p m s t w)
  end-kept c there =
      let untouched : has_cell (written_cells p t w) c ≡ false = false_from_ne_true (has_cell (written_cells p t w) c) (λ written. false≢true (sym (coherent.writers.owned t w c ends written).unstored ∙ there)) in
      let same : cell_state (after_end p m s t w) c ≡ cell_state s c = cells-untouched s (has_cell (written_cells p t w)) (λ x row. written_once_more row) c untouched in
      (ap (λ (row : CellState). row.on_disk) same ∙ there, ap (λ (row : CellState). row.writes) same)

-- ---- the cause of a fault that is kept

module _ {D : Type 0} {eq : Equations} (faults mismatches : D → ℕ) (held : D → Option (List ℕ)) (b : StandingBy eq D) where
  -- where none is kept
  pub none-caused : (b' : StandingBy eq D) (fault : Option RunFault) → fault ≡ None → IfSome fault (HasCause faults mismatches held b')
  none-caused b' fault none = subst (λ (o : Option RunFault). IfSome o (HasCause faults mismatches held b')) (sym none) tt

  cause-more : (e : Event) → KeepsOnDisks (state b) (after b.program b.machine (state b) e) → (fault : Option RunFault) → IfSome fault (HasCause faults mismatches held b) → IfSome fault (HasCause faults mismatches held (with_event b e))
  cause-more e keeps (Some (Damaged d want found)) h =
      let last = last-kept b.program b.machine (state b) (after b.program b.machine (state b) e) keeps d want h.3 in
      (h.0, h.1, h.2, subst (λ (s : State). IsLastWritten b.program b.machine s d want) (sym (state_of-more b.program b.machine b.trace e)) last)
  cause-more e keeps _ h = h

  pub dropped-cause : (c : Cell) (n : Node) (fault : Option RunFault) → IfSome fault (HasCause faults mismatches held b) → IfSome fault (HasCause faults mismatches held (with_event b (Drop c n)))
  dropped-cause c n = cause-more (Drop c n) (marked-kept (state b) c n Invalid)

  pub moved-cause : (c : Cell) (from to : Place) (fault : Option RunFault) → IfSome fault (HasCause faults mismatches held b) → IfSome fault (HasCause faults mismatches held (with_event b (Moved c from to)))
  moved-cause c from to = cause-more (Moved c from to) (arrived-kept (state b) c to)

  pub ended-cause : Coherent b.program b.machine (state b) → (t : Task) (w : Worker) → CanHappen b (End t w) → (fault : Option RunFault) → IfSome fault (HasCause faults mismatches held b) → IfSome fault (HasCause faults mismatches held (with_event b (End t w)))
  ended-cause coherent t w can = cause-more (End t w) (end-kept b.program b.machine (state b) coherent t w can)
