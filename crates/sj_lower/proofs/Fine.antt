-- What holds of the program after the statements so far, and that closing a phase keeps it.
use Rattle.sj_lower.proofs.Words.{[], all_closed, AllByRecursion, ap, arith, Bool, Cell, CellInfo, child_array, closed, combine_row, combine_rows, copy_at, Deliver, dims_of, false, inl, inr, is_valued_child, IsPlain, JobState, kernel_of, Least, length, length-append, Line, List, Lowered, Lowering, OpenPhase, Plus, Printed, Program, range_with_len, Reduction, refl, same_cell, Some, subst, sym, Table, task, task_of, true, ℕ, ◌++◌, ◌+◌, ◌<◌, ◌∙◌, ◌∷◌, ◌≡◌}
use Rattle.std.proofs.lemmas.{Bool.cases_lt, List.length-map, List.FromFn.length-range_with_len}
use Rattle.sj_plan.proofs.Lists.{each-map}
use Rattle.sj_lower.proofs.{Closing.agrees_turned, Closing.begins-all_closed, Closing.by_phase, Closing.Closed, Contents.contents_before, Delivered.AreDelivered, Delivered.delivered_beside, Folding.Stand, Good.AreGood, Good.good-all, Good.good-at, Good.good_combine, Good.IsGood, Growing.grows-refl, Holding.differs, Holding.IsHeld, Laid.cell-inside, Laid.cell-is, Laid.none_isn't, Logging.IsOwn, Logging.log-close, Logging.Logged, Owning.one-owner, Owning.plain-child, Phasing.each-of_all, Stating.Agrees, Stating.Begins, Stating.begins-less, Stating.IsActiveChild, Stating.stands-more}

-- what holds after the statements so far
pub record IsFine (T : Table) (p : Program) (L : Lowering) (S : JobState) (out : List Printed) : Type 0 where
  pub agrees : Agrees p L S
  pub good : (n : ℕ) → n < length L.tasks → IsGood p n (task_of p (task n))
  pub delivered : AreDelivered T p L out
  pub logged : Logged p (length L.tasks) L.phase

-- the tasks so far are good, and so are those that are more
pub good-more : (p : Program) (L M : Lowering) (ls : List Lowered) → M.tasks ≡ L.tasks ++ ls → Stand p (length L.tasks) ls → AreGood p (length L.tasks) ls → ((n : ℕ) → n < length L.tasks → IsGood p n (task_of p (task n))) → (n : ℕ) → n < length M.tasks → IsGood p n (task_of p (task n))
good-more p L M ls e s new old n h =
    let many = ap length e ∙ length-append L.tasks ls in
    elim (cases_lt n (length L.tasks)) [
      | inl inside ↦ old n inside
      | inr past ↦ good-at p (length L.tasks) ls n new s past (omega (arith, h, many))
    ]

-- ---- cells with open phases

module _ (p : Program) (L : Lowering) (S : JobState) (b : Begins p L) (g : Agrees p L S) (c : Cell) (f : OpenPhase) (is : L.phase c ≡ Some f) where
  abbrev child : IsActiveChild L.cells S c
  child = g.opened c f is

  pub open-plain : IsPlain p c
  open-plain =
      let o = child in
      let r = g.roots o.name o.root o.is_root in
      subst (IsPlain p) (sym o.cell) (plain-child p L.cells b.cells g.theirs.copies o.name o.root.dims o.root.parts r.first o.place g.laid r.taken o.placed)

  pub open-own : IsOwn p c f
  open-own = record {
    partials = b.cells.kept c.0 f.copies (g.theirs.theirs c f is);
    plain = open-plain;
    copies = λ w d v below copy. one-owner p L.cells b.cells g.theirs.copies c f.copies w d v (g.theirs.theirs c f is) below copy;
  }

  -- its child has a value
  pub open-valued : is_valued_child child.root child.place ≡ true
  open-valued = by_test (is_valued_child child.root child.place) refl
    where
      by_test : (v : Bool) → is_valued_child child.root child.place ≡ v → is_valued_child child.root child.place ≡ true
      by_test true e = e
      by_test false e = absurd (none_isn't f (sym ((g.roots child.name child.root child.is_root).blank child.place child.placed e) ∙ ap L.phase (sym child.cell) ∙ is))

  pub open-held : IsHeld p L.phase (length L.tasks) (contents_before p (length L.tasks)) c (child_array child.root child.place)
  open-held = subst (λ (d : Cell). IsHeld p L.phase (length L.tasks) (contents_before p (length L.tasks)) d (child_array child.root child.place)) (sym child.cell) ((g.roots child.name child.root child.is_root).held child.place child.placed open-valued)

  pub open-inside : c.0 < length L.cells.rows
  open-inside =
      let r = g.roots child.name child.root child.is_root in
      subst (λ (d : Cell). d.0 < length L.cells.rows) (sym child.cell) (cell-inside L.cells child.name child.root.dims child.root.parts r.first child.place g.laid r.taken child.placed)

  -- none of its partial copies is the cell
  pub open-beside : (w : ℕ) → w < p.workers → same_cell (copy_at f.copies w) c ≡ false
  open-beside w below =
      let o = child in
      let r = g.roots o.name o.root o.is_root in
      differs (copy_at f.copies w) c (λ same. g.theirs.copies.beside c f.copies w o.name o.root.dims o.root.parts r.first o.place (g.theirs.theirs c f is) below r.taken o.placed
      (ap (λ (d : Cell). d.0) (same ∙ o.cell) ∙ cell-is L.cells o.name o.root.dims o.root.parts r.first o.place r.taken))

  pub copy-size : (w : ℕ) → w < p.workers → dims_of p (copy_at f.copies w) ≡ dims_of p c
  copy-size w below =
      let partials = g.theirs.theirs c f is in
      b.cells.dims (f.copies.0 + w) (omega (arith, g.theirs.copies.inside c f.copies partials, below))
      ∙ ap (λ (i : CellInfo). i.dims) (g.theirs.copies.copy c f.copies w partials below)
      ∙ sym (b.cells.dims c.0 open-inside)

  pub combine-good : (w : ℕ) → w < p.workers → IsGood p (length L.tasks) (combine_row f.by c f.line (copy_at f.copies w))
  combine-good w below =
      let partials = g.theirs.theirs c f is in
      good_combine p (length L.tasks) f.by c f.line (copy_at f.copies w) (omega (arith, g.theirs.copies.inside c f.copies partials, below, b.cells.longer)) (omega (arith, open-inside, b.cells.longer)) (copy-size w below) (open-beside w below) (open-held.copies f is w below) open-held.given

none-deliver : (by : Reduction) (c : Cell) (line : Line) (q : Cell) → kernel_of (combine_row by c line q).codelet ≡ Some Deliver → ⊥
none-deliver Plus c line q e = absurd (cc)
none-deliver Least c line q e = absurd (cc)

-- ---- closing

module _ (T : Table) (p : Program) (L : Lowering) (S : JobState) (out : List Printed) (c : Cell) (f : OpenPhase) (is : L.phase c ≡ Some f) (b : Begins p (Closed p L c f)) (fine : IsFine T p L S out) where
  abbrev ls : List Lowered
  ls = combine_rows f c p.workers

  before : Begins p L
  before = begins-less p L (Closed p L c f) ls (grows-refl L.cells.rows) refl b

  stand : Stand p (length L.tasks) ls
  stand = stands-more p L (Closed p L c f) ls refl b

  many : length ls ≡ p.workers
  many = length-map (range_with_len 0 p.workers) (λ w. combine_row f.by c f.line (copy_at f.copies w)) ∙ length-range_with_len 0 p.workers

  each : (P : Lowered → Type 0) → ((w : ℕ) → w < p.workers → P (combine_row f.by c f.line (copy_at f.copies w))) → AllByRecursion P ls
  each P h = each-map P (λ w. combine_row f.by c f.line (copy_at f.copies w)) (range_with_len 0 p.workers) (each-of_all (λ w. P (combine_row f.by c f.line (copy_at f.copies w))) p.workers h)

  pub fine_turned : IsFine T p (Closed p L c f) S out
  fine_turned = record {
    agrees = agrees_turned p L S c f is b fine.agrees;
    good = good-more p L (Closed p L c f) ls refl stand (good-all p (length L.tasks) ls (each (IsGood p (length L.tasks)) (combine-good p L S before fine.agrees c f is))) fine.good;
    delivered = delivered_beside T p L (Closed p L c f) out ls refl refl refl stand (each (λ l. kernel_of l.codelet ≡ Some Deliver → ⊥) (λ w h. none-deliver f.by c f.line (copy_at f.copies w))) fine.delivered;
    logged = log-close p (length L.tasks) (length (L.tasks ++ ls)) L.phase c f is (length-append L.tasks ls ∙ ap (λ k. length L.tasks + k) many) stand (open-own p L S before fine.agrees c f is) (λ d g e. open-plain p L S before fine.agrees d g e) fine.logged;
  }

pub fine_closed : (T : Table) (p : Program) (L : Lowering) (S : JobState) (out : List Printed) (c : Cell) → Begins p (closed p.workers L c) → IsFine T p L S out → IsFine T p (closed p.workers L c) S out
fine_closed T p L S out c = by_phase p.workers L c (λ (M : Lowering). Begins p M → IsFine T p L S out → IsFine T p M S out) (λ e b f. f) (λ f e b fine. fine_turned T p L S out c f e b fine)

pub fine_all_closed : (T : Table) (p : Program) (cs : List Cell) (L : Lowering) (S : JobState) (out : List Printed) → Begins p (all_closed p.workers cs L) → IsFine T p L S out → IsFine T p (all_closed p.workers cs L) S out
fine_all_closed T p [] L S out b f = f
fine_all_closed T p (c ∷ cs) L S out b f = fine_all_closed T p cs (closed p.workers L c) S out b (fine_closed T p L S out c (begins-all_closed p cs (closed p.workers L c) b) f)
