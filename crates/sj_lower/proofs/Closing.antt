-- The phases that a statement closes: the cells hold afterwards what they denoted.
use Rattle.sj_lower.proofs.Words.{[], all_closed, AllByRecursion, ap, arith, Array, Cell, cell_of, child_array, closed, combine_rows, Contents, copy_at, false, held_in, JobState, length, length-append, List, Lowered, Lowering, None, OpenPhase, Option, phase_turned, Program, refl, same_cell, Some, sym, with_phase, ℕ, ◌++◌, ◌+◌, ◌<◌, ◌∙◌, ◌∷◌, ◌≡◌}
use Rattle.sj_lower.proofs.{Combined.denoted-closed, Combined.denoted-open, Combined.Phases, Contents.contents_before, Folding.after_rows, Folding.contents-rows, Folding.later, Growing.grows-refl, Holding.held-kept, Holding.IsHeld, Holding.not_copy, Laid.none_isn't, Phasing.closed-others, Phasing.closed-value, Phasing.IsBare, Stating.Agrees, Stating.Begins, Stating.begins-less, Stating.by_cell, Stating.IsActiveChild, Stating.phase-other, Stating.phase-own, Stating.stands-more}

-- ---- one cell

abbrev pub Closed : Program → Lowering → Cell → OpenPhase → Lowering
Closed p L c f = phase_turned L.cells (combine_rows f c p.workers) c None L

pub by_phase : (workers : ℕ) (L : Lowering) (c : Cell) (P : Lowering → Type 0) → (L.phase c ≡ None → P L) → ((f : OpenPhase) → L.phase c ≡ Some f → P (phase_turned L.cells (combine_rows f c workers) c None L)) → P (closed workers L c)
by_phase workers L c P none some = by_option (L.phase c) refl
  where
    by_option : (o : Option OpenPhase) → L.phase c ≡ o → P (elim o as (λ _. Lowering) [ None ↦ L | Some f ↦ phase_turned L.cells (combine_rows f c workers) c None L ])
    by_option None e = none e
    by_option (Some f) e = some f e

module _ (p : Program) (L : Lowering) (S : JobState) (c : Cell) (f : OpenPhase) (is : L.phase c ≡ Some f) (b : Begins p (Closed p L c f)) (g : Agrees p L S) where
  own : IsActiveChild L.cells S c
  own = g.opened c f is

  abbrev after : Phases
  after = with_phase c None L.phase

  abbrev n : ℕ
  n = length L.tasks

  abbrev ls : List Lowered
  ls = combine_rows f c p.workers

  abbrev now : ℕ
  now = length (L.tasks ++ ls)

  abbrev k : Contents
  k = contents_before p n

  abbrev new : Contents
  new = contents_before p now

  longer : now ≡ n + length ls
  longer = length-append L.tasks ls

  left : new ≡ after_rows p k ls
  left = ap (contents_before p) longer ∙ contents-rows p n ls (stands-more p L (Closed p L c f) ls refl b)

  -- a child's cell is no partial copy of an open phase
  beside : (d e : Cell) (h : OpenPhase) → IsActiveChild L.cells S d → L.phase e ≡ Some h → (w : ℕ) → w < p.workers → same_cell d (copy_at h.copies w) ≡ false
  beside d e h child is_open w below =
      let r = g.roots child.name child.root child.is_root in
      ap (λ (x : Cell). same_cell x (copy_at h.copies w)) child.cell ∙ not_copy p.workers L.cells L.phase child.name child.root.dims child.root.parts r.first child.place e h w g.theirs r.taken child.placed is_open below

  bare : IsBare p f c
  bare w below = beside c c f own is w below

  held : (d : Cell) (x : Array) → IsHeld p L.phase n k d x → IsHeld p after now new d x
  held d x = by_cell (λ d. IsHeld p L.phase n k d x → IsHeld p after now new d x) c d mine other
    where
      mine : IsHeld p L.phase n k c x → IsHeld p after now new c x
      mine h = record {
        value = λ trust. denoted-closed p after new c (phase-own c None L.phase) ∙ ap (λ (z : Contents). held_in p z c) left ∙ closed-value p k f c bare ∙ sym (denoted-open p L.phase k c f is) ∙ h.value trust;
        given = later p n now c (omega (arith, longer)) h.given;
        copies = λ j e. absurd (none_isn't j (sym (phase-own c None L.phase) ∙ e));
      }

      other : {d : Cell} → same_cell c d ≡ false → IsHeld p L.phase n k d x → IsHeld p after now new d x
      other {d} e h = held-kept p L.phase after n now k new d x (omega (arith, longer)) (phase-other c None L.phase d e)
          (λ trust. ap (λ (z : Contents). held_in p z d) left ∙ closed-others p k f c d e)
          (λ trust j is_open w below. ap (λ (z : Contents). held_in p z (copy_at j.copies w)) left ∙ closed-others p k f c (copy_at j.copies w) (beside c d j own is_open w below)) h

  kept_none : (d : Cell) → L.phase d ≡ None → after d ≡ None
  kept_none d e = by_cell (λ d. L.phase d ≡ None → after d ≡ None) c d (λ h. phase-own c None L.phase) (λ other h. phase-other c None L.phase _ other ∙ h) e

  kept_some : (d : Cell) (j : OpenPhase) → after d ≡ Some j → L.phase d ≡ Some j
  kept_some d j e = by_cell (λ d. after d ≡ Some j → L.phase d ≡ Some j) c d (λ h. absurd (none_isn't j (sym (phase-own c None L.phase) ∙ h))) (λ other h. sym (phase-other c None L.phase _ other) ∙ h) e

  pub agrees_turned : Agrees p (Closed p L c f) S
  agrees_turned = record {
    laid = g.laid;
    theirs = record { copies = g.theirs.copies; theirs = λ d j e. g.theirs.theirs d j (kept_some d j e) };
    roots = λ q r e. (let h = g.roots q r e in record {
      fits = h.fits;
      whole = h.whole;
      first = h.first;
      taken = h.taken;
      held = λ place inside v. held (cell_of L.cells q r.parts place) (child_array r place) (h.held place inside v);
      blank = λ place inside v. kept_none (cell_of L.cells q r.parts place) (h.blank place inside v);
      reduced = λ place j inside e. h.reduced place j inside (kept_some (cell_of L.cells q r.parts place) j e);
    });
    opened = λ d j e. g.opened d j (kept_some d j e);
  }

pub begins-closed : (p : Program) (L : Lowering) (c : Cell) → Begins p (closed p.workers L c) → Begins p L
begins-closed p L c = by_phase p.workers L c (λ (M : Lowering). Begins p M → Begins p L) (λ e b. b) (λ f e b. begins-less p L (Closed p L c f) (combine_rows f c p.workers) (grows-refl L.cells.rows) refl b)

-- ---- several cells

pub begins-all_closed : (p : Program) (cs : List Cell) (L : Lowering) → Begins p (all_closed p.workers cs L) → Begins p L
begins-all_closed p [] L b = b
begins-all_closed p (c ∷ cs) L b = begins-closed p L c (begins-all_closed p cs (closed p.workers L c) b)

-- ---- what stays, and what is closed

pub closed-cells : (workers : ℕ) (L : Lowering) (c : Cell) → (closed workers L c).cells ≡ L.cells
closed-cells workers L c = by_phase workers L c (λ (M : Lowering). M.cells ≡ L.cells) (λ e. refl) (λ f e. refl)

pub all_closed-cells : (workers : ℕ) (cs : List Cell) (L : Lowering) → (all_closed workers cs L).cells ≡ L.cells
all_closed-cells workers [] L = refl
all_closed-cells workers (c ∷ cs) L = all_closed-cells workers cs (closed workers L c) ∙ closed-cells workers L c

closed-own : (workers : ℕ) (L : Lowering) (c : Cell) → (closed workers L c).phase c ≡ None
closed-own workers L c = by_phase workers L c (λ (M : Lowering). M.phase c ≡ None) (λ e. e) (λ f e. phase-own c None L.phase)

pub closed-none : (workers : ℕ) (L : Lowering) (c d : Cell) → L.phase d ≡ None → (closed workers L c).phase d ≡ None
closed-none workers L c d h = by_phase workers L c (λ (M : Lowering). M.phase d ≡ None) (λ e. h)
    (λ f e. by_cell (λ x. L.phase x ≡ None → with_phase c None L.phase x ≡ None) c d (λ k. phase-own c None L.phase) (λ other k. phase-other c None L.phase _ other ∙ k) h)

pub all_closed-none : (workers : ℕ) (cs : List Cell) (L : Lowering) (d : Cell) → L.phase d ≡ None → (all_closed workers cs L).phase d ≡ None
all_closed-none workers [] L d h = h
all_closed-none workers (c ∷ cs) L d h = all_closed-none workers cs (closed workers L c) d (closed-none workers L c d h)

-- the phases of these cells are closed
pub all_closed-own : (workers : ℕ) (cs : List Cell) (L : Lowering) → AllByRecursion (λ c. (all_closed workers cs L).phase c ≡ None) cs
all_closed-own workers [] L = tt
all_closed-own workers (c ∷ cs) L = (all_closed-none workers cs (closed workers L c) c (closed-own workers L c), all_closed-own workers cs (closed workers L c))
