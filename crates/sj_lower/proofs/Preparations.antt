-- The phases of a statement's contributions go on or begin; and what comes before its own tasks, by the active plans, is what the
-- definition says.
use Rattle.sj_lower.proofs.Words.{[], a_root, Active, ap, AreActive, AreCopied, arith, begin_rows, begun, Bool, Cell, CellInfo, Cells, cells_in, cond, copy_at, extended, false, first_partial, get, Handle, HasAt, HasCopies, info_at, init_row, init_rows, inl, inr, JobState, Layout, Lays, length, length-append, Line, List, Lowered, Lowering, LoweringProgress, most, name_of, None, nothing, opened, OpenPhase, Option, phase_turned, Prepares, Reduction, refl, Some, StandsAt, subst, sym, Table, tasks_in, true, vec_len, with_copies, ℕ, ◌++◌, ◌+◌, ◌<◌, ◌∙◌, ◌∷◌, ◌≡◌, ◌≤◌}
use Rattle.std.proofs.Common.{nat_eq, is_some}
use Rattle.std.proofs.lemmas.{List.append-nil, List.FromFn.length-map-range_with_len}
use Rattle.sj_lower.proofs.{Copies.by_copies, Copies.Copied, Copies.copied-first, Copies.copied-handles, Copies.copied-length, Copies.copied-partials, Copies.copied-roots, Copies.copies-more, Copies.first-old, Growing.has-row, Growing.row_at, Laid.none_isn't, Preparing.few-at, Preparing.IsBeside, Preparing.over-kept, Preparing.prepares-late, Preparing.prepares-on, Preparing.prepares-over, Preparing.Sets, Preparing.Turns}

-- ---- one cell

-- the partial copies are there
with-there : (workers : ℕ) (c : Cell) (C : Cells) (f : Cell) → (info_at C c).partials ≡ Some f → with_copies workers c C ≡ C
with-there workers c C f e = ap (λ (o : Option Cell). cond (is_some o) C (Copied workers c C)) e

opened-some : (workers : ℕ) (by : Reduction) (v : Bool) (line : Line) (c : Cell) (L : Lowering) (f : OpenPhase) → L.phase c ≡ Some f → opened workers by v line c L ≡ phase_turned L.cells [] c (Some (extended f line)) L
opened-some workers by v line c L f e = ap (λ (o : Option OpenPhase). elim o as (λ _. Lowering) [ None ↦ begun workers by v line c L | Some f ↦ phase_turned L.cells [] c (Some (extended f line)) L ]) e

opened-none : (workers : ℕ) (by : Reduction) (v : Bool) (line : Line) (c : Cell) (L : Lowering) → L.phase c ≡ None → opened workers by v line c L ≡ begun workers by v line c L
opened-none workers by v line c L e = ap (λ (o : Option OpenPhase). elim o as (λ _. Lowering) [ None ↦ begun workers by v line c L | Some f ↦ phase_turned L.cells [] c (Some (extended f line)) L ]) e

-- a phase as it begins
abbrev pub begins : Reduction → Cell → Line → OpenPhase
begins by first line = record { by = by; copies = first; line = line }

begun-there : (workers : ℕ) (by : Reduction) (v : Bool) (line : Line) (c : Cell) (L : Lowering) (first : Cell) → (info_at L.cells c).partials ≡ Some first → begun workers by v line c L ≡ phase_turned L.cells (begin_rows by first c v workers line) c (Some (begins by first line)) L
begun-there workers by v line c L first e =
    let same = first-old L.cells c first e in
    λ i. phase_turned (with-there workers c L.cells first e i) (begin_rows by (same i) c v workers line) c (Some (begins by (same i) line)) L

turns-some : (workers : ℕ) (by : Reduction) (v : Bool) (line : Line) (c : Cell) (L : Lowering) (f : OpenPhase) → AreCopied workers L → L.phase c ≡ Some f → Turns L (opened workers by v line c L) c [] (Some (extended f line))
turns-some workers by v line c L f copied e = record {
  is = opened-some workers by v line c L f e;
  copies = λ j is. copied.theirs c f e ∙ ap (λ (x : Option OpenPhase). elim x as (λ _. Option Cell) [ None ↦ None | Some y ↦ Some y.copies ]) is;
}

turns-none : (workers : ℕ) (by : Reduction) (v : Bool) (line : Line) (c : Cell) (L : Lowering) (first : Cell) → (info_at L.cells c).partials ≡ Some first → L.phase c ≡ None → Turns L (opened workers by v line c L) c (begin_rows by first c v workers line) (Some (begins by first line))
turns-none workers by v line c L first there e = record {
  is = opened-none workers by v line c L e ∙ begun-there workers by v line c L first there;
  copies = λ j is. there ∙ ap (λ (x : Option OpenPhase). elim x as (λ _. Option Cell) [ None ↦ None | Some y ↦ Some y.copies ]) is;
}

turns : (workers : ℕ) (by : Reduction) (v : Bool) (line : Line) (c : Cell) (L : Lowering) (first : Cell) → AreCopied workers L → (info_at L.cells c).partials ≡ Some first → (ls : List Lowered) × (o : Option OpenPhase) × Turns L (opened workers by v line c L) c ls o
turns workers by v line c L first copied there = by_phase (L.phase c) refl
  where
    by_phase : (x : Option OpenPhase) → L.phase c ≡ x → (ls : List Lowered) × (o : Option OpenPhase) × Turns L (opened workers by v line c L) c ls o
    by_phase None e = (begin_rows by first c v workers line, Some (begins by first line), turns-none workers by v line c L first there e)
    by_phase (Some f) e = ([], Some (extended f line), turns-some workers by v line c L f copied e)

-- how many tasks begin a phase
pub begin-valued : (by : Reduction) (first c : Cell) (v : Bool) (workers : ℕ) (line : Line) → v ≡ true → length (begin_rows by first c v workers line) ≡ workers
begin-valued by first c v workers line e =
    length-append (init_rows by first workers line) (cond v [] (init_row by line c ∷ [])) ∙ ap (λ b. length (init_rows by first workers line) + length (cond b [] (init_row by line c ∷ []))) e
    ∙ (let n = length-map-range_with_len (λ w. init_row by line (copy_at first w)) 0 workers in omega (arith, n))

pub begin-unvalued : (by : Reduction) (first c : Cell) (v : Bool) (workers : ℕ) (line : Line) → v ≡ false → length (begin_rows by first c v workers line) ≡ workers + 1
begin-unvalued by first c v workers line e =
    length-append (init_rows by first workers line) (cond v [] (init_row by line c ∷ [])) ∙ ap (λ b. length (init_rows by first workers line) + length (cond b [] (init_row by line c ∷ []))) e
    ∙ (let n = length-map-range_with_len (λ w. init_row by line (copy_at first w)) 0 workers in omega (arith, n))

pub opens-over : (g : LoweringProgress) (by : Reduction) (v : Bool) (line : Line) (c first : Cell) → (g.over ≡ None → ⊥) → HasCopies g c first → Prepares g g line (opened g.workers by v line c)
opens-over g by v line c first past copies = prepares-over g line (opened g.workers by v line c) c past (λ T S L at. turns g.workers by v line c L first at.copied (copies.theirs T S L at))

pub opens-more : (old new : LoweringProgress) (by : Reduction) (v : Bool) (line : Line) (c : Cell) (f : OpenPhase) → HasAt old → old.over ≡ None → new.over ≡ None → IsBeside old new → new.lowerer.tasks ≡ old.lowerer.tasks → Sets old new c (Some (extended f line)) → get nat_eq old.lowerer.phases c.0 ≡ Some f → Prepares old new line (opened old.workers by v line c)
opens-more old new by v line c f h none early same tasks sets there =
    prepares-on old new line (opened old.workers by v line c) c [] (Some (extended f line)) none early same (ap (λ ts. ts.items) tasks ∙ sym (append-nil old.lowerer.tasks.items)) sets
    (let few = few-at old h none in omega (arith, few, ap vec_len tasks))
    (λ T S L at. turns-some old.workers by v line c L f at.copied (sym ((at.follows none).phases c) ∙ there))

pub opens-late : (old new : LoweringProgress) (by : Reduction) (v : Bool) (line : Line) (c first : Cell) (k : ℕ) → k ≡ length (begin_rows by first c v old.workers line) → HasCopies old c first → old.over ≡ None → new.over ≡ Some line → IsBeside old new → new.lowerer.tasks ≡ old.lowerer.tasks → get nat_eq old.lowerer.phases c.0 ≡ None → most < vec_len old.lowerer.tasks + k → Prepares old new line (opened old.workers by v line c)
opens-late old new by v line c first k count copies none late same tasks absent many =
    prepares-late old new line (opened old.workers by v line c) c none late same tasks
    (λ T S L at. (
      begin_rows by first c v old.workers line,
      Some (begins by first line),
      turns-none old.workers by v line c L first (copies.theirs T S L at) (sym ((at.follows none).phases c) ∙ absent),
      omega (arith, many, count),
    ))

pub opens-on : (old new : LoweringProgress) (by : Reduction) (v : Bool) (line : Line) (c first : Cell) (k : ℕ) → k ≡ length (begin_rows by first c v old.workers line) → HasCopies old c first → old.over ≡ None → new.over ≡ None → IsBeside old new → new.lowerer.tasks.items ≡ old.lowerer.tasks.items ++ begin_rows by first c v old.workers line → Sets old new c (Some (begins by first line)) → get nat_eq old.lowerer.phases c.0 ≡ None → vec_len old.lowerer.tasks + k ≤ most → Prepares old new line (opened old.workers by v line c)
opens-on old new by v line c first k count copies none early same tasks sets absent few =
    prepares-on old new line (opened old.workers by v line c) c (begin_rows by first c v old.workers line) (Some (begins by first line)) none early same tasks sets
    (omega (arith, few, new.lowerer.tasks.ok, old.lowerer.tasks.ok, ap length tasks, length-append old.lowerer.tasks.items (begin_rows by first c v old.workers line), count))
    (λ T S L at. turns-none old.workers by v line c L first (copies.theirs T S L at) (sym ((at.follows none).phases c) ∙ absent))

-- ---- partial copies

-- the cell has its partial copies from now on
abbrev pub copied_by : ℕ → Cell → Lowering → Lowering
copied_by workers c L = record { cells = with_copies workers c L.cells; tasks = L.tasks; deliveries = L.deliveries; prints = L.prints; phase = L.phase }

copied-inside : (workers : ℕ) (c : Cell) (L : Lowering) → c.0 < length L.cells.rows → AreCopied workers L → (d f : Cell) → (info_at (with_copies workers c L.cells) d).partials ≡ Some f → f.0 + workers ≤ length (with_copies workers c L.cells).rows
copied-inside workers c L there h = by_copies workers c L.cells (λ (D : Cells). (d f : Cell) → (info_at D d).partials ≡ Some f → f.0 + workers ≤ length D.rows)
    (λ g is d f e. h.inside d f e)
    (λ none d f e. elim (copied-partials workers c L.cells none there d.0 f e) [
      | inl old ↦ omega (arith, h.inside d f old, copied-length workers c L.cells none there)
      | inr new ↦ (let s = ap (λ (x : Cell). x.0) new.1 in omega (arith, s, copied-length workers c L.cells none there))
    ])

copied-copied : (workers : ℕ) (c : Cell) (L : Lowering) → c.0 < length L.cells.rows → AreCopied workers L → AreCopied workers (copied_by workers c L)
copied-copied workers c L there h = record {
  inside = copied-inside workers c L there h;
  theirs = λ d f e. (copies-more workers c L.cells).kept d.0 f.copies (h.theirs d f e);
}

actives-copied : (T : Table) (workers : ℕ) (c : Cell) (C : Cells) (as' : List Active) (S : JobState) → c.0 < length C.rows → AreActive T C as' S → AreActive T (with_copies workers c C) as' S
actives-copied T workers c C as' S there a =
    let roots = copied-roots workers c C there in
    record {
      counted = a.counted ∙ sym roots;
      each = λ n r lt e. (let x = a.each n r (omega (arith, lt, roots)) e in record {
        dims = x.dims;
        tracks = x.tracks;
        reduction = x.reduction;
        handle = x.handle;
        named = ap (λ (h : List ℕ → Option Handle). h (name_of T (a_root n))) (copied-handles workers c C there) ∙ x.named;
        taken = x.taken;
        room = x.room;
      });
    }

-- nothing has partial copies before the first statement
pub copied-none : (workers : ℕ) → AreCopied workers nothing
copied-none workers = record {
  inside = λ c f e. (let row = has-row [] c.0 f e in absurd (omega (arith, row)));
  theirs = λ c f e. absurd (none_isn't f e);
}

-- what the layout does
abbrev pub IsCopying : Layout → Layout → ℕ → Cell → Cell → Type 0
IsCopying old new workers c first = (T : Table) (C : Cells) → Lays T old C → Lays T new (with_copies workers c C) × (first_partial C c ≡ first)

rows-are : (T : Table) (l : Layout) (C : Cells) → Lays T l C → vec_len l.infos ≡ length C.rows
rows-are T l C h = omega (arith, l.infos.ok, ap length h.rows)

module _ (old new : LoweringProgress) (line : Line) (c first : Cell) (there : c.0 < vec_len old.layout.infos) (copies : IsCopying old.layout new.layout old.workers c first) (few : vec_len new.layout.infos ≤ most)
    (workers : new.workers ≡ old.workers) (h : HasAt old) where
  inside : (T : Table) (S : JobState) (L : Lowering) → StandsAt T old S L → c.0 < length L.cells.rows
  inside T S L at = omega (arith, there, rows-are T old.layout L.cells at.lays)

  pub copies-prepare : new.over ≡ old.over → new.lowerer ≡ old.lowerer → new.last ≡ old.last → Prepares old new line (copied_by old.workers c)
  copies-prepare over same last = record {
    at = λ T S L at.
        let laid = (copies T L.cells at.lays).0 in
        let actives = subst (λ l. AreActive T (with_copies old.workers c L.cells) l.actives.items S) (sym same) (actives-copied T old.workers c L.cells old.lowerer.actives.items S (inside T S L at) at.actives) in
        record {
          lays = laid;
          few_cells = omega (arith, few, rows-are T new.layout (with_copies old.workers c L.cells) laid);
          actives = actives;
          follows = λ early.
              let f = at.follows (sym over ∙ early) in
              record {
                tasks = ap (λ l. l.tasks.items) same ∙ f.tasks;
                deliveries = ap (λ l. l.deliveries.items) same ∙ f.deliveries;
                prints = ap (λ l. l.prints) same ∙ f.prints;
                phases = λ d. ap (λ l. get nat_eq l.phases d.0) same ∙ f.phases d;
                actives = actives;
              };
          few_tasks = λ early. at.few_tasks (sym over ∙ early);
          prints = subst (λ l. l.prints ≤ vec_len l.tasks) (sym same) at.prints;
          copied = subst (λ (n : ℕ). AreCopied n (copied_by old.workers c L)) (sym workers) (copied-copied old.workers c L (inside T S L at) at.copied);
        };
    over = λ T S L at. over ∙ over-kept old.over line (copied_by old.workers c L) at.few_tasks;
    actives = ap (λ l. l.actives) same;
    workers = workers;
    last = last;
    cells = longer;
  }
    where
      longer : vec_len old.layout.infos ≤ vec_len new.layout.infos
      longer =
          let C = h.lowering.cells in
          omega (arith, rows-are h.table old.layout C h.at.lays, rows-are h.table new.layout (with_copies old.workers c C) (copies h.table C h.at.lays).0, (copies-more old.workers c C).longer)

  pub copies-there : HasCopies new c first
  copies-there =
      let C = h.lowering.cells in
      let made = copies h.table C h.at.lays in
      let below = inside h.table h.state h.lowering h.at in
      let own : (info_at (with_copies old.workers c C) c).partials ≡ Some first = copied-first old.workers c C below ∙ ap (λ (x : Cell). Some x) made.1 in
      record {
        there = omega (arith, copied-inside old.workers c h.lowering below h.at.copied c first own, few, rows-are h.table new.layout (with_copies old.workers c C) made.0, workers);
        theirs = λ T S L at. ap (λ (rows : List CellInfo). (row_at rows c.0).partials) (sym at.lays.rows ∙ made.0.rows) ∙ own;
      }

-- the cells afterwards
opened-cells : (workers : ℕ) (by : Reduction) (v : Bool) (line : Line) (c : Cell) (L : Lowering) → AreCopied workers L → (opened workers by v line c L).cells ≡ with_copies workers c L.cells
opened-cells workers by v line c L h = by_phase (L.phase c) refl
  where
    by_phase : (o : Option OpenPhase) → L.phase c ≡ o → (opened workers by v line c L).cells ≡ with_copies workers c L.cells
    by_phase None e = ap (λ (M : Lowering). M.cells) (opened-none workers by v line c L e)
    by_phase (Some f) e = ap (λ (M : Lowering). M.cells) (opened-some workers by v line c L f e) ∙ sym (with-there workers c L.cells f.copies (h.theirs c f e))

-- a phase goes on or begins as if the partial copies weren't there before
pub opened-copied : (workers : ℕ) (by : Reduction) (v : Bool) (line : Line) (c : Cell) (L : Lowering) → c.0 < length L.cells.rows → AreCopied workers L → opened workers by v line c (copied_by workers c L) ≡ opened workers by v line c L
opened-copied workers by v line c L there h = by_phase (L.phase c) refl
  where
    by_phase : (o : Option OpenPhase) → L.phase c ≡ o → opened workers by v line c (copied_by workers c L) ≡ opened workers by v line c L
    by_phase None e =
        let first = copied-first workers c L.cells there in
        opened-none workers by v line c (copied_by workers c L) e ∙ begun-there workers by v line c (copied_by workers c L) (first_partial L.cells c) first ∙ sym (opened-none workers by v line c L e)
    by_phase (Some f) e =
        opened-some workers by v line c (copied_by workers c L) f e ∙ ap (λ (C : Cells). phase_turned C [] c (Some (extended f line)) L) (with-there workers c L.cells f.copies (h.theirs c f e)) ∙ sym (opened-some workers by v line c L f e)

-- there are too many cells with the partial copies
pub opened-full : (workers : ℕ) (by : Reduction) (v : Bool) (line : Line) (c : Cell) (L : Lowering) → AreCopied workers L → most < length (with_copies workers c L.cells).rows → most < cells_in (opened workers by v line c L)
opened-full workers by v line c L h full = let e = ap (λ (C : Cells). length C.rows) (opened-cells workers by v line c L h) in omega (arith, e, full)

-- cells and tasks are only added
pub opened-more : (workers : ℕ) (by : Reduction) (v : Bool) (line : Line) (c : Cell) (L : Lowering) → (tasks_in L ≤ tasks_in (opened workers by v line c L)) × (cells_in L ≤ cells_in (opened workers by v line c L))
opened-more workers by v line c L = by_phase (L.phase c)
  where
    by_phase : (o : Option OpenPhase) → let M = elim o as (λ _. Lowering) [ None ↦ begun workers by v line c L | Some f ↦ phase_turned L.cells [] c (Some (extended f line)) L ] in (tasks_in L ≤ tasks_in M) × (cells_in L ≤ cells_in M)
    by_phase None = (omega (arith, length-append L.tasks (begin_rows by (first_partial L.cells c) c v workers line)), (copies-more workers c L.cells).longer)
    by_phase (Some f) = (omega (arith, length-append L.tasks []), omega arith)
