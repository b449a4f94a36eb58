-- The phase of a contribution is open: the partial copies and the cell denote together what the contribution adds to.
use Rattle.sj_lower.proofs.Words.{[], AllByRecursion, ap, arith, Array, begin_rows, begun, Bool, Cell, cell_of, CellInfo, Cells, child, child_array, child_rect, child_unit, combined, cond, Contents, contributed_to, copy_at, dims_of, extended, false, first_partial, HasValueBefore, held_in, info_at, is_valued_child, IsPlace, IsReduction, IsTile, JobState, length, length-append, Line, List, Lowered, Lowering, None, opened, OpenPhase, Option, out, phase_turned, Program, rect_dims, Reduction, refl, root_of, RootState, same_cell, Some, subst, sym, task, true, unit_of, with_copies, with_phase, zeros, ℕ, ◌++◌, ◌+◌, ◌<◌, ◌∙◌, ◌∷◌, ◌≡◌, ◌≤◌}
use Rattle.std.proofs.lemmas.{List.append-nil, Option.same_Some}
use Rattle.sj_base.proofs.SameIds.{cell_of_number}
use Rattle.sj_core.proofs.Sized.{AreSized}
use Rattle.sj_lower.proofs.{Combined.all_workers, Combined.denoted-closed, Combined.denoted-open, Combined.IsTrusted, Combined.with_all, Contents.contents_before, Copies.copied-first, Copies.copied-handles, Copies.copies-copied, Copies.copies-grow, Copies.HaveCopies, Copies.IsNoCopy, Copies.laid-copied, Folding.after_rows, Folding.contents-rows, Folding.given-rows, Folding.later, Folding.one_gives, Folding.Stand, Holding.cell-dims, Holding.differs, Holding.HasRoot, Holding.HaveTheirs, Holding.IsHeld, Laid.AreLaid, Laid.cell-inside, Laid.cell-is, Laid.IsTaken, Laid.none_isn't, Phasing.begin-copies, Phasing.begin-gives, Phasing.begin-gives_own, Phasing.begin-others, Phasing.begin-own, Phasing.begin-valued, Phasing.each-of_all, Phasing.IsBeside, Stating.Agrees, Stating.Begins, Stating.by_cell, Stating.phase-other, Stating.phase-own, Stating.stands-more}

-- after M the phase of the cell is open, and the cell denotes x; nothing else is changed since L
pub record IsOpened (p : Program) (L M : Lowering) (c : Cell) (by : Reduction) (x : Array) : Type 0 where
  pub f : OpenPhase
  pub is : M.phase c ≡ Some f
  pub of : f.by ≡ by
  pub others : (d : Cell) → same_cell c d ≡ false → M.phase d ≡ L.phase d
  pub handles : M.cells.handles ≡ L.cells.handles
  pub laid : AreLaid M.cells
  pub theirs : HaveTheirs p.workers M.cells M.phase
  pub later : length L.tasks ≤ length M.tasks
  pub kept : (d : Cell) → same_cell c d ≡ false → IsBeside p f.copies d → held_in p (contents_before p (length M.tasks)) d ≡ held_in p (contents_before p (length L.tasks)) d
  pub given : HasValueBefore p (task (length M.tasks)) c
  pub copies_given : (w : ℕ) → w < p.workers → HasValueBefore p (task (length M.tasks)) (copy_at f.copies w)
  pub value : IsTrusted p → IsReduction out f.by → AreSized p (contents_before p (length M.tasks)) → with_all p (contents_before p (length M.tasks)) f (all_workers p) (held_in p (contents_before p (length M.tasks)) c) ≡ x

-- what is combined from units alone
all-units : (p : Program) (k : Contents) (f : OpenPhase) (ws : List ℕ) (v : Array) → IsReduction out f.by → IsTile v → AllByRecursion (λ w. held_in p k (copy_at f.copies w) ≡ unit_of out f.by v.dims) ws → with_all p k f ws v ≡ v
all-units p k f [] v law tile all = refl
all-units p k f (w ∷ ws) v law tile all =
    let here : combined out f.by (held_in p k (copy_at f.copies w)) v ≡ v = ap (λ (y : Array). combined out f.by y v) all.0 ∙ law.unit v tile in
    ap (with_all p k f ws) here ∙ all-units p k f ws v law tile all.1

-- a child of a name's active plan
pub record IsChildOf (C : Cells) (S : JobState) (name : List ℕ) (place : ℕ × ℕ) (c : Cell) (root : RootState) : Type 0 where
  pub is_root : root_of S name ≡ Some root
  pub placed : IsPlace root.parts place
  pub cell : c ≡ cell_of C name root.parts place

module _ (p : Program) (L : Lowering) (S : JobState) (g : Agrees p L S) (name : List ℕ) (place : ℕ × ℕ) (c : Cell) (root : RootState) (own : IsChildOf L.cells S name place c root) (by : Reduction) (reduction : root.reduction ≡ Some by) (line : Line) where
  abbrev b : HasRoot p L.cells L.phase (length L.tasks) (contents_before p (length L.tasks)) name root
  b = g.roots name root own.is_root

  valued_by : (v : Bool) → is_valued_child root place ≡ v → (f : OpenPhase) → L.phase c ≡ Some f → is_valued_child root place ≡ true
  valued_by true e f is = e
  valued_by false e f is = absurd (none_isn't f (sym (b.blank place own.placed e) ∙ ap L.phase (sym own.cell) ∙ is))

  contributed-is : (v : Bool) → is_valued_child root place ≡ v → contributed_to root place ≡ cond v (child_array root place) (child_unit root place)
  contributed-is v e = ap (λ z. cond z (child_array root place) (child_unit root place)) e

  -- ---- the phase goes on

  abbrev pub Longer : OpenPhase → Lowering
  Longer f = phase_turned L.cells [] c (Some (extended f line)) L

  no_more : contents_before p (length (L.tasks ++ [])) ≡ contents_before p (length L.tasks)
  no_more = ap (λ (ts : List Lowered). contents_before p (length ts)) (append-nil L.tasks)

  pub goes_on : (f : OpenPhase) → L.phase c ≡ Some f → IsOpened p L (Longer f) c by (contributed_to root place)
  goes_on f is =
      let valued = valued_by (is_valued_child root place) refl f is in
      let h : IsHeld p L.phase (length L.tasks) (contents_before p (length L.tasks)) c (child_array root place) = subst (λ (d : Cell). IsHeld p L.phase (length L.tasks) (contents_before p (length L.tasks)) d (child_array root place)) (sym own.cell) (b.held place own.placed valued) in
      record {
        f = extended f line;
        is = phase-own c (Some (extended f line)) L.phase;
        of = same_Some f.by by (sym (b.reduced place f own.placed (ap L.phase (sym own.cell) ∙ is)) ∙ reduction);
        others = λ d e. phase-other c (Some (extended f line)) L.phase d e;
        handles = refl;
        laid = g.laid;
        theirs = record {
          copies = g.theirs.copies;
          theirs = λ d j e. by_cell (λ d. with_phase c (Some (extended f line)) L.phase d ≡ Some j → (info_at L.cells d).partials ≡ Some j.copies) c d
              (λ k. g.theirs.theirs c f is ∙ ap (λ (x : OpenPhase). Some x.copies) (same_Some (extended f line) j (sym (phase-own c (Some (extended f line)) L.phase) ∙ k)))
              (λ other k. g.theirs.theirs _ j (sym (phase-other c (Some (extended f line)) L.phase _ other) ∙ k)) e;
        };
        later = omega (arith, length-append L.tasks []);
        kept = λ d e beside. ap (λ (k : Contents). held_in p k d) no_more;
        given = later p (length L.tasks) (length (L.tasks ++ [])) c (omega (arith, length-append L.tasks [])) h.given;
        copies_given = λ w below. later p (length L.tasks) (length (L.tasks ++ [])) (copy_at f.copies w) (omega (arith, length-append L.tasks [])) (h.copies f is w below);
        value = λ trust law sized. ap (λ (k : Contents). with_all p k (extended f line) (all_workers p) (held_in p k c)) no_more
            ∙ sym (denoted-open p L.phase (contents_before p (length L.tasks)) c f is) ∙ h.value trust ∙ sym (contributed-is true valued);
      }

  -- ---- the phase begins

  abbrev pub New : Lowering
  New = begun p.workers by (is_valued_child root place) line c L

  abbrev first : Cell
  first = first_partial L.cells c

  abbrev new : OpenPhase
  new = record { by = by; copies = first; line = line }

  abbrev ls : List Lowered
  ls = begin_rows by first c (is_valued_child root place) p.workers line

  abbrev now : ℕ
  now = length (L.tasks ++ ls)

  pub inside : c.0 < length L.cells.rows
  inside = subst (λ (d : Cell). d.0 < length L.cells.rows) (sym own.cell) (cell-inside L.cells name root.dims root.parts b.first place g.laid b.taken own.placed)

  number-is : c.0 ≡ (cell_of L.cells name root.parts place).0
  number-is = ap (λ (d : Cell). d.0) own.cell

  alone : IsNoCopy p.workers L.cells c
  alone d f w partials below same = g.theirs.copies.beside d f w name root.dims root.parts b.first place partials below b.taken own.placed (same ∙ number-is ∙ cell-is L.cells name root.dims root.parts b.first place b.taken)

  copies_after : HaveCopies p.workers (with_copies p.workers c L.cells)
  copies_after = copies-copied p.workers c L.cells inside alone g.laid g.theirs.copies

  longer : now ≡ length L.tasks + length ls
  longer = length-append L.tasks ls

  taken_after : IsTaken (with_copies p.workers c L.cells) name root.dims root.parts b.first
  taken_after = record { handle = b.taken.handle; is = ap (λ h. h name) (copied-handles p.workers c L.cells inside) ∙ b.taken.is; dims = b.taken.dims; first = b.taken.first }

  -- the cell isn't one of its partial copies
  beside_own : IsBeside p first c
  beside_own w below = differs (copy_at first w) c (λ e. copies_after.beside c first w name root.dims root.parts b.first place (copied-first p.workers c L.cells inside) below taken_after own.placed
      (ap (λ (d : Cell). d.0) e ∙ number-is ∙ cell-is L.cells name root.dims root.parts b.first place b.taken))

  module _ (begins : Begins p New) (none : L.phase c ≡ None) where
    left : contents_before p now ≡ after_rows p (contents_before p (length L.tasks)) ls
    left = ap (contents_before p) longer ∙ contents-rows p (length L.tasks) ls (stands-more p L New ls refl begins)

    stand : Stand p (length L.tasks) ls
    stand = stands-more p L New ls refl begins

    given_after : (d : Cell) → HasValueBefore p (task (length L.tasks + length ls)) d → HasValueBefore p (task now) d
    given_after d h = subst (λ (m : ℕ). HasValueBefore p (task m) d) (sym longer) h

    given_own : (v : Bool) → is_valued_child root place ≡ v → HasValueBefore p (task now) c
    given_own true e = later p (length L.tasks) now c (omega (arith, longer)) (subst (λ (d : Cell). HasValueBefore p (task (length L.tasks)) d) (sym own.cell) (b.held place own.placed e).given)
    given_own false e = given_after c (given-rows p (length L.tasks) ls c stand (subst (λ v. one_gives (begin_rows by first c v p.workers line) c ≡ true) (sym e) (begin-gives_own by first c p.workers line)))

    size : dims_of p c ≡ rect_dims (child root.dims root.parts place)
    size = ap (dims_of p) own.cell ∙ ap (dims_of p) same ∙ cell-dims p (with_copies p.workers c L.cells) name root.dims root.parts b.first place begins.cells (laid-copied p.workers c L.cells inside g.laid) taken_after own.placed
      where
        same : cell_of L.cells name root.parts place ≡ cell_of (with_copies p.workers c L.cells) name root.parts place
        same = cell_of_number (cell_of L.cells name root.parts place) (cell_of (with_copies p.workers c L.cells) name root.parts place) (cell-is L.cells name root.dims root.parts b.first place b.taken ∙ sym (cell-is (with_copies p.workers c L.cells) name root.dims root.parts b.first place taken_after))

    -- a partial copy is as large as the cell
    copy-size : (w : ℕ) → w < p.workers → dims_of p (copy_at first w) ≡ dims_of p c
    copy-size w below =
        let partials = copied-first p.workers c L.cells inside in
        let g2 = copies-grow p.workers c L.cells inside in
        begins.cells.dims (first.0 + w) (omega (arith, copies_after.inside c first partials, below))
        ∙ ap (λ (i : CellInfo). i.dims) (copies_after.copy c first w partials below)
        ∙ sym (begins.cells.dims c.0 (omega (arith, inside, g2.longer)))

    own_value : IsTrusted p → (v : Bool) → is_valued_child root place ≡ v → held_in p (contents_before p now) c ≡ contributed_to root place
    own_value trust true e =
        ap (λ (k : Contents). held_in p k c) left
        ∙ ap (λ v. held_in p (after_rows p (contents_before p (length L.tasks)) (begin_rows by first c v p.workers line)) c) e
        ∙ begin-valued p (contents_before p (length L.tasks)) by first c line beside_own
        ∙ sym (denoted-closed p L.phase (contents_before p (length L.tasks)) c none)
        ∙ (subst (λ (d : Cell). IsHeld p L.phase (length L.tasks) (contents_before p (length L.tasks)) d (child_array root place)) (sym own.cell) (b.held place own.placed e)).value trust
        ∙ sym (contributed-is true e)
    own_value trust false e =
        ap (λ (k : Contents). held_in p k c) left
        ∙ ap (λ v. held_in p (after_rows p (contents_before p (length L.tasks)) (begin_rows by first c v p.workers line)) c) e
        ∙ begin-own p (contents_before p (length L.tasks)) by first c line
        ∙ ap (unit_of out by) size
        ∙ sym (ap (λ (o : Option Reduction). elim o as (λ _. Array) [ None ↦ zeros (rect_dims (child_rect root place)) | Some by ↦ unit_of out by (rect_dims (child_rect root place)) ]) reduction)
        ∙ sym (contributed-is false e)

    pub begins_now : IsOpened p L New c by (contributed_to root place)
    begins_now = record {
      f = new;
      is = phase-own c (Some new) L.phase;
      of = refl;
      others = λ d e. phase-other c (Some new) L.phase d e;
      handles = copied-handles p.workers c L.cells inside;
      laid = laid-copied p.workers c L.cells inside g.laid;
      theirs = record {
        copies = copies_after;
        theirs = λ d j e. by_cell (λ d. with_phase c (Some new) L.phase d ≡ Some j → (info_at (with_copies p.workers c L.cells) d).partials ≡ Some j.copies) c d
            (λ k. copied-first p.workers c L.cells inside ∙ ap (λ (x : OpenPhase). Some x.copies) (same_Some new j (sym (phase-own c (Some new) L.phase) ∙ k)))
            (λ other k. (copies-grow p.workers c L.cells inside).kept _ j.copies (g.theirs.theirs _ j (sym (phase-other c (Some new) L.phase _ other) ∙ k))) e;
      };
      later = omega (arith, longer);
      kept = λ d e beside. ap (λ (k : Contents). held_in p k d) left ∙ begin-others p (contents_before p (length L.tasks)) by first c (is_valued_child root place) line d beside e;
      given = given_own (is_valued_child root place) refl;
      copies_given = λ w below. given_after (copy_at first w) (given-rows p (length L.tasks) ls (copy_at first w) stand (begin-gives by first c (is_valued_child root place) p.workers line w below));
      value = λ trust law sized.
          all-units p (contents_before p now) new (all_workers p) (held_in p (contents_before p now) c) law (sized c).tile
          (each-of_all (λ w. held_in p (contents_before p now) (copy_at first w) ≡ unit_of out by (held_in p (contents_before p now) c).dims) p.workers (λ w below.
          ap (λ (k : Contents). held_in p k (copy_at first w)) left ∙ begin-copies p (contents_before p (length L.tasks)) by first c (is_valued_child root place) line w beside_own below
          ∙ ap (unit_of out by) (copy-size w below ∙ sym (sized c).dims)))
          ∙ own_value trust (is_valued_child root place) refl;
    }

  -- ---- either way

  pub by_opened : (P : Lowering → Type 0) → ((f : OpenPhase) → L.phase c ≡ Some f → P (Longer f)) → (L.phase c ≡ None → P New) → P (opened p.workers by (is_valued_child root place) line c L)
  by_opened P some none = by_option (L.phase c) refl
    where
      by_option : (o : Option OpenPhase) → L.phase c ≡ o → P (elim o as (λ _. Lowering) [ None ↦ begun p.workers by (is_valued_child root place) line c L | Some f ↦ phase_turned L.cells [] c (Some (extended f line)) L ])
      by_option None e = none e
      by_option (Some f) e = some f e
