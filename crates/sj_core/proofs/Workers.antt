-- What cells hold after all tasks up to one doesn't depend on the workers of the contributions, but in partial copies and
-- under open phases.
use Rattle.sj_core.proofs.Words.{[], Access, access, after_chosen, after_task, ap, arith, Array, Bool, Cell, cell_info, cells_of, Codelet, combined, cond, Conflict, Contains, Contents, copy_of, dims_of, Equations, false, get_or, has_cell, held_in, inl, inr, is_in_order, is_redux, is_scratch, is_some, is_written, IsCombine, IsLawful, IsOpenAt, IsPhase, IsPlain, IsReduction, IsShared, IsTile, Kernel, length, List, list_any, Mode, nat_lt, not, Phase, Program, Proper, R, Read, Redux, refl, results, same_cell, starts_as_zeros, subst, suc, sym, Task, task, task_number, task_of, true, Uses, W, worked_on, Worker, written_cells, zero, zip, ℕ, ◌<◌, ◌∙◌, ◌∷◌, ◌≡◌, ◌≢◌, ◌≤◌, ◌⊎◌}
use Rattle.std.proofs.lemmas.{Bool.cases_Bool, Bool.cases_eq, Bool.cases_lt, Bool.false_from_ne_true, Bool.false≢true, Bool.true≢false, Bool.Decides.nat_tests, List.Elements.Contains-append_left, List.Folds.list_any_at}
use Rattle.sj_base.proofs.{Bools.or_false, SameIds.same_cell-is, SameIds.same_cell-itself}
use Rattle.sj_core.proofs.{Adding.adds, Adding.merge, Adding.merges, Adding.part, Adding.part-fills, Adding.part-same, Adding.update, Advancing.same_task, Combining.combined-swap, Combining.Reduces, Copies.at-work, Copies.AtWork, Copies.Contribution, Copies.copy-bare, Copies.copy-own, Copies.direct-cell, Copies.IsRefilled, Copies.OfCell, Copies.OfCopy, Copies.redux_or, Copies.refilled, Dependencies.Proper-dependencies, Folding.after_chosen-same, Folding.after_task-other, Folding.cone-holds, Folding.held-append, Folding.held_over, Folding.held_over-own, Folding.read-among_cells, Folding.results-same, Folding.WorksAlike, Modes.reads_isn't_scratch, Modes.written_isn't_scratch, Phases.combine-after, Phases.combine-among, Phases.combine-reads, Phases.combine_at, Phases.Contributes, Phases.contributes, Phases.contributions-exchange, Phases.copy-of, Phases.init-among, Phases.init-before, Phases.init_at, Phases.reduces, Readiness.list_any-some, Sharing.conflict-by, Sharing.manner_of, Sharing.operand_for, Sized.after_chosen-sized, Sized.AreSized, Sized.task-fits, Sized.task-makes_tiles, Swapping.MaySwap, Swapping.update-spares, TaskCells.operand-inside, TaskCells.written-among_cells, Updating.may-swap, Updating.operand-used, Values.results-complete}

-- ---- on which tasks a cell depends, whatever the modes: those with which its writers conflict, and no member of their
-- groups beside those that write it

-- a task whose operands' cells hold the same leaves the same in a cell that it writes, and what was the same in another one
pub step-same : (eq : Equations) (has : Kernel → Bool) (p : Program) (proper : Proper p) → IsLawful eq has p → (t : Task) → t.0 < length p.tasks → (w : Worker) (before before' : Contents) (c : Cell) →
    (has_cell (written_cells p t w) c ≡ true → (a : Access) → Contains (task_of p t).accesses a → starts_as_zeros a.mode ≡ false → held_in p before (worked_on p w a) ≡ held_in p before' (worked_on p w a)) →
    (has_cell (written_cells p t w) c ≡ false → held_in p before c ≡ held_in p before' c) →
    held_in p (after_task eq p w t before) c ≡ held_in p (after_task eq p w t before') c
step-same eq has p proper lawful t inside w before before' c reads other = elim (cases_Bool (has_cell (written_cells p t w) c)) [
  | inr spared ↦ after_task-other eq p w t before c spared ∙ other spared ∙ sym (after_task-other eq p w t before' c spared)
  | inl writes ↦
      let cs = written_cells p t w in
      let arrays = results eq p t w (held_in p before) in
      let arrays' = results eq p t w (held_in p before') in
      let finds : arrays ≡ arrays' = results-same eq p t w w (held_in p before) (held_in p before') (reads writes) in
      let complete = results-complete eq p t w (held_in p before') (task-fits p proper t inside) (task-makes_tiles eq has p proper lawful t inside) in
      held-append p (zip cs arrays) before c
      ∙ ap (λ (xs : List Array). held_over (zip cs xs) c (held_in p before c)) finds
      ∙ held_over-own cs arrays' c (held_in p before c) (held_in p before' c) writes (omega (arith, complete))
      ∙ sym (held-append p (zip cs arrays') before' c)
]

-- ---- conflicts

written-isn't_read : (k : Codelet) (x : Mode) → is_written x ≡ true → Read ≢ manner_of k x
written-isn't_read k x h e = search (arith, false≢true)

in_order-unshared : (k : Codelet) (x : Mode) → is_in_order x ≡ true → IsShared (manner_of k x) → ⊥
in_order-unshared k x h s = search (arith, false≢true)

module _ (p : Program) (proper : Proper p) where
  -- a task with an access in order conflicts with each that writes its cell
  pub in_order-conflicts : (u t : Task) → u.0 < length p.tasks → t.0 < length p.tasks → (v w : Worker) → v.0 < p.workers → w.0 < p.workers → (a : Access) → Contains (task_of p t).accesses a → not (is_scratch a.mode) ≡ true → is_in_order a.mode ≡ true → has_cell (written_cells p u v) (worked_on p w a) ≡ true → Conflict p u.0 t.0
  in_order-conflicts u t u_in t_in v w v_in w_in a h accessed in_order writes =
      let c = worked_on p w a in
      let b = operand_for (worked_on p v) (λ x. is_written x.mode) (task_of p u).accesses c writes in
      let first : Uses p u.0 c.0 (manner_of (task_of p u).codelet b.0.mode) = subst (λ (q : Cell). Uses p u.0 q.0 (manner_of (task_of p u).codelet b.0.mode)) b.3 (operand-used p proper u u_in v v_in b.0 b.1 (written_isn't_scratch b.0.mode b.2)) in
      conflict-by p (Proper-dependencies p proper) u.0 t.0 c.0 (manner_of (task_of p u).codelet b.0.mode) (manner_of (task_of p t).codelet a.mode) first (operand-used p proper t t_in w w_in a h accessed)
      (λ both. written-isn't_read (task_of p u).codelet b.0.mode b.2 (sym both.0)) (inl (in_order-unshared (task_of p t).codelet a.mode in_order))

-- ---- the cone of a cell

module _ (eq : Equations) (has : Kernel → Bool) (p : Program) (proper : Proper p) (lawful : IsLawful eq has p) (by : Task → Worker) (staffed : (u : Task) → (by u).0 < p.workers) where
  -- of two tasks that don't conflict, where the first writes what the second reads, it writes all that the second writes
  pub shares-all : (u t : Task) → u.0 < length p.tasks → t.0 < length p.tasks → u.0 < t.0 → ¬ Conflict p u.0 t.0 → (d c : Cell) → has_cell (written_cells p u (by u)) d ≡ true → has_cell (cells_of p t (by t)) d ≡ true → has_cell (written_cells p t (by t)) c ≡ true → has_cell (written_cells p u (by u)) c ≡ true
  shares-all u t u_in t_in before free d c writes works over = by_kind (may-swap eq has p proper lawful u t u_in t_in (by u) (by t) (staffed u) (staffed t) free (contributions-exchange p proper eq has lawful u t u_in t_in (by u) (by t) (staffed u) (staffed t) free before))
    where
      by_kind : MaySwap eq has p proper lawful u t (by u) (by t) → has_cell (written_cells p u (by u)) c ≡ true
      by_kind b = search arith

  -- where the chosen tasks have the earlier ones that conflict with them, a cell all of whose writers are chosen holds the
  -- same after them alone
  pub cone-shared : (chosen : Task → Bool) (n : ℕ) → n ≤ length p.tasks → ((u t : Task) → u.0 < t.0 → t.0 < n → chosen t ≡ true → Conflict p u.0 t.0 → chosen u ≡ true) →
      (c : Cell) → ((u : Task) → u.0 < n → has_cell (written_cells p u (by u)) c ≡ true → chosen u ≡ true) → held_in p (after_chosen eq p chosen by n) c ≡ held_in p (after_chosen eq p (λ u. true) by n) c
  cone-shared chosen zero l closed c writers = refl
  cone-shared chosen (suc n) l closed c writers = by_choice (chosen (task n)) refl (cone-shared chosen n (omega arith) (λ u t before within. closed u t before (omega arith)))
    where
      by_choice : (b : Bool) → chosen (task n) ≡ b → ((d : Cell) → ((u : Task) → u.0 < n → has_cell (written_cells p u (by u)) d ≡ true → chosen u ≡ true) → held_in p (after_chosen eq p chosen by n) d ≡ held_in p (after_chosen eq p (λ u. true) by n) d) →
          held_in p (cond b (after_task eq p (by (task n)) (task n) (after_chosen eq p chosen by n)) (after_chosen eq p chosen by n)) c ≡ held_in p (after_task eq p (by (task n)) (task n) (after_chosen eq p (λ u. true) by n)) c
      by_choice false e rest =
          rest c (λ u h. writers u (omega arith))
          ∙ sym (after_task-other eq p (by (task n)) (task n) (after_chosen eq p (λ u. true) by n) c (false_from_ne_true (has_cell (written_cells p (task n) (by (task n))) c) (λ over. false≢true (sym e ∙ writers (task n) (omega arith) over))))
      by_choice true e rest = step-same eq has p proper lawful (task n) (omega arith) (by (task n)) (after_chosen eq p chosen by n) (after_chosen eq p (λ u. true) by n) c
          (λ over a h reads. rest (worked_on p (by (task n)) a) (λ u before writes. elim (cases_Bool (chosen u)) [
            | inl among ↦ among
            | inr left ↦
                let free : ¬ Conflict p u.0 n = λ conflict. false≢true (sym left ∙ closed u (task n) before (omega arith) e conflict) in
                writers u (omega arith) (shares-all u (task n) (omega arith) (omega arith) before free (worked_on p (by (task n)) a) c writes (read-among_cells p (task n) (by (task n)) a h reads) over)
          ]))
          (λ spared. rest c (λ u h. writers u (omega arith)))

-- ---- one contribution by another worker: until both workers' copies are combined they differ by what it adds, and then
-- nothing does but the copies, until they are filled anew.

abbrev pub every : Task → Bool
every u = true

module _ (eq : Equations) (has : Kernel → Bool) (p : Program) (proper : Proper p) (lawful : IsLawful eq has p) (by by' : Task → Worker) (staffed : (u : Task) → (by u).0 < p.workers) (staffed' : (u : Task) → (by' u).0 < p.workers)
    (t : Task) (t_in : t.0 < length p.tasks) (a : Access) (among : Contains (task_of p t).accesses a) (redux : a.mode ≡ Redux) (others : (u : Task) → u ≢ t → by' u ≡ by u) (lower : (by t).0 < (by' t).0) where
  -- ---- the phase and its two copies

  abbrev of_t : Contributes p proper t a
  of_t = contributes p proper t a among redux

  abbrev f : Phase
  f = of_t.phase

  abbrev phase : IsPhase p f
  phase = of_t.is_phase

  abbrev pub c : Cell
  c = (contributes p proper t a among redux).phase.cell

  has_copies : is_some (cell_info p c).partials ≡ true
  has_copies = ap (λ (d : Cell). is_some (cell_info p d).partials) of_t.cell ∙ (copy-of p proper t t_in (by t) (staffed t) a among redux).has_copies

  abbrev q : Cell
  q = copy_of p c (by t)

  abbrev q' : Cell
  q' = copy_of p c (by' t)

  -- when they are combined
  abbrev k : ℕ
  k = combine_at p proper f phase (by t) (staffed t)

  abbrev k' : ℕ
  k' = combine_at p proper f phase (by' t) (staffed' t)

  k-before : k < k'
  k-before = phase.in_worker_order (by t).0 (by' t).0 0 lower (omega (arith, staffed' t, phase.combines_by_worker))

  reduced : Reduces eq f.by
  reduced = reduces p proper eq has lawful f phase (by t) (staffed t)

  law : IsReduction eq f.by
  law = reduced.law

  cell-is : a.cell ≡ f.cell
  cell-is = sym of_t.cell

  -- what a contribution works on
  works-on : (u : Task) → u.0 < length p.tasks → (v : Worker) → v.0 < p.workers → (b : Access) → Contains (task_of p u).accesses b → b.mode ≡ Redux → b.cell ≡ c → worked_on p v b ≡ copy_of p c v
  works-on u u_in v v_in b h redux same = (copy-of p proper u u_in v v_in b h redux).is ∙ ap (λ (d : Cell). copy_of p d v) same

  copy-dims : (y : Worker) → y.0 < p.workers → dims_of p (copy_of p c y) ≡ dims_of p c
  copy-dims y y_in = (proper.cells.copies (copy_of p c y) c y (record { has_copies = has_copies; of_worker = y_in; is = refl })).1

  apart : q ≢ q'
  apart e = let same = copy-own p proper c has_copies (by t) (by' t) e in omega (arith, lower, ap (λ (v : Worker). v.0) same)

  -- ---- who works on a copy until both are combined

  data OnCopy (n : ℕ) (v y : Worker) : Type 0 where
    Adds : (b : Access) → Contains (task_of p (task n)).accesses b → b.mode ≡ Redux → b.cell ≡ c → v ≡ y → Contains f.contributions n → OnCopy n v y
    Merges : n ≡ get_or f.combines y.0 0 → OnCopy n v y

  module _ (n : ℕ) (later : t.0 < n) (before : n ≤ k') (v : Worker) (v_in : v.0 < p.workers) where
    operand-at : (b : Access) → Contains (task_of p (task n)).accesses b → not (is_scratch b.mode) ≡ true → (worked_on p v b ≡ c) ⊎ ((y : Worker) × (y.0 < p.workers) × (worked_on p v b ≡ copy_of p c y)) → AtWork p proper f phase has_copies n v b
    operand-at b h accessed there = at-work p proper f phase has_copies t.0 n v v_in b of_t.among later k' (combine-among p proper f phase (by' t) (staffed' t)) before h accessed there

    on-copy : (y : Worker) → y.0 < p.workers → has_cell (cells_of p (task n) v) (copy_of p c y) ≡ true → OnCopy n v y
    on-copy y y_in works =
        let b = operand_for (worked_on p v) (λ b. not (is_scratch b.mode)) (task_of p (task n)).accesses (copy_of p c y) works in
        by_kind b.0 b.1 b.3 (operand-at b.0 b.1 b.2 (inr (y, y_in, b.3)))
      where
        by_kind : (b : Access) → Contains (task_of p (task n)).accesses b → worked_on p v b ≡ copy_of p c y → AtWork p proper f phase has_copies n v b → OnCopy n v y
        by_kind b h is (Contribution own redux same) = Adds b h redux same (copy-own p proper c has_copies v y (sym (works-on (task n) (operand-inside p (task n) b h) v v_in b h redux same) ∙ is)) own
        by_kind b h is (OfCopy x x_in at e) = Merges (at ∙ ap (λ (u : Worker). get_or f.combines u.0 0) (copy-own p proper c has_copies x y (sym (ap (worked_on p v) e) ∙ is)))
        by_kind b h is (OfCell x x_in at e) = absurd (copy-bare p proper c has_copies y y_in c has_copies (sym is ∙ ap (worked_on p v) e))

    -- on the cell itself the combines alone
    on-cell : has_cell (cells_of p (task n) v) c ≡ true → (x : Worker) × (x.0 < p.workers) × (n ≡ get_or f.combines x.0 0)
    on-cell works = search (arith, operand_for, task, operand-at, has_copies, copy-bare, works-on, operand-inside)

    -- a contribution reads no copy by another operand
    reads-none : Contains f.contributions n → (b : Access) → Contains (task_of p (task n)).accesses b → starts_as_zeros b.mode ≡ false → is_redux b.mode ≡ false → (y : Worker) → y.0 < p.workers → b.cell ≢ copy_of p c y
    reads-none own b h reads direct y y_in e = by_kind (operand-at b h (reads_isn't_scratch b.mode reads) (inr (y, y_in, direct-cell p v b direct ∙ e)))
      where
        by_kind : AtWork p proper f phase has_copies n v b → ⊥
        by_kind x = search (arith, true≢false, combine-after, contributes, phase)

    -- what a contribution writes is its copy alone
    writes-only : (b : Access) (h : Contains (task_of p (task n)).accesses b) (redux' : b.mode ≡ Redux) (same : b.cell ≡ c) (own : Contains f.contributions n) (d : Cell) → has_cell (written_cells p (task n) v) d ≡ true → copy_of p c v ≡ d
    writes-only b h redux' same own d writes =
        let n_in = operand-inside p (task n) b h in
        let one = (update eq has p proper lawful f phase (task n) n_in b h redux' same own v v_in).written in
        sym (works-on (task n) n_in v v_in b h redux' same) ∙ same_cell-is (worked_on p v b) d (or_false (same_cell (worked_on p v b) d) (sym (ap (λ (cs : List Cell). has_cell cs d) one) ∙ writes))

    -- a task that writes another cell reads no copy but one that it combines
    reads-elsewhere : (y : Worker) → y.0 < p.workers → n ≢ get_or f.combines y.0 0 → (d : Cell) → has_cell (written_cells p (task n) v) d ≡ true → d ≢ copy_of p c y → (b : Access) → Contains (task_of p (task n)).accesses b → starts_as_zeros b.mode ≡ false → worked_on p v b ≢ copy_of p c y
    reads-elsewhere y y_in no_combine d writes differ b h reads e = by_kind (on-copy y y_in (sym (ap (has_cell (cells_of p (task n) v)) e) ∙ read-among_cells p (task n) v b h reads))
      where
        by_kind : OnCopy n v y → ⊥
        by_kind (Merges at) = no_combine at
        by_kind (Adds z hz redux' cell own_worker own) = differ (sym (writes-only z hz redux' cell own d writes) ∙ ap (copy_of p c) own_worker)

    -- a copy that holds more by z in the one than in the other still does after each task but its combine
    carried : (one other : Contents) → AreSized p one → AreSized p other → (y : Worker) → y.0 < p.workers → n ≢ get_or f.combines y.0 0 → (z : Array) → IsTile z → z.dims ≡ dims_of p c →
        (Contains f.contributions n → (b : Access) → Contains (task_of p (task n)).accesses b → starts_as_zeros b.mode ≡ false → is_redux b.mode ≡ false → held_in p one b.cell ≡ held_in p other b.cell) →
        held_in p one (copy_of p c y) ≡ combined eq f.by z (held_in p other (copy_of p c y)) →
        held_in p (after_task eq p v (task n) one) (copy_of p c y) ≡ combined eq f.by z (held_in p (after_task eq p v (task n) other) (copy_of p c y))
    carried one other sized sized' y y_in no_combine z tz dz same more = elim (cases_Bool (has_cell (written_cells p (task n) v) (copy_of p c y))) [
      | inr spared ↦ after_task-other eq p v (task n) one (copy_of p c y) spared ∙ more ∙ ap (combined eq f.by z) (sym (after_task-other eq p v (task n) other (copy_of p c y) spared))
      | inl writes ↦ by_kind (on-copy y y_in (written-among_cells p (task n) v (copy_of p c y) writes))
    ]
      where
        by_kind : OnCopy n v y → held_in p (after_task eq p v (task n) one) (copy_of p c y) ≡ combined eq f.by z (held_in p (after_task eq p v (task n) other) (copy_of p c y))
        by_kind (Merges at) = absurd (no_combine at)
        by_kind (Adds b h redux' cell own_worker own) =
            let n_in = operand-inside p (task n) b h in
            let at : worked_on p v b ≡ copy_of p c y = works-on (task n) n_in v v_in b h redux' cell ∙ ap (copy_of p c) own_worker in
            let u = update eq has p proper lawful f phase (task n) n_in b h redux' cell own v v_in in
            let more_by : Contents → Array = part eq has p proper lawful f phase (task n) n_in b h redux' cell own v v_in in
            let fills = part-fills eq has p proper lawful f phase (task n) n_in b h redux' cell own v v_in other sized' in
            let of_other = sized' (copy_of p c y) in
            let as_large : dims_of p c ≡ (held_in p other (copy_of p c y)).dims = sym (of_other.dims ∙ copy-dims y y_in) in
            let parts : more_by one ≡ more_by other = part-same eq has p proper lawful f phase (task n) n_in b h redux' cell own v v v_in v_in one other (λ e first reads. same own e (subst (λ (es : List Access). Contains es e) (sym u.accesses) (Contains-append_left u.before (u.last ∷ []) e first)) reads (u.direct e first)) in
            ap (held_in p (after_task eq p v (task n) one)) (sym at) ∙ adds eq has p proper lawful f phase (task n) n_in b h redux' cell own v v_in one sized
            ∙ ap (λ (d : Cell). combined eq f.by (more_by one) (held_in p one d)) at
            ∙ ap (λ (m : Array). combined eq f.by m (held_in p one (copy_of p c y))) parts
            ∙ ap (combined eq f.by (more_by other)) more
            ∙ combined-swap eq f.by reduced z (more_by other) (held_in p other (copy_of p c y)) tz fills.0 of_other.tile (dz ∙ as_large) (fills.1 ∙ as_large)
            ∙ ap (λ (d : Cell). combined eq f.by z (combined eq f.by (more_by other) (held_in p other d))) (sym at)
            ∙ ap (combined eq f.by z) (sym (adds eq has p proper lawful f phase (task n) n_in b h redux' cell own v v_in other sized') ∙ ap (held_in p (after_task eq p v (task n) other)) at)

  -- ---- the two folds

  abbrev one : ℕ → Contents
  one n = after_chosen eq p every by n

  abbrev other : ℕ → Contents
  other n = after_chosen eq p every by' n

  one-sized : (n : ℕ) → n ≤ length p.tasks → AreSized p (one n)
  one-sized n l = after_chosen-sized eq has p proper lawful every by staffed n l

  other-sized : (n : ℕ) → n ≤ length p.tasks → AreSized p (other n)
  other-sized n l = after_chosen-sized eq has p proper lawful every by' staffed' n l

  -- each other task runs on the same worker in both
  other-next : (n : ℕ) → n ≢ t.0 → other (suc n) ≡ after_task eq p (by (task n)) (task n) (other n)
  other-next n d = ap (λ (v : Worker). after_task eq p v (task n) (other n)) (others (task n) (λ e. d (ap (λ (u : Task). u.0) e)))

  -- what the contribution adds
  abbrev x : Array
  x = part eq has p proper lawful f phase t t_in a among redux cell-is of_t.among (by t) (staffed t) (one t.0)

  x-fills : IsTile x × (x.dims ≡ dims_of p c)
  x-fills = part-fills eq has p proper lawful f phase t t_in a among redux cell-is of_t.among (by t) (staffed t) (one t.0) (one-sized t.0 (omega (arith, t_in)))

  abbrev Same : ℕ → Cell → Type 0
  Same n d = held_in p (one n) d ≡ held_in p (other n) d

  abbrev More : ℕ → Cell → Type 0
  More n d = held_in p (one n) d ≡ combined eq f.by x (held_in p (other n) d)

  abbrev Less : ℕ → Cell → Type 0
  Less n d = held_in p (other n) d ≡ combined eq f.by x (held_in p (one n) d)

  -- until the first of the two copies is combined
  record Begun (n : ℕ) : Type 0 where
    alike : (d : Cell) → d ≢ q → d ≢ q' → Same n d
    more : More n q
    less : Less n q'

  -- until the second is
  record Halfway (n : ℕ) : Type 0 where
    alike : (d : Cell) → d ≢ q → d ≢ q' → d ≢ c → Same n d
    more : More n c
    less : Less n q'

  -- and then
  record Over (n : ℕ) : Type 0 where
    alike : (d : Cell) → (d ≡ q → IsRefilled p proper f phase has_copies (by t) k n) → (d ≡ q' → IsRefilled p proper f phase has_copies (by' t) k' n) → Same n d

  data Differ (n : ℕ) : Type 0 where
    Before : n ≤ t.0 → one n ≡ other n → Differ n
    First : t.0 < n → n ≤ k → Begun n → Differ n
    Second : k < n → n ≤ k' → Halfway n → Differ n
    Last : k' < n → Over n → Differ n

  -- the copies are no other cells
  begin-same : (n : ℕ) → n ≤ t.0 → one n ≡ other n
  begin-same n l = after_chosen-same eq p every every by by' n (λ u h. refl) (λ u h e. sym (others u (λ f. (let g : u.0 ≡ t.0 = ap (λ (k : Task). k.0) f in omega (arith, l, h, g)))))

  -- ---- the contribution itself

  entered : Begun (suc t.0)
  entered = record {
    alike = λ d dq dq'. spared (by t) (staffed t) (one t.0) d (λ e. dq (e ∙ at (by t) (staffed t))) ∙ ap (λ (z : Contents). held_in p z d) (begin-same t.0 (omega arith)) ∙ sym (spared (by' t) (staffed' t) (other t.0) d (λ e. dq' (e ∙ at (by' t) (staffed' t))));
    more = ap (held_in p (one (suc t.0))) (sym (at (by t) (staffed t)))
        ∙ adds eq has p proper lawful f phase t t_in a among redux cell-is of_t.among (by t) (staffed t) (one t.0) (one-sized t.0 (omega (arith, t_in)))
        ∙ ap (λ (d : Cell). combined eq f.by x (held_in p (one t.0) d)) (at (by t) (staffed t))
        ∙ ap (combined eq f.by x) (ap (λ (z : Contents). held_in p z q) (begin-same t.0 (omega arith)) ∙ sym (spared (by' t) (staffed' t) (other t.0) q (λ e. apart (e ∙ at (by' t) (staffed' t)))));
    less = ap (held_in p (other (suc t.0))) (sym (at (by' t) (staffed' t)))
        ∙ adds eq has p proper lawful f phase t t_in a among redux cell-is of_t.among (by' t) (staffed' t) (other t.0) (other-sized t.0 (omega (arith, t_in)))
        ∙ ap (λ (m : Array). combined eq f.by m (held_in p (other t.0) (worked_on p (by' t) a))) (part-same eq has p proper lawful f phase t t_in a among redux cell-is of_t.among (by' t) (by t) (staffed' t) (staffed t) (other t.0) (one t.0) (λ b h reads. ap (λ (z : Contents). held_in p z b.cell) (sym (begin-same t.0 (omega arith)))))
        ∙ ap (λ (d : Cell). combined eq f.by x (held_in p (other t.0) d)) (at (by' t) (staffed' t))
        ∙ ap (combined eq f.by x) (ap (λ (z : Contents). held_in p z q') (sym (begin-same t.0 (omega arith))) ∙ sym (spared (by t) (staffed t) (one t.0) q' (λ e. apart (sym (e ∙ at (by t) (staffed t))))));
  }
    where
      at : (v : Worker) → v.0 < p.workers → worked_on p v a ≡ copy_of p c v
      at v v_in = works-on t t_in v v_in a among redux cell-is

      spared : (v : Worker) (v_in : v.0 < p.workers) (before : Contents) (d : Cell) → d ≢ worked_on p v a → held_in p (after_task eq p v t before) d ≡ held_in p before d
      spared v v_in before d differ = update-spares eq has p proper lawful t t_in v v_in (worked_on p v a) (update eq has p proper lawful f phase t t_in a among redux cell-is of_t.among v v_in) before d differ

  -- ---- until the first copy is combined

  continues : (n : ℕ) → t.0 < n → n < k → n < length p.tasks → Begun n → Begun (suc n)
  continues n later before inside h =
      let v = by (task n) in
      let v_in = staffed (task n) in
      let differs : n ≢ t.0 = λ e. omega (arith, later, e) in
      let within : n ≤ k' = omega (arith, before, k-before) in
      let first : n ≢ k = λ e. omega (arith, before, e) in
      let second : n ≢ k' = λ e. omega (arith, before, k-before, e) in
      let moved = other-next n differs in
      let sized = one-sized n (omega (arith, inside)) in
      let sized' = other-sized n (omega (arith, inside)) in
      record {
        alike = λ d dq dq'.
            step-same eq has p proper lawful (task n) inside v (one n) (other n) d
            (λ writes b has_b reads. h.alike (worked_on p v b) (reads-elsewhere n later within v v_in (by t) (staffed t) first d writes dq b has_b reads) (reads-elsewhere n later within v v_in (by' t) (staffed' t) second d writes dq' b has_b reads))
            (λ spared. h.alike d dq dq')
            ∙ ap (λ (z : Contents). held_in p z d) (sym moved);
        more = carried n later within v v_in (one n) (other n) sized sized' (by t) (staffed t) first x x-fills.0 x-fills.1
            (λ own b has_b reads direct. h.alike b.cell (reads-none n later within v v_in own b has_b reads direct (by t) (staffed t)) (reads-none n later within v v_in own b has_b reads direct (by' t) (staffed' t)))
            h.more
            ∙ ap (λ (z : Contents). combined eq f.by x (held_in p z q)) (sym moved);
        less = ap (λ (z : Contents). held_in p z q') moved
            ∙ carried n later within v v_in (other n) (one n) sized' sized (by' t) (staffed' t) second x x-fills.0 x-fills.1
            (λ own b has_b reads direct. sym (h.alike b.cell (reads-none n later within v v_in own b has_b reads direct (by t) (staffed t)) (reads-none n later within v v_in own b has_b reads direct (by' t) (staffed' t))))
            h.less;
      }

  -- ---- a copy is combined

  combine-inside : (y : Worker) (y_in : y.0 < p.workers) → get_or f.combines y.0 0 < length p.tasks
  combine-inside y y_in = operand-inside p (task (get_or f.combines y.0 0)) (access R (copy_of p c y)) (combine-reads p proper f phase y y_in)

  module _ (y : Worker) (y_in : y.0 < p.workers) (n : ℕ) (at : n ≡ get_or f.combines y.0 0) (v : Worker) (v_in : v.0 < p.workers) where
    is-combine : IsCombine f.by (copy_of p c y) c (task_number p n)
    is-combine = subst (λ i. IsCombine f.by (copy_of p c y) c (task_number p i)) (sym at) (phase.combines y y_in)

    n-inside : n < length p.tasks
    n-inside = omega (arith, at, combine-inside y y_in)

    merged : (before : Contents) → held_in p (after_task eq p v (task n) before) c ≡ combined eq f.by (held_in p before (copy_of p c y)) (held_in p before c)
    merged before = merges eq has p proper lawful f phase has_copies y y_in (task n) n-inside is-combine v v_in before

    merge-spares : (before : Contents) (d : Cell) → d ≢ c → held_in p (after_task eq p v (task n) before) d ≡ held_in p before d
    merge-spares before d differ = update-spares eq has p proper lawful (task n) n-inside v v_in c (merge eq has p proper lawful f phase has_copies y y_in (task n) n-inside is-combine v v_in) before d differ

    merge-writes : (d : Cell) → has_cell (written_cells p (task n) v) d ≡ true → d ≡ c
    merge-writes d writes =
        grind (arith, cases_Bool (same_cell c d), same_cell-is, false≢true, merge, has_copies, task, n-inside, is-combine)

  copy-not_cell : (y : Worker) → y.0 < p.workers → copy_of p c y ≢ c
  copy-not_cell y y_in = copy-bare p proper c has_copies y y_in c has_copies

  copy-fills : (before : Contents) → AreSized p before → (y : Worker) → y.0 < p.workers → IsTile (held_in p before (copy_of p c y)) × ((held_in p before (copy_of p c y)).dims ≡ dims_of p c)
  copy-fills before sized y y_in = let fills = sized (copy_of p c y) in (fills.tile, fills.dims ∙ copy-dims y y_in)

  t-first : t.0 < k
  t-first = combine-after p proper f phase (by t) (staffed t) t.0 of_t.among

  halves : k < length p.tasks → Begun k → Halfway (suc k)
  halves inside h =
      let v = by (task k) in
      let v_in = staffed (task k) in
      let l : k ≤ length p.tasks = omega (arith, inside) in
      let moved = other-next k (λ e. omega (arith, t-first, e)) in
      let of_copy = copy-fills (other k) (other-sized k l) (by t) (staffed t) in
      let of_cell = other-sized k l c in
      record {
        alike = λ d dq dq' dc. merge-spares (by t) (staffed t) k refl v v_in (one k) d dc ∙ h.alike d dq dq' ∙ sym (merge-spares (by t) (staffed t) k refl v v_in (other k) d dc) ∙ ap (λ (z : Contents). held_in p z d) (sym moved);
        more = merged (by t) (staffed t) k refl v v_in (one k)
            ∙ ap (λ (m : Array). combined eq f.by m (held_in p (one k) c)) h.more
            ∙ ap (combined eq f.by (combined eq f.by x (held_in p (other k) q))) (h.alike c (λ e. copy-not_cell (by t) (staffed t) (sym e)) (λ e. copy-not_cell (by' t) (staffed' t) (sym e)))
            ∙ law.associative x (held_in p (other k) q) (held_in p (other k) c) x-fills.0 of_copy.0 of_cell.tile (x-fills.1 ∙ sym of_copy.1) (of_copy.1 ∙ sym of_cell.dims)
            ∙ ap (combined eq f.by x) (sym (merged (by t) (staffed t) k refl v v_in (other k)) ∙ ap (λ (z : Contents). held_in p z c) (sym moved));
        less = ap (λ (z : Contents). held_in p z q') moved ∙ merge-spares (by t) (staffed t) k refl v v_in (other k) q' (copy-not_cell (by' t) (staffed' t)) ∙ h.less ∙ ap (combined eq f.by x) (sym (merge-spares (by t) (staffed t) k refl v v_in (one k) q' (copy-not_cell (by' t) (staffed' t))));
      }

  -- ---- until the second copy is combined

  -- no contribution comes after a combine
  none-left : (n : ℕ) → k < n → Contains f.contributions n → ⊥
  none-left n later own = omega (arith, later, combine-after p proper (contributes p proper t a among redux).phase phase (by t) (staffed t) n own)

  unused : (n : ℕ) → k < n → n ≤ k' → (v : Worker) → v.0 < p.workers → (y : Worker) → y.0 < p.workers → n ≢ get_or f.combines y.0 0 → has_cell (cells_of p (task n) v) (copy_of p c y) ≡ true → ⊥
  unused n later before v v_in y y_in no_combine works = by_kind (on-copy n (omega (arith, later, t-first)) before v v_in y y_in works)
    where
      by_kind : OnCopy n v y → ⊥
      by_kind b = search (arith, none-left)

  goes_on : (n : ℕ) → k < n → n < k' → n < length p.tasks → Halfway n → Halfway (suc n)
  goes_on n later before inside h =
      let v = by (task n) in
      let v_in = staffed (task n) in
      let after_t : t.0 < n = omega (arith, later, t-first) in
      let within : n ≤ k' = omega (arith, before) in
      let first : n ≢ k = λ e. omega (arith, later, e) in
      let second : n ≢ k' = λ e. omega (arith, before, e) in
      let moved = other-next n (λ e. omega (arith, after_t, e)) in
      record {
        alike = λ d dq dq' dc.
            step-same eq has p proper lawful (task n) inside v (one n) (other n) d
            (λ writes b has_b reads. h.alike (worked_on p v b)
            (λ e. unused n later within v v_in (by t) (staffed t) first (sym (ap (has_cell (cells_of p (task n) v)) e) ∙ read-among_cells p (task n) v b has_b reads))
            (λ e. unused n later within v v_in (by' t) (staffed' t) second (sym (ap (has_cell (cells_of p (task n) v)) e) ∙ read-among_cells p (task n) v b has_b reads))
            (λ e. (let by_combine = on-cell n after_t within v v_in (sym (ap (has_cell (cells_of p (task n) v)) e) ∙ read-among_cells p (task n) v b has_b reads) in dc (merge-writes by_combine.0 by_combine.1 n by_combine.2 v v_in d writes))))
            (λ spared. h.alike d dq dq' dc)
            ∙ ap (λ (z : Contents). held_in p z d) (sym moved);
        more = elim (cases_Bool (has_cell (written_cells p (task n) v) c)) [
          | inr spared ↦ after_task-other eq p v (task n) (one n) c spared ∙ h.more ∙ ap (combined eq f.by x) (sym (after_task-other eq p v (task n) (other n) c spared))
          | inl writes ↦ (let by_combine = on-cell n after_t within v v_in (written-among_cells p (task n) v c writes) in merged-more n later before inside h by_combine.0 by_combine.1 by_combine.2 v v_in)
        ]
            ∙ ap (λ (z : Contents). combined eq f.by x (held_in p z c)) (sym moved);
        less = (search (arith, after_task-other, task, resting));
      }
    where
      resting : (n : ℕ) → k < n → n ≤ k' → (v : Worker) → v.0 < p.workers → n ≢ k' → has_cell (written_cells p (task n) v) q' ≡ false
      resting n later within v v_in second = false_from_ne_true (has_cell (written_cells p (task n) v) q') (λ writes. unused n later within v v_in (by' t) (staffed' t) second (written-among_cells p (task n) v q' writes))

      -- another copy is combined
      merged-more : (n : ℕ) → k < n → n < k' → n < length p.tasks → Halfway n → (y : Worker) (y_in : y.0 < p.workers) → n ≡ get_or f.combines y.0 0 → (v : Worker) → v.0 < p.workers → held_in p (after_task eq p v (task n) (one n)) c ≡ combined eq f.by x (held_in p (after_task eq p v (task n) (other n)) c)
      merged-more n later before inside h y y_in at v v_in =
          let l : n ≤ length p.tasks = omega (arith, inside) in
          let of_copy = copy-fills (other n) (other-sized n l) y y_in in
          let of_cell = other-sized n l c in
          let not_first : copy_of p c y ≢ q = λ e. (let same = ap (λ (u : Worker). get_or f.combines u.0 0) (copy-own p proper c has_copies y (by t) e) in omega (arith, later, at, same)) in
          let not_second : copy_of p c y ≢ q' = λ e. (let same = ap (λ (u : Worker). get_or f.combines u.0 0) (copy-own p proper c has_copies y (by' t) e) in omega (arith, before, at, same)) in
          let first = merged y y_in n at v v_in (one n) in
          let second = merged y y_in n at v v_in (other n) in
          let same = h.alike (copy_of p c y) not_first not_second (copy-not_cell y y_in) in
          let swapped = combined-swap eq f.by reduced x (held_in p (other n) (copy_of p c y)) (held_in p (other n) c) x-fills.0 of_copy.0 of_cell.tile (x-fills.1 ∙ sym of_cell.dims) (of_copy.1 ∙ sym of_cell.dims) in
          cc

  -- ---- both are combined

  -- while the phase is open no copy is filled anew
  no-refill : (i : ℕ) → t.0 < i → i ≤ k' → (y : Worker) → y.0 < p.workers → (task_number p i).accesses ≡ access W (copy_of p c y) ∷ [] → ⊥
  no-refill i later before y y_in fills = by_kind (operand-at i later before y y_in (access W (copy_of p c y)) (subst (λ (xs : List Access). Contains xs (access W (copy_of p c y))) (sym fills) (0, omega arith, refl)) refl (inr (y, y_in, refl)))
    where
      by_kind : AtWork p proper f phase has_copies i y (access W (copy_of p c y)) → ⊥
      by_kind x = search arith

  ends : k' < length p.tasks → Halfway k' → Over (suc k')
  ends inside h = search (arith, no-refill, t-first, by_cell, cases_Bool, moved)
    where
      v : Worker
      v = by (task k')

      v_in : (by (task k')).0 < p.workers
      v_in = staffed (task k')

      moved : other (suc k') ≡ after_task eq p (by (task k')) (task k') (other k')
      moved = other-next k' (λ e. omega (arith, t-first, k-before, e))

      cell : held_in p (after_task eq p (by (task k')) (task k') (one k')) c ≡ held_in p (after_task eq p (by (task k')) (task k') (other k')) c
      cell =
          let l : k' ≤ length p.tasks = omega (arith, inside) in
          let of_copy = copy-fills (one k') (one-sized k' l) (by' t) (staffed' t) in
          let of_cell = other-sized k' l c in
          let first = merged (by' t) (staffed' t) k' refl (by (task k')) v_in (one k') in
          let second = merged (by' t) (staffed' t) k' refl (by (task k')) v_in (other k') in
          let swapped = combined-swap eq f.by reduced x (held_in p (one k') q') (held_in p (other k') c) x-fills.0 of_copy.0 of_cell.tile (x-fills.1 ∙ sym of_cell.dims) (of_copy.1 ∙ sym of_cell.dims) in
          let joined = law.associative x (held_in p (one k') q') (held_in p (other k') c) x-fills.0 of_copy.0 of_cell.tile (x-fills.1 ∙ sym of_copy.1) (of_copy.1 ∙ sym of_cell.dims) in
          cc

      by_cell : (d : Cell) → d ≢ q → d ≢ q' → (same_cell d c ≡ true) ⊎ (same_cell d c ≡ false) → held_in p (after_task eq p (by (task k')) (task k') (one k')) d ≡ held_in p (after_task eq p (by (task k')) (task k') (other k')) d
      by_cell d dq dq' (inl e) = subst (λ (z : Cell). held_in p (after_task eq p (by (task k')) (task k') (one k')) z ≡ held_in p (after_task eq p (by (task k')) (task k') (other k')) z) (sym (same_cell-is d c e)) cell
      by_cell d dq dq' (inr e) =
          let dc : d ≢ c = λ f. true≢false (sym (same_cell-itself d ∙ refl) ∙ ap (same_cell d) f ∙ e) in
          merge-spares (by' t) (staffed' t) k' refl (by (task k')) v_in (one k') d dc ∙ h.alike d dq dq' dc ∙ sym (merge-spares (by' t) (staffed' t) k' refl (by (task k')) v_in (other k') d dc)

  -- ---- after the phase

  rests : (n : ℕ) → k' < n → n < length p.tasks → Over n → Over (suc n)
  rests n later inside h =
      let v = by (task n) in
      let v_in = staffed (task n) in
      record {
        alike = λ d fresh fresh'.
            step-same eq has p proper lawful (task n) inside v (one n) (other n) d
            (λ writes b has_b reads. h.alike (worked_on p v b)
            (λ e. refilled p proper f phase has_copies (by t) (staffed t) n (omega (arith, later, k-before)) v v_in b has_b reads e)
            (λ e. refilled p proper f phase has_copies (by' t) (staffed' t) n later v v_in b has_b reads e))
            (λ spared. h.alike d (λ e. earlier (by t) k d e spared (fresh e)) (λ e. earlier (by' t) k' d e spared (fresh' e)))
            ∙ ap (λ (z : Contents). held_in p z d) (sym (other-next n (λ e. omega (arith, later, t-first, k-before, e))));
      }
    where
      -- what the task doesn't write was filled before it
      earlier : (y : Worker) (m : ℕ) (d : Cell) → d ≡ copy_of p c y → has_cell (written_cells p (task n) (by (task n))) d ≡ false → IsRefilled p proper f phase has_copies y m (suc n) → IsRefilled p proper f phase has_copies y m n
      earlier y m d is spared r = (search (arith, cases_lt, task, false≢true, same_cell-itself))

  -- ---- all along

  differ : (n : ℕ) → n ≤ length p.tasks → Differ n
  differ zero l = Before (omega arith) refl
  differ (suc n) l = by_stage (differ n (omega (arith, l)))
    where
      by_stage : Differ n → Differ (suc n)
      by_stage (Before before same) = elim (cases_lt n t.0) [
        | inl less ↦ Before (omega (arith, less)) (begin-same (suc n) (omega (arith, less)))
        | inr here ↦ (let e : t.0 ≡ n = omega (arith, before, here) in subst (λ i. Differ (suc i)) e (First (omega arith) (omega (arith, t-first)) entered))
      ]
      by_stage (First later before h) = (search (arith, cases_lt, continues, k-before, halves))
      by_stage (Second later before h) = elim (cases_lt n k') [
        | inl less ↦ Second (omega (arith, later)) (omega (arith, less)) (goes_on n later less (omega (arith, l)) h)
        | inr here ↦ (let e : k' ≡ n = omega (arith, before, here) in subst (λ i. Differ (suc i)) e (Last (omega arith) (ends (omega (arith, l, e)) (subst Halfway (sym e) h))))
      ]
      by_stage (Last later h) = Last (omega (arith, later)) (rests n later (omega (arith, l)) h)

  -- a cell that is no partial copy, and under no open phase, holds the same
  pub rerouted : (n : ℕ) → n ≤ length p.tasks → (d : Cell) → IsPlain p d → ((g : Phase) → IsPhase p g → g.cell ≡ d → ¬ IsOpenAt g n) → held_in p (after_chosen eq p every by n) d ≡ held_in p (after_chosen eq p every by' n) d
  rerouted n l d plain closed = by_stage (differ n l)
    where
      not_copy : (y : Worker) → y.0 < p.workers → d ≢ copy_of p c y
      not_copy y y_in e = plain c y (record { has_copies = has_copies; of_worker = y_in; is = e })

      by_stage : Differ n → held_in p (after_chosen eq p every by n) d ≡ held_in p (after_chosen eq p every by' n) d
      by_stage (Before before same) = ap (λ (z : Contents). held_in p z d) same
      by_stage (First later before h) = h.alike d (not_copy (by t) (staffed t)) (not_copy (by' t) (staffed' t))
      by_stage (Second later before h) = h.alike d (not_copy (by t) (staffed t)) (not_copy (by' t) (staffed' t)) (λ e. closed (contributes p proper t a among redux).phase phase (sym e) (record {
        begun = (init_at p proper f phase (by t) (staffed t), init-among p proper f phase (by t) (staffed t), omega (arith, init-before p proper f phase (by t) (staffed t) t.0 of_t.among, later, t-first));
        unfinished = (k', combine-among p proper f phase (by' t) (staffed' t), before);
      }))
      by_stage (Last later h) = h.alike d (λ e. absurd (not_copy (by t) (staffed t) e)) (λ e. absurd (not_copy (by' t) (staffed' t) e))

-- ---- what cells hold after all tasks up to one doesn't depend on the workers of the contributions, but in partial copies
-- and under open phases

module _ (eq : Equations) (has : Kernel → Bool) (p : Program) (proper : Proper p) (lawful : IsLawful eq has p) (n : ℕ) (within : n ≤ length p.tasks) (d : Cell) (plain : IsPlain p d) (closed : (g : Phase) → IsPhase p g → g.cell ≡ d → ¬ IsOpenAt g n) where
  -- one task by another worker
  reassigned : (by by' : Task → Worker) → ((u : Task) → (by u).0 < p.workers) → ((u : Task) → (by' u).0 < p.workers) → (t : Task) → t.0 < length p.tasks → ((u : Task) → u ≢ t → by' u ≡ by u) → held_in p (after_chosen eq p every by n) d ≡ held_in p (after_chosen eq p every by' n) d
  reassigned by by' staffed staffed' t inside others = elim (cases_Bool (list_any (λ (a : Access). is_redux a.mode) (task_of p t).accesses)) [
    | inl some ↦
        let found = list_any-some (λ (a : Access). is_redux a.mode) (task_of p t).accesses some in
        let redux : found.0.mode ≡ Redux = elim (redux_or found.0.mode) [ inl e ↦ e | inr e ↦ absurd (true≢false (sym found.2 ∙ e)) ] in
        elim (cases_lt (by t).0 (by' t).0) [
          | inl lower ↦ rerouted eq has p proper lawful by by' staffed staffed' t inside found.0 found.1 redux others lower n within d plain closed
          | inr rest ↦ elim (cases_eq (by t).0 (by' t).0) [
            | inl e ↦ ap (λ z. held_in p z d) (after_chosen-same eq p every every by by' n (λ u h. refl) (λ u h k. same_worker u (ap (λ (i : ℕ). let v : Worker = record { 0 = i } in v) e)))
            | inr differ ↦ sym (rerouted eq has p proper lawful by' by staffed' staffed t inside found.0 found.1 redux (λ u other. sym (others u other)) (omega (arith, rest, differ)) n within d plain closed)
          ]
        ]
    | inr none ↦ cone-holds eq p every every by by' n (record { within = λ u h e. e; alike = λ u h e. works_alike u none; closed = λ u v e before h k l m o. refl }) d (λ u h k l. refl)
  ]
    where
      same_worker : (u : Task) → by t ≡ by' t → by u ≡ by' u
      same_worker u e = elim (same_task u t) [ inl is ↦ ap by is ∙ e ∙ sym (ap by' is) | inr other ↦ sym (others u other) ]

      works_alike : (u : Task) → list_any (λ (a : Access). is_redux a.mode) (task_of p t).accesses ≡ false → WorksAlike p u (by u) (by' u)
      works_alike u none a h = (search (arith, same_task, false_from_ne_true, true≢false, list_any_at, direct-cell))

  module _ (by by' : Task → Worker) (staffed : (u : Task) → (by u).0 < p.workers) (staffed' : (u : Task) → (by' u).0 < p.workers) where
    -- the tasks below m by the second workers, the others by the first
    mixed : ℕ → Task → Worker
    mixed m u = cond (nat_lt u.0 m) (by' u) (by u)

    mixed-below : (m : ℕ) (u : Task) → u.0 < m → mixed m u ≡ by' u
    unfolding mixed
    mixed-below m u l = ap (λ b. cond b (by' u) (by u)) (let h : nat_lt u.0 m ≡ true = grind (arith, nat_tests) in h)

    mixed-from : (m : ℕ) (u : Task) → m ≤ u.0 → mixed m u ≡ by u
    unfolding mixed
    mixed-from m u l = ap (λ b. cond b (by' u) (by u)) (let h : nat_lt u.0 m ≡ false = grind (arith, nat_tests) in h)

    mixed-staffed : (m : ℕ) (u : Task) → (mixed m u).0 < p.workers
    unfolding mixed
    mixed-staffed m u = search arith

    one_more : (m : ℕ) (u : Task) → u ≢ task m → mixed (suc m) u ≡ mixed m u
    one_more m u other = search (arith, cases_lt, mixed-below, differ, task, mixed-from)

    chained : (m : ℕ) → m ≤ n → held_in p (after_chosen eq p every by n) d ≡ held_in p (after_chosen eq p every (mixed m) n) d
    chained zero l = ap (λ z. held_in p z d) (after_chosen-same eq p every every by (mixed 0) n (λ u h. refl) (λ u h e. sym (mixed-from 0 u (omega arith))))
    chained (suc m) l = chained m (omega (arith, l)) ∙ reassigned (mixed m) (mixed (suc m)) (mixed-staffed m) (mixed-staffed (suc m)) (task m) (omega (arith, l, within)) (one_more m)

    -- whichever workers ran the tasks
    pub workers-alike : held_in p (after_chosen eq p every by n) d ≡ held_in p (after_chosen eq p every by' n) d
    workers-alike = chained n (omega arith) ∙ ap (λ z. held_in p z d) (after_chosen-same eq p every every (mixed n) by' n (λ u h. refl) (λ u h e. mixed-below n u h))
