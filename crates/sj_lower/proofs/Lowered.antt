-- All statements: the tasks of the lowered program are good, its phases are logged, and its deliveries are those of the job's
-- prints.
use Rattle.sj_lower.proofs.Words.{[], Act, active_cell, active_cells, add_own, all_closed, AllByRecursion, ap, append_assoc, apply, arith, begun, Bool, Cell, cell_of, Cells, closed_by, cond, contributions, each_of, extended, false, filter, finished, fold, has_child, has_child_values, Invalidates, is_other_access, is_redux, is_valued_child, IsPlace, JobState, Kernel, length, Line, List, list_all, list_any, lower_from, lower_one, lowered, Lowering, None, not, nothing, number, opened, opened_for, OpenPhase, Operand, Option, Parts, parts_in, phase_turned, places, Plans, prepared, Printed, printed, printed_from, Prints, prints, Program, range_with_len, Reduces, Reduction, reduction_of, refl, Registers, root_of, RootState, run_from, same_parts, Some, start, Statement, subst, sym, Table, TaskLine, Tasks, true, Unregisters, ℕ, ◌&&◌, ◌++◌, ◌<◌, ◌∙◌, ◌∷◌, ◌≡◌}
use Rattle.std.proofs.lemmas.{Bool.and_parts, Bool.false≢true, Bool.not-true, Bool.or_parts, List.append-nil, List.Elements.All-from_recursion, List.Elements.All-get_or}
use Rattle.sj_lower.proofs.{Able.AllCanBe, Able.CanBe, Agreeing.agrees_start, Agreeing.IsShutBy, Closing.all_closed-cells, Closing.all_closed-none, Closing.all_closed-own, Closing.begins-all_closed, Contributed.fine_contributed, Copies.copies-more, Delivered.delivered_none, Fine.fine_all_closed, Fine.IsFine, Fine.open-inside, Growing.grows-refl, Logging.logged-none, Matching.parts-of, Operands.all-before, Operands.Contributes, Operands.contributes-there, Operands.each-before, Operands.IsRead, Phasing.each-worker, Places.length-places, Places.number-below, Places.places-at, Running.active_cell-is, Running.child_there, Running.child_values-are, Running.is_direct, Running.IsClosed, Running.kernel_there, Stating.Agrees, Stating.Begins, Stating.begins-less, Stating.begins-own, Whole.fine_own, Whole.IsReady, Whole.NamesAct, Whole.NamesAll}

-- ---- the program begins with each part of the lowering

begins-opened : (p : Program) (by : Reduction) (v : Bool) (line : Line) (c : Cell) (L : Lowering) → Begins p (opened p.workers by v line c L) → Begins p L
begins-opened p by v line c L = by_option (L.phase c)
  where
    by_option : (o : Option OpenPhase) → Begins p (elim o as (λ _. Lowering) [ None ↦ begun p.workers by v line c L | Some f ↦ phase_turned L.cells [] c (Some (extended f line)) L ]) → Begins p L
    by_option None b = begins-less p L (begun p.workers by v line c L) _ (copies-more p.workers c L.cells) refl b
    by_option (Some f) b = begins-less p L (phase_turned L.cells [] c (Some (extended f line)) L) [] (grows-refl L.cells.rows) refl b

begins-opened_for : (p : Program) (S : JobState) (line : Line) (L : Lowering) (o : Operand (List ℕ)) → Begins p (opened_for p.workers S line L o) → Begins p L
begins-opened_for p S line L o = by_option (reduction_of S o.name)
  where
    by_option : (x : Option Reduction) → Begins p (elim x as (λ _. Lowering) [ None ↦ L | Some by ↦ opened p.workers by (has_child_values S o) line (active_cell S L.cells o.name o.place) L ]) → Begins p L
    by_option None b = b
    by_option (Some by) b = begins-opened p by (has_child_values S o) line (active_cell S L.cells o.name o.place) L b

begins-all_opened : (p : Program) (S : JobState) (line : Line) (os : List (Operand (List ℕ))) (L : Lowering) → Begins p (fold (opened_for p.workers S line) L os) → Begins p L
begins-all_opened p S line [] L b = b
begins-all_opened p S line (o ∷ os) L b = begins-opened_for p S line L o (begins-all_opened p S line os (opened_for p.workers S line L o) b)

begins-one : (p : Program) (S : JobState) (s : Statement (List ℕ)) (L : Lowering) → Begins p (lower_one p.workers S s L) → Begins p L
begins-one p S s L b =
    begins-all_closed p (closed_by S L.cells s.act) L
    (begins-all_opened p S s.line (contributions s.act) (all_closed p.workers (closed_by S L.cells s.act) L) (begins-own p S s (prepared p.workers S s L) b))

begins-from : (p : Program) (S : JobState) (L : Lowering) (ss : List (Statement (List ℕ))) → Begins p (lower_from p.workers S L ss) → Begins p L
begins-from p S L [] b = b
begins-from p S L (s ∷ ss) b = begins-one p S s L (begins-from p (apply s.act S) (lower_one p.workers S s L) ss b)

-- ---- what is closed

at-place : (P : Cell → Type 0) (f : ℕ × ℕ → Cell) (s : Parts) (place : ℕ × ℕ) → AllByRecursion P (each_of f (places s)) → IsPlace s place → P (f place)
at-place P f s place all h =
    subst P (places-at f s place (record { 0 = 0 }) h)
    (All-get_or P (each_of f (places s)) (number s place) (record { 0 = 0 }) (omega (arith, length-places f s, number-below s place h)) (All-from_recursion P (each_of f (places s)) all))

module _ (workers : ℕ) (L : Lowering) (S : JobState) where
  abbrev After : List Cell → Lowering
  After cs = all_closed workers cs L

  active-shut : (name : List ℕ) (r : RootState) (place : ℕ × ℕ) (cs : List Cell) → cs ≡ active_cells S L.cells name → root_of S name ≡ Some r → IsPlace r.parts place → (After cs).phase (cell_of (After cs).cells name r.parts place) ≡ None
  active-shut name r place cs e is at =
      ap (λ (C : Cells). (After cs).phase (cell_of C name r.parts place)) (all_closed-cells workers cs L)
      ∙ ap (After cs).phase (sym (active_cell-is S L.cells name place r is))
      ∙ at-place (λ (c : Cell). (After cs).phase c ≡ None) (active_cell S L.cells name) (parts_in S name) place (subst (λ (ds : List Cell). AllByRecursion (λ c. (After cs).phase c ≡ None) ds) e (all_closed-own workers cs L)) (subst (λ (x : Parts). IsPlace x place) (sym (parts-of S name r is)) at)

  plan-shut : (name : List ℕ) (s : Parts) → IsShutBy (After (closed_by S L.cells (Plans name s))) S name s
  plan-shut name s r place is at changed = active-shut name r place (closed_by S L.cells (Plans name s)) (ap (λ b. cond b [] (active_cells S L.cells name)) (ap (λ (x : Parts). same_parts x s) (parts-of S name r is) ∙ changed)) is at

  -- the operands that a task accesses otherwise than by a contribution
  operands-shut : (cs : List Cell) (os : List (Operand (List ℕ))) → AllByRecursion (λ c. (After cs).phase c ≡ None) (each_of (λ o. active_cell S L.cells o.name o.place) (filter is_other_access os)) → AllByRecursion (λ o. is_redux o.mode ≡ false → IsClosed (After cs).phase S L.cells o) os
  operands-shut cs [] h = tt
  operands-shut cs (o ∷ os) h = by_test (is_other_access o) refl h (operands-shut cs os)
    where
      by_test : (b : Bool) → is_other_access o ≡ b → AllByRecursion (λ c. (After cs).phase c ≡ None) (each_of (λ o. active_cell S L.cells o.name o.place) (cond b (o ∷ filter is_other_access os) (filter is_other_access os)))
          → (AllByRecursion (λ c. (After cs).phase c ≡ None) (each_of (λ o. active_cell S L.cells o.name o.place) (filter is_other_access os)) → AllByRecursion (λ o. is_redux o.mode ≡ false → IsClosed (After cs).phase S L.cells o) os)
          → AllByRecursion (λ o. is_redux o.mode ≡ false → IsClosed (After cs).phase S L.cells o) (o ∷ os)
      by_test true e h rest = (λ direct is_d. h.0, rest h.1)
      by_test false e h rest = (λ direct is_d. absurd (false≢true (sym e ∙ (λ i. is_d i && not (direct i)))), rest h)

  task-shut : (t : TaskLine (List ℕ)) → AllByRecursion (λ o. is_redux o.mode ≡ false → IsClosed (After (closed_by S L.cells (Tasks t))).phase S (After (closed_by S L.cells (Tasks t))).cells o) t.operands
  task-shut t = subst (λ (C : Cells). AllByRecursion (λ o. is_redux o.mode ≡ false → IsClosed (After (closed_by S L.cells (Tasks t))).phase S C o) t.operands) (sym (all_closed-cells workers (closed_by S L.cells (Tasks t)) L))
      (operands-shut (closed_by S L.cells (Tasks t)) t.operands (all_closed-own workers (closed_by S L.cells (Tasks t)) L))

none-redux : (os : List (Operand (List ℕ))) → list_any (λ o. is_redux o.mode) os ≡ false → (list_all (λ o. is_direct o.mode) os ≡ true) × (filter (λ o. is_redux o.mode) os ≡ [])
none-redux [] e = (refl, refl)
none-redux (o ∷ os) e =
    let x = or_parts (is_redux o.mode) (list_any (λ o. is_redux o.mode) os) e in
    let r = none-redux os x.1 in
    (ap (λ b. not b && list_all (λ o. is_direct o.mode) os) x.0 ∙ r.0, ap (λ b. cond b (o ∷ filter (λ o. is_redux o.mode) os) (filter (λ o. is_redux o.mode) os)) x.0 ∙ r.1)

direct-closed : (P : Operand (List ℕ) → Type 0) (os : List (Operand (List ℕ))) → list_all (λ o. is_direct o.mode) os ≡ true → AllByRecursion (λ o. is_redux o.mode ≡ false → P o) os → AllByRecursion P os
direct-closed P [] d h = tt
direct-closed P (o ∷ os) d h =
    let x = and_parts (is_direct o.mode) (list_all (λ o. is_direct o.mode) os) d in
    (h.0 (not-true (is_redux o.mode) x.0), direct-closed P os x.1 h.1)

-- ---- one statement

-- one that contributes to nothing
fine_plain : (has : Kernel → Bool) (T : Table) (p : Program) (L : Lowering) (S : JobState) (s : Statement (List ℕ)) (out : List Printed) → contributions s.act ≡ [] → IsReady (all_closed p.workers (closed_by S L.cells s.act) L) S s.act → Begins p (lower_one p.workers S s L) → CanBe has S s.act → NamesAct T S L.cells s.act → IsFine T p L S out
    → IsFine T p (lower_one p.workers S s L) (apply s.act S) (out ++ prints s.act S)
fine_plain has T p L S s out none ready b can named f =
    let M = all_closed p.workers (closed_by S L.cells s.act) L in
    let same : prepared p.workers S s L ≡ M = ap (fold (opened_for p.workers S s.line) M) none in
    let begins : Begins p (add_own S s M) = subst (λ (N : Lowering). Begins p (add_own S s N)) same b in
    let fine = fine_all_closed T p (closed_by S L.cells s.act) L S out (begins-own p S s M begins) f in
    subst (λ (N : Lowering). IsFine T p (add_own S s N) (apply s.act S) (out ++ prints s.act S)) (sym same)
    (fine_own has T p M S s.line s.act out begins can (subst (λ (C : Cells). NamesAct T S C s.act) (sym (all_closed-cells p.workers (closed_by S L.cells s.act) L)) named) ready fine)

-- a task that contributes
fine_adding : (has : Kernel → Bool) (T : Table) (p : Program) (L : Lowering) (S : JobState) (line : Line) (t : TaskLine (List ℕ)) (out : List Printed) → list_any (λ o. is_redux o.mode) t.operands ≡ true → Begins p (lower_one p.workers S (record { line = line; act = Tasks t }) L) → CanBe has S (Tasks t) → IsFine T p L S out
    → IsFine T p (lower_one p.workers S (record { line = line; act = Tasks t }) L) (apply (Tasks t) S) (out ++ [])
fine_adding has T p L S line t out any b can f =
    let s : Statement (List ℕ) = record { line = line; act = Tasks t } in
    let M = all_closed p.workers (closed_by S L.cells (Tasks t)) L in
    let con = contributes-there has S t can.sound any in
    let u = con.last in
    let there = child_there S u (last_placed con) in
    let c = cell_of M.cells u.name there.root.parts u.place in
    let same : prepared p.workers S s L ≡ opened p.workers con.by (is_valued_child there.root u.place) line c M =
    ap (fold (opened_for p.workers S line) M) con.contributed
    ∙ ap (λ (x : Option Reduction). elim x as (λ _. Lowering) [ None ↦ M | Some by ↦ opened p.workers by (has_child_values S u) line (active_cell S M.cells u.name u.place) M ]) con.reduction
    ∙ (λ i. opened p.workers con.by (child_values-are S u there.root there.is_root i) line (active_cell-is S M.cells u.name u.place there.root there.is_root i) M) in
    let begins : Begins p (add_own S s (opened p.workers con.by (is_valued_child there.root u.place) line c M)) = subst (λ (N : Lowering). Begins p (add_own S s N)) same b in
    let before : Begins p M = begins-opened p con.by (is_valued_child there.root u.place) line c M (begins-own p S s (opened p.workers con.by (is_valued_child there.root u.place) line c M) begins) in
    let fine = fine_all_closed T p (closed_by S L.cells (Tasks t)) L S out before f in
    let shut = subst (λ (os : List (Operand (List ℕ))). AllByRecursion (λ o. is_redux o.mode ≡ false → IsClosed M.phase S M.cells o) os) con.is (task-shut p.workers L S t) in
    subst (λ (N : Lowering). IsFine T p (add_own S s N) (apply (Tasks t) S) (out ++ [])) (sym same)
    (fine_contributed has T p M S line t out can con there.root there.is_root (record { is_root = there.is_root; placed = there.placed; cell = refl }) (reads-shut M con.before con.reads (each-before (λ o. is_redux o.mode ≡ false → IsClosed M.phase S M.cells o) con.before u shut).0) fine before begins)
  where
    last_placed : (con : Contributes S t (kernel_there has S t can.sound).call.kernel) → has_child S con.last ≡ true
    last_placed con = (all-before (has_child S) con.before con.last (ap (list_all (has_child S)) (sym con.is) ∙ can.sound.placed)).1

    reads-shut : (M : Lowering) (vs : List (Operand (List ℕ))) → AllByRecursion IsRead vs → AllByRecursion (λ o. is_redux o.mode ≡ false → IsClosed M.phase S M.cells o) vs → AllByRecursion (IsClosed M.phase S M.cells) vs
    reads-shut M [] re h = tt
    reads-shut M (v ∷ vs) re h = (h.0 re.0.0, reads-shut M vs re.1 h.1)

fine_one : (has : Kernel → Bool) (T : Table) (p : Program) (L : Lowering) (S : JobState) (line : Line) (a : Act (List ℕ)) (out : List Printed) → let s : Statement (List ℕ) = record { line = line; act = a } in Begins p (lower_one p.workers S s L) → CanBe has S a → NamesAct T S L.cells a → IsFine T p L S out
    → IsFine T p (lower_one p.workers S s L) (apply a S) (out ++ prints a S)
fine_one has T p L S line (Registers r) out b can named f = fine_plain has T p L S (record { line = line; act = Registers r }) out refl tt b can named f
fine_one has T p L S line (Plans name s) out b can named f = fine_plain has T p L S (record { line = line; act = Plans name s }) out refl (plan-shut p.workers L S name s) b can named f
fine_one has T p L S line (Reduces name by) out b can named f = fine_plain has T p L S (record { line = line; act = Reduces name by }) out refl tt b can named f
fine_one has T p L S line (Tasks t) out b can named f = by_any (list_any (λ o. is_redux o.mode) t.operands) refl
  where
    by_any : (x : Bool) → list_any (λ o. is_redux o.mode) t.operands ≡ x → IsFine T p (lower_one p.workers S (record { line = line; act = Tasks t }) L) (apply (Tasks t) S) (out ++ [])
    by_any true any = fine_adding has T p L S line t out any b can f
    by_any false any =
        let none = none-redux t.operands any in
        let M = all_closed p.workers (closed_by S L.cells (Tasks t)) L in
        fine_plain has T p L S (record { line = line; act = Tasks t }) out none.1 (none.0, direct-closed (IsClosed M.phase S M.cells) t.operands none.0 (task-shut p.workers L S t)) b can named f
fine_one has T p L S line (Prints name) out b can named f = fine_plain has T p L S (record { line = line; act = Prints name }) out refl (λ r place is at. active-shut p.workers L S name r place (active_cells S L.cells name) refl is at) b can named f
fine_one has T p L S line (Invalidates name) out b can named f = fine_plain has T p L S (record { line = line; act = Invalidates name }) out refl (λ r place is at. active-shut p.workers L S name r place (active_cells S L.cells name) refl is at) b can named f
fine_one has T p L S line (Unregisters name) out b can named f = fine_plain has T p L S (record { line = line; act = Unregisters name }) out refl (λ r place is at. active-shut p.workers L S name r place (active_cells S L.cells name) refl is at) b can named f

-- ---- all statements

fine_from : (has : Kernel → Bool) (T : Table) (p : Program) (L : Lowering) (S : JobState) (out : List Printed) (ss : List (Statement (List ℕ))) → Begins p (lower_from p.workers S L ss) → AllCanBe has S ss → NamesAll p.workers T S L ss → IsFine T p L S out
    → IsFine T p (lower_from p.workers S L ss) (run_from S ss) (out ++ printed_from S ss)
fine_from has T p L S out [] b can named f = subst (λ (xs : List Printed). IsFine T p L S xs) (sym (append-nil out)) f
fine_from has T p L S out (s ∷ ss) b can named f =
    let next = fine_one has T p L S s.line s.act out (begins-from p (apply s.act S) (lower_one p.workers S s L) ss b) can.0 named.0 f in
    subst (λ (xs : List Printed). IsFine T p (lower_from p.workers S L (s ∷ ss)) (run_from S (s ∷ ss)) xs) (append_assoc out (prints s.act S) (printed_from (apply s.act S) ss))
    (fine_from has T p (lower_one p.workers S s L) (apply s.act S) (out ++ prints s.act S) ss b can.1 named.1 next)

-- at the end no phase is open
all-shut : (p : Program) (L : Lowering) (S : JobState) → Begins p L → Agrees p L S → (c : Cell) → (finished p.workers L).phase c ≡ None
all-shut p L S b g c = by_option (L.phase c) refl
  where
    cells : List Cell
    cells = each_of (λ n. record { 0 = n }) (range_with_len 0 (length L.cells.rows))

    among : c.0 < length L.cells.rows → (finished p.workers L).phase c ≡ None
    among h = each-worker (λ n. (finished p.workers L).phase (record { 0 = n }) ≡ None) 0 (length L.cells.rows) (from-map (range_with_len 0 (length L.cells.rows)) (all_closed-own p.workers cells L)) c.0 (omega arith) (omega (arith, h))
      where
        from-map : (ns : List ℕ) → AllByRecursion (λ d. (finished p.workers L).phase d ≡ None) (each_of (λ n. let d : Cell = record { 0 = n } in d) ns) → AllByRecursion (λ n. (finished p.workers L).phase (record { 0 = n }) ≡ None) ns
        from-map [] h = tt
        from-map (n ∷ ns) h = (h.0, from-map ns h.1)

    by_option : (o : Option OpenPhase) → L.phase c ≡ o → (finished p.workers L).phase c ≡ None
    by_option None e = all_closed-none p.workers cells L c e
    by_option (Some f) e = among (open-inside p L S b g c f e)

-- the program of a job
pub record IsWhole (T : Table) (p : Program) (ss : List (Statement (List ℕ))) : Type 0 where
  pub lowering : Lowering
  pub state : JobState
  pub cells : p.cells ≡ lowering.cells.rows
  pub tasks : p.tasks ≡ lowering.tasks
  pub deliveries : p.deliveries ≡ lowering.deliveries
  pub begins : Begins p lowering
  pub fine : IsFine T p lowering state (printed ss)
  pub shut : (c : Cell) → lowering.phase c ≡ None

pub whole : (has : Kernel → Bool) (T : Table) (ss : List (Statement (List ℕ))) (workers : ℕ) → AllCanBe has start ss → NamesAll workers T start nothing ss → IsWhole T (lowered ss workers) ss
whole has T ss workers can named =
    let M = lower_from workers start nothing ss in
    let L = finished workers M in
    let p = lowered ss workers in
    let begins : Begins p L = record { cells = grows-refl L.cells.rows; tasks = []; all_tasks = sym (append-nil L.tasks) } in
    let ids = each_of (λ n. let d : Cell = record { 0 = n } in d) (range_with_len 0 (length M.cells.rows)) in
    let before : Begins p M = begins-all_closed p ids M begins in
    let f = fine_from has T p nothing start [] ss before can named (record {
      agrees = agrees_start p;
      good = λ n h. absurd (omega arith);
      delivered = delivered_none T p;
      logged = logged-none p (λ c. None) (λ c. refl);
    }) in
    record {
      lowering = L;
      state = run_from start ss;
      cells = refl;
      tasks = refl;
      deliveries = refl;
      begins = begins;
      fine = fine_all_closed T p ids M (run_from start ss) (printed ss) begins f;
      shut = λ c. all-shut p M (run_from start ss) before f.agrees c;
    }
