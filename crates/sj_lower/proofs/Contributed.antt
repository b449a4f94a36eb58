-- A task that contributes keeps all that is known of the program.
use Rattle.sj_lower.proofs.Words.{[], Access, access, access_of, add_own, AllByRecursion, ap, append_assoc, arith, begin_rows, begun, Bool, Cell, cell_info, cell_of, cells_from, cond, Contains, contributed_to, copy_at, Deliver, Delivery, each_of, extended, false, first_partial, Handle, has_child, has_child_values, HasValueBefore, init_row, init_rows, inl, inr, is_some, is_valued_child, IsPlain, IsSoundTask, JobState, Kernel, kernel_of, Least, length, length-append, Line, List, list_all, Lowered, Lowering, needs_value, None, not, opened, OpenPhase, Operand, Option, parts_in, phase_turned, Plus, Printed, Program, range_with_len, reads_value, Reduction, Redux, refl, root_of, RootState, run_task, Some, Statement, subst, sym, Table, task, task_row, TaskLine, Tasks, true, with_copies, ℕ, ◌&&◌, ◌++◌, ◌+◌, ◌<◌, ◌||◌, ◌∙◌, ◌∷◌, ◌≡◌, ◌≤◌}
use Rattle.std.specs.Prelude.{All, unwrap_or}
use Rattle.std.proofs.lemmas.{Bool.and_parts, List.append-nil, List.map-append, List.Elements.All-append, List.Elements.All-cons, List.Elements.All-contains, List.Elements.All-nil, List.Elements.All-weaker, List.Elements.Contains-append_cases, Option.same_Some}
use Rattle.sj_base.proofs.Lists.{one_is, each-append}
use Rattle.sj_plan.proofs.Lists.{each-map}
use Rattle.sj_lower.proofs.{Able.CanBe, Agreeing.reduction-is, Contents.contents_before, Contributing.agrees_contributed, Copies.copied-first, Delivered.AreDelivered, Delivered.delivered_beside, Delivered.NoneDelivers, Fine.good-more, Fine.IsFine, Fine.open-plain, Folding.later, Folding.Stand, Folding.stand-append, Giving.IsGiving, Giving.log-begin, Giving.log-extend, Good.all_given, Good.AreGood, Good.contribution-modes, Good.good-all, Good.good-append, Good.good_init, Good.good_task, Good.HasItsCopies, Good.IsGood, Good.no_copies, Good.plans-of, Holding.HasRoot, Laid.cell-inside, Logging.IsAway, Logging.last-has, Logging.Logged, Opening.begins_now, Opening.by_opened, Opening.goes_on, Opening.IsChildOf, Opening.IsOpened, Operands.all-before, Operands.Contributes, Operands.IsRead, Owning.copy-is, Owning.one-owner, Owning.plain-child, Phasing.each-of_all, Running.active_cell-is, Running.is_direct, Running.IsClosed, Running.kernel_there, Stating.Agrees, Stating.Begins, Stating.begins-own, Stating.stands-more, Whole.operand-away}

reads-direct : (vs : List (Operand (List ℕ))) → AllByRecursion IsRead vs → list_all (λ o. is_direct o.mode) vs ≡ true
reads-direct [] h = refl
reads-direct (v ∷ vs) h = ap (λ b. b && list_all (λ o. is_direct o.mode) vs) (ap not h.0.0) ∙ reads-direct vs h.1

none-init : (by : Reduction) (line : Line) (c : Cell) → kernel_of (init_row by line c).codelet ≡ Some Deliver → ⊥
none-init Plus line c e = absurd (cc)
none-init Least line c e = absurd (cc)

module _ (has : Kernel → Bool) (T : Table) (p : Program) (L : Lowering) (S : JobState) (line : Line) (t : TaskLine (List ℕ)) (out : List Printed) (can : CanBe has S (Tasks t)) (con : Contributes S t (kernel_there has S t can.sound).call.kernel)
    (root : RootState) (is_root : root_of S con.last.name ≡ Some root) (own : IsChildOf L.cells S con.last.name con.last.place (cell_of L.cells con.last.name root.parts con.last.place) root) (shut : AllByRecursion (IsClosed L.phase S L.cells) con.before) (fine : IsFine T p L S out) (b : Begins p L) where
  abbrev u : Operand (List ℕ)
  u = con.last

  abbrev s : IsSoundTask has S t
  s = can.sound

  abbrev g : Agrees p L S
  g = fine.agrees

  abbrev c : Cell
  c = cell_of L.cells u.name root.parts u.place

  abbrev l : Lowered
  l = task_row S L.cells line t

  reduction : root.reduction ≡ Some con.by
  reduction = sym (reduction-is S u.name root is_root) ∙ con.reduction

  abbrev r : HasRoot p L.cells L.phase (length L.tasks) (contents_before p (length L.tasks)) u.name root
  r = g.roots u.name root is_root

  plain : IsPlain p c
  plain = plain-child p L.cells b.cells g.theirs.copies u.name root.dims root.parts r.first u.place g.laid r.taken own.placed

  accesses : l.accesses ≡ each_of (access_of S L.cells) con.before ++ access_of S L.cells u ∷ []
  accesses = ap (each_of (access_of S L.cells)) con.is ∙ map-append (access_of S L.cells) con.before (u ∷ [])

  last-is : access_of S L.cells u ≡ access Redux c
  last-is = λ i. record { mode = con.redux i; cell = active_cell-is S L.cells u.name u.place root is_root i }

  placed : list_all (has_child S) con.before ≡ true
  placed = (all-before (has_child S) con.before u (ap (list_all (has_child S)) (sym con.is) ∙ s.placed)).0

  valued : list_all (λ v. not (needs_value v.mode) || has_child_values S v) con.before ≡ true
  valued = (all-before (λ v. not (needs_value v.mode) || has_child_values S v) con.before u (ap (list_all (λ v. not (needs_value v.mode) || has_child_values S v)) (sym con.is) ∙ s.valued)).0

  -- the task contributes, and touches nothing else with an open phase
  giving : IsGiving p L.phase c con.by l
  giving = record {
    gives = record {
      kernel = (kernel_there has S t s).call.kernel;
      codelet = (kernel_there has S t s).call.is;
      contributes = con.contributes;
      operand = subst (λ (xs : List Access). Contains xs (access Redux c)) (sym accesses) (subst (λ (a : Access). Contains (each_of (access_of S L.cells) con.before ++ access_of S L.cells u ∷ []) a) last-is (last-has (each_of (access_of S L.cells) con.before) (access_of S L.cells u)));
    };
    others = λ a h. elim (Contains-append_cases (each_of (access_of S L.cells) con.before) (access_of S L.cells u ∷ []) a (subst (λ (xs : List Access). Contains xs a) accesses h)) [
      | inl first ↦ inr (All-contains (IsAway p L.phase) (each_of (access_of S L.cells) con.before) a (all-away con.before placed con.reads shut) first)
      | inr last ↦ inl (sym (one_is (access_of S L.cells u) a last) ∙ last-is)
    ];
  }
    where
      all-away : (vs : List (Operand (List ℕ))) → list_all (has_child S) vs ≡ true → AllByRecursion IsRead vs → AllByRecursion (IsClosed L.phase S L.cells) vs → All (IsAway p L.phase) (each_of (access_of S L.cells) vs)
      all-away [] pl re cl = All-nil (IsAway p L.phase)
      all-away (v ∷ vs) pl re cl =
          let x = and_parts (has_child S v) (list_all (has_child S) vs) pl in
          All-cons (IsAway p L.phase) (access_of S L.cells v) (each_of (access_of S L.cells) vs) (operand-away p L S v b g x.0 re.0.0 cl.0) (all-away vs x.1 re.1 cl.1)

  -- it is a good task where its phase is open
  good : (n : ℕ) → length L.tasks ≤ n → HasValueBefore p (task n) c → (f : OpenPhase) → (cell_info p c).partials ≡ Some f.copies → ((w : ℕ) → w < p.workers → HasValueBefore p (task n) (copy_at f.copies w)) → IsGood p n l
  good n more given f partials copies =
      good_task has p L.cells S n t line b.cells g.laid (plans-of p L.cells L.phase (length L.tasks) (contents_before p (length L.tasks)) S g.roots) s (contribution-modes has S t s con)
      (subst (λ (xs : List Access). All (λ (a : Access). reads_value a.mode ≡ true → HasValueBefore p (task n) a.cell) xs) (sym accesses)
      (All-append (λ (a : Access). reads_value a.mode ≡ true → HasValueBefore p (task n) a.cell) (each_of (access_of S L.cells) con.before) (access_of S L.cells u ∷ [])
      (All-weaker (λ (a : Access). reads_value a.mode ≡ true → HasValueBefore p (task (length L.tasks)) a.cell) (λ (a : Access). reads_value a.mode ≡ true → HasValueBefore p (task n) a.cell) (λ a h e. later p (length L.tasks) n a.cell more (h e)) (each_of (access_of S L.cells) con.before)
      (all_given p L.cells L.phase S (length L.tasks) (contents_before p (length L.tasks)) con.before g.roots (reads-direct con.before con.reads) placed valued))
      (All-cons (λ (a : Access). reads_value a.mode ≡ true → HasValueBefore p (task n) a.cell) (access_of S L.cells u) [] (λ e. subst (λ (a : Access). HasValueBefore p (task n) a.cell) (sym last-is) given) (All-nil (λ (a : Access). reads_value a.mode ≡ true → HasValueBefore p (task n) a.cell)))))
      (subst (λ (xs : List Access). All (HasItsCopies p n) xs) (sym accesses)
      (All-append (HasItsCopies p n) (each_of (access_of S L.cells) con.before) (access_of S L.cells u ∷ []) (no_copies p S L.cells n con.before (reads-direct con.before con.reads))
      (All-cons (HasItsCopies p n) (access_of S L.cells u) [] (subst (HasItsCopies p n) (sym last-is) (λ e. (ap (λ (o : Option Cell). is_some o) partials, λ w below. subst (λ (q : Cell). HasValueBefore p (task n) q) (sym (copy-is p c f.copies w partials)) (copies w.0 below)))) (All-nil (HasItsCopies p n)))))
      can.nameable

  abbrev statement : Statement (List ℕ)
  statement = record { line = line; act = Tasks t }

  -- with the phase open, however it came to be
  module _ (M : Lowering) (op : IsOpened p L M c con.by (contributed_to root u.place)) (bs : List Lowered) (tasks : M.tasks ≡ L.tasks ++ bs) (deliveries : M.deliveries ≡ L.deliveries) (prints : M.prints ≡ L.prints) (begins : Begins p (add_own S statement M))
      (good_before : Stand p (length L.tasks) bs → AreGood p (length L.tasks) bs) (none : NoneDelivers bs) (log : Stand p (length L.tasks) (bs ++ l ∷ []) → Logged p (length (add_own S statement M).tasks) M.phase) where
    row : task_row S M.cells line t ≡ l
    row = ap row_by op.handles
      where
        row_by : (List ℕ → Option Handle) → Lowered
        row_by h =
            record {
              codelet = t.codelet;
              args = t.args;
              accesses = each_of (λ o. access o.mode (cells_from (elim (h o.name) [ None ↦ 0 | Some i ↦ unwrap_or (i.first (parts_in S o.name)) 0 ]) (parts_in S o.name) o.place)) t.operands;
              line = line;
              priority = t.priority;
            }

    all-tasks : (add_own S statement M).tasks ≡ L.tasks ++ (bs ++ l ∷ [])
    all-tasks = (λ i. tasks i ++ row i ∷ []) ∙ append_assoc L.tasks bs (l ∷ [])

    stand : Stand p (length L.tasks) (bs ++ l ∷ [])
    stand = stands-more p L (add_own S statement M) (bs ++ l ∷ []) all-tasks begins

    stand_before : Stand p (length L.tasks) bs
    stand_before = (stand-append p (length L.tasks) bs (l ∷ []) stand).0

    count : length M.tasks ≡ length L.tasks + length bs
    count = ap length tasks ∙ length-append L.tasks bs

    partials : (cell_info p c).partials ≡ Some op.f.copies
    partials = begins.cells.kept c.0 op.f.copies (op.theirs.theirs c op.f op.is)

    none_all : (xs : List Lowered) → NoneDelivers xs → NoneDelivers (xs ++ l ∷ [])
    none_all [] h = (can.nameable, tt)
    none_all (x ∷ xs) h = (h.0, none_all xs h.1)

    good_all : AreGood p (length L.tasks) (bs ++ l ∷ [])
    good_all = good-append p (length L.tasks) bs (l ∷ []) (good_before stand_before)
        (subst (λ (n : ℕ). AreGood p n (l ∷ [])) count (good (length M.tasks) op.later op.given op.f partials op.copies_given, tt))

    pub fine_given : IsFine T p (add_own S statement M) (run_task t S) (out ++ [])
    fine_given = record {
      agrees = agrees_contributed has p L M S g t line s con c root own op shut begins;
      good = good-more p L (add_own S statement M) (bs ++ l ∷ []) all-tasks stand good_all fine.good;
      delivered = subst (λ (xs : List Printed). AreDelivered T p (add_own S statement M) xs) (sym (append-nil out))
          (delivered_beside T p L (add_own S statement M) out (bs ++ l ∷ []) (ap (λ (ds : List Delivery). ds ++ []) deliveries ∙ append-nil L.deliveries) prints all-tasks stand (none_all bs none) fine.delivered);
      logged = log stand;
    }

  -- ---- the phase goes on

  fine_longer : (f : OpenPhase) → L.phase c ≡ Some f → Begins p (add_own S statement (phase_turned L.cells [] c (Some (extended f line)) L)) → IsFine T p (add_own S statement (phase_turned L.cells [] c (Some (extended f line)) L)) (run_task t S) (out ++ [])
  fine_longer f is begins =
      let M = phase_turned L.cells [] c (Some (extended f line)) L in
      let op = goes_on p L S g u.name u.place c root own con.by reduction line f is in
      fine_given M op [] refl refl refl begins (λ stand. tt) tt (λ stand.
      log-extend p (length L.tasks) (length (add_own S statement M).tasks) L.phase c f line l is (one_more M) stand.0 plain (subst (λ (by : Reduction). IsGiving p L.phase c by l) (same_Some con.by f.by (sym reduction ∙ r.reduced u.place f own.placed is)) giving) fine.logged)
    where
      one_more : (M : Lowering) → length ((L.tasks ++ []) ++ task_row S L.cells line t ∷ []) ≡ length L.tasks + 1
      one_more M = length-append (L.tasks ++ []) (task_row S L.cells line t ∷ []) ∙ ap (λ (ts : List Lowered). length ts + 1) (append-nil L.tasks)

  -- ---- the phase begins

  abbrev valued_now : Bool
  valued_now = is_valued_child root u.place

  abbrev News : Lowering
  News = begun p.workers con.by valued_now line c L

  abbrev first : Cell
  first = first_partial L.cells c

  abbrev begin : List Lowered
  begin = begin_rows con.by first c valued_now p.workers line

  each-begin : (P : Lowered → Type 0) → ((w : ℕ) → w < p.workers → P (init_row con.by line (copy_at first w))) → P (init_row con.by line c) → AllByRecursion P begin
  each-begin P inits unit =
      each-append P (init_rows con.by first p.workers line) (cond valued_now [] (init_row con.by line c ∷ [])) (each-map P (λ w. init_row con.by line (copy_at first w)) (range_with_len 0 p.workers) (each-of_all (λ w. P (init_row con.by line (copy_at first w))) p.workers inits)) (by_valued valued_now)
    where
      by_valued : (v : Bool) → AllByRecursion P (cond v [] (init_row con.by line c ∷ []))
      by_valued true = tt
      by_valued false = (unit, tt)

  there : c.0 < length L.cells.rows
  there = cell-inside L.cells u.name root.dims root.parts r.first u.place g.laid r.taken own.placed

  fine_new : L.phase c ≡ None → Begins p (add_own S statement News) → IsFine T p (add_own S statement News) (run_task t S) (out ++ [])
  fine_new none begins =
      let M = News in
      let begun_ = begins-own p S statement M begins in
      let op = begins_now p L S g u.name u.place c root own con.by reduction line begun_ none in
      let partials = copied-first p.workers c L.cells there in
      let fresh : OpenPhase = record { by = con.by; copies = first; line = line } in
      fine_given M op begin refl refl refl begins
      (λ stand. good-all p (length L.tasks) begin (each-begin (IsGood p (length L.tasks))
      (λ w below. good_init p (length L.tasks) con.by line (copy_at first w) (omega (arith, op.theirs.copies.inside c first partials, below, begun_.cells.longer)))
      (good_init p (length L.tasks) con.by line c (omega (arith, there, b.cells.longer)))))
      (each-begin (λ x. kernel_of x.codelet ≡ Some Deliver → ⊥) (λ w below. none-init con.by line (copy_at first w)) (none-init con.by line c))
      (λ stand. log-begin p (length L.tasks) (length (add_own S statement M).tasks) L.phase c con.by first valued_now line l none stand one_more
      (record { partials = begun_.cells.kept c.0 first partials; plain = plain; copies = λ w d v below copy. one-owner p M.cells begun_.cells op.theirs.copies c first w d v partials below copy })
      (λ d f e. open-plain p L S b g d f e) giving fine.logged)
    where
      one_more : length ((L.tasks ++ begin) ++ task_row S (with_copies p.workers c L.cells) line t ∷ []) ≡ (length L.tasks + length begin) + 1
      one_more = length-append (L.tasks ++ begin) (task_row S (with_copies p.workers c L.cells) line t ∷ []) ∙ ap (λ k. k + 1) (length-append L.tasks begin)

  pub fine_contributed : Begins p (add_own S statement (opened p.workers con.by valued_now line c L)) → IsFine T p (add_own S statement (opened p.workers con.by valued_now line c L)) (run_task t S) (out ++ [])
  fine_contributed = by_opened p L S g u.name u.place c root own con.by reduction line (λ (M : Lowering). Begins p (add_own S statement M) → IsFine T p (add_own S statement M) (run_task t S) (out ++ [])) (λ f e begins. fine_longer f e begins) (λ e begins. fine_new e begins)
