-- The codelets of a lowered program are those of the set by which its job was read.
use Rattle.sj_lower.proofs.Words.{[], Act, active_cell, all_closed, ap, apply, begin_rows, begun, Bool, Cell, cell_of, Cells, cells_after, child, child_dims, closed, closed_by, Codelet, combine_of, combine_row, combine_rows, commutes_in, cond, contributes_in, contributes_of, contributions, copy_at, Deliver, deliver_row, each_of, extended, false, Fill, fill_row, filter, finished, first_partial, fits, fold, has_child_values, has_reduction, Init, init_of, init_row, init_rows, Invalidates, is_commute, is_known, is_lawful, is_redux, IsSoundTask, JobState, Kernel, kernel_of, Least, leaves_plan, length, Line, List, list_all, Load, load_row, load_rows, LoadFill, lower_from, lower_one, Lowered, Lowering, None, not, Nothing, nothing, opened, opened_for, OpenPhase, Operand, Option, Parts, parts_in, paste_row, pastes_of, phase_turned, places, plan_rows, Plans, Plus, prepared, Prints, range_with_len, Reduces, Reduction, reduction_of, refl, Register, Registers, root_of, RootState, rows_added, Some, start, Statement, sym, TaskLine, Tasks, true, Unregisters, Values, with_phase, ℕ, ◌&&◌, ◌||◌, ◌∙◌, ◌∷◌, ◌≡◌}
use Rattle.std.specs.Prelude.{All}
use Rattle.std.proofs.lemmas.{Bool.and_parts, Bool.false≢true, List.Elements.All-append, List.Elements.All-cons, List.Elements.All-from_recursion, List.Elements.All-nil}
use Rattle.sj_codelet.specs.declared.kernel.Kernel.TheVariants.{Paste}
use Rattle.sj_plan.proofs.Lists.{each-map, each-of}
use Rattle.sj_lower.proofs.{Able.AllCanBe, Able.CanBe, Closing.by_phase, Stating.by_cell, Stating.phase-other, Stating.phase-own}

-- the set has the task's codelet
abbrev pub IsKnown : (Kernel → Bool) → Lowered → Type 0
IsKnown has l = is_known has l.codelet ≡ true

-- it has those of the tasks so far, and the reductions of the open phases
pub record AreKnown (has : Kernel → Bool) (L : Lowering) : Type 0 where
  pub tasks : All (IsKnown has) L.tasks
  pub reductions : (c : Cell) (f : OpenPhase) → L.phase c ≡ Some f → has_reduction has f.by ≡ true

-- the runtime's own codelets
pub record HasOwn (has : Kernel → Bool) : Type 0 where
  pub load : has Load ≡ true
  pub load_fill : has LoadFill ≡ true
  pub paste : has Paste ≡ true
  pub deliver : has Deliver ≡ true

pub own-of : (has : Kernel → Bool) → (has Load && has LoadFill && has Paste && has Deliver) ≡ true → HasOwn has
own-of has h =
    let a = and_parts (has Load && has LoadFill && has Paste) (has Deliver) h in
    let b = and_parts (has Load && has LoadFill) (has Paste) a.0 in
    let c = and_parts (has Load) (has LoadFill) b.0 in
    record { load = c.0; load_fill = c.1; paste = b.1; deliver = a.1 }

-- ---- tasks of phases

known-init : (has : Kernel → Bool) (by : Reduction) (line : Line) (c : Cell) → has_reduction has by ≡ true → IsKnown has (init_row by line c)
known-init has Plus line c h = (and_parts (has (init_of Plus)) (has (combine_of Plus)) h).0
known-init has Least line c h = (and_parts (has (init_of Least)) (has (combine_of Least)) h).0

known-combine : (has : Kernel → Bool) (by : Reduction) (c : Cell) (line : Line) (q : Cell) → has_reduction has by ≡ true → IsKnown has (combine_row by c line q)
known-combine has Plus c line q h = (and_parts (has (init_of Plus)) (has (combine_of Plus)) h).1
known-combine has Least c line q h = (and_parts (has (init_of Least)) (has (combine_of Least)) h).1

all-rows : {X : Type 0} (has : Kernel → Bool) (row : X → Lowered) (xs : List X) → ((x : X) → IsKnown has (row x)) → All (IsKnown has) (each_of row xs)
all-rows has row xs h = All-from_recursion (IsKnown has) (each_of row xs) (each-map (IsKnown has) row xs (each-of (λ x. IsKnown has (row x)) h xs))

-- ---- closing

known_closed : (has : Kernel → Bool) (workers : ℕ) (L : Lowering) (c : Cell) → AreKnown has L → AreKnown has (closed workers L c)
known_closed has workers L c k = by_phase workers L c (AreKnown has) (λ e. k) (λ f e. record {
  tasks = All-append (IsKnown has) L.tasks (combine_rows f c workers) k.tasks (all-rows has (λ w. combine_row f.by c f.line (copy_at f.copies w)) (range_with_len 0 workers) (λ w. known-combine has f.by c f.line (copy_at f.copies w) (k.reductions c f e)));
  reductions = λ d g h. by_cell (λ d. with_phase c None L.phase d ≡ Some g → has_reduction has g.by ≡ true) c d (λ x. absurd (let no : None ≡ Some g = sym (phase-own c None L.phase) ∙ x in cc)) (λ other x. k.reductions _ g (sym (phase-other c None L.phase _ other) ∙ x)) h;
})

pub known_all_closed : (has : Kernel → Bool) (workers : ℕ) (cs : List Cell) (L : Lowering) → AreKnown has L → AreKnown has (all_closed workers cs L)
known_all_closed has workers [] L k = k
known_all_closed has workers (c ∷ cs) L k = known_all_closed has workers cs (closed workers L c) (known_closed has workers L c k)

-- ---- opening

by_some : (has : Kernel → Bool) (L : Lowering) (c : Cell) (f : OpenPhase) → has_reduction has f.by ≡ true → AreKnown has L → (d : Cell) (g : OpenPhase) → with_phase c (Some f) L.phase d ≡ Some g → has_reduction has g.by ≡ true
by_some has L c f own k d g h = by_cell (λ d. with_phase c (Some f) L.phase d ≡ Some g → has_reduction has g.by ≡ true) c d
    (λ x. let same : Some f ≡ Some g = sym (phase-own c (Some f) L.phase) ∙ x in let is : f ≡ g = cc in ap (λ (j : OpenPhase). has_reduction has j.by) (sym is) ∙ own)
    (λ other x. k.reductions _ g (sym (phase-other c (Some f) L.phase _ other) ∙ x)) h

known_opened : (has : Kernel → Bool) (workers : ℕ) (by : Reduction) (v : Bool) (line : Line) (c : Cell) (L : Lowering) → has_reduction has by ≡ true → AreKnown has L → AreKnown has (opened workers by v line c L)
known_opened has workers by v line c L own k = by_option (L.phase c) refl
  where
    by_option : (o : Option OpenPhase) → L.phase c ≡ o → AreKnown has (elim o as (λ _. Lowering) [ None ↦ begun workers by v line c L | Some f ↦ phase_turned L.cells [] c (Some (extended f line)) L ])
    by_option None e = record {
      tasks = All-append (IsKnown has) L.tasks (begin_rows by (first_partial L.cells c) c v workers line) k.tasks
          (All-append (IsKnown has) (init_rows by (first_partial L.cells c) workers line) (cond v [] (init_row by line c ∷ [])) (all-rows has (λ w. init_row by line (copy_at (first_partial L.cells c) w)) (range_with_len 0 workers) (λ w. known-init has by line (copy_at (first_partial L.cells c) w) own)) (by_valued v));
      reductions = by_some has L c (record { by = by; copies = first_partial L.cells c; line = line }) own k;
    }
      where
        by_valued : (x : Bool) → All (IsKnown has) (cond x [] (init_row by line c ∷ []))
        by_valued true = All-nil (IsKnown has)
        by_valued false = All-cons (IsKnown has) (init_row by line c) [] (known-init has by line c own) (All-nil (IsKnown has))
    by_option (Some f) e = record {
      tasks = All-append (IsKnown has) L.tasks [] k.tasks (All-nil (IsKnown has));
      reductions = by_some has L c (extended f line) (k.reductions c f e) k;
    }

-- a contribution's reduction is one of the set's
known-reduction : (has : Kernel → Bool) (S : JobState) (id : Codelet) (o : Operand (List ℕ)) (by : Reduction) → is_lawful has S id o ≡ true → is_redux o.mode ≡ true → reduction_of S o.name ≡ Some by → has_reduction has by ≡ true
known-reduction has S id o by law redux e = by_kernel (kernel_of id) contributes
  where
    contributes : contributes_in has id by ≡ true
    contributes =
        let both = and_parts (not (is_commute o.mode) || commutes_in has id) _ law in
        sym (ap (λ (x : Option Reduction). elim x as (λ _. Bool) [ None ↦ false | Some by ↦ contributes_in has id by ]) e)
        ∙ sym (ap (λ b. not b || (elim (reduction_of S o.name) as (λ _. Bool) [ None ↦ false | Some by ↦ contributes_in has id by ])) redux) ∙ both.1

    by_kernel : (x : Option Kernel) → (elim x as (λ _. Bool) [ None ↦ false | Some k ↦ has k && contributes_of k by && has_reduction has by ]) ≡ true → has_reduction has by ≡ true
    by_kernel None h = absurd (false≢true h)
    by_kernel (Some k) h = (and_parts (has k && contributes_of k by) (has_reduction has by) h).1

known_opened_for : (has : Kernel → Bool) (workers : ℕ) (S : JobState) (id : Codelet) (line : Line) (os : List (Operand (List ℕ))) (L : Lowering) → list_all (is_lawful has S id) os ≡ true → AreKnown has L → AreKnown has (fold (opened_for workers S line) L (filter (λ o. is_redux o.mode) os))
known_opened_for has workers S id line [] L law k = k
known_opened_for has workers S id line (o ∷ os) L law k =
    let a = and_parts (is_lawful has S id o) (list_all (is_lawful has S id) os) law in
    by_test (is_redux o.mode) refl a.0 (λ M m. known_opened_for has workers S id line os M a.1 m)
  where
    by_test : (b : Bool) → is_redux o.mode ≡ b → is_lawful has S id o ≡ true → ((M : Lowering) → AreKnown has M → AreKnown has (fold (opened_for workers S line) M (filter (λ o. is_redux o.mode) os)))
        → AreKnown has (fold (opened_for workers S line) L (cond b (o ∷ filter (λ o. is_redux o.mode) os) (filter (λ o. is_redux o.mode) os)))
    by_test false e law rest = rest L k
    by_test true e law rest = rest (opened_for workers S line L o) (by_option (reduction_of S o.name) refl)
      where
        by_option : (x : Option Reduction) → reduction_of S o.name ≡ x → AreKnown has (elim x as (λ _. Lowering) [ None ↦ L | Some by ↦ opened workers by (has_child_values S o) line (active_cell S L.cells o.name o.place) L ])
        by_option None r = k
        by_option (Some by) r = known_opened has workers by (has_child_values S o) line (active_cell S L.cells o.name o.place) L (known-reduction has S id o by law e r) k

-- ---- a statement's own tasks

known-loads : (has : Kernel → Bool) (r : Register (List ℕ)) (C : Cells) (line : Line) (i : Init) → HasOwn has → All (IsKnown has) (load_rows i r.dims r.parts (cell_of C r.name r.parts) line)
known-loads has r C line (Values xs) own = all-rows has (λ place. load_row xs r.dims (child r.dims r.parts place) (cell_of C r.name r.parts place) line) (places r.parts) (λ place. own.load)
known-loads has r C line (Fill a b) own = all-rows has (λ place. fill_row a b r.dims (child r.dims r.parts place) (cell_of C r.name r.parts place) line) (places r.parts) (λ place. own.load_fill)
known-loads has r C line Nothing own = All-nil (IsKnown has)

known-plan : (has : Kernel → Bool) (S : JobState) (C : Cells) (name : List ℕ) (s : Parts) (line : Line) → HasOwn has → All (IsKnown has) (plan_rows S C name s line)
known-plan has S C name s line own = by_root (root_of S name)
  where
    by_idle : (b : Bool) (r : RootState) → All (IsKnown has) (cond b [] (each_of (paste_row (cell_of C name r.parts) (cell_of C name s) line) (pastes_of r.dims r.parts s)))
    by_idle true r = All-nil (IsKnown has)
    by_idle false r = all-rows has (paste_row (cell_of C name r.parts) (cell_of C name s) line) (pastes_of r.dims r.parts s) (λ x. own.paste)

    by_root : (o : Option RootState) → All (IsKnown has) (elim o as (λ _. List Lowered) [
      | None ↦ []
      | Some r ↦ cond (leaves_plan s r) [] (each_of (paste_row (cell_of C name r.parts) (cell_of C name s) line) (pastes_of r.dims r.parts s))
    ])
    by_root None = All-nil (IsKnown has)
    by_root (Some r) = by_idle (leaves_plan s r) r

known-task : (has : Kernel → Bool) (S : JobState) (t : TaskLine (List ℕ)) → IsSoundTask has S t → is_known has t.codelet ≡ true
known-task has S t s = by_kernel (kernel_of t.codelet) s.fits
  where
    by_kernel : (x : Option Kernel) → (elim x as (λ _. Bool) [ None ↦ false | Some k ↦ has k && fits k t.args (each_of (child_dims S) t.operands) ]) ≡ true → (elim x as (λ _. Bool) [ None ↦ false | Some k ↦ has k ]) ≡ true
    by_kernel None h = absurd (false≢true h)
    by_kernel (Some k) h = (and_parts (has k) (fits k t.args (each_of (child_dims S) t.operands)) h).0

known-rows : (has : Kernel → Bool) (S : JobState) (C : Cells) (line : Line) (a : Act (List ℕ)) → HasOwn has → CanBe has S a → All (IsKnown has) (rows_added S C line a)
known-rows has S C line (Registers r) own can = known-loads has r C line r.init own
known-rows has S C line (Plans name s) own can = known-plan has S C name s line own
known-rows has S C line (Reduces name by) own can = All-nil (IsKnown has)
known-rows has S C line (Tasks t) own can = All-cons (IsKnown has) _ [] (known-task has S t can.sound) (All-nil (IsKnown has))
known-rows has S C line (Prints name) own can = all-rows has (λ place. deliver_row (active_cell S C name place) line) (places (parts_in S name)) (λ place. own.deliver)
known-rows has S C line (Invalidates name) own can = All-nil (IsKnown has)
known-rows has S C line (Unregisters name) own can = All-nil (IsKnown has)

-- ---- all statements

known_prepared : (has : Kernel → Bool) (workers : ℕ) (S : JobState) (line : Line) (a : Act (List ℕ)) (L : Lowering) → CanBe has S a → AreKnown has L → AreKnown has (fold (opened_for workers S line) L (contributions a))
known_prepared has workers S line (Registers r) L can k = k
known_prepared has workers S line (Plans name s) L can k = k
known_prepared has workers S line (Reduces name by) L can k = k
known_prepared has workers S line (Tasks t) L can k = known_opened_for has workers S t.codelet line t.operands L can.sound.lawful k
known_prepared has workers S line (Prints name) L can k = k
known_prepared has workers S line (Invalidates name) L can k = k
known_prepared has workers S line (Unregisters name) L can k = k

pub known_from : (has : Kernel → Bool) (workers : ℕ) (S : JobState) (L : Lowering) (ss : List (Statement (List ℕ))) → HasOwn has → AllCanBe has S ss → AreKnown has L → AreKnown has (lower_from workers S L ss)
known_from has workers S L [] own can k = k
known_from has workers S L (s ∷ ss) own can k =
    let M = prepared workers S s L in
    let m = known_prepared has workers S s.line s.act (all_closed workers (closed_by S L.cells s.act) L) can.0 (known_all_closed has workers (closed_by S L.cells s.act) L k) in
    known_from has workers (apply s.act S) (lower_one workers S s L) ss own can.1
    (record { tasks = All-append (IsKnown has) M.tasks (rows_added S (cells_after s.act M.cells) s.line s.act) m.tasks (known-rows has S (cells_after s.act M.cells) s.line s.act own can.0); reductions = m.reductions })

-- the set has the codelets of a job's program
pub known : (has : Kernel → Bool) (workers : ℕ) (ss : List (Statement (List ℕ))) → HasOwn has → AllCanBe has start ss → All (IsKnown has) (finished workers (lower_from workers start nothing ss)).tasks
known has workers ss own can =
    (known_all_closed has workers (each_of (λ n. let d : Cell = record { 0 = n } in d) (range_with_len 0 (length (lower_from workers start nothing ss).cells.rows))) (lower_from workers start nothing ss) (known_from has workers start nothing ss own can (record { tasks = All-nil (IsKnown has); reductions = λ c f e. absurd (cc) }))).tasks
