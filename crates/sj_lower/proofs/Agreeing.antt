-- Statement by statement, the cells of a program agree with the names of its job.
use Rattle.std.specs.FinMap as map
use Rattle.sj_lower.proofs.Words.{[], Act, active_cell, add_own, AllByRecursion, ap, apply, area, arith, Array, array, Bool, bytes_eq, Cell, cell_of, Cells, child, child_array, cond, Contents, copy_at, deliver_rows, Dims, each_of, false, Fill, fill_arguments, fill_row, first_elements, Fits, Handle, has_no_value, has_none, has_root, has_valued_root, HasValueBefore, held_in, Init, InitFits, integers_of, invalidate, Invalidates, is_none, is_valued, is_valued_child, IsPlace, IsSoundAct, IsSoundPlan, IsSoundRegistration, IsSoundTask, JobState, Kernel, leaves_plan, length, length-append, Line, List, list_all, Load, load_row, load_rows, LoadFill, loadfill, Lowered, Lowering, next_handle, no_values, None, not, Nothing, nothing, OpenPhase, Operand, operand_array, Option, out, Parts, parts_in, paste_row, pastes_of, places, plan, plan_rows, Plans, pos, Prints, Program, put, put_all, reduce, Reduces, Reduction, reduction_of, refl, Register, register, registered_root, Registers, root_array, root_of, RootState, run_task, same_cell, same_parts, Some, start, subst, sym, take, task, task_row, TaskLine, Tasks, true, unregister, Unregisters, Values, window, with_child, with_elements, with_new_root, with_parts, with_reduction, written_of, zeros, ℕ, ℤ, ◌++◌, ◌+◌, ◌||◌, ◌∙◌, ◌∷◌, ◌≡◌, ◌≤◌}
use Rattle.std.proofs.lemmas.{Bool.false≢true, List.append-nil, List.length-replicate, Option.same_Some}
use Rattle.sj_base.proofs.{SameIds.cell_of_number, Texts.other_text, Texts.same_text}
use Rattle.sj_plan.proofs.Repartitioning.{child-within}
use Rattle.sj_lower.proofs.{Combined.denoted-closed, Combined.IsTrusted, Combined.Phases, Contents.contents-next, Contents.contents_before, Copies.copies-none, Copies.copies-root, Copies.copies-take, Copies.take-more, Elements.blank-child, Elements.child-window, Elements.filled-window, Elements.no_values-blank, Elements.unwrapped, Elements.valued-child, Filling.after_delivers, Filling.after_fill, Filling.after_load, Filling.AreFilled, Filling.blocks-give, Filling.gives_own, Filling.HaveOwn, Filling.rows-filled, Filling.rows-give, Folding.after_rows, Folding.contents-rows, Folding.given-rows, Folding.one_gives, Folding.Stand, Holding.cell-dims, Holding.differs, Holding.HasCells, Holding.HasRoot, Holding.HaveRoots, Holding.HaveTheirs, Holding.held-kept, Holding.IsHeld, Holding.not_copy, Holding.root-kept, Laid.AreLaid, Laid.cell-is, Laid.cells-apart, Laid.IsTaken, Laid.laid-none, Laid.laid-root, Laid.laid-take, Laid.none_isn't, Laid.root-keeps, Laid.root-there, Laid.take-keeps, Laid.take-takes, Pasting.pastes-filled, Pasting.pastes-give, Pasting.rows-by_child, Pasting.rows_to, Places.parts-are, Places.parts-itself, Running.holds-task, Running.is_direct, Running.IsClosed, Running.root_there, Stating.Agrees, Stating.Begins, Stating.IsActiveChild, Stating.stands-own}
use Rattle.sj_meaning.proofs.Finding.{get-put, get-gone, root-change}
use Rattle.sj_job.proofs.Children.{first_length}

pub none_of : {X : Type 0} (o : Option X) → ((x : X) → o ≡ Some x → ⊥) → o ≡ None
none_of None h = refl
none_of (Some x) h = absurd (h x refl)

-- the partial copies of open phases after a name took a plan
theirs_taken : (workers : ℕ) (C : Cells) (phases : Phases) (name : List ℕ) (s : Parts) → AreLaid C → HaveTheirs workers C phases → HaveTheirs workers (take name s C) phases
theirs_taken workers C phases name s laid h = record {
  copies = copies-take workers C name s laid h.copies;
  theirs = λ c f e. (take-more C name s).kept c.0 f.copies (h.theirs c f e);
}

theirs_rooted : (workers : ℕ) (C : Cells) (phases : Phases) (name : List ℕ) (d : Dims) → HaveTheirs workers C phases → HaveTheirs workers (with_new_root name d C) phases
theirs_rooted workers C phases name d h = record { copies = copies-root workers C name d h.copies; theirs = h.theirs }

pub same_child_cell : (C D : Cells) (q : List ℕ) (d e : Dims) (s : Parts) (f : ℕ) (place : ℕ × ℕ) → IsTaken C q d s f → IsTaken D q e s f → cell_of C q s place ≡ cell_of D q s place
same_child_cell C D q d e s f place t u = cell_of_number (cell_of C q s place) (cell_of D q s place) (cell-is C q d s f place t ∙ sym (cell-is D q e s f place u))

pub reduction-is : (S : JobState) (q : List ℕ) (r : RootState) → root_of S q ≡ Some r → reduction_of S q ≡ r.reduction
reduction-is S q r e = ap (λ (o : Option RootState). elim o as (λ _. Option Reduction) [ None ↦ None | Some r ↦ r.reduction ]) e

-- a task leaves the plans of roots
put-parts : (o : Operand (List ℕ)) (a : Array) (S : JobState) (q : List ℕ) (r : RootState) → root_of S q ≡ Some r → (t : RootState) × (root_of (put o a S) q ≡ Some t) × (t.parts ≡ r.parts)
put-parts o a S q r e = by_root (root_of S o.name) refl
  where
    by_root : (x : Option RootState) → root_of S o.name ≡ x → (t : RootState) × (root_of (put o a S) q ≡ Some t) × (t.parts ≡ r.parts)
    by_root None is = (r, ap (λ (T : JobState). root_of T q) (ap (λ (x : Option RootState). elim x as (λ _. JobState) [ None ↦ S | Some r ↦ record S { roots = map.insert S.roots o.name (with_child o.place a r) } ]) is) ∙ e, refl)
    by_root (Some u) is = by_test (bytes_eq o.name q) refl
      where
        by_test : (b : Bool) → bytes_eq o.name q ≡ b → (t : RootState) × (root_of (put o a S) q ≡ Some t) × (t.parts ≡ r.parts)
        by_test true eb =
            let one : u ≡ r = same_Some u r (sym is ∙ ap (root_of S) (same_text o.name q eb) ∙ e) in
            (with_child o.place a u, root-change (with_child o.place a) o.name S u q is ∙ ap (λ z. cond z (Some (with_child o.place a u)) (root_of S q)) eb, ap (λ (x : RootState). x.parts) one)
        by_test false eb = (r, root-change (with_child o.place a) o.name S u q is ∙ ap (λ z. cond z (Some (with_child o.place a u)) (root_of S q)) eb ∙ e, refl)

pub puts-parts : (os : List (Operand (List ℕ))) (xs : List Array) (S : JobState) (q : List ℕ) (r : RootState) → root_of S q ≡ Some r → (t : RootState) × (root_of (put_all os xs S) q ≡ Some t) × (t.parts ≡ r.parts)
puts-parts [] xs S q r e = (r, e, refl)
puts-parts (o ∷ os) [] S q r e = (r, e, refl)
puts-parts (o ∷ os) (a ∷ xs) S q r e =
    let h = put-parts o a S q r e in
    let i = puts-parts os xs (put o a S) q h.0 h.1 in
    (i.0, i.1, i.2 ∙ h.2)

run-parts : (t : TaskLine (List ℕ)) (S : JobState) (q : List ℕ) (r : RootState) → root_of S q ≡ Some r → (u : RootState) × (root_of (run_task t S) q ≡ Some u) × (u.parts ≡ r.parts)
run-parts t S q r e = puts-parts (written_of t.operands) (out t.codelet t.args (each_of (operand_array S) t.operands)) S q r e

-- two children of a plan have two cells
own_cells : (C : Cells) (q : List ℕ) (d : Dims) (s : Parts) (f : ℕ) → AreLaid C → IsTaken C q d s f → HaveOwn s (cell_of C q s)
own_cells C q d s f laid t place other hp ho same = (cells-apart C q q d d s s f f place other laid t t hp ho same).2

-- what fills the cells of a name leaves those of another
beside : (p : Program) (C : Cells) (k new : Contents) (name q : List ℕ) (d e : Dims) (s t : Parts) (f g : ℕ) (x : ℕ × ℕ → Array) → AreLaid C → IsTaken C name d s f → IsTaken C q e t g → bytes_eq name q ≡ false → AreFilled p k new s (cell_of C name s) x
    → (place : ℕ × ℕ) → IsPlace t place → held_in p new (cell_of C q t place) ≡ held_in p k (cell_of C q t place)
beside p C k new name q d e s t f g x laid u v other filled place inside =
    filled.others (cell_of C q t place) (λ from at. differs (cell_of C name s from) (cell_of C q t place) (λ same. other_text name q other (cells-apart C name q d e s t f g from place laid u v at inside same).0))

-- ---- registrations

-- what the tasks of a registration leave
record Starts (p : Program) (C : Cells) (r : Register (List ℕ)) (line : Line) (k : Contents) : Type 0 where
  value : (place : ℕ × ℕ) → IsPlace r.parts place → is_valued_child (registered_root r) place ≡ true → held_in p (after_rows p k (load_rows r.init r.dims r.parts (cell_of C r.name r.parts) line)) (cell_of C r.name r.parts place) ≡ child_array (registered_root r) place
  gives : (place : ℕ × ℕ) → IsPlace r.parts place → is_valued_child (registered_root r) place ≡ true → one_gives (load_rows r.init r.dims r.parts (cell_of C r.name r.parts) line) (cell_of C r.name r.parts place) ≡ true
  others : (c : Cell) → ((place : ℕ × ℕ) → IsPlace r.parts place → same_cell (cell_of C r.name r.parts place) c ≡ false) → held_in p (after_rows p k (load_rows r.init r.dims r.parts (cell_of C r.name r.parts) line)) c ≡ held_in p k c

starts : (p : Program) (C : Cells) (r : Register (List ℕ)) (line : Line) (k : Contents) (i : Init) (f : ℕ) → r.init ≡ i → Fits r.parts r.dims → InitFits r.init r.dims → HasCells p C → AreLaid C → IsTaken C r.name r.dims r.parts f → Starts p C r line k
starts p C r line k (Values xs) f e fits init cells laid t =
    let s = r.parts in
    let cell = cell_of C r.name s in
    let row = λ (place : ℕ × ℕ). load_row xs r.dims (child r.dims s place) (cell place) line in
    let rows : load_rows r.init r.dims s cell line ≡ each_of row (places s) = ap (λ i. load_rows i r.dims s cell line) e in
    let x = λ (place : ℕ × ℕ). window (array r.dims xs) (child r.dims s place) in
    let filled = subst (λ (ls : List Lowered). AreFilled p k (after_rows p k ls) s cell x) (sym rows) (rows-filled p row cell x s k (λ place inside k.
    after_load p k xs r.dims (child r.dims s place) (cell place) line
    ∙ ap (λ (d : Dims). (cell place, array d (x place).elements) ∷ k) (cell-dims p C r.name r.dims s f place cells laid t inside)) (own_cells C r.name r.dims s f laid t)) in
    record {
      value = λ place inside v. filled.value place inside
          ∙ sym (child-window (registered_root r) place ∙ ap (λ i. window (array r.dims (integers_of (first_elements i r.dims))) (child r.dims s place)) e ∙ ap (λ zs. window (array r.dims zs) (child r.dims s place)) (unwrapped xs));
      gives = λ place inside v. ap (λ ls. one_gives ls (cell place)) rows ∙ rows-give row s place (cell place) inside (gives_own Load (x place).elements (cell place) line);
      others = filled.others;
    }
starts p C r line k (Fill a b) f e fits init cells laid t =
    let s = r.parts in
    let cell = cell_of C r.name s in
    let row = λ (place : ℕ × ℕ). fill_row a b r.dims (child r.dims s place) (cell place) line in
    let rows : load_rows r.init r.dims s cell line ≡ each_of row (places s) = ap (λ i. load_rows i r.dims s cell line) e in
    let x = λ (place : ℕ × ℕ). window (array r.dims (integers_of (first_elements (Fill a b) r.dims))) (child r.dims s place) in
    let filled = subst (λ (ls : List Lowered). AreFilled p k (after_rows p k ls) s cell x) (sym rows) (rows-filled p row cell x s k (λ place inside k.
    after_fill p k a b r.dims (child r.dims s place) (cell place) line
    ∙ ap (λ (y : Array). (cell place, y) ∷ k) (ap (λ (d : Dims). loadfill a b (pos (child r.dims s place).row) (pos (child r.dims s place).col) (pos r.dims.cols) (zeros d)) (cell-dims p C r.name r.dims s f place cells laid t inside)
    ∙ filled-window a b r.dims (child r.dims s place) (child-within r.dims s place inside))) (own_cells C r.name r.dims s f laid t)) in
    record {
      value = λ place inside v. filled.value place inside
          ∙ sym (child-window (registered_root r) place ∙ ap (λ i. window (array r.dims (integers_of (first_elements i r.dims))) (child r.dims s place)) e);
      gives = λ place inside v. ap (λ ls. one_gives ls (cell place)) rows ∙ rows-give row s place (cell place) inside (gives_own LoadFill (fill_arguments a b r.dims.cols (child r.dims s place)) (cell place) line);
      others = filled.others;
    }
starts p C r line k Nothing f e fits init cells laid t =
    let none : load_rows r.init r.dims r.parts (cell_of C r.name r.parts) line ≡ [] = ap (λ i. load_rows i r.dims r.parts (cell_of C r.name r.parts) line) e in
    let blank : has_no_value (registered_root r) ≡ true = ap (λ i. list_all (λ (e : Option ℤ). is_none e) (first_elements i r.dims)) e ∙ no_values-blank (area r.dims) in
    let unvalued = λ (place : ℕ × ℕ) (inside : IsPlace r.parts place) (v : is_valued_child (registered_root r) place ≡ true). blank-child (registered_root r) place (first_length r.init r.dims init) blank fits inside v in
    record {
      value = λ place inside v. absurd (unvalued place inside v);
      gives = λ place inside v. absurd (unvalued place inside v);
      others = λ c away. ap (λ ls. held_in p (after_rows p k ls) c) none;
    }

agrees_registered : (p : Program) (L : Lowering) (S : JobState) (line : Line) (r : Register (List ℕ)) → Begins p (add_own S (record { line = line; act = Registers r }) L) → IsSoundRegistration S r → Agrees p L S → Agrees p (add_own S (record { line = line; act = Registers r }) L) (register r S)
agrees_registered p L S line r b s g = record { laid = laid; theirs = theirs; opened = opened; roots = λ q t e. by_name q t (bytes_eq r.name q) refl (sym (get-put S.roots r.name (registered_root r) q) ∙ e) }
  where
    C : Cells
    C = with_new_root r.name r.dims L.cells

    D : Cells
    D = take r.name r.parts C

    there : C.handles r.name ≡ Some (next_handle r.dims L.cells)
    there = root-there L.cells r.name r.dims

    laid : AreLaid D
    laid = laid-take C r.name r.parts (next_handle r.dims L.cells) there s.parts (laid-root L.cells r.name r.dims g.laid s.elements)

    taken : (f : ℕ) × IsTaken D r.name r.dims r.parts f
    taken = take-takes C r.name r.parts (next_handle r.dims L.cells) there

    n : ℕ
    n = length L.tasks

    ls : List Lowered
    ls = load_rows r.init r.dims r.parts (cell_of D r.name r.parts) line

    now : ℕ
    now = length (L.tasks ++ ls)

    longer : now ≡ n + length ls
    longer = length-append L.tasks ls

    stand : Stand p n ls
    stand = stands-own p S (record { line = line; act = Registers r }) L b

    left : contents_before p now ≡ after_rows p (contents_before p n) ls
    left = ap (contents_before p) longer ∙ contents-rows p n ls stand

    st : Starts p D r line (contents_before p n)
    st = starts p D r line (contents_before p n) r.init taken.0 refl s.parts s.values b.cells laid taken.1

    theirs : HaveTheirs p.workers D L.phase
    theirs = theirs_taken p.workers C L.phase r.name r.parts (laid-root L.cells r.name r.dims g.laid s.elements) (theirs_rooted p.workers L.cells L.phase r.name r.dims g.theirs)

    -- another name's root is there
    other : (q : List ℕ) (t : RootState) → root_of S q ≡ Some t → bytes_eq r.name q ≡ false
    other q t e = by_test (bytes_eq r.name q) refl
      where
        by_test : (x : Bool) → bytes_eq r.name q ≡ x → x ≡ false
        by_test false h = refl
        by_test true h = absurd (none_isn't t (sym s.fresh ∙ ap (root_of S) (same_text r.name q h) ∙ e))

    kept : (q : List ℕ) (t : RootState) (e : root_of S q ≡ Some t) → IsTaken D q t.dims t.parts (g.roots q t e).first
    kept q t e = let o = g.roots q t e in take-keeps C r.name r.parts (next_handle r.dims L.cells) there q t.dims t.parts o.first (root-keeps L.cells r.name r.dims q t.dims t.parts o.first (other q t e) o.taken)

    opened : (c : Cell) (f : OpenPhase) → L.phase c ≡ Some f → IsActiveChild D (register r S) c
    opened c f e =
        let o = g.opened c f e in
        let h = g.roots o.name o.root o.is_root in
        record {
          name = o.name;
          root = o.root;
          is_root = get-put S.roots r.name (registered_root r) o.name ∙ ap (λ x. cond x (Some (registered_root r)) (root_of S o.name)) (other o.name o.root o.is_root) ∙ o.is_root;
          place = o.place;
          placed = o.placed;
          cell = o.cell ∙ same_child_cell L.cells D o.name o.root.dims o.root.dims o.root.parts h.first o.place h.taken (kept o.name o.root o.is_root);
        }

    -- no phase is open on a child of the new root
    fresh : (place : ℕ × ℕ) → IsPlace r.parts place → L.phase (cell_of D r.name r.parts place) ≡ None
    fresh place inside = none_of (L.phase (cell_of D r.name r.parts place)) (λ f e.
        let o = g.opened (cell_of D r.name r.parts place) f e in
        let h = g.roots o.name o.root o.is_root in
        let same = cells-apart D r.name o.name r.dims o.root.dims r.parts o.root.parts taken.0 h.first place o.place laid taken.1 (kept o.name o.root o.is_root) inside o.placed
        (o.cell ∙ same_child_cell L.cells D o.name o.root.dims o.root.dims o.root.parts h.first o.place h.taken (kept o.name o.root o.is_root)) in
        other_text r.name o.name (other o.name o.root o.is_root) same.0)

    by_name : (q : List ℕ) (t : RootState) (c : Bool) → bytes_eq r.name q ≡ c → cond c (Some (registered_root r)) (root_of S q) ≡ Some t → HasRoot p D L.phase now (contents_before p now) q t
    by_name q t true eb e =
        subst (λ (x : RootState). HasRoot p D L.phase now (contents_before p now) q x) (same_Some (registered_root r) t e)
        (subst (λ (u : List ℕ). HasRoot p D L.phase now (contents_before p now) u (registered_root r)) (same_text r.name q eb)
        (record {
          fits = s.parts;
          whole = first_length r.init r.dims s.values;
          first = taken.0;
          taken = taken.1;
          held = λ place inside v. record {
            value = λ trust. denoted-closed p L.phase (contents_before p now) (cell_of D r.name r.parts place) (fresh place inside) ∙ ap (λ (k : Contents). held_in p k (cell_of D r.name r.parts place)) left ∙ st.value place inside v;
            given = subst (λ (m : ℕ). HasValueBefore p (task m) (cell_of D r.name r.parts place)) (sym longer) (given-rows p n ls (cell_of D r.name r.parts place) stand (st.gives place inside v));
            copies = λ f e. absurd (none_isn't f (sym (fresh place inside) ∙ e));
          };
          blank = λ place inside v. fresh place inside;
          reduced = λ place f inside e. absurd (none_isn't f (sym (fresh place inside) ∙ e));
        }))
    by_name q t false eb e =
        let o = g.roots q t e in
        let u = kept q t e in
        root-kept p L.cells D L.phase L.phase n now (contents_before p n) (contents_before p now) q t o u (omega (arith, longer))
        (λ trust place inside.
        ap (λ (k : Contents). held_in p k (cell_of D q t.parts place)) left
        ∙ st.others (cell_of D q t.parts place) (λ from at. differs (cell_of D r.name r.parts from) (cell_of D q t.parts place) (λ same. other_text r.name q eb (cells-apart D r.name q r.dims t.dims r.parts t.parts taken.0 o.first from place laid taken.1 u at inside same).0)))
        (λ place inside. refl)
        (λ trust place f inside is w below. ap (λ (k : Contents). held_in p k (copy_at f.copies w)) left
        ∙ st.others (copy_at f.copies w) (λ from at. not_copy p.workers D L.phase r.name r.dims r.parts taken.0 from (cell_of D q t.parts place) f w theirs taken.1 at is below))

-- ---- plans

-- what the tasks of a plan line leave
record Turns (p : Program) (C : Cells) (phases : Phases) (S : JobState) (name : List ℕ) (r : RootState) (s : Parts) (line : Line) (k : Contents) (n : ℕ) : Type 0 where
  held : (place : ℕ × ℕ) → IsPlace s place → is_valued_child (with_parts s r) place ≡ true → IsHeld p phases (n + length (plan_rows S C name s line)) (after_rows p k (plan_rows S C name s line)) (cell_of C name s place) (child_array (with_parts s r) place)
  others : IsTrusted p → (c : Cell) → ((place : ℕ × ℕ) → IsPlace s place → same_cell (cell_of C name s place) c ≡ false) → held_in p (after_rows p k (plan_rows S C name s line)) c ≡ held_in p k c

pub plan_rows-are : (S : JobState) (C : Cells) (name : List ℕ) (s : Parts) (line : Line) (r : RootState) → root_of S name ≡ Some r
    → plan_rows S C name s line ≡ cond (same_parts r.parts s || not (is_valued r)) [] (each_of (paste_row (cell_of C name r.parts) (cell_of C name s) line) (pastes_of r.dims r.parts s))
plan_rows-are S C name s line r e = ap (λ (o : Option RootState). elim o as (λ _. List Lowered) [
  | None ↦ []
  | Some r ↦ cond (leaves_plan s r) [] (each_of (paste_row (cell_of C name r.parts) (cell_of C name s) line) (pastes_of r.dims r.parts s))
]) e

no_tasks : (n : ℕ) → n ≤ n + 0
no_tasks n = omega arith

-- a plan line that gives no task
turns_idle : (p : Program) (C : Cells) (phases : Phases) (S : JobState) (name : List ℕ) (r : RootState) (s : Parts) (line : Line) (k : Contents) (n : ℕ) → plan_rows S C name s line ≡ []
    → ((place : ℕ × ℕ) → IsPlace s place → is_valued_child (with_parts s r) place ≡ true → IsHeld p phases n k (cell_of C name s place) (child_array (with_parts s r) place)) → Turns p C phases S name r s line k n
turns_idle p C phases S name r s line k n none holds = record {
  held = λ place inside v. held-kept p phases phases n (n + length (plan_rows S C name s line)) k (after_rows p k (plan_rows S C name s line)) (cell_of C name s place) (child_array (with_parts s r) place) (omega arith) refl
      (λ trust. ap (λ ls. held_in p (after_rows p k ls) (cell_of C name s place)) none) (λ trust f e w below. ap (λ ls. held_in p (after_rows p k ls) (copy_at f.copies w)) none) (holds place inside v);
  others = λ trust c away. ap (λ ls. held_in p (after_rows p k ls) c) none;
}

-- one that pastes
turns_pasted : (p : Program) (C : Cells) (phases : Phases) (S : JobState) (name : List ℕ) (r : RootState) (s : Parts) (line : Line) (n f : ℕ) → let k = contents_before p n in plan_rows S C name s line ≡ each_of (paste_row (cell_of C name r.parts) (cell_of C name s) line) (pastes_of r.dims r.parts s)
    → Stand p n (plan_rows S C name s line) → HasCells p C → AreLaid C → (b : HasRoot p C phases n k name r) → ((place : ℕ × ℕ) → IsPlace r.parts place → phases (cell_of C name r.parts place) ≡ None) → ((place : ℕ × ℕ) → IsPlace s place → phases (cell_of C name s place) ≡ None)
    → IsTaken C name r.dims s f → same_parts r.parts s ≡ false → is_valued r ≡ true → Turns p C phases S name r s line k n
turns_pasted p C phases S name r s line n f rows stand cells laid b shut fresh t changed valued =
    let k = contents_before p n in
    let d = r.dims in
    let old = cell_of C name r.parts in
    let new = cell_of C name s in
    let fit = laid.fits name d s f t in
    let other : r.parts ≡ s → ⊥ = λ e. false≢true (sym changed ∙ ap (same_parts r.parts) (sym e) ∙ parts-itself r.parts) in
    let filled : IsTrusted p → AreFilled p k (after_rows p k (plan_rows S C name s line)) s new (λ to. window (root_array r) (child d s to)) = λ trust. subst (λ (ls : List Lowered). AreFilled p k (after_rows p k ls) s new (λ to. window (root_array r) (child d s to))) (sym rows)
    (pastes-filled p d r.parts s old new (root_array r) line k b.fits fit
    (λ from at. sym (denoted-closed p phases k (old from) (shut from at)) ∙ (b.held from at (valued-child r from b.whole valued at)).value trust ∙ child-window r from)
    (λ to at. cell-dims p C name d s f to cells laid t at)
    (λ to at from there. differs (new to) (old from) (λ e. other (sym (cells-apart C name name d d s r.parts f b.first to from laid t b.taken at there e).1)))
    (own_cells C name d s f laid t)) in
    record {
      held = λ place inside v. record {
        value = λ trust. denoted-closed p phases (after_rows p k (plan_rows S C name s line)) (new place) (fresh place inside) ∙ (filled trust).value place inside ∙ sym (child-window (with_parts s r) place);
        copies = λ f e. absurd (none_isn't f (sym (fresh place inside) ∙ e));
        given = given-rows p n (plan_rows S C name s line) (new place) stand
            (ap (λ ls. one_gives ls (new place)) (rows ∙ rows-by_child d r.parts s old new line) ∙ blocks-give (rows_to d r.parts s old new line) s place (new place) inside (pastes-give d r.parts s old new line place b.fits fit inside));
      };
      others = λ trust. (filled trust).others;
    }

turns_by : (p : Program) (C : Cells) (phases : Phases) (S : JobState) (name : List ℕ) (r : RootState) (s : Parts) (line : Line) (n f : ℕ) → let k = contents_before p n in root_of S name ≡ Some r → Stand p n (plan_rows S C name s line) → HasCells p C → AreLaid C → HasRoot p C phases n k name r
    → (same_parts r.parts s ≡ false → (place : ℕ × ℕ) → IsPlace r.parts place → phases (cell_of C name r.parts place) ≡ None) → (same_parts r.parts s ≡ false → (place : ℕ × ℕ) → IsPlace s place → phases (cell_of C name s place) ≡ None) → IsTaken C name r.dims s f
    → (is_valued r || has_no_value r) ≡ true → (a c : Bool) → same_parts r.parts s ≡ a → is_valued r ≡ c → Turns p C phases S name r s line k n
turns_by p C phases S name r s line n f e stand cells laid b shut fresh t even true c same v =
    let here : r.parts ≡ s = parts-are r.parts s same in
    turns_idle p C phases S name r s line (contents_before p n) n (plan_rows-are S C name s line r e ∙ ap (λ x. cond (x || not (is_valued r)) [] (each_of (paste_row (cell_of C name r.parts) (cell_of C name s) line) (pastes_of r.dims r.parts s))) same)
    (subst (λ (x : Parts). (place : ℕ × ℕ) → IsPlace x place → is_valued_child (with_parts x r) place ≡ true → IsHeld p phases n (contents_before p n) (cell_of C name x place) (child_array (with_parts x r) place)) here b.held)
turns_by p C phases S name r s line n f e stand cells laid b shut fresh t even false true same v =
    turns_pasted p C phases S name r s line n f (plan_rows-are S C name s line r e ∙ (λ i. cond (same i || not (v i)) [] (each_of (paste_row (cell_of C name r.parts) (cell_of C name s) line) (pastes_of r.dims r.parts s)))) stand cells laid b (shut same) (fresh same) t same v
turns_by p C phases S name r s line n f e stand cells laid b shut fresh t even false false same v =
    let blank : has_no_value r ≡ true = sym (ap (λ x. x || has_no_value r) v) ∙ even in
    turns_idle p C phases S name r s line (contents_before p n) n (plan_rows-are S C name s line r e ∙ (λ i. cond (same i || not (v i)) [] (each_of (paste_row (cell_of C name r.parts) (cell_of C name s) line) (pastes_of r.dims r.parts s))))
    (λ place inside h. absurd (blank-child (with_parts s r) place b.whole blank (laid.fits name r.dims s f t) inside h))

-- a root is as it was after its name took another plan
pub has-taken : (p : Program) (L : Lowering) (S : JobState) (name : List ℕ) (s : Parts) (r : RootState) → Agrees p L S → root_of S name ≡ Some r → HasRoot p (take name s L.cells) L.phase (length L.tasks) (contents_before p (length L.tasks)) name r
has-taken p L S name s r g e =
    let n = length L.tasks in
    let k = contents_before p n in
    let had = g.roots name r e in
    root-kept p L.cells (take name s L.cells) L.phase L.phase n n k k name r had (take-keeps L.cells name s had.taken.handle had.taken.is name r.dims r.parts had.first had.taken) (omega arith)
    (λ trust place inside. refl) (λ place inside. refl) (λ trust place f inside is w below. refl)

pub values_are : (S : JobState) (name : List ℕ) (r : RootState) → root_of S name ≡ Some r → (has_valued_root S name || has_none S name) ≡ (is_valued r || has_no_value r)
values_are S name r e = ap (λ (o : Option RootState). (elim o as (λ _. Bool) [ None ↦ false | Some r ↦ is_valued r ]) || (elim o as (λ _. Bool) [ None ↦ false | Some r ↦ has_no_value r ])) e

-- no phase is open on a child of the active plan
abbrev pub IsShut : Lowering → JobState → List ℕ → Type 0
IsShut L S name = (r : RootState) (place : ℕ × ℕ) → root_of S name ≡ Some r → IsPlace r.parts place → L.phase (cell_of L.cells name r.parts place) ≡ None

-- no phase is open on a child of a plan that isn't active
pub plan-fresh : (p : Program) (L : Lowering) (S : JobState) (name : List ℕ) (s : Parts) (r : RootState) (f : ℕ) → Agrees p L S → root_of S name ≡ Some r → AreLaid (take name s L.cells) → IsTaken (take name s L.cells) name r.dims s f → same_parts r.parts s ≡ false → (place : ℕ × ℕ) → IsPlace s place → L.phase (cell_of (take name s L.cells) name s place) ≡ None
plan-fresh p L S name s r f g is laid taken changed place inside = none_of (L.phase (cell_of D name s place)) (λ j e.
    let o = g.opened (cell_of D name s place) j e in
    let i = g.roots o.name o.root o.is_root in
    let kept = take-keeps L.cells name s had.taken.handle had.taken.is o.name o.root.dims o.root.parts i.first i.taken in
    let same = cells-apart D name o.name r.dims o.root.dims s o.root.parts f i.first place o.place laid taken kept inside o.placed (o.cell ∙ same_child_cell L.cells D o.name o.root.dims o.root.dims o.root.parts i.first o.place i.taken kept) in
    let one : r ≡ o.root = same_Some r o.root (sym is ∙ ap (root_of S) same.0 ∙ o.is_root) in
    false≢true (sym changed ∙ ap (same_parts r.parts) (same.1 ∙ ap (λ (x : RootState). x.parts) (sym one)) ∙ parts-itself r.parts))
  where
    D : Cells
    D = take name s L.cells

    had : HasRoot p L.cells L.phase (length L.tasks) (contents_before p (length L.tasks)) name r
    had = g.roots name r is

-- or the plan is active already
abbrev pub IsShutBy : Lowering → JobState → List ℕ → Parts → Type 0
IsShutBy L S name s = (r : RootState) (place : ℕ × ℕ) → root_of S name ≡ Some r → IsPlace r.parts place → same_parts r.parts s ≡ false → L.phase (cell_of L.cells name r.parts place) ≡ None

agrees_planned : (p : Program) (L : Lowering) (S : JobState) (line : Line) (name : List ℕ) (s : Parts) → Begins p (add_own S (record { line = line; act = Plans name s }) L) → IsSoundPlan S name s → IsShutBy L S name s → Agrees p L S → Agrees p (add_own S (record { line = line; act = Plans name s }) L) (plan name s S)
agrees_planned p L S line name s b sound shut g = record { laid = laid; theirs = theirs; opened = λ c f e. by_same_opened c f e (same_parts r.parts s) refl; roots = λ q t e. by_name q t (bytes_eq name q) refl (sym (root-change (with_parts s) name S root.0 q root.1) ∙ e) }
  where
    root : (r : RootState) × (root_of S name ≡ Some r)
    root = root_there (root_of S name) sound.rooted

    r : RootState
    r = root.0

    had : HasRoot p L.cells L.phase (length L.tasks) (contents_before p (length L.tasks)) name r
    had = g.roots name r root.1

    D : Cells
    D = take name s L.cells

    h : Handle
    h = had.taken.handle

    fit : Fits s h.dims
    fit = subst (λ (d : Dims). Fits s d) (ap (λ (o : Option RootState). elim o as (λ _. Dims) [ None ↦ record { rows = 0; cols = 0 } | Some r ↦ r.dims ]) root.1 ∙ sym had.taken.dims) sound.parts

    laid : AreLaid D
    laid = laid-take L.cells name s h had.taken.is fit g.laid

    theirs : HaveTheirs p.workers D L.phase
    theirs = theirs_taken p.workers L.cells L.phase name s g.laid g.theirs

    taken : (f : ℕ) × IsTaken D name r.dims s f
    taken = let t = take-takes L.cells name s h had.taken.is in (t.0, subst (λ (d : Dims). IsTaken D name d s t.0) had.taken.dims t.1)

    n : ℕ
    n = length L.tasks

    k : Contents
    k = contents_before p n

    ls : List Lowered
    ls = plan_rows S D name s line

    now : ℕ
    now = length (L.tasks ++ ls)

    longer : now ≡ n + length ls
    longer = length-append L.tasks ls

    stand : Stand p n ls
    stand = stands-own p S (record { line = line; act = Plans name s }) L b

    left : contents_before p now ≡ after_rows p k ls
    left = ap (contents_before p) longer ∙ contents-rows p n ls stand

    kept : (q : List ℕ) (t : RootState) (o : HasRoot p L.cells L.phase n k q t) → IsTaken D q t.dims t.parts o.first
    kept q t o = take-keeps L.cells name s h had.taken.is q t.dims t.parts o.first o.taken

    had_taken : HasRoot p D L.phase n k name r
    had_taken = has-taken p L S name s r g root.1

    same_cells : (q : List ℕ) (t : RootState) (o : HasRoot p L.cells L.phase n k q t) (place : ℕ × ℕ) → cell_of L.cells q t.parts place ≡ cell_of D q t.parts place
    same_cells q t o place = same_child_cell L.cells D q t.dims t.dims t.parts o.first place o.taken (kept q t o)

    closed : same_parts r.parts s ≡ false → (place : ℕ × ℕ) → IsPlace r.parts place → L.phase (cell_of D name r.parts place) ≡ None
    closed changed place inside = ap L.phase (sym (same_cells name r had place)) ∙ shut r place root.1 inside changed

    fresh : same_parts r.parts s ≡ false → (place : ℕ × ℕ) → IsPlace s place → L.phase (cell_of D name s place) ≡ None
    fresh changed place inside = plan-fresh p L S name s r taken.0 g root.1 laid taken.1 changed place inside

    by_same_opened : (c : Cell) (f : OpenPhase) → L.phase c ≡ Some f → (x : Bool) → same_parts r.parts s ≡ x → IsActiveChild D (plan name s S) c
    by_same_opened c f e x changed =
        let o = g.opened c f e in
        let i = g.roots o.name o.root o.is_root in
        by_test o i (bytes_eq name o.name) refl x changed
      where
        by_test : (o : IsActiveChild L.cells S c) (i : HasRoot p L.cells L.phase n k o.name o.root) (y : Bool) → bytes_eq name o.name ≡ y → (x : Bool) → same_parts r.parts s ≡ x → IsActiveChild D (plan name s S) c
        by_test o i false eq x changed = record {
          name = o.name;
          root = o.root;
          is_root = root-change (with_parts s) name S r o.name root.1 ∙ ap (λ z. cond z (Some (with_parts s r)) (root_of S o.name)) eq ∙ o.is_root;
          place = o.place;
          placed = o.placed;
          cell = o.cell ∙ same_cells o.name o.root i o.place;
        }
        by_test o i true eq true changed =
            let one : r ≡ o.root = same_Some r o.root (sym root.1 ∙ ap (root_of S) (same_text name o.name eq) ∙ o.is_root) in
            let parts : o.root.parts ≡ s = ap (λ (x : RootState). x.parts) (sym one) ∙ parts-are r.parts s changed in
            record {
              name = o.name;
              root = with_parts s r;
              is_root = root-change (with_parts s) name S r o.name root.1 ∙ ap (λ z. cond z (Some (with_parts s r)) (root_of S o.name)) eq;
              place = o.place;
              placed = subst (λ (x : Parts). IsPlace x o.place) parts o.placed;
              cell = o.cell ∙ same_cells o.name o.root i o.place ∙ ap (λ (x : Parts). cell_of D o.name x o.place) parts;
            }
        by_test o i true eq false changed =
            let one : r ≡ o.root = same_Some r o.root (sym root.1 ∙ ap (root_of S) (same_text name o.name eq) ∙ o.is_root) in
            absurd (none_isn't f (sym (shut r o.place root.1 (subst (λ (x : RootState). IsPlace x.parts o.place) (sym one) o.placed) changed)
            ∙ ap L.phase (ap (λ (q : List ℕ). cell_of L.cells q r.parts o.place) (same_text name o.name eq) ∙ ap (λ (x : RootState). cell_of L.cells o.name x.parts o.place) one ∙ sym o.cell) ∙ e))

    st : Turns p D L.phase S name r s line k n
    st = turns_by p D L.phase S name r s line n taken.0 root.1 stand b.cells laid had_taken closed fresh taken.1
        (sym (values_are S name r root.1) ∙ sound.even) (same_parts r.parts s) (is_valued r) refl refl

    blank_after : (place : ℕ × ℕ) → IsPlace s place → is_valued_child (with_parts s r) place ≡ false → (x : Bool) → same_parts r.parts s ≡ x → L.phase (cell_of D name s place) ≡ None
    blank_after place inside v true same =
        let here : r.parts ≡ s = parts-are r.parts s same in
        subst (λ (x : Parts). IsPlace x place → is_valued_child (with_parts x r) place ≡ false → L.phase (cell_of D name x place) ≡ None) here (had_taken.blank place) inside v
    blank_after place inside v false same = fresh same place inside

    reduced_after : (place : ℕ × ℕ) (f : OpenPhase) → IsPlace s place → L.phase (cell_of D name s place) ≡ Some f → (x : Bool) → same_parts r.parts s ≡ x → r.reduction ≡ Some f.by
    reduced_after place f inside e true same =
        let here : r.parts ≡ s = parts-are r.parts s same in
        subst (λ (x : Parts). IsPlace x place → L.phase (cell_of D name x place) ≡ Some f → r.reduction ≡ Some f.by) here (had_taken.reduced place f) inside e
    reduced_after place f inside e false same = absurd (none_isn't f (sym (fresh same place inside) ∙ e))

    by_name : (q : List ℕ) (t : RootState) (c : Bool) → bytes_eq name q ≡ c → cond c (Some (with_parts s r)) (root_of S q) ≡ Some t → HasRoot p D L.phase now (contents_before p now) q t
    by_name q t true eb e =
        subst (λ (x : RootState). HasRoot p D L.phase now (contents_before p now) q x) (same_Some (with_parts s r) t e)
        (subst (λ (u : List ℕ). HasRoot p D L.phase now (contents_before p now) u (with_parts s r)) (same_text name q eb)
        (record {
          fits = subst (λ (d : Dims). Fits s d) had.taken.dims fit;
          whole = had.whole;
          first = taken.0;
          taken = taken.1;
          held = λ place inside v. subst (λ (m : ℕ). IsHeld p L.phase m (contents_before p now) (cell_of D name s place) (child_array (with_parts s r) place)) (sym longer)
              (subst (λ (k : Contents). IsHeld p L.phase (n + length ls) k (cell_of D name s place) (child_array (with_parts s r) place)) (sym left) (st.held place inside v));
          blank = λ place inside v. blank_after place inside v (same_parts r.parts s) refl;
          reduced = λ place f inside e. reduced_after place f inside e (same_parts r.parts s) refl;
        }))
    by_name q t false eb e =
        let o = g.roots q t e in
        root-kept p L.cells D L.phase L.phase n now k (contents_before p now) q t o (kept q t o) (omega (arith, longer))
        (λ trust place inside.
        ap (λ (k : Contents). held_in p k (cell_of D q t.parts place)) left
        ∙ st.others trust (cell_of D q t.parts place) (λ from at. differs (cell_of D name s from) (cell_of D q t.parts place) (λ same. other_text name q eb (cells-apart D name q r.dims t.dims s t.parts taken.0 o.first from place laid taken.1 (kept q t o) at inside same).0)))
        (λ place inside. refl)
        (λ trust place f inside is w below. ap (λ (k : Contents). held_in p k (copy_at f.copies w)) left
        ∙ st.others trust (copy_at f.copies w) (λ from at. not_copy p.workers D L.phase name r.dims s taken.0 from (cell_of D q t.parts place) f w theirs taken.1 at is below))

-- ---- the other statements

-- an open phase stays that of an active child where roots keep their plans
opened_kept : (p : Program) (L : Lowering) (S T : JobState) → Agrees p L S → ((q : List ℕ) (r : RootState) → root_of S q ≡ Some r → (place : ℕ × ℕ) (f : OpenPhase) → IsPlace r.parts place → L.phase (cell_of L.cells q r.parts place) ≡ Some f → (t : RootState) × (root_of T q ≡ Some t) × (t.parts ≡ r.parts))
    → (c : Cell) (f : OpenPhase) → L.phase c ≡ Some f → IsActiveChild L.cells T c
opened_kept p L S T g same c f e =
    let o = g.opened c f e in
    let u = same o.name o.root o.is_root o.place f o.placed (ap L.phase (sym o.cell) ∙ e) in
    record {
      name = o.name;
      root = u.0;
      is_root = u.1;
      place = o.place;
      placed = subst (λ (x : Parts). IsPlace x o.place) (sym u.2) o.placed;
      cell = o.cell ∙ ap (λ (x : Parts). cell_of L.cells o.name x o.place) (sym u.2);
    }

agrees_task : (has : Kernel → Bool) (p : Program) (L : Lowering) (S : JobState) (line : Line) (t : TaskLine (List ℕ)) → Begins p (add_own S (record { line = line; act = Tasks t }) L) → IsSoundTask has S t → list_all (λ o. is_direct o.mode) t.operands ≡ true → AllByRecursion (IsClosed L.phase S L.cells) t.operands
    → Agrees p L S → Agrees p (add_own S (record { line = line; act = Tasks t }) L) (run_task t S)
agrees_task has p L S line t b s direct closed g =
    let n = length L.tasks in
    let l = task_row S L.cells line t in
    let longer : length (L.tasks ++ l ∷ []) ≡ n + 1 = length-append L.tasks (l ∷ []) in
    let stand = stands-own p S (record { line = line; act = Tasks t }) L b in
    let ran = holds-task has p L.cells L.phase n (contents_before p n) S t l b.cells g.laid g.theirs g.roots s direct closed stand.0 refl refl refl in
    record {
      laid = g.laid;
      theirs = g.theirs;
      opened = opened_kept p L S (run_task t S) g (λ q r e place f inside is. run-parts t S q r e);
      roots = subst (λ (m : ℕ). HaveRoots p L.cells L.phase m (contents_before p (length (L.tasks ++ l ∷ []))) (run_task t S)) (sym longer)
          (subst (λ (c : Contents). HaveRoots p L.cells L.phase (n + 1) c (run_task t S)) (sym (contents-next p n (length (L.tasks ++ l ∷ [])) longer)) ran);
    }

agrees_print : (p : Program) (L : Lowering) (S : JobState) (line : Line) (name : List ℕ) → Begins p (add_own S (record { line = line; act = Prints name }) L) → Agrees p L S → Agrees p (add_own S (record { line = line; act = Prints name }) L) S
agrees_print p L S line name b g =
    let n = length L.tasks in
    let ls = deliver_rows S L.cells name line in
    let longer : length (L.tasks ++ ls) ≡ n + length ls = length-append L.tasks ls in
    let left : contents_before p (length (L.tasks ++ ls)) ≡ contents_before p n =
    ap (contents_before p) longer ∙ contents-rows p n ls (stands-own p S (record { line = line; act = Prints name }) L b) ∙ after_delivers p (contents_before p n) (active_cell S L.cells name) line (places (parts_in S name)) in
    record {
      laid = g.laid;
      theirs = g.theirs;
      opened = g.opened;
      roots = λ q t e. let o = g.roots q t e in root-kept p L.cells L.cells L.phase L.phase n (length (L.tasks ++ ls)) (contents_before p n) (contents_before p (length (L.tasks ++ ls))) q t o o.taken (omega (arith, longer))
          (λ trust place inside. ap (λ (k : Contents). held_in p k (cell_of L.cells q t.parts place)) left) (λ place inside. refl) (λ trust place f inside is w below. ap (λ (k : Contents). held_in p k (copy_at f.copies w)) left);
    }

-- a statement without tasks
same_tasks : (p : Program) (L : Lowering) (S : JobState) (xs : List Lowered) → xs ≡ L.tasks → HaveRoots p L.cells L.phase (length L.tasks) (contents_before p (length L.tasks)) S → HaveRoots p L.cells L.phase (length xs) (contents_before p (length xs)) S
same_tasks p L S xs e h = subst (λ (ts : List Lowered). HaveRoots p L.cells L.phase (length ts) (contents_before p (length ts)) S) (sym e) h

agrees_reduced : (p : Program) (L : Lowering) (S : JobState) (line : Line) (name : List ℕ) (by : Reduction) → is_none (reduction_of S name) ≡ true → has_root S name ≡ true → Agrees p L S → Agrees p (add_own S (record { line = line; act = Reduces name by }) L) (reduce name by S)
agrees_reduced p L S line name by bare there g = record {
  laid = g.laid;
  theirs = g.theirs;
  opened = opened_kept p L S (reduce name by S) g (λ q t e place f inside is. by_opened q t e (bytes_eq name q) refl);
  roots = same_tasks p L (reduce name by S) (L.tasks ++ []) (append-nil L.tasks) (λ q t e. by_name q t (bytes_eq name q) refl (sym (root-change (with_reduction by) name S root.0 q root.1) ∙ e));
}
  where
    root : (r : RootState) × (root_of S name ≡ Some r)
    root = root_there (root_of S name) there

    n : ℕ
    n = length L.tasks

    by_opened : (q : List ℕ) (t : RootState) → root_of S q ≡ Some t → (x : Bool) → bytes_eq name q ≡ x → (u : RootState) × (root_of (reduce name by S) q ≡ Some u) × (u.parts ≡ t.parts)
    by_opened q t e true eb =
        let one : root.0 ≡ t = same_Some root.0 t (sym root.1 ∙ ap (root_of S) (same_text name q eb) ∙ e) in
        (with_reduction by root.0, root-change (with_reduction by) name S root.0 q root.1 ∙ ap (λ z. cond z (Some (with_reduction by root.0)) (root_of S q)) eb, ap (λ (x : RootState). x.parts) one)
    by_opened q t e false eb = (t, root-change (with_reduction by) name S root.0 q root.1 ∙ ap (λ z. cond z (Some (with_reduction by root.0)) (root_of S q)) eb ∙ e, refl)

    -- a root that gets its reduction has no open phase
    none_there : (f : OpenPhase) → root.0.reduction ≡ Some f.by → ⊥
    none_there f e = false≢true (sym (ap (λ (o : Option Reduction). is_none o) (reduction-is S name root.0 root.1 ∙ e)) ∙ bare)

    by_name : (q : List ℕ) (t : RootState) (c : Bool) → bytes_eq name q ≡ c → cond c (Some (with_reduction by root.0)) (root_of S q) ≡ Some t → HasRoot p L.cells L.phase n (contents_before p n) q t
    by_name q t true eb e =
        let o = g.roots name root.0 root.1 in
        subst (λ (x : RootState). HasRoot p L.cells L.phase n (contents_before p n) q x) (same_Some (with_reduction by root.0) t e)
        (subst (λ (u : List ℕ). HasRoot p L.cells L.phase n (contents_before p n) u (with_reduction by root.0)) (same_text name q eb)
        (record { fits = o.fits; whole = o.whole; first = o.first; taken = o.taken; held = o.held; blank = o.blank; reduced = λ place f inside is. absurd (none_there f (o.reduced place f inside is)) }))
    by_name q t false eb e = g.roots q t e

agrees_invalidated : (p : Program) (L : Lowering) (S : JobState) (line : Line) (name : List ℕ) → has_root S name ≡ true → IsShut L S name → Agrees p L S → Agrees p (add_own S (record { line = line; act = Invalidates name }) L) (invalidate name S)
agrees_invalidated p L S line name there shut g = record {
  laid = g.laid;
  theirs = g.theirs;
  opened = opened_kept p L S (invalidate name S) g (λ q t e place f inside is. by_opened q t e (bytes_eq name q) refl);
  roots = same_tasks p L (invalidate name S) (L.tasks ++ []) (append-nil L.tasks) (λ q t e. by_name q t (bytes_eq name q) refl (sym (root-change (λ r. with_elements (no_values r.dims) r) name S root.0 q root.1) ∙ e));
}
  where
    root : (r : RootState) × (root_of S name ≡ Some r)
    root = root_there (root_of S name) there

    empty : RootState
    empty = with_elements (no_values root.0.dims) root.0

    n : ℕ
    n = length L.tasks

    by_opened : (q : List ℕ) (t : RootState) → root_of S q ≡ Some t → (x : Bool) → bytes_eq name q ≡ x → (u : RootState) × (root_of (invalidate name S) q ≡ Some u) × (u.parts ≡ t.parts)
    by_opened q t e true eb =
        let one : root.0 ≡ t = same_Some root.0 t (sym root.1 ∙ ap (root_of S) (same_text name q eb) ∙ e) in
        (empty, root-change (λ r. with_elements (no_values r.dims) r) name S root.0 q root.1 ∙ ap (λ z. cond z (Some empty) (root_of S q)) eb, ap (λ (x : RootState). x.parts) one)
    by_opened q t e false eb = (t, root-change (λ r. with_elements (no_values r.dims) r) name S root.0 q root.1 ∙ ap (λ z. cond z (Some empty) (root_of S q)) eb ∙ e, refl)

    by_name : (q : List ℕ) (t : RootState) (c : Bool) → bytes_eq name q ≡ c → cond c (Some empty) (root_of S q) ≡ Some t → HasRoot p L.cells L.phase n (contents_before p n) q t
    by_name q t true eb e =
        let o = g.roots name root.0 root.1 in
        let whole : length (no_values root.0.dims) ≡ area root.0.dims = length-replicate (area root.0.dims) None in
        subst (λ (x : RootState). HasRoot p L.cells L.phase n (contents_before p n) q x) (same_Some empty t e)
        (subst (λ (u : List ℕ). HasRoot p L.cells L.phase n (contents_before p n) u empty) (same_text name q eb)
        (record {
          fits = o.fits;
          whole = whole;
          first = o.first;
          taken = o.taken;
          held = λ place inside v. absurd (blank-child empty place whole (no_values-blank (area root.0.dims)) o.fits inside v);
          blank = λ place inside v. shut root.0 place root.1 inside;
          reduced = λ place f inside is. o.reduced place f inside is;
        }))
    by_name q t false eb e = g.roots q t e

agrees_unregistered : (p : Program) (L : Lowering) (S : JobState) (line : Line) (name : List ℕ) → IsShut L S name → Agrees p L S → Agrees p (add_own S (record { line = line; act = Unregisters name }) L) (unregister name S)
agrees_unregistered p L S line name shut g = record {
  laid = g.laid;
  theirs = g.theirs;
  opened = opened_kept p L S (unregister name S) g (λ q t e place f inside is. by_opened q t e place f inside is (bytes_eq name q) refl);
  roots = same_tasks p L (unregister name S) (L.tasks ++ []) (append-nil L.tasks) (λ q t e. by_name q t (bytes_eq name q) (sym (get-gone S.roots name q) ∙ e));
}
  where
    by_opened : (q : List ℕ) (t : RootState) → root_of S q ≡ Some t → (place : ℕ × ℕ) (f : OpenPhase) → IsPlace t.parts place → L.phase (cell_of L.cells q t.parts place) ≡ Some f → (x : Bool) → bytes_eq name q ≡ x → (u : RootState) × (root_of (unregister name S) q ≡ Some u) × (u.parts ≡ t.parts)
    by_opened q t e place f inside is true eb =
        let here = same_text name q eb in
        absurd (none_isn't f (sym (shut t place (ap (root_of S) here ∙ e) inside) ∙ ap (λ (u : List ℕ). L.phase (cell_of L.cells u t.parts place)) here ∙ is))
    by_opened q t e place f inside is false eb = (t, get-gone S.roots name q ∙ ap (λ z. cond z None (root_of S q)) eb ∙ e, refl)

    by_name : (q : List ℕ) (t : RootState) (c : Bool) → cond c None (root_of S q) ≡ Some t → HasRoot p L.cells L.phase (length L.tasks) (contents_before p (length L.tasks)) q t
    by_name q t true e = absurd (none_isn't t e)
    by_name q t false e = g.roots q t e

-- before the first statement
pub agrees_start : (p : Program) → Agrees p nothing start
agrees_start p = record {
  laid = laid-none;
  theirs = record { copies = copies-none p.workers; theirs = λ c f e. absurd (none_isn't f e) };
  roots = λ q r e. absurd (none_isn't r (sym (map.get-empty _ q) ∙ e));
  opened = λ c f e. absurd (none_isn't f e);
}

-- the phases that an act closes are closed
abbrev pub IsPrepared : Lowering → JobState → Act (List ℕ) → Type 0
IsPrepared L S (Registers r) = Unit {0}
IsPrepared L S (Plans name s) = IsShutBy L S name s
IsPrepared L S (Reduces name by) = Unit {0}
IsPrepared L S (Tasks t) = (list_all (λ o. is_direct o.mode) t.operands ≡ true) × AllByRecursion (IsClosed L.phase S L.cells) t.operands
IsPrepared L S (Prints name) = Unit {0}
IsPrepared L S (Invalidates name) = IsShut L S name
IsPrepared L S (Unregisters name) = IsShut L S name

-- after one statement more that contributes to nothing
pub agrees_act : (has : Kernel → Bool) (p : Program) (L : Lowering) (S : JobState) (line : Line) (a : Act (List ℕ)) → Begins p (add_own S (record { line = line; act = a }) L) → IsSoundAct has S a → IsPrepared L S a → Agrees p L S → Agrees p (add_own S (record { line = line; act = a }) L) (apply a S)
agrees_act has p L S line (Registers r) b s ready g = agrees_registered p L S line r b s g
agrees_act has p L S line (Plans name parts) b s ready g = agrees_planned p L S line name parts b s ready g
agrees_act has p L S line (Reduces name by) b s ready g = agrees_reduced p L S line name by s.0 s.1 g
agrees_act has p L S line (Tasks t) b s ready g = agrees_task has p L S line t b s ready.0 ready.1 g
agrees_act has p L S line (Prints name) b s ready g = agrees_print p L S line name b g
agrees_act has p L S line (Invalidates name) b s ready g = agrees_invalidated p L S line name s ready g
agrees_act has p L S line (Unregisters name) b s ready g = agrees_unregistered p L S line name ready g
