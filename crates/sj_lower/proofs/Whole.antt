-- All statements: the tasks of the lowered program are good, and its deliveries are those of the job's prints.
use Rattle.sj_lower.proofs.Words.{[], a_delivery, Access, access, access_of, Act, add_own, AllByRecursion, ap, apply, arith, Bool, bytes_eq, Cell, cell_of, Cells, cells_after, child, cond, Deliver, deliver_row, deliver_rows, Delivery, Dims, each_of, false, Fill, fill_row, flat_map, found_by, Handle, has_child, info_of, Init, Invalidates, is_data, is_first, is_redux, is_valued, IsPasteBetween, IsPlace, JobState, Kernel, kernel_of, leaves_plan, length, length-append, Line, List, list_all, load_row, load_rows, lower_one, Lowered, Lowering, Mode, None, not, Nothing, Operand, Option, Parts, parts_in, Paste, paste_mode, paste_row, pastes_of, pastes_to, places, plan_rows, Plans, print_deliveries, Printed, printed_as, Prints, prints, Program, R, Reduces, refl, Register, registered_root, Registers, root_array, root_of, RootState, rows_added, RW, same_parts, Some, Statement, subst, sym, Table, take, Tasks, true, undivided, Unregisters, Values, W, with_parts, ℕ, ◌++◌, ◌+◌, ◌<◌, ◌||◌, ◌∙◌, ◌∷◌, ◌≡◌, ◌≤◌}
use Rattle.std.specs.List.{All}
use Rattle.std.proofs.lemmas.{Bool.and_parts, Bool.false≢true, Bool.not-true, List.append-nil, List.Elements.All-cons, List.Elements.All-nil}
use Rattle.sj_plan.proofs.Lists.{each-map, each-of, each-places}
use Rattle.sj_lower.proofs.{Able.CanBe, Agreeing.agrees_act, Agreeing.has-taken, Agreeing.IsPrepared, Agreeing.IsShut, Agreeing.IsShutBy, Agreeing.none_of, Agreeing.plan-fresh, Agreeing.plan_rows-are, Agreeing.same_child_cell, Combined.Phases, Contents.contents_before, Copies.HaveCopies, Delivered.AreDelivered, Delivered.delivered_beside, Delivered.delivered_print, Delivered.deliveries_by, Delivered.NoneDelivers, Elements.valued-child, Fine.good-more, Fine.IsFine, Folding.Stand, Good.all_given, Good.AreGood, Good.CanPaste, Good.direct-modes, Good.good-all, Good.good-blocks, Good.good_deliver, Good.good_fill, Good.good_load, Good.good_pastes_to, Good.good_task, Good.IsGood, Good.no_copies, Good.plans-of, Holding.cell-dims, Holding.differs, Holding.HasCells, Holding.HasRoot, Laid.AreLaid, Laid.bytes_eq-itself, Laid.cell-inside, Laid.cells-apart, Laid.IsTaken, Laid.take-keeps, Laid.taken-once, Logging.AreAway, Logging.IsAway, Logging.log-beside, Owning.plain-child, Pasting.pastes-between, Pasting.rows-by_child, Pasting.rows_to, Places.length-places, Places.parts-itself, Running.active_cell-is, Running.child_there, Running.is_direct, Running.IsClosed, Running.root_there, Running.valued_there, Stating.Agrees, Stating.Begins, Stating.begins-own, Stating.stands-own}
use Rattle.sj_meaning.proofs.Finding.{get-put, root-change}

-- ---- the tasks of each statement are good

cell_below : (p : Program) (C : Cells) (q : List ℕ) (d : Dims) (s : Parts) (f : ℕ) (place : ℕ × ℕ) → HasCells p C → AreLaid C → IsTaken C q d s f → IsPlace s place → (cell_of C q s place).0 < length p.cells
cell_below p C q d s f place cells laid t h = omega (arith, cell-inside C q d s f place laid t h, cells.longer)

loads_good : (p : Program) (C : Cells) (r : Register (List ℕ)) (line : Line) (n f : ℕ) (i : Init) → HasCells p C → AreLaid C → IsTaken C r.name r.dims r.parts f → AreGood p n (load_rows i r.dims r.parts (cell_of C r.name r.parts) line)
loads_good p C r line n f (Values xs) cells laid t =
    let row = λ (place : ℕ × ℕ). load_row xs r.dims (child r.dims r.parts place) (cell_of C r.name r.parts place) line in
    good-all p n (each_of row (places r.parts)) (each-map (IsGood p n) row (places r.parts) (each-places (λ place. IsGood p n (row place)) r.parts (λ place h.
    good_load p n xs r.dims (child r.dims r.parts place) (cell_of C r.name r.parts place) line (cell_below p C r.name r.dims r.parts f place cells laid t h) (cell-dims p C r.name r.dims r.parts f place cells laid t h))))
loads_good p C r line n f (Fill a b) cells laid t =
    let row = λ (place : ℕ × ℕ). fill_row a b r.dims (child r.dims r.parts place) (cell_of C r.name r.parts place) line in
    good-all p n (each_of row (places r.parts)) (each-map (IsGood p n) row (places r.parts) (each-places (λ place. IsGood p n (row place)) r.parts (λ place h.
    good_fill p n a b r.dims (child r.dims r.parts place) (cell_of C r.name r.parts place) line (cell_below p C r.name r.dims r.parts f place cells laid t h))))
loads_good p C r line n f Nothing cells laid t = tt

pastes_good : (p : Program) (C : Cells) (phases : Phases) (name : List ℕ) (r : RootState) (s : Parts) (line : Line) (n f : ℕ) → HasCells p C → AreLaid C → HasRoot p C phases n (contents_before p n) name r → IsTaken C name r.dims s f → same_parts r.parts s ≡ false → is_valued r ≡ true
    → Stand p n (each_of (paste_row (cell_of C name r.parts) (cell_of C name s) line) (pastes_of r.dims r.parts s)) → AreGood p n (each_of (paste_row (cell_of C name r.parts) (cell_of C name s) line) (pastes_of r.dims r.parts s))
pastes_good p C phases name r s line n f cells laid b t changed valued stand =
    let d = r.dims in
    let old = cell_of C name r.parts in
    let new = cell_of C name s in
    let fit = laid.fits name d s f t in
    let other : r.parts ≡ s → ⊥ = λ e. false≢true (sym changed ∙ ap (same_parts r.parts) (sym e) ∙ parts-itself r.parts) in
    let can : CanPaste p n d r.parts s old new = record {
      from_inside = λ from h. cell_below p C name d r.parts b.first from cells laid b.taken h;
      to_inside = λ to h. cell_below p C name d s f to cells laid t h;
      from_dims = λ from h. cell-dims p C name d r.parts b.first from cells laid b.taken h;
      to_dims = λ to h. cell-dims p C name d s f to cells laid t h;
      apart = λ from to hf ht. differs (old from) (new to) (λ e. other (cells-apart C name name d d r.parts s b.first f from to laid b.taken t hf ht e).1);
      given = λ from h. (b.held from h (valued-child r from b.whole valued h)).given;
    } in
    let rows = rows-by_child d r.parts s old new line in
    subst (AreGood p n) (sym rows) (good-blocks p n n (rows_to d r.parts s old new line) (places s) (omega arith)
    (each-places (λ to. (m : ℕ) → n ≤ m → Stand p m (rows_to d r.parts s old new line to) → AreGood p m (rows_to d r.parts s old new line to)) s (λ to h m lo stand. good_pastes_to p n m d r.parts s old new line to can b.fits fit h lo stand))
    (subst (Stand p n) rows stand))

plans_good : (p : Program) (C : Cells) (phases : Phases) (S : JobState) (name : List ℕ) (r : RootState) (s : Parts) (line : Line) (n f : ℕ) → root_of S name ≡ Some r → HasCells p C → AreLaid C → HasRoot p C phases n (contents_before p n) name r → IsTaken C name r.dims s f → Stand p n (plan_rows S C name s line) → AreGood p n (plan_rows S C name s line)
plans_good p C phases S name r s line n f e cells laid b t stand =
    let rows = plan_rows-are S C name s line r e in
    subst (AreGood p n) (sym rows) (by_cases (same_parts r.parts s) (is_valued r) refl refl (subst (Stand p n) rows stand))
  where
    by_cases : (c v : Bool) → same_parts r.parts s ≡ c → is_valued r ≡ v → Stand p n (cond (c || not v) [] (each_of (paste_row (cell_of C name r.parts) (cell_of C name s) line) (pastes_of r.dims r.parts s)))
        → AreGood p n (cond (c || not v) [] (each_of (paste_row (cell_of C name r.parts) (cell_of C name s) line) (pastes_of r.dims r.parts s)))
    by_cases true v ec ev stand = tt
    by_cases false false ec ev stand = tt
    by_cases false true ec ev stand = pastes_good p C phases name r s line n f cells laid b t ec ev stand

-- the tasks of a print statement, by its root
pub deliver_rows-are : (S : JobState) (C : Cells) (name : List ℕ) (line : Line) (r : RootState) → root_of S name ≡ Some r → deliver_rows S C name line ≡ each_of (λ place. deliver_row (cell_of C name r.parts place) line) (places r.parts)
deliver_rows-are S C name line r e = ap (λ (o : Option RootState). let s = (elim o as (λ _. Parts) [ None ↦ undivided | Some r ↦ r.parts ]) in each_of (λ place. deliver_row (cell_of C name s place) line) (places s)) e

prints_good : (p : Program) (C : Cells) (phases : Phases) (S : JobState) (name : List ℕ) (r : RootState) (line : Line) (n : ℕ) → root_of S name ≡ Some r → is_valued r ≡ true → HasCells p C → AreLaid C → HaveCopies p.workers C → HasRoot p C phases n (contents_before p n) name r → AreGood p n (deliver_rows S C name line)
prints_good p C phases S name r line n e valued cells laid copies b =
    let row = λ (place : ℕ × ℕ). deliver_row (cell_of C name r.parts place) line in
    subst (AreGood p n) (sym (deliver_rows-are S C name line r e))
    (good-all p n (each_of row (places r.parts)) (each-map (IsGood p n) row (places r.parts) (each-places (λ place. IsGood p n (row place)) r.parts (λ place h.
    good_deliver p n (cell_of C name r.parts place) line (cell_below p C name r.dims r.parts b.first place cells laid b.taken h) (plain-child p C cells copies name r.dims r.parts b.first place laid b.taken h) (b.held place h (valued-child r place b.whole valued h)).given))))

there_itself : (S : JobState) (q : List ℕ) (new : RootState) (o : Option RootState) → o ≡ cond (bytes_eq q q) (Some new) (root_of S q) → o ≡ Some new
there_itself S q new o e = e ∙ ap (λ b. cond b (Some new) (root_of S q)) (bytes_eq-itself q)

-- the new root of a registration has taken its plan
registered-taken : (p : Program) (L : Lowering) (S : JobState) (line : Line) (r : Register (List ℕ)) (after : Agrees p (add_own S (record { line = line; act = Registers r }) L) (apply (Registers r) S)) → HasRoot p (cells_after (Registers r) L.cells) L.phase (length (add_own S (record { line = line; act = Registers r }) L).tasks) (contents_before p (length (add_own S (record { line = line; act = Registers r }) L).tasks)) r.name (registered_root r)
registered-taken p L S line r after = after.roots r.name (registered_root r) (there_itself S r.name (registered_root r) _ (get-put S.roots r.name (registered_root r) r.name))

planned-taken : (p : Program) (L : Lowering) (S : JobState) (line : Line) (name : List ℕ) (s : Parts) (r : RootState) (e : root_of S name ≡ Some r) (after : Agrees p (add_own S (record { line = line; act = Plans name s }) L) (apply (Plans name s) S)) → (f : ℕ) × IsTaken (take name s L.cells) name r.dims s f
planned-taken p L S line name s r e after = let h = after.roots name (with_parts s r) (there_itself S name (with_parts s r) _ (root-change (with_parts s) name S r name e)) in (h.first, h.taken)

rows_good : (has : Kernel → Bool) (p : Program) (L : Lowering) (S : JobState) (line : Line) (a : Act (List ℕ)) → Begins p (add_own S (record { line = line; act = a }) L) → CanBe has S a → IsPrepared L S a → Agrees p L S → Agrees p (add_own S (record { line = line; act = a }) L) (apply a S)
    → AreGood p (length L.tasks) (rows_added S (cells_after a L.cells) line a)
rows_good has p L S line (Registers r) b can ready g after =
    let h = registered-taken p L S line r after in
    loads_good p (cells_after (Registers r) L.cells) r line (length L.tasks) h.first r.init b.cells after.laid h.taken
rows_good has p L S line (Plans name s) b can ready g after =
    let root = root_there (root_of S name) can.sound.rooted in
    let t = planned-taken p L S line name s root.0 root.1 after in
    plans_good p (cells_after (Plans name s) L.cells) L.phase S name root.0 s line (length L.tasks) t.0 root.1 b.cells after.laid (has-taken p L S name s root.0 g root.1) t.1 (stands-own p S (record { line = line; act = Plans name s }) L b)
rows_good has p L S line (Reduces name by) b can ready g after = tt
rows_good has p L S line (Tasks t) b can ready g after = (
  good_task has p L.cells S (length L.tasks) t line b.cells g.laid (plans-of p L.cells L.phase (length L.tasks) (contents_before p (length L.tasks)) S g.roots) can.sound (direct-modes has S t can.sound ready.0)
      (all_given p L.cells L.phase S (length L.tasks) (contents_before p (length L.tasks)) t.operands g.roots ready.0 can.sound.placed can.sound.valued) (no_copies p S L.cells (length L.tasks) t.operands ready.0) can.nameable,
  tt,
)
rows_good has p L S line (Prints name) b can ready g after =
    let v = valued_there (root_of S name) can.sound in
    prints_good p L.cells L.phase S name v.0 line (length L.tasks) v.1 v.2 b.cells g.laid g.theirs.copies (g.roots name v.0 v.1)
rows_good has p L S line (Invalidates name) b can ready g after = tt
rows_good has p L S line (Unregisters name) b can ready g after = tt

-- ---- tasks that don't deliver

loads_beside : (r : Register (List ℕ)) (C : Cells) (line : Line) (i : Init) → NoneDelivers (load_rows i r.dims r.parts (cell_of C r.name r.parts) line)
loads_beside r C line (Values xs) =
    let row = λ (place : ℕ × ℕ). load_row xs r.dims (child r.dims r.parts place) (cell_of C r.name r.parts place) line in
    each-map (λ (l : Lowered). kernel_of l.codelet ≡ Some Deliver → ⊥) row (places r.parts) (each-of (λ place. kernel_of (row place).codelet ≡ Some Deliver → ⊥) (λ place e. absurd (cc)) (places r.parts))
loads_beside r C line (Fill a b) =
    let row = λ (place : ℕ × ℕ). fill_row a b r.dims (child r.dims r.parts place) (cell_of C r.name r.parts place) line in
    each-map (λ (l : Lowered). kernel_of l.codelet ≡ Some Deliver → ⊥) row (places r.parts) (each-of (λ place. kernel_of (row place).codelet ≡ Some Deliver → ⊥) (λ place e. absurd (cc)) (places r.parts))
loads_beside r C line Nothing = tt

plans_beside : (S : JobState) (C : Cells) (name : List ℕ) (s : Parts) (line : Line) → NoneDelivers (plan_rows S C name s line)
plans_beside S C name s line = by_root (root_of S name)
  where
    pastes : (r : RootState) (xs : List Paste) → NoneDelivers (each_of (paste_row (cell_of C name r.parts) (cell_of C name s) line) xs)
    pastes r xs = each-map (λ (l : Lowered). kernel_of l.codelet ≡ Some Deliver → ⊥) (paste_row (cell_of C name r.parts) (cell_of C name s) line) xs (each-of (λ x. kernel_of (paste_row (cell_of C name r.parts) (cell_of C name s) line x).codelet ≡ Some Deliver → ⊥) (λ x e. absurd (cc)) xs)

    by_idle : (b : Bool) (r : RootState) → NoneDelivers (cond b [] (each_of (paste_row (cell_of C name r.parts) (cell_of C name s) line) (pastes_of r.dims r.parts s)))
    by_idle true r = tt
    by_idle false r = pastes r (pastes_of r.dims r.parts s)

    by_root : (o : Option RootState) → NoneDelivers (elim o as (λ _. List Lowered) [
      | None ↦ []
      | Some r ↦ cond (leaves_plan s r) [] (each_of (paste_row (cell_of C name r.parts) (cell_of C name s) line) (pastes_of r.dims r.parts s))
    ])
    by_root None = tt
    by_root (Some r) = by_idle (leaves_plan s r) r

-- ---- one statement

-- the handle of a name that is printed has the number under which the table knows the name
abbrev pub NamesAct : Table → JobState → Cells → Act (List ℕ) → Type 0
NamesAct T S C (Registers r) = Unit {0}
NamesAct T S C (Plans name s) = Unit {0}
NamesAct T S C (Reduces name by) = Unit {0}
NamesAct T S C (Tasks t) = Unit {0}
NamesAct T S C (Prints name) = (h : Handle) (r : RootState) → C.handles name ≡ Some h → root_of S name ≡ Some r → (printed_as T h.root ≡ (name, r.kind)) × ((info_of T h.root).dims ≡ h.dims) × (h.root.0 < length T.names)
NamesAct T S C (Invalidates name) = Unit {0}
NamesAct T S C (Unregisters name) = Unit {0}

abbrev pub NamesAll : ℕ → Table → JobState → Lowering → List (Statement (List ℕ)) → Type 0
NamesAll workers T S L [] = Unit {0}
NamesAll workers T S L (s ∷ ss) = NamesAct T S L.cells s.act × NamesAll workers T (apply s.act S) (lower_one workers S s L) ss

found_there : (S : JobState) (name : List ℕ) (r : RootState) → root_of S name ≡ Some r → found_by S name ≡ record { name = name; kind = r.kind; array = root_array r } ∷ []
found_there S name r e = ap (λ (o : Option RootState). elim o as (λ _. List Printed) [ None ↦ [] | Some r ↦ record { name = name; kind = r.kind; array = root_array r } ∷ [] ]) e

pub print_deliveries-are : (S : JobState) (C : Cells) (name : List ℕ) (n print : ℕ) (h : Handle) (r : RootState) → C.handles name ≡ Some h → root_of S name ≡ Some r → h.dims ≡ r.dims → print_deliveries S C name n print ≡ deliveries_by r n h.root print
print_deliveries-are S C name n print h r eh er ed =
    ap (λ (o : Option Handle). elim o as (λ _. List Delivery) [ None ↦ [] | Some h ↦ each_of (a_delivery n h.root h.dims (parts_in S name) print) (places (parts_in S name)) ]) eh
    ∙ ap (λ (o : Option RootState). let s = (elim o as (λ _. Parts) [ None ↦ undivided | Some r ↦ r.parts ]) in each_of (a_delivery n h.root h.dims s print) (places s)) er
    ∙ ap (λ (d : Dims). each_of (a_delivery n h.root d r.parts print) (places r.parts)) ed

none_more : {X : Type 0} (xs ys : List X) → ys ≡ [] → xs ++ ys ≡ xs
none_more xs ys e = ap (λ zs. xs ++ zs) e ∙ append-nil xs

-- what a statement finds: the phases that it closes are closed
abbrev pub IsReady : Lowering → JobState → Act (List ℕ) → Type 0
IsReady L S (Registers r) = Unit {0}
IsReady L S (Plans name s) = IsShutBy L S name s
IsReady L S (Reduces name by) = Unit {0}
IsReady L S (Tasks t) = IsPrepared L S (Tasks t)
IsReady L S (Prints name) = IsShut L S name
IsReady L S (Invalidates name) = IsShut L S name
IsReady L S (Unregisters name) = IsShut L S name

prepared-of : (L : Lowering) (S : JobState) (a : Act (List ℕ)) → IsReady L S a → IsPrepared L S a
prepared-of L S (Registers r) h = tt
prepared-of L S (Plans name s) h = h
prepared-of L S (Reduces name by) h = tt
prepared-of L S (Tasks t) h = h
prepared-of L S (Prints name) h = tt
prepared-of L S (Invalidates name) h = h
prepared-of L S (Unregisters name) h = h

delivered_act : (has : Kernel → Bool) (T : Table) (p : Program) (L : Lowering) (S : JobState) (line : Line) (a : Act (List ℕ)) (out : List Printed) → Begins p (add_own S (record { line = line; act = a }) L) → CanBe has S a → NamesAct T S L.cells a → IsReady L S a → Agrees p L S → AreDelivered T p L out
    → AreDelivered T p (add_own S (record { line = line; act = a }) L) (out ++ prints a S)
delivered_act has T p L S line (Registers r) out b can named ready g d =
    let s : Statement (List ℕ) = record { line = line; act = Registers r } in
    subst (λ (xs : List Printed). AreDelivered T p (add_own S s L) xs) (sym (append-nil out))
    (delivered_beside T p L (add_own S s L) out (rows_added S (cells_after (Registers r) L.cells) line (Registers r)) (append-nil L.deliveries) refl refl (stands-own p S s L b) (loads_beside r (cells_after (Registers r) L.cells) line r.init) d)
delivered_act has T p L S line (Plans name parts) out b can named ready g d =
    let s : Statement (List ℕ) = record { line = line; act = Plans name parts } in
    subst (λ (xs : List Printed). AreDelivered T p (add_own S s L) xs) (sym (append-nil out))
    (delivered_beside T p L (add_own S s L) out (rows_added S (cells_after (Plans name parts) L.cells) line (Plans name parts)) (append-nil L.deliveries) refl refl (stands-own p S s L b) (plans_beside S (cells_after (Plans name parts) L.cells) name parts line) d)
delivered_act has T p L S line (Reduces name by) out b can named ready g d =
    let s : Statement (List ℕ) = record { line = line; act = Reduces name by } in
    subst (λ (xs : List Printed). AreDelivered T p (add_own S s L) xs) (sym (append-nil out))
    (delivered_beside T p L (add_own S s L) out [] (append-nil L.deliveries) refl refl tt tt d)
delivered_act has T p L S line (Tasks t) out b can named ready g d =
    let s : Statement (List ℕ) = record { line = line; act = Tasks t } in
    subst (λ (xs : List Printed). AreDelivered T p (add_own S s L) xs) (sym (append-nil out))
    (delivered_beside T p L (add_own S s L) out (rows_added S L.cells line (Tasks t)) (append-nil L.deliveries) refl refl (stands-own p S s L b) (can.nameable, tt) d)
delivered_act has T p L S line (Prints name) out b can named ready g d =
    let s : Statement (List ℕ) = record { line = line; act = Prints name } in
    let v = valued_there (root_of S name) can.sound in
    let r = v.0 in
    let h = g.roots name r v.1 in
    let handle = h.taken.handle in
    let t = named handle r h.taken.is v.1 in
    let rows = deliver_rows-are S L.cells name line r v.1 in
    let many = ap length rows ∙ length-places (λ place. deliver_row (cell_of L.cells name r.parts place) line) r.parts in
    subst (λ (xs : List Printed). AreDelivered T p (add_own S s L) (out ++ xs)) (sym (found_there S name r v.1))
    (delivered_print T p L (add_own S s L) S out line name r handle.root
    (record { valued = v.2; is_root = v.1; has = h; shut = λ place at. ready r place v.1 at; stand = subst (Stand p (length L.tasks)) rows (stands-own p S s L b) })
    t.0 (t.1 ∙ h.taken.dims) t.2
    (ap (λ ds. L.deliveries ++ ds) (print_deliveries-are S L.cells name (length L.tasks) L.prints handle r h.taken.is v.1 h.taken.dims)) refl
    (length-append L.tasks (deliver_rows S L.cells name line) ∙ ap (λ n. length L.tasks + n) many) d)
delivered_act has T p L S line (Invalidates name) out b can named ready g d =
    let s : Statement (List ℕ) = record { line = line; act = Invalidates name } in
    subst (λ (xs : List Printed). AreDelivered T p (add_own S s L) xs) (sym (append-nil out))
    (delivered_beside T p L (add_own S s L) out [] (append-nil L.deliveries) refl refl tt tt d)
delivered_act has T p L S line (Unregisters name) out b can named ready g d =
    let s : Statement (List ℕ) = record { line = line; act = Unregisters name } in
    subst (λ (xs : List Printed). AreDelivered T p (add_own S s L) xs) (sym (append-nil out))
    (delivered_beside T p L (add_own S s L) out [] (append-nil L.deliveries) refl refl tt tt d)

-- ---- tasks beside all open phases

away-map : {X : Type 0} (p : Program) (phases : Phases) (row : X → Lowered) (xs : List X) → AllByRecursion (λ x. AreAway p phases (row x)) xs → AllByRecursion (AreAway p phases) (each_of row xs)
away-map p phases row xs h = each-map (AreAway p phases) row xs h

away-one : (p : Program) (phases : Phases) (a : Access) → IsAway p phases a → All (IsAway p phases) (a ∷ [])
away-one p phases a h = All-cons (IsAway p phases) a [] h (All-nil (IsAway p phases))

away-two : (p : Program) (phases : Phases) (a b : Access) → IsAway p phases a → IsAway p phases b → All (IsAway p phases) (a ∷ b ∷ [])
away-two p phases a b h k = All-cons (IsAway p phases) a (b ∷ []) h (away-one p phases b k)

-- a child's cell on which no phase is open
child-away : (p : Program) (C : Cells) (phases : Phases) (m : Mode) (q : List ℕ) (d : Dims) (s : Parts) (f : ℕ) (place : ℕ × ℕ) → HasCells p C → AreLaid C → HaveCopies p.workers C → IsTaken C q d s f → IsPlace s place → is_redux m ≡ false → (is_data m ≡ true → phases (cell_of C q s place) ≡ None) → IsAway p phases (access m (cell_of C q s place))
child-away p C phases m q d s f place cells laid copies t at direct shut = record { plain = plain-child p C cells copies q d s f place laid t at; direct = direct; closed = shut }

loads_away : (p : Program) (C : Cells) (phases : Phases) (r : Register (List ℕ)) (line : Line) (f : ℕ) (i : Init) → HasCells p C → AreLaid C → HaveCopies p.workers C → IsTaken C r.name r.dims r.parts f → ((place : ℕ × ℕ) → IsPlace r.parts place → phases (cell_of C r.name r.parts place) ≡ None)
    → AllByRecursion (AreAway p phases) (load_rows i r.dims r.parts (cell_of C r.name r.parts) line)
loads_away p C phases r line f (Values xs) cells laid copies t shut =
    let row = λ (place : ℕ × ℕ). load_row xs r.dims (child r.dims r.parts place) (cell_of C r.name r.parts place) line in
    away-map p phases row (places r.parts) (each-places (λ place. AreAway p phases (row place)) r.parts (λ place h. away-one p phases (access W (cell_of C r.name r.parts place)) (child-away p C phases W r.name r.dims r.parts f place cells laid copies t h refl (λ e. shut place h))))
loads_away p C phases r line f (Fill a b) cells laid copies t shut =
    let row = λ (place : ℕ × ℕ). fill_row a b r.dims (child r.dims r.parts place) (cell_of C r.name r.parts place) line in
    away-map p phases row (places r.parts) (each-places (λ place. AreAway p phases (row place)) r.parts (λ place h. away-one p phases (access W (cell_of C r.name r.parts place)) (child-away p C phases W r.name r.dims r.parts f place cells laid copies t h refl (λ e. shut place h))))
loads_away p C phases r line f Nothing cells laid copies t shut = tt

-- pastes between children of two plans
paste_away : (p : Program) (C : Cells) (phases : Phases) (name : List ℕ) (r : RootState) (s : Parts) (line : Line) (g f : ℕ) (x : Paste) → HasCells p C → AreLaid C → HaveCopies p.workers C → IsTaken C name r.dims r.parts g → IsTaken C name r.dims s f
    → ((place : ℕ × ℕ) → IsPlace r.parts place → phases (cell_of C name r.parts place) ≡ None) → ((place : ℕ × ℕ) → IsPlace s place → phases (cell_of C name s place) ≡ None) → IsPasteBetween r.dims r.parts s x → AreAway p phases (paste_row (cell_of C name r.parts) (cell_of C name s) line x)
paste_away p C phases name r s line g f x cells laid copies t u shut fresh h =
    away-two p phases (access R (cell_of C name r.parts x.from)) (access (paste_mode x) (cell_of C name s x.to))
    (child-away p C phases R name r.dims r.parts g x.from cells laid copies t h.from refl (λ e. shut x.from h.from))
    (child-away p C phases (paste_mode x) name r.dims s f x.to cells laid copies u h.to (by_first (is_first x)) (λ e. fresh x.to h.to))
  where
    by_first : (b : Bool) → is_redux (cond b W RW) ≡ false
    by_first true = refl
    by_first false = refl

each-flat : {X : Type 0} (P : X → Type 0) (f : ℕ × ℕ → List X) (qs : List (ℕ × ℕ)) → AllByRecursion (λ q. AllByRecursion P (f q)) qs → AllByRecursion P (flat_map f qs)
each-flat P f [] h = tt
each-flat {X} P f (q ∷ qs) h = join (f q) (flat_map f qs) h.0 (each-flat P f qs h.1)
  where
    join : (xs ys : List X) → AllByRecursion P xs → AllByRecursion P ys → AllByRecursion P (xs ++ ys)
    join [] ys a b = b
    join (x ∷ xs) ys a b = (a.0, join xs ys a.1 b)

plans_away : (p : Program) (C : Cells) (phases : Phases) (S : JobState) (name : List ℕ) (r : RootState) (s : Parts) (line : Line) (g f : ℕ) → root_of S name ≡ Some r → HasCells p C → AreLaid C → HaveCopies p.workers C → IsTaken C name r.dims r.parts g → IsTaken C name r.dims s f
    → (same_parts r.parts s ≡ false → (place : ℕ × ℕ) → IsPlace r.parts place → phases (cell_of C name r.parts place) ≡ None) → (same_parts r.parts s ≡ false → (place : ℕ × ℕ) → IsPlace s place → phases (cell_of C name s place) ≡ None) → AllByRecursion (AreAway p phases) (plan_rows S C name s line)
plans_away p C phases S name r s line g f e cells laid copies t u shut fresh = subst (AllByRecursion (AreAway p phases)) (sym (plan_rows-are S C name s line r e)) (by_cases (same_parts r.parts s) (is_valued r) refl)
  where
    by_cases : (c v : Bool) → same_parts r.parts s ≡ c → AllByRecursion (AreAway p phases) (cond (c || not v) [] (each_of (paste_row (cell_of C name r.parts) (cell_of C name s) line) (pastes_of r.dims r.parts s)))
    by_cases true v ec = tt
    by_cases false false ec = tt
    by_cases false true ec =
        subst (AllByRecursion (AreAway p phases)) (sym (rows-by_child r.dims r.parts s (cell_of C name r.parts) (cell_of C name s) line))
        (each-flat (AreAway p phases) (rows_to r.dims r.parts s (cell_of C name r.parts) (cell_of C name s) line) (places s) (each-places (λ to. AllByRecursion (AreAway p phases) (rows_to r.dims r.parts s (cell_of C name r.parts) (cell_of C name s) line to)) s (λ to h.
        away-map p phases (paste_row (cell_of C name r.parts) (cell_of C name s) line) (pastes_to r.dims r.parts s to)
        (each-one (IsPasteBetween r.dims r.parts s) (λ x. AreAway p phases (paste_row (cell_of C name r.parts) (cell_of C name s) line x)) (pastes_to r.dims r.parts s to) (λ x b. paste_away p C phases name r s line g f x cells laid copies t u (shut ec) (fresh ec) b) (pastes-between r.dims r.parts s to h)))))
      where
        each-one : (P Q : Paste → Type 0) (xs : List Paste) → ((x : Paste) → P x → Q x) → AllByRecursion P xs → AllByRecursion Q xs
        each-one P Q [] f h = tt
        each-one P Q (x ∷ xs) f h = (f x h.0, each-one P Q xs f h.1)

prints_away : (p : Program) (L : Lowering) (S : JobState) (name : List ℕ) (r : RootState) (line : Line) → root_of S name ≡ Some r → Begins p L → Agrees p L S → IsShut L S name → AllByRecursion (AreAway p L.phase) (deliver_rows S L.cells name line)
prints_away p L S name r line e b g shut =
    let h = g.roots name r e in
    let row = λ (place : ℕ × ℕ). deliver_row (cell_of L.cells name r.parts place) line in
    subst (AllByRecursion (AreAway p L.phase)) (sym (deliver_rows-are S L.cells name line r e))
    (away-map p L.phase row (places r.parts) (each-places (λ place. AreAway p L.phase (row place)) r.parts (λ place at. away-one p L.phase (access R (cell_of L.cells name r.parts place)) (child-away p L.cells L.phase R name r.dims r.parts h.first place b.cells g.laid g.theirs.copies h.taken at refl (λ z. shut r place e at)))))

pub operand-away : (p : Program) (L : Lowering) (S : JobState) (o : Operand (List ℕ)) → Begins p L → Agrees p L S → has_child S o ≡ true → is_redux o.mode ≡ false → IsClosed L.phase S L.cells o → IsAway p L.phase (access_of S L.cells o)
operand-away p L S o b g placed direct closed =
    let t = child_there S o placed in
    let h = g.roots o.name t.root t.is_root in
    let cell = active_cell-is S L.cells o.name o.place t.root t.is_root in
    subst (λ (c : Cell). IsAway p L.phase (access o.mode c)) (sym cell)
    (child-away p L.cells L.phase o.mode o.name t.root.dims t.root.parts h.first o.place b.cells g.laid g.theirs.copies h.taken t.placed direct (λ e. ap L.phase (sym cell) ∙ closed e))

tasks_away : (p : Program) (L : Lowering) (S : JobState) (os : List (Operand (List ℕ))) → Begins p L → Agrees p L S → list_all (has_child S) os ≡ true → list_all (λ o. is_direct o.mode) os ≡ true → AllByRecursion (IsClosed L.phase S L.cells) os → All (IsAway p L.phase) (each_of (access_of S L.cells) os)
tasks_away p L S [] b g placed direct closed = All-nil (IsAway p L.phase)
tasks_away p L S (o ∷ os) b g placed direct closed =
    let x = and_parts (has_child S o) (list_all (has_child S) os) placed in
    let y = and_parts (is_direct o.mode) (list_all (λ o. is_direct o.mode) os) direct in
    All-cons (IsAway p L.phase) (access_of S L.cells o) (each_of (access_of S L.cells) os) (operand-away p L S o b g x.0 (not-true (is_redux o.mode) y.0) closed.0) (tasks_away p L S os b g x.1 y.1 closed.1)

rows_away : (has : Kernel → Bool) (p : Program) (L : Lowering) (S : JobState) (line : Line) (a : Act (List ℕ)) → Begins p (add_own S (record { line = line; act = a }) L) → CanBe has S a → IsReady L S a → Agrees p L S → Agrees p (add_own S (record { line = line; act = a }) L) (apply a S)
    → AllByRecursion (AreAway p L.phase) (rows_added S (cells_after a L.cells) line a)
rows_away has p L S line (Registers r) b can ready g after =
    let h = registered-taken p L S line r after in
    loads_away p (cells_after (Registers r) L.cells) L.phase r line h.first r.init b.cells after.laid after.theirs.copies h.taken
    (λ place at. none_of (L.phase (cell_of (cells_after (Registers r) L.cells) r.name r.parts place)) (λ f e. let no : None ≡ Some f.by = h.reduced place f at e in absurd (cc)))
rows_away has p L S line (Plans name s) b can ready g after =
    let root = root_there (root_of S name) can.sound.rooted in
    let r = root.0 in
    let D = take name s L.cells in
    let had = g.roots name r root.1 in
    let new = planned-taken p L S line name s r root.1 after in
    let old = has-taken p L S name s r g root.1 in
    plans_away p D L.phase S name r s line old.first new.0 root.1 b.cells after.laid after.theirs.copies old.taken new.1
    (λ changed place at. ap L.phase (sym (same_child_cell L.cells D name r.dims r.dims r.parts had.first place had.taken (subst (λ f. IsTaken D name r.dims r.parts f) (same_first had old) old.taken))) ∙ ready r place root.1 at changed)
    (λ changed place at. plan-fresh p L S name s r new.0 g root.1 after.laid new.1 changed place at)
  where
    same_first : {r : RootState} (had : HasRoot p L.cells L.phase (length L.tasks) (contents_before p (length L.tasks)) name r) (old : HasRoot p (take name s L.cells) L.phase (length L.tasks) (contents_before p (length L.tasks)) name r) → old.first ≡ had.first
    same_first {r} had old = (taken-once (take name s L.cells) name r.dims r.dims r.parts old.first had.first old.taken (take-keeps L.cells name s had.taken.handle had.taken.is name r.dims r.parts had.first had.taken)).1
rows_away has p L S line (Reduces name by) b can ready g after = tt
rows_away has p L S line (Tasks t) b can ready g after = (tasks_away p L S t.operands (begins-own p S (record { line = line; act = Tasks t }) L b) g can.sound.placed ready.0 ready.1, tt)
rows_away has p L S line (Prints name) b can ready g after = let v = valued_there (root_of S name) can.sound in prints_away p L S name v.0 line v.1 (begins-own p S (record { line = line; act = Prints name }) L b) g ready
rows_away has p L S line (Invalidates name) b can ready g after = tt
rows_away has p L S line (Unregisters name) b can ready g after = tt

-- ---- one statement that contributes to nothing

pub fine_own : (has : Kernel → Bool) (T : Table) (p : Program) (L : Lowering) (S : JobState) (line : Line) (a : Act (List ℕ)) (out : List Printed) → Begins p (add_own S (record { line = line; act = a }) L) → CanBe has S a → NamesAct T S L.cells a → IsReady L S a → IsFine T p L S out
    → IsFine T p (add_own S (record { line = line; act = a }) L) (apply a S) (out ++ prints a S)
fine_own has T p L S line a out b can named ready f = record {
  agrees = after;
  good = good-more p L (add_own S (record { line = line; act = a }) L) ls refl (stands-own p S (record { line = line; act = a }) L b) (rows_good has p L S line a b can (prepared-of L S a ready) f.agrees after) f.good;
  delivered = delivered_act has T p L S line a out b can named ready f.agrees f.delivered;
  logged = log-beside p (length L.tasks) (length (L.tasks ++ ls)) L.phase ls (length-append L.tasks ls) (stands-own p S (record { line = line; act = a }) L b) (rows_away has p L S line a b can ready f.agrees after) f.logged;
}
  where
    ls : List Lowered
    ls = rows_added S (cells_after a L.cells) line a

    after : Agrees p (add_own S (record { line = line; act = a }) L) (apply a S)
    after = agrees_act has p L S line a b can.sound (prepared-of L S a ready) f.agrees
