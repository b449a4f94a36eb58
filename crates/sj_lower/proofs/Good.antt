-- Each lowered task is as a proper program has it.
use Rattle.sj_lower.proofs.Words.{[], Access, access, access_of, AllByRecursion, AllPairs, ap, area, arith, array, BeginOnce, Bool, bytes_eq, Cell, cell_info, Cells, child, child_dims, clashes, combine_of, combine_row, Commute, commutes_in, commutes_of, cond, Contents, copy_of, count_by, Deliver, deliver_row, Dims, dims_of, each_of, element, false, fill_row, Fits, fits, FitsCodelet, flat_map, Formal, FormalR, FormalRW, formals_of, FormalScratch, FormalW, gives_value, has_child, has_child_values, HasValueBefore, init_of, init_row, inl, inr, int_le, is_aliased, is_commute, is_first, is_lawful, is_output, is_read_only, is_redux, is_scratch, is_some, is_unordered, is_written, IsPasteBetween, IsPlace, IsPlain, IsSoundTask, IsUnaliased, JobState, Kernel, kernel_of, Least, length, Line, List, list_all, list_any, Load, load_row, LoadFill, Lowered, MayHaveModes, Mode, mode_fits, mode_of, modes_fit, needs_value, None, not, Operand, Option, own_task, Parts, Paste, paste_arguments, paste_copy, paste_row, PasteKernel, pastes_to, Plus, pos, Program, R, reads_value, Rect, rect_dims, Reduction, Redux, refl, root_of, RootState, RW, same_cell, same_child_place, Scratch, Some, subst, sym, task, task_of, task_row, TaskLine, true, W, window, Worker, written_of, ℕ, ℤ, ◌&&◌, ◌++◌, ◌+◌, ◌<◌, ◌∙◌, ◌∷◌, ◌≡◌, ◌≤◌}
use Rattle.std.specs.Prelude.{◌||◌}
use Rattle.std.proofs.lemmas.{Bool.and_from, Bool.and_parts, Bool.cases_lt, Bool.false≢true, Bool.le-leb, Bool.not-true, Bool.or_parts, Bool.Decides.Decides-eqb, List.Elements.All-cons, List.Elements.All-nil, List.Kept.AllPairs-cons, List.Kept.AllPairs-filter, List.Sums.sum_by-cons}
use Rattle.std.specs.List.{All}
use Rattle.sj_base.proofs.{Bools.implied, Bools.or_first, Numbers.length_more, Numbers.none_more, SameIds.same_cell-is, Tables.length-table}
use Rattle.sj_core.proofs.{Modes.commutes_is_written, Reduction.read-is}
use Rattle.sj_plan.proofs.Repartitioning.{same_child_place-refl}
use Rattle.sj_lower.proofs.{Adding.same-itself, Combined.Phases, Folding.later, Folding.Stand, Folding.stand-append, Holding.cell-dims, Holding.HasCells, Holding.HaveRoots, Laid.AreLaid, Laid.bytes_eq-itself, Laid.cell-inside, Laid.cells-apart, Laid.IsTaken, Operands.Contributes, Operands.IsRead, Pasting.GoesTo, Pasting.paste-gives, Pasting.pastes-begin, Pasting.pastes-between, Pasting.pastes-go, Running.active_cell-is, Running.child_dims-are, Running.child_there, Running.child_values-are, Running.is_direct, Running.kernel_there, Running.operand_cell}
use Rattle.sj_meaning.proofs.Giving.{written_as}

-- where the access is a contribution, its cell has partial copies, and each has a value
abbrev pub HasItsCopies : Program → ℕ → Access → Type 0
HasItsCopies p n a = is_redux a.mode ≡ true → (is_some (cell_info p a.cell).partials ≡ true) × ((w : Worker) → w.0 < p.workers → HasValueBefore p (task n) (copy_of p a.cell w))

-- a task of the program is one that it may have at that number
pub record IsGood (p : Program) (n : ℕ) (l : Lowered) : Type 0 where
  pub cells : All (λ a. a.cell.0 < length p.cells) l.accesses
  pub fits : FitsCodelet p l
  pub unaliased : IsUnaliased l
  pub values : All (λ a. reads_value a.mode ≡ true → HasValueBefore p (task n) a.cell) l.accesses
  pub copies : All (HasItsCopies p n) l.accesses
  pub plain : kernel_of l.codelet ≡ Some Deliver → All (λ a. IsPlain p a.cell) l.accesses

-- ---- tasks one after another

-- each of the tasks may stand in the program, from number n on
abbrev pub AreGood : Program → ℕ → List Lowered → Type 0
AreGood p n [] = Unit {0}
AreGood p n (l ∷ ls) = IsGood p n l × AreGood p (n + 1) ls

pub good-later : (p : Program) (m n : ℕ) (l : Lowered) → m ≤ n → IsGood p m l → IsGood p n l
good-later p m n l h g = record {
  cells = g.cells;
  fits = g.fits;
  unaliased = g.unaliased;
  values = λ k d inside e. later p m n _ h (g.values k d inside e);
  copies = λ k d inside e. (let c = g.copies k d inside e in (c.0, λ w below. later p m n _ h (c.1 w below)));
  plain = g.plain;
}

-- tasks that all may stand at the first number
good-each : (p : Program) (m n : ℕ) (ls : List Lowered) → m ≤ n → AllByRecursion (IsGood p m) ls → AreGood p n ls
good-each p m n [] h g = tt
good-each p m n (l ∷ ls) h g = (good-later p m n l h g.0, good-each p m (n + 1) ls (omega arith) g.1)

pub good-all : (p : Program) (n : ℕ) (ls : List Lowered) → AllByRecursion (IsGood p n) ls → AreGood p n ls
good-all p n ls g = good-each p n n ls (omega arith) g

pub good-append : (p : Program) (n : ℕ) (xs ys : List Lowered) → AreGood p n xs → AreGood p (n + length xs) ys → AreGood p n (xs ++ ys)
good-append p n [] ys g h = subst (λ (m : ℕ). AreGood p m ys) (none_more n) h
good-append p n (x ∷ xs) ys g h = (g.0, good-append p (n + 1) xs ys g.1 (subst (λ (m : ℕ). AreGood p m ys) (sym (length_more n x xs)) h))

-- blocks of tasks, each of which is good where it stands
pub good-blocks : {X : Type 0} (p : Program) (n m : ℕ) (rows : X → List Lowered) (xs : List X) → n ≤ m → AllByRecursion (λ x. (k : ℕ) → n ≤ k → Stand p k (rows x) → AreGood p k (rows x)) xs → Stand p m (flat_map rows xs) → AreGood p m (flat_map rows xs)
good-blocks p n m rows [] h g s = tt
good-blocks p n m rows (x ∷ xs) h g s =
    let both = stand-append p m (rows x) (flat_map rows xs) s in
    good-append p m (rows x) (flat_map rows xs) (g.0 m h both.0) (good-blocks p n (m + length (rows x)) rows xs (omega arith) g.1 both.1)

-- the task of a number among them is good
pub good-at : (p : Program) (n : ℕ) (ls : List Lowered) (i : ℕ) → AreGood p n ls → Stand p n ls → n ≤ i → i < n + length ls → IsGood p i (task_of p (task i))
good-at p n [] i g s lo hi = absurd (omega arith)
good-at p n (l ∷ ls) i g s lo hi =
    elim (cases_lt n i) [
      | inl later ↦ good-at p (n + 1) ls i g.1 s.2 (omega arith) (omega arith)
      | inr past ↦ (let here : n ≡ i = omega arith in subst (λ (m : ℕ). IsGood p m (task_of p (task m))) here (subst (λ (k : Lowered). IsGood p n k) (sym s.0) g.0))
    ]

-- ---- tasks of the runtime's own

one_alone : {X : Type 0} (P : X → Type 0) (x : X) → P x → All P (x ∷ [])
one_alone P x h = All-cons P x [] h (All-nil P)

both_alone : {X : Type 0} (P : X → Type 0) (x y : X) → P x → P y → All P (x ∷ y ∷ [])
both_alone P x y h k = All-cons P x (y ∷ []) h (one_alone P y k)

alone : {X : Type 0} (P : X → X → Type 0) (x : X) → AllPairs P (x ∷ [])
alone P x i j d h k = absurd (omega arith)

pair_alone : {X : Type 0} (P : X → X → Type 0) (x y : X) → P x y → AllPairs P (x ∷ y ∷ [])
pair_alone P x y h = AllPairs-cons P x (y ∷ []) (one_alone (P x) y h) (alone P y)

pub good_load : (p : Program) (n : ℕ) (xs : List ℤ) (d : Dims) (r : Rect) (c : Cell) (line : Line) → c.0 < length p.cells → dims_of p c ≡ rect_dims r → IsGood p n (load_row xs d r c line)
good_load p n xs d r c line inside e =
    let a = array d xs in
    let args = (window a r).elements in
    let many : length args ≡ area (dims_of p c) = length-table (rect_dims r) (λ i j. element a (r.row + i) (r.col + j)) ∙ ap area (sym e) in
    record {
      cells = one_alone (λ (a : Access). a.cell.0 < length p.cells) (access W c) inside;
      copies = one_alone (HasItsCopies p n) (access W c) (λ h. absurd (false≢true h));
      plain = λ e. absurd (cc);
      fits = record { kernel = Load; codelet = refl; operands = ap (λ b. (true && b) && true) ((Decides-eqb (length args) (area (dims_of p c))).1 many); modes = MayHaveModes.Own refl };
      unaliased = alone (λ (a b : Access). same_cell a.cell b.cell ≡ true → (a.mode ≡ R) × (b.mode ≡ R)) (access W c);
      values = one_alone (λ (a : Access). reads_value a.mode ≡ true → HasValueBefore p (task n) a.cell) (access W c) (λ h. absurd (false≢true h));
    }

pub good_fill : (p : Program) (n : ℕ) (a b : ℤ) (d : Dims) (r : Rect) (x : Cell) (line : Line) → x.0 < length p.cells → IsGood p n (fill_row a b d r x line)
good_fill p n a b d r x line inside = record {
  cells = one_alone (λ (a : Access). a.cell.0 < length p.cells) (access W x) inside;
  copies = one_alone (HasItsCopies p n) (access W x) (λ h. absurd (false≢true h));
  plain = λ e. absurd (cc);
  fits = record { kernel = LoadFill; codelet = refl; operands = refl; modes = MayHaveModes.Own refl };
  unaliased = alone (λ (a b : Access). same_cell a.cell b.cell ≡ true → (a.mode ≡ R) × (b.mode ≡ R)) (access W x);
  values = one_alone (λ (a : Access). reads_value a.mode ≡ true → HasValueBefore p (task n) a.cell) (access W x) (λ h. absurd (false≢true h));
}

pub good_deliver : (p : Program) (n : ℕ) (c : Cell) (line : Line) → c.0 < length p.cells → IsPlain p c → HasValueBefore p (task n) c → IsGood p n (deliver_row c line)
good_deliver p n c line inside bare given = record {
  cells = one_alone (λ (a : Access). a.cell.0 < length p.cells) (access R c) inside;
  copies = one_alone (HasItsCopies p n) (access R c) (λ h. absurd (false≢true h));
  plain = λ e. one_alone (λ (a : Access). IsPlain p a.cell) (access R c) bare;
  fits = record { kernel = Deliver; codelet = refl; operands = refl; modes = MayHaveModes.Own refl };
  unaliased = alone (λ (a b : Access). same_cell a.cell b.cell ≡ true → (a.mode ≡ R) × (b.mode ≡ R)) (access R c);
  values = one_alone (λ (a : Access). reads_value a.mode ≡ true → HasValueBefore p (task n) a.cell) (access R c) (λ h. given);
}

-- ---- pastes

-- numbers of rows and columns are no negative arguments
counts_pass : (a b c d e f : ℕ) → list_all (int_le (pos 0)) (pos a ∷ pos b ∷ pos c ∷ pos d ∷ pos e ∷ pos f ∷ []) ≡ true
counts_pass a b c d e f = and_from _ _ (le-leb 0 a (omega arith)) (and_from _ _ (le-leb 0 b (omega arith)) (and_from _ _ (le-leb 0 c (omega arith)) (and_from _ _ (le-leb 0 d (omega arith)) (and_from _ _ (le-leb 0 e (omega arith)) (and_from _ _ (le-leb 0 f (omega arith)) refl)))))

paste_fits : (d : Dims) (s t : Parts) (x : Paste) (o w : Dims) → IsPasteBetween d s t x → o ≡ rect_dims (child d s x.from) → w ≡ rect_dims (child d t x.to) → fits PasteKernel (paste_arguments x) (o ∷ w ∷ []) ≡ true
paste_fits d s t x o w h eo ew =
    ap (λ (o : Dims). fits PasteKernel (paste_arguments x) (o ∷ w ∷ [])) eo ∙ ap (λ (w : Dims). fits PasteKernel (paste_arguments x) (rect_dims (child d s x.from) ∷ w ∷ [])) ew
    ∙ and_from _ _ (and_from _ _ (counts_pass x.at_from.0 x.at_from.1 x.at_to.0 x.at_to.1 x.rows x.cols) (and_from _ _ (le-leb _ _ h.in_old.0) (le-leb _ _ h.in_old.1))) (and_from _ _ (le-leb _ _ h.in_new.0) (le-leb _ _ h.in_new.1))

-- a paste from one cell into another, which has a value unless this is the first paste to it
good_by : (p : Program) (n : ℕ) (x : Paste) (c e : Cell) (line : Line) (b : Bool) → c.0 < length p.cells → e.0 < length p.cells → same_cell c e ≡ false → fits PasteKernel (paste_arguments x) (dims_of p c ∷ dims_of p e ∷ []) ≡ true
    → HasValueBefore p (task n) c → (b ≡ false → HasValueBefore p (task n) e) → IsGood p n (own_task PasteKernel (paste_arguments x) (access R c ∷ access (cond b W RW) e ∷ []) line)
good_by p n x c e line true ic ie apart fit given had = record {
  cells = both_alone (λ (a : Access). a.cell.0 < length p.cells) (access R c) (access W e) ic ie;
  copies = both_alone (HasItsCopies p n) (access R c) (access W e) (λ h. absurd (false≢true h)) (λ h. absurd (false≢true h));
  plain = λ e. absurd (cc);
  fits = record { kernel = PasteKernel; codelet = refl; operands = fit; modes = MayHaveModes.FirstPaste refl refl };
  unaliased = pair_alone (λ (a b : Access). same_cell a.cell b.cell ≡ true → (a.mode ≡ R) × (b.mode ≡ R)) (access R c) (access W e) (λ same. absurd (false≢true (sym apart ∙ same)));
  values = both_alone (λ (a : Access). reads_value a.mode ≡ true → HasValueBefore p (task n) a.cell) (access R c) (access W e) (λ h. given) (λ h. absurd (false≢true h));
}
good_by p n x c e line false ic ie apart fit given had = record {
  cells = both_alone (λ (a : Access). a.cell.0 < length p.cells) (access R c) (access RW e) ic ie;
  copies = both_alone (HasItsCopies p n) (access R c) (access RW e) (λ h. absurd (false≢true h)) (λ h. absurd (false≢true h));
  plain = λ e. absurd (cc);
  fits = record { kernel = PasteKernel; codelet = refl; operands = fit; modes = MayHaveModes.Own refl };
  unaliased = pair_alone (λ (a b : Access). same_cell a.cell b.cell ≡ true → (a.mode ≡ R) × (b.mode ≡ R)) (access R c) (access RW e) (λ same. absurd (false≢true (sym apart ∙ same)));
  values = both_alone (λ (a : Access). reads_value a.mode ≡ true → HasValueBefore p (task n) a.cell) (access R c) (access RW e) (λ h. given) (λ h. had refl);
}

-- what pastes between these cells stand on
pub record CanPaste (p : Program) (n : ℕ) (d : Dims) (s t : Parts) (old new : ℕ × ℕ → Cell) : Type 0 where
  pub from_inside : (from : ℕ × ℕ) → IsPlace s from → (old from).0 < length p.cells
  pub to_inside : (to : ℕ × ℕ) → IsPlace t to → (new to).0 < length p.cells
  pub from_dims : (from : ℕ × ℕ) → IsPlace s from → dims_of p (old from) ≡ rect_dims (child d s from)
  pub to_dims : (to : ℕ × ℕ) → IsPlace t to → dims_of p (new to) ≡ rect_dims (child d t to)
  pub apart : (from to : ℕ × ℕ) → IsPlace s from → IsPlace t to → same_cell (old from) (new to) ≡ false
  pub given : (from : ℕ × ℕ) → IsPlace s from → HasValueBefore p (task n) (old from)

good_paste : (p : Program) (n m : ℕ) (d : Dims) (s t : Parts) (old new : ℕ × ℕ → Cell) (line : Line) (x : Paste) → CanPaste p n d s t old new → n ≤ m → IsPasteBetween d s t x → (is_first x ≡ false → HasValueBefore p (task m) (new x.to)) → IsGood p m (paste_row old new line x)
good_paste p n m d s t old new line x can h b had =
    good_by p m x (old x.from) (new x.to) line (is_first x) (can.from_inside x.from b.from) (can.to_inside x.to b.to) (can.apart x.from x.to b.from b.to)
    (paste_fits d s t x (dims_of p (old x.from)) (dims_of p (new x.to)) b (can.from_dims x.from b.from) (can.to_dims x.to b.to)) (later p n m (old x.from) h (can.given x.from b.from)) had

-- further pastes to a child that has a value
good_further : (p : Program) (n m : ℕ) (d : Dims) (s t : Parts) (old new : ℕ × ℕ → Cell) (line : Line) (to : ℕ × ℕ) (xs : List Paste) → CanPaste p n d s t old new → n ≤ m → AllByRecursion (IsPasteBetween d s t) xs → AllByRecursion (GoesTo s to) xs → HasValueBefore p (task m) (new to) → AllByRecursion (IsGood p m) (each_of (paste_row old new line) xs)
good_further p n m d s t old new line to [] can h bs gs had = tt
good_further p n m d s t old new line to (x ∷ xs) can h bs gs had =
    (good_paste p n m d s t old new line x can h bs.0 (λ e. subst (λ (q : ℕ × ℕ). HasValueBefore p (task m) (new q)) (sym gs.0.1) had), good_further p n m d s t old new line to xs can h bs.1 gs.1 had)

-- all pastes to a child, of which the first gives it a value
good_first : (p : Program) (n m : ℕ) (d : Dims) (s t : Parts) (old new : ℕ × ℕ → Cell) (line : Line) (to : ℕ × ℕ) (xs : List Paste) → CanPaste p n d s t old new → n ≤ m → AllByRecursion (IsPasteBetween d s t) xs → AllByRecursion (GoesTo s to) xs → BeginOnce (each_of paste_copy xs)
    → Stand p m (each_of (paste_row old new line) xs) → AreGood p m (each_of (paste_row old new line) xs)
good_first p n m d s t old new line to [] can h bs gs once stand = tt
good_first p n m d s t old new line to (x ∷ xs) can h bs gs once stand =
    let gives : HasValueBefore p (task (m + 1)) (new to) = (task m, omega arith, ap (λ (l : Lowered). gives_value l (new to)) stand.0 ∙ ap (λ (q : ℕ × ℕ). gives_value (paste_row old new line x) (new q)) (sym gs.0.1) ∙ paste-gives old new line x) in
    (good_paste p n m d s t old new line x can h bs.0 (λ e. absurd (false≢true (sym e ∙ once.0))), good-all p (m + 1) (each_of (paste_row old new line) xs) (good_further p n (m + 1) d s t old new line to xs can (omega arith) bs.1 gs.1 gives))

pub good_pastes_to : (p : Program) (n m : ℕ) (d : Dims) (s t : Parts) (old new : ℕ × ℕ → Cell) (line : Line) (to : ℕ × ℕ) → CanPaste p n d s t old new → Fits s d → Fits t d → IsPlace t to → n ≤ m
    → Stand p m (each_of (paste_row old new line) (pastes_to d s t to)) → AreGood p m (each_of (paste_row old new line) (pastes_to d s t to))
good_pastes_to p n m d s t old new line to can fs ft at h stand =
    good_first p n m d s t old new line to (pastes_to d s t to) can h (pastes-between d s t to at) (pastes-go d s t to) (pastes-begin d s t to fs ft at) stand

-- ---- tasks of task lines

reading_needs : (m : Mode) → is_direct m ≡ true → reads_value m ≡ true → needs_value m ≡ true
reading_needs R h e = refl
reading_needs W h e = e
reading_needs RW h e = refl
reading_needs Scratch h e = e
reading_needs Redux h e = absurd (false≢true h)
reading_needs Commute h e = refl

-- each root has taken its active plan
abbrev pub HavePlans : Cells → JobState → Type 0
HavePlans C S = (q : List ℕ) (r : RootState) → root_of S q ≡ Some r → (f : ℕ) × IsTaken C q r.dims r.parts f

pub plans-of : (p : Program) (C : Cells) (phases : Phases) (n : ℕ) (k : Contents) (S : JobState) → HaveRoots p C phases n k S → HavePlans C S
plans-of p C phases n k S has q r e = let b = has q r e in (b.first, b.taken)

-- the operands' cells are there
all_inside : (p : Program) (C : Cells) (S : JobState) (os : List (Operand (List ℕ))) → HasCells p C → AreLaid C → HavePlans C S → list_all (has_child S) os ≡ true → All (λ (a : Access). a.cell.0 < length p.cells) (each_of (access_of S C) os)
all_inside p C S [] cells laid has placed = All-nil (λ (a : Access). a.cell.0 < length p.cells)
all_inside p C S (o ∷ os) cells laid has placed =
    let b = and_parts (has_child S o) (list_all (has_child S) os) placed in
    let t = child_there S o b.0 in
    let r = has o.name t.root t.is_root in
    let cell = ap (λ (c : Cell). c.0) (active_cell-is S C o.name o.place t.root t.is_root) in
    All-cons (λ (a : Access). a.cell.0 < length p.cells) (access_of S C o) (each_of (access_of S C) os) (omega (arith, cell, cell-inside C o.name t.root.dims t.root.parts r.0 o.place laid r.1 t.placed, cells.longer)) (all_inside p C S os cells laid has b.1)

pub all_given : (p : Program) (C : Cells) (phases : Phases) (S : JobState) (n : ℕ) (k : Contents) (os : List (Operand (List ℕ))) → HaveRoots p C phases n k S → list_all (λ o. is_direct o.mode) os ≡ true → list_all (has_child S) os ≡ true → list_all (λ o. not (needs_value o.mode) || has_child_values S o) os ≡ true → All (λ (a : Access). reads_value a.mode ≡ true → HasValueBefore p (task n) a.cell) (each_of (access_of S C) os)
all_given p C phases S n k [] has h placed valued = All-nil (λ (a : Access). reads_value a.mode ≡ true → HasValueBefore p (task n) a.cell)
all_given p C phases S n k (o ∷ os) has h placed valued =
    let a = and_parts (is_direct o.mode) (list_all (λ o. is_direct o.mode) os) h in
    let b = and_parts (has_child S o) (list_all (has_child S) os) placed in
    let c = and_parts (not (needs_value o.mode) || has_child_values S o) (list_all (λ o. not (needs_value o.mode) || has_child_values S o) os) valued in
    let t = child_there S o b.0 in
    let r = has o.name t.root t.is_root in
    All-cons (λ (a : Access). reads_value a.mode ≡ true → HasValueBefore p (task n) a.cell) (access_of S C o) (each_of (access_of S C) os)
    (λ e. subst (λ (c : Cell). HasValueBefore p (task n) c) (sym (active_cell-is S C o.name o.place t.root t.is_root))
    (r.held o.place t.placed (sym (child_values-are S o t.root t.is_root) ∙ implied (needs_value o.mode) (has_child_values S o) c.0 (reading_needs o.mode a.0 e))).given)
    (all_given p C phases S n k os has a.1 b.1 c.1)

-- operands of which none is a contribution
pub no_copies : (p : Program) (S : JobState) (C : Cells) (n : ℕ) (os : List (Operand (List ℕ))) → list_all (λ o. is_direct o.mode) os ≡ true → All (HasItsCopies p n) (each_of (access_of S C) os)
no_copies p S C n [] h = All-nil (HasItsCopies p n)
no_copies p S C n (o ∷ os) h =
    let a = and_parts (is_direct o.mode) (list_all (λ o. is_direct o.mode) os) h in
    All-cons (HasItsCopies p n) (access_of S C o) (each_of (access_of S C) os) (λ e. absurd (false≢true (sym (ap not e) ∙ a.0))) (no_copies p S C n os a.1)

-- two operands on one cell only read it
abbrev ReadOnly : Access → Access → Type 0
ReadOnly a b = same_cell a.cell b.cell ≡ true → (a.mode ≡ R) × (b.mode ≡ R)

no_clash : (a b c d : Bool) → (a && b && not (c && d)) ≡ false → a ≡ true → b ≡ true → (c ≡ true) × (d ≡ true)
no_clash true true true true e h k = (refl, refl)
no_clash true true true false e h k = absurd (false≢true (sym e))
no_clash true true false d e h k = absurd (false≢true (sym e))
no_clash true false c d e h k = absurd (false≢true k)
no_clash false b c d e h k = absurd (false≢true h)

pair_reads : (C : Cells) (S : JobState) (o q : Operand (List ℕ)) → AreLaid C → HavePlans C S → has_child S o ≡ true → has_child S q ≡ true → clashes o q ≡ false → ReadOnly (access_of S C o) (access_of S C q)
pair_reads C S o q laid has ho hq e same =
    let t = child_there S o ho in
    let u = child_there S q hq in
    let r = has o.name t.root t.is_root in
    let s = has q.name u.root u.is_root in
    let cells = sym (active_cell-is S C o.name o.place t.root t.is_root) ∙ same_cell-is (operand_cell S C o) (operand_cell S C q) same ∙ active_cell-is S C q.name q.place u.root u.is_root in
    let one = cells-apart C o.name q.name t.root.dims u.root.dims t.root.parts u.root.parts r.0 s.0 o.place q.place laid r.1 s.1 t.placed u.placed cells in
    let reads = no_clash (bytes_eq o.name q.name) (same_child_place o.place q.place) (is_read_only o.mode) (is_read_only q.mode) e (ap (bytes_eq o.name) (sym one.0) ∙ bytes_eq-itself o.name) (ap (same_child_place o.place) (sym one.2) ∙ same_child_place-refl o.place) in
    (read-is o.mode reads.0, read-is q.mode reads.1)

none_clash : (C : Cells) (S : JobState) (o : Operand (List ℕ)) (os : List (Operand (List ℕ))) → AreLaid C → HavePlans C S → has_child S o ≡ true → list_all (has_child S) os ≡ true → list_any (clashes o) os ≡ false → All (ReadOnly (access_of S C o)) (each_of (access_of S C) os)
none_clash C S o [] laid has ho placed e = All-nil (ReadOnly (access_of S C o))
none_clash C S o (q ∷ os) laid has ho placed e =
    let b = and_parts (has_child S q) (list_all (has_child S) os) placed in
    let c = or_parts (clashes o q) (list_any (clashes o) os) e in
    All-cons (ReadOnly (access_of S C o)) (access_of S C q) (each_of (access_of S C) os) (pair_reads C S o q laid has ho b.0 c.0) (none_clash C S o os laid has ho b.1 c.1)

all_apart : (C : Cells) (S : JobState) (os : List (Operand (List ℕ))) → AreLaid C → HavePlans C S → list_all (has_child S) os ≡ true → is_aliased os ≡ false → AllPairs ReadOnly (each_of (access_of S C) os)
all_apart C S [] laid has placed e = λ i j d h k. absurd (omega arith)
all_apart C S (o ∷ os) laid has placed e =
    let b = and_parts (has_child S o) (list_all (has_child S) os) placed in
    let c = or_parts (list_any (clashes o) os) (is_aliased os) e in
    AllPairs-cons ReadOnly (access_of S C o) (each_of (access_of S C) os) (none_clash C S o os laid has b.0 b.1 c.0) (all_apart C S os laid has b.1 c.1)

all_dims_are : (p : Program) (C : Cells) (S : JobState) (os : List (Operand (List ℕ))) → HasCells p C → AreLaid C → HavePlans C S → list_all (has_child S) os ≡ true → each_of (λ (a : Access). dims_of p a.cell) (each_of (access_of S C) os) ≡ each_of (child_dims S) os
all_dims_are p C S [] cells laid has placed = refl
all_dims_are p C S (o ∷ os) cells laid has placed =
    let b = and_parts (has_child S o) (list_all (has_child S) os) placed in
    let t = child_there S o b.0 in
    let r = has o.name t.root t.is_root in
    ap (λ (d : Dims). d ∷ each_of (λ (a : Access). dims_of p a.cell) (each_of (access_of S C) os)) (ap (dims_of p) (active_cell-is S C o.name o.place t.root t.is_root) ∙ cell-dims p C o.name t.root.dims t.root.parts r.0 o.place cells laid r.1 t.placed ∙ sym (child_dims-are S o t.root t.is_root))
    ∙ ap (λ (ds : List Dims). child_dims S o ∷ ds) (all_dims_are p C S os cells laid has b.1)

modes_of_accesses : (S : JobState) (C : Cells) (os : List (Operand (List ℕ))) → each_of (λ (a : Access). a.mode) (each_of (access_of S C) os) ≡ each_of (λ (o : Operand (List ℕ)). o.mode) os
modes_of_accesses S C [] = refl
modes_of_accesses S C (o ∷ os) = ap (λ (ms : List Mode). o.mode ∷ ms) (modes_of_accesses S C os)

-- ---- modes of task lines

-- what is written has this mode
abbrev pub WritesAs : Mode → Operand (List ℕ) → Type 0
WritesAs x o = is_written o.mode ≡ true → o.mode ≡ x

-- a mode is the codelet's own, with another for what is written
mode-with : (x : Mode) (f : Formal) (m : Mode) → mode_fits f m ≡ true → (is_written m ≡ true → m ≡ x) → m ≡ cond (is_written (mode_of f)) x (mode_of f)
mode-with x FormalR R e h = refl
mode-with x FormalR W e h = absurd (cc)
mode-with x FormalR RW e h = absurd (cc)
mode-with x FormalR Scratch e h = absurd (cc)
mode-with x FormalR Redux e h = absurd (cc)
mode-with x FormalR Commute e h = absurd (cc)
mode-with x FormalW R e h = absurd (cc)
mode-with x FormalW W e h = h refl
mode-with x FormalW RW e h = absurd (cc)
mode-with x FormalW Scratch e h = absurd (cc)
mode-with x FormalW Redux e h = h refl
mode-with x FormalW Commute e h = h refl
mode-with x FormalRW R e h = absurd (cc)
mode-with x FormalRW W e h = absurd (cc)
mode-with x FormalRW RW e h = h refl
mode-with x FormalRW Scratch e h = absurd (cc)
mode-with x FormalRW Redux e h = h refl
mode-with x FormalRW Commute e h = h refl
mode-with x FormalScratch R e h = absurd (cc)
mode-with x FormalScratch W e h = absurd (cc)
mode-with x FormalScratch RW e h = absurd (cc)
mode-with x FormalScratch Scratch e h = refl
mode-with x FormalScratch Redux e h = absurd (cc)
mode-with x FormalScratch Commute e h = absurd (cc)

modes-with : (x : Mode) (fs : List Formal) (os : List (Operand (List ℕ))) → modes_fit fs os ≡ true → length os ≡ length fs → AllByRecursion (WritesAs x) os → each_of (λ (o : Operand (List ℕ)). o.mode) os ≡ each_of (λ m. cond (is_written m) x m) (each_of mode_of fs)
modes-with x [] [] e l h = refl
modes-with x [] (o ∷ os) e l h = absurd (omega arith)
modes-with x (f ∷ fs) [] e l h = absurd (omega arith)
modes-with x (f ∷ fs) (o ∷ os) e l h =
    let m = and_parts (mode_fits f o.mode) (modes_fit fs os) e in
    ap (λ (y : Mode). y ∷ each_of (λ (o : Operand (List ℕ)). o.mode) os) (mode-with x f o.mode m.0 h.0) ∙ ap (λ (ys : List Mode). cond (is_written (mode_of f)) x (mode_of f) ∷ ys) (modes-with x fs os m.1 (omega (arith, l)) h.1)

-- a mode of an operand that neither contributes nor commutes is the codelet's own
mode-own : (f : Formal) (m : Mode) → mode_fits f m ≡ true → is_redux m ≡ false → is_commute m ≡ false → m ≡ mode_of f
mode-own FormalR R e h c = refl
mode-own FormalR W e h c = absurd (cc)
mode-own FormalR RW e h c = absurd (cc)
mode-own FormalR Scratch e h c = absurd (cc)
mode-own FormalR Redux e h c = absurd (cc)
mode-own FormalR Commute e h c = absurd (cc)
mode-own FormalW R e h c = absurd (cc)
mode-own FormalW W e h c = refl
mode-own FormalW RW e h c = absurd (cc)
mode-own FormalW Scratch e h c = absurd (cc)
mode-own FormalW Redux e h c = absurd (cc)
mode-own FormalW Commute e h c = absurd (cc)
mode-own FormalRW R e h c = absurd (cc)
mode-own FormalRW W e h c = absurd (cc)
mode-own FormalRW RW e h c = refl
mode-own FormalRW Scratch e h c = absurd (cc)
mode-own FormalRW Redux e h c = absurd (cc)
mode-own FormalRW Commute e h c = absurd (cc)
mode-own FormalScratch R e h c = absurd (cc)
mode-own FormalScratch W e h c = absurd (cc)
mode-own FormalScratch RW e h c = absurd (cc)
mode-own FormalScratch Scratch e h c = refl
mode-own FormalScratch Redux e h c = absurd (cc)
mode-own FormalScratch Commute e h c = absurd (cc)

modes-own : (fs : List Formal) (os : List (Operand (List ℕ))) → modes_fit fs os ≡ true → length os ≡ length fs → list_all (λ o. is_direct o.mode) os ≡ true → list_any (λ o. is_commute o.mode) os ≡ false → each_of (λ (o : Operand (List ℕ)). o.mode) os ≡ each_of mode_of fs
modes-own [] [] e l d c = refl
modes-own [] (o ∷ os) e l d c = absurd (omega arith)
modes-own (f ∷ fs) [] e l d c = absurd (omega arith)
modes-own (f ∷ fs) (o ∷ os) e l d c =
    let m = and_parts (mode_fits f o.mode) (modes_fit fs os) e in
    let n = and_parts (is_direct o.mode) (list_all (λ o. is_direct o.mode) os) d in
    let k = or_parts (is_commute o.mode) (list_any (λ o. is_commute o.mode) os) c in
    ap (λ (x : Mode). x ∷ each_of (λ (o : Operand (List ℕ)). o.mode) os) (mode-own f o.mode m.0 (not-true (is_redux o.mode) n.0) k.0) ∙ ap (λ (xs : List Mode). mode_of f ∷ xs) (modes-own fs os m.1 (omega (arith, l)) n.1 k.1)

-- as many formals are outputs as operands are written
outputs-count : (fs : List Formal) (os : List (Operand (List ℕ))) → modes_fit fs os ≡ true → length os ≡ length fs → count_by is_written (each_of mode_of fs) ≡ length (written_of os)
outputs-count [] [] e l = refl
outputs-count [] (o ∷ os) e l = absurd (omega arith)
outputs-count (f ∷ fs) [] e l = absurd (omega arith)
outputs-count (f ∷ fs) (o ∷ os) e l =
    let m = and_parts (mode_fits f o.mode) (modes_fit fs os) e in
    sum_by-cons (λ y. cond (is_written y) 1 0) (mode_of f) (each_of mode_of fs)
    ∙ by_test (is_written (mode_of f)) (is_written o.mode) (same f o.mode m.0) (outputs-count fs os m.1 (omega (arith, l)))
  where
    same : (f : Formal) (m : Mode) → mode_fits f m ≡ true → is_written (mode_of f) ≡ is_written m
    same f m e = same_formal f ∙ sym (written_as f m e)
      where
        same_formal : (f : Formal) → is_written (mode_of f) ≡ is_output f
        same_formal FormalR = refl
        same_formal FormalW = refl
        same_formal FormalRW = refl
        same_formal FormalScratch = refl

    by_test : (b c : Bool) → b ≡ c → count_by is_written (each_of mode_of fs) ≡ length (written_of os) → cond b 1 0 + count_by is_written (each_of mode_of fs) ≡ length (cond c (o ∷ written_of os) (written_of os))
    by_test true true e rest = omega (arith, rest)
    by_test false false e rest = omega (arith, rest)
    by_test true false e rest = absurd (false≢true (sym e))
    by_test false true e rest = absurd (false≢true e)

is-commute : (m : Mode) → is_commute m ≡ true → m ≡ Commute
is-commute R e = absurd (false≢true e)
is-commute W e = absurd (false≢true e)
is-commute RW e = absurd (false≢true e)
is-commute Scratch e = absurd (false≢true e)
is-commute Redux e = absurd (false≢true e)
is-commute Commute e = refl

none-writes : (x : Mode) (os : List (Operand (List ℕ))) → length (written_of os) ≡ 0 → AllByRecursion (WritesAs x) os × (list_any (λ o. is_commute o.mode) os ≡ false)
none-writes x [] e = (tt, refl)
none-writes x (o ∷ os) e = by_test (is_written o.mode) refl e (none-writes x os)
  where
    by_test : (b : Bool) → is_written o.mode ≡ b → length (cond b (o ∷ written_of os) (written_of os)) ≡ 0 → (length (written_of os) ≡ 0 → AllByRecursion (WritesAs x) os × (list_any (λ o. is_commute o.mode) os ≡ false)) → AllByRecursion (WritesAs x) (o ∷ os) × (list_any (λ o. is_commute o.mode) (o ∷ os) ≡ false)
    by_test true w e next = absurd (omega (arith, e))
    by_test false w e next =
        let rest = next e in
        ((λ h. absurd (false≢true (sym w ∙ h)), rest.0), by_commute (is_commute o.mode) refl rest.1)
      where
        by_commute : (c : Bool) → is_commute o.mode ≡ c → list_any (λ o. is_commute o.mode) os ≡ false → (c || list_any (λ o. is_commute o.mode) os) ≡ false
        by_commute true h rest = absurd (false≢true (sym w ∙ commutes_is_written o.mode h))
        by_commute false h rest = rest

-- the one operand that is written commutes
commuting-writes : (os : List (Operand (List ℕ))) → length (written_of os) ≡ 1 → list_any (λ o. is_commute o.mode) os ≡ true → AllByRecursion (WritesAs Commute) os
commuting-writes [] e any = absurd (false≢true any)
commuting-writes (o ∷ os) e any = by_test (is_written o.mode) refl e any (commuting-writes os)
  where
    by_test : (b : Bool) → is_written o.mode ≡ b → length (cond b (o ∷ written_of os) (written_of os)) ≡ 1 → (is_commute o.mode || list_any (λ o. is_commute o.mode) os) ≡ true
        → (length (written_of os) ≡ 1 → list_any (λ o. is_commute o.mode) os ≡ true → AllByRecursion (WritesAs Commute) os) → AllByRecursion (WritesAs Commute) (o ∷ os)
    by_test true w e any rest =
        let none = none-writes Commute os (omega (arith, e)) in
        (λ h. is-commute o.mode (or_first (is_commute o.mode) (list_any (λ o. is_commute o.mode) os) any none.1), none.0)
    by_test false w e any rest = (λ h. absurd (false≢true (sym w ∙ h)), rest e (second (is_commute o.mode) refl any))
      where
        second : (c : Bool) → is_commute o.mode ≡ c → (c || list_any (λ o. is_commute o.mode) os) ≡ true → list_any (λ o. is_commute o.mode) os ≡ true
        second true h e = absurd (false≢true (sym w ∙ commutes_is_written o.mode h))
        second false h e = e

-- the codelet of a commuting operand commutes
commuting-codelet : (has : Kernel → Bool) (S : JobState) (t : TaskLine (List ℕ)) (k : Kernel) → kernel_of t.codelet ≡ Some k → (os : List (Operand (List ℕ))) → list_all (is_lawful has S t.codelet) os ≡ true → list_any (λ o. is_commute o.mode) os ≡ true → commutes_of k ≡ true
commuting-codelet has S t k e [] law any = absurd (false≢true any)
commuting-codelet has S t k e (o ∷ os) law any =
    let a = and_parts (is_lawful has S t.codelet o) (list_all (is_lawful has S t.codelet) os) law in
    by_test (is_commute o.mode) any (and_parts (not (is_commute o.mode) || commutes_in has t.codelet) _ a.0).0 (commuting-codelet has S t k e os a.1)
  where
    by_codelet : commutes_in has t.codelet ≡ true → commutes_of k ≡ true
    by_codelet h = (and_parts (has k) (commutes_of k) (sym (ap (λ (o : Option Kernel). elim o as (λ _. Bool) [ None ↦ false | Some k ↦ has k && commutes_of k ]) e) ∙ h)).1

    by_test : (b : Bool) → (b || list_any (λ o. is_commute o.mode) os) ≡ true → (not b || commutes_in has t.codelet) ≡ true → (list_any (λ o. is_commute o.mode) os ≡ true → commutes_of k ≡ true) → commutes_of k ≡ true
    by_test true any h rest = by_codelet h
    by_test false any h rest = rest any

any-unordered : (os : List (Operand (List ℕ))) → list_any (λ o. is_commute o.mode) os ≡ true → list_any (λ o. is_unordered o.mode) os ≡ true
any-unordered [] e = e
any-unordered (o ∷ os) e = by_test (is_redux o.mode) (is_commute o.mode) e (any-unordered os)
  where
    by_test : (a b : Bool) → (b || list_any (λ o. is_commute o.mode) os) ≡ true → (list_any (λ o. is_commute o.mode) os ≡ true → list_any (λ o. is_unordered o.mode) os ≡ true) → ((a || b) || list_any (λ o. is_unordered o.mode) os) ≡ true
    by_test true b e rest = refl
    by_test false true e rest = refl
    by_test false false e rest = rest e

-- the modes of a task without contributions
pub direct-modes : (has : Kernel → Bool) (S : JobState) (t : TaskLine (List ℕ)) (s : IsSoundTask has S t) → list_all (λ o. is_direct o.mode) t.operands ≡ true → MayHaveModes (kernel_there has S t s).call.kernel (each_of (λ (o : Operand (List ℕ)). o.mode) t.operands)
direct-modes has S t s direct = by_test (list_any (λ o. is_commute o.mode) t.operands) refl
  where
    by_test : (b : Bool) → list_any (λ o. is_commute o.mode) t.operands ≡ b → MayHaveModes (kernel_there has S t s).call.kernel (each_of (λ (o : Operand (List ℕ)). o.mode) t.operands)
    by_test false none = let k = kernel_there has S t s in MayHaveModes.Own (modes-own (formals_of k.call.kernel) t.operands k.modes k.count direct none)
    by_test true any =
        let k = kernel_there has S t s in
        let one = s.alone (any-unordered t.operands any) in
        MayHaveModes.Commuting (commuting-codelet has S t k.call.kernel k.call.is t.operands s.lawful any) (outputs-count (formals_of k.call.kernel) t.operands k.modes k.count ∙ one)
        (modes-with Commute (formals_of k.call.kernel) t.operands k.modes k.count (commuting-writes t.operands one any))

-- the modes of one with a contribution
pub contribution-modes : (has : Kernel → Bool) (S : JobState) (t : TaskLine (List ℕ)) (s : IsSoundTask has S t) → Contributes S t (kernel_there has S t s).call.kernel → MayHaveModes (kernel_there has S t s).call.kernel (each_of (λ (o : Operand (List ℕ)). o.mode) t.operands)
contribution-modes has S t s con =
    let k = kernel_there has S t s in
    MayHaveModes.Contributing con.by con.contributes (outputs-count (formals_of k.call.kernel) t.operands k.modes k.count ∙ ap length con.written)
    (modes-with Redux (formals_of k.call.kernel) t.operands k.modes k.count (subst (λ (os : List (Operand (List ℕ))). AllByRecursion (WritesAs Redux) os) (sym con.is) (in-order con.before con.last con.reads con.redux)))
  where
    in-order : (vs : List (Operand (List ℕ))) (u : Operand (List ℕ)) → AllByRecursion IsRead vs → u.mode ≡ Redux → AllByRecursion (WritesAs Redux) (vs ++ u ∷ [])
    in-order [] u h e = (λ w. e, tt)
    in-order (v ∷ vs) u h e = (λ w. absurd (false≢true (sym h.0.1 ∙ w)), in-order vs u h.1 e)

-- ---- tasks of task lines

pub good_task : (has : Kernel → Bool) (p : Program) (C : Cells) (S : JobState) (n : ℕ) (t : TaskLine (List ℕ)) (line : Line) → HasCells p C → AreLaid C → HavePlans C S → (s : IsSoundTask has S t) → MayHaveModes (kernel_there has S t s).call.kernel (each_of (λ (o : Operand (List ℕ)). o.mode) t.operands)
    → All (λ (a : Access). reads_value a.mode ≡ true → HasValueBefore p (task n) a.cell) (each_of (access_of S C) t.operands) → All (HasItsCopies p n) (each_of (access_of S C) t.operands) → (kernel_of t.codelet ≡ Some Deliver → ⊥) → IsGood p n (task_row S C line t)
good_task has p C S n t line cells laid plans s modes given copies nameable =
    let kernel = kernel_there has S t s in
    record {
      cells = all_inside p C S t.operands cells laid plans s.placed;
      fits = record {
        kernel = kernel.call.kernel;
        codelet = kernel.call.is;
        operands = ap (fits kernel.call.kernel t.args) (all_dims_are p C S t.operands cells laid plans s.placed) ∙ kernel.call.fits;
        modes = subst (MayHaveModes kernel.call.kernel) (sym (modes_of_accesses S C t.operands)) modes;
      };
      unaliased = AllPairs-filter ReadOnly (λ (a : Access). not (is_scratch a.mode)) (each_of (access_of S C) t.operands) (all_apart C S t.operands laid plans s.placed s.apart);
      values = given;
      copies = copies;
      plain = λ e. absurd (nameable e);
    }

-- ---- tasks of phases

pub good_init : (p : Program) (n : ℕ) (by : Reduction) (line : Line) (c : Cell) → c.0 < length p.cells → IsGood p n (init_row by line c)
good_init p n Plus line c inside = record {
  cells = one_alone (λ (a : Access). a.cell.0 < length p.cells) (access W c) inside;
  copies = one_alone (HasItsCopies p n) (access W c) (λ h. absurd (false≢true h));
  plain = λ e. absurd (cc);
  fits = record { kernel = init_of Plus; codelet = refl; operands = refl; modes = MayHaveModes.Own refl };
  unaliased = alone (λ (a b : Access). same_cell a.cell b.cell ≡ true → (a.mode ≡ R) × (b.mode ≡ R)) (access W c);
  values = one_alone (λ (a : Access). reads_value a.mode ≡ true → HasValueBefore p (task n) a.cell) (access W c) (λ h. absurd (false≢true h));
}
good_init p n Least line c inside = record {
  cells = one_alone (λ (a : Access). a.cell.0 < length p.cells) (access W c) inside;
  copies = one_alone (HasItsCopies p n) (access W c) (λ h. absurd (false≢true h));
  plain = λ e. absurd (cc);
  fits = record { kernel = init_of Least; codelet = refl; operands = refl; modes = MayHaveModes.Own refl };
  unaliased = alone (λ (a b : Access). same_cell a.cell b.cell ≡ true → (a.mode ≡ R) × (b.mode ≡ R)) (access W c);
  values = one_alone (λ (a : Access). reads_value a.mode ≡ true → HasValueBefore p (task n) a.cell) (access W c) (λ h. absurd (false≢true h));
}

pub good_combine : (p : Program) (n : ℕ) (by : Reduction) (c : Cell) (line : Line) (q : Cell) → q.0 < length p.cells → c.0 < length p.cells → dims_of p q ≡ dims_of p c → same_cell q c ≡ false → HasValueBefore p (task n) q → HasValueBefore p (task n) c → IsGood p n (combine_row by c line q)
good_combine p n by c line q iq ic dims apart gq gc = by_reduction by
  where
    cells_in : All (λ (a : Access). a.cell.0 < length p.cells) (access R q ∷ access RW c ∷ [])
    cells_in = both_alone (λ (a : Access). a.cell.0 < length p.cells) (access R q) (access RW c) iq ic

    copies_in : All (HasItsCopies p n) (access R q ∷ access RW c ∷ [])
    copies_in = both_alone (HasItsCopies p n) (access R q) (access RW c) (λ h. absurd (false≢true h)) (λ h. absurd (false≢true h))

    pair : AllPairs (λ (a b : Access). same_cell a.cell b.cell ≡ true → (a.mode ≡ R) × (b.mode ≡ R)) (access R q ∷ access RW c ∷ [])
    pair = pair_alone (λ (a b : Access). same_cell a.cell b.cell ≡ true → (a.mode ≡ R) × (b.mode ≡ R)) (access R q) (access RW c) (λ same. absurd (false≢true (sym apart ∙ same)))

    values_in : All (λ (a : Access). reads_value a.mode ≡ true → HasValueBefore p (task n) a.cell) (access R q ∷ access RW c ∷ [])
    values_in = both_alone (λ (a : Access). reads_value a.mode ≡ true → HasValueBefore p (task n) a.cell) (access R q) (access RW c) (λ h. gq) (λ h. gc)

    by_reduction : (by : Reduction) → IsGood p n (combine_row by c line q)
    by_reduction Plus = record { cells = cells_in; copies = copies_in; plain = λ e. absurd (cc); fits = record { kernel = combine_of Plus; codelet = refl; operands = same-itself (dims_of p q) (dims_of p c) dims; modes = MayHaveModes.Own refl }; unaliased = pair; values = values_in }
    by_reduction Least = record { cells = cells_in; copies = copies_in; plain = λ e. absurd (cc); fits = record { kernel = combine_of Least; codelet = refl; operands = same-itself (dims_of p q) (dims_of p c) dims; modes = MayHaveModes.Own refl }; unaliased = pair; values = values_in }
