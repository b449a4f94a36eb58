-- A lowered task does to its cells what the task line does to its children.
use Rattle.sj_lower.proofs.Words.{[], Access, access_of, active_cell, after_task, AllByRecursion, ap, area, arith, Array, array, Bool, bytes_eq, Cell, cell_of, Cells, child_array, child_dims, child_rect, child_unit, clashes, Commute, cond, Contents, Dims, dims_of, each_of, false, filter, fits, Formal, formals_of, found, has_child, has_child_values, held_in, init_of, is_aliased, is_child, is_data, is_read_only, is_redux, is_some, is_valued, is_valued_child, is_written, IsPlace, IsSoundTask, IsWhole, JobState, Kernel, length, List, list_all, list_any, Lowered, Mode, modes_fit, needs_value, None, not, Operand, operand_array, Option, out, outputs_among, Parts, Program, R, rect_dims, Reduction, Redux, refl, results, root_of, RootState, run_task, RW, same_cell, same_child_place, Scratch, seen_by, Some, sym, task, task_of, TaskLine, true, undivided, unit_of, W, worked_on, written_cells, written_operands, zeros, zip, ℕ, ◌&&◌, ◌++◌, ◌+◌, ◌||◌, ◌∙◌, ◌∷◌, ◌≡◌}
use Rattle.std.proofs.lemmas.{Bool.and_parts, Bool.false≢true, Bool.or_left, Bool.or_parts, Bool.or_right, List.length-map, List.length-replicate}
use Rattle.sj_base.proofs.{Bools.implied, SameIds.same_cell-itself}
use Rattle.sj_codelet.proofs.{NewArrays.AreWhole, NewArrays.out-makes_tiles, Table.each_dims}
use Rattle.sj_core.proofs.Combining.{unit-fills}
use Rattle.sj_lower.proofs.{Combined.denoted-closed, Combined.IsTrusted, Combined.Phases, Contents.first_worker, Elements.child-whole, Holding.cell-dims, Holding.GivesAll, Holding.HasCells, Holding.HaveRoots, Holding.HaveTheirs, Holding.holds-later, Holding.holds-put_all, Holding.holds-same, Holding.IsOther, Holding.same_child, Laid.AreLaid, Writing.call_of, Writing.fit_from_fits, Writing.IsCall, Writing.out_dims, Writing.out_whole, Writing.outputs-written}
use Rattle.sj_job.proofs.Children.{place-from_test}

-- ---- words

-- the operand is no contribution
abbrev pub is_direct : Mode → Bool
is_direct m = not (is_redux m)

direct_isn't_redux : (m : Mode) → is_direct m ≡ true → is_redux m ≡ false
direct_isn't_redux R e = refl
direct_isn't_redux W e = refl
direct_isn't_redux RW e = refl
direct_isn't_redux Scratch e = refl
direct_isn't_redux Redux e = absurd (false≢true e)
direct_isn't_redux Commute e = refl

pub root_there : (o : Option RootState) → is_some o ≡ true → (r : RootState) × (o ≡ Some r)
root_there None e = absurd (false≢true e)
root_there (Some r) e = (r, refl)

pub valued_there : (o : Option RootState) → (elim o as (λ _. Bool) [ None ↦ false | Some r ↦ is_valued r ]) ≡ true → (r : RootState) × (o ≡ Some r) × (is_valued r ≡ true)
valued_there None e = absurd (false≢true e)
valued_there (Some r) e = (r, refl, e)

-- ---- operands that are children

-- an operand's root, of which it is a child
pub record IsThere (S : JobState) (o : Operand (List ℕ)) : Type 0 where
  pub root : RootState
  pub is_root : root_of S o.name ≡ Some root
  pub placed : IsPlace root.parts o.place

pub child_there : (S : JobState) (o : Operand (List ℕ)) → has_child S o ≡ true → IsThere S o
child_there S o h = by_root (root_of S o.name) refl h
  where
    by_root : (x : Option RootState) → root_of S o.name ≡ x → (elim x as (λ _. Bool) [ None ↦ false | Some r ↦ is_child r.parts o.place ]) ≡ true → IsThere S o
    by_root None e h = absurd (false≢true h)
    by_root (Some r) e h = record { root = r; is_root = e; placed = place-from_test r.parts o.place h }

pub child_dims-are : (S : JobState) (o : Operand (List ℕ)) (r : RootState) → root_of S o.name ≡ Some r → child_dims S o ≡ rect_dims (child_rect r o.place)
child_dims-are S o r e = ap (λ (x : Option RootState). elim x as (λ _. Dims) [ None ↦ record { rows = 0; cols = 0 } | Some r ↦ rect_dims (child_rect r o.place) ]) e

pub child_values-are : (S : JobState) (o : Operand (List ℕ)) (r : RootState) → root_of S o.name ≡ Some r → has_child_values S o ≡ is_valued_child r o.place
child_values-are S o r e = ap (λ (x : Option RootState). elim x as (λ _. Bool) [ None ↦ false | Some r ↦ is_valued_child r o.place ]) e

pub active_cell-is : (S : JobState) (C : Cells) (name : List ℕ) (place : ℕ × ℕ) (r : RootState) → root_of S name ≡ Some r → active_cell S C name place ≡ cell_of C name r.parts place
active_cell-is S C name place r e = ap (λ (x : Option RootState). cell_of C name (elim x as (λ _. Parts) [ None ↦ undivided | Some r ↦ r.parts ]) place) e

-- the cell of an operand
abbrev pub operand_cell : JobState → Cells → Operand (List ℕ) → Cell
operand_cell S C o = active_cell S C o.name o.place

-- ---- what a task reads

pub seen_there : (S : JobState) (o : Operand (List ℕ)) (r : RootState) → root_of S o.name ≡ Some r → operand_array S o ≡ seen_by o.mode r o.place
seen_there S o r e = ap (λ (x : Option RootState). elim x as (λ _. Array) [ None ↦ array (record { rows = 0; cols = 0 }) [] | Some r ↦ seen_by o.mode r o.place ]) e

pub by_mode : (p : Program) (k : Contents) (m : Mode) (c : Cell) (r : RootState) (place : ℕ × ℕ) → is_direct m ≡ true → dims_of p c ≡ rect_dims (child_rect r place) → (needs_value m ≡ true → held_in p k c ≡ child_array r place)
    → let a : Access = record { mode = m; cell = c } in found p first_worker (held_in p k) a ≡ seen_by m r place
by_mode p k R c r place h d v = v refl
by_mode p k W c r place h d v = ap zeros d
by_mode p k RW c r place h d v = v refl
by_mode p k Scratch c r place h d v = ap zeros d
by_mode p k Redux c r place h d v = absurd (false≢true h)
by_mode p k Commute c r place h d v = v refl

-- no phase is open on the child of an operand that is accessed
abbrev pub IsClosed : Phases → JobState → Cells → Operand (List ℕ) → Type 0
IsClosed phases S C o = is_data o.mode ≡ true → phases (operand_cell S C o) ≡ None

pub data_needs : (m : Mode) → needs_value m ≡ true → is_data m ≡ true
data_needs R e = refl
data_needs W e = absurd (false≢true e)
data_needs RW e = refl
data_needs Scratch e = absurd (false≢true e)
data_needs Redux e = absurd (false≢true e)
data_needs Commute e = refl

pub data_written : (m : Mode) → is_written m ≡ true → is_data m ≡ true
data_written R e = absurd (false≢true e)
data_written W e = refl
data_written RW e = refl
data_written Scratch e = absurd (false≢true e)
data_written Redux e = refl
data_written Commute e = refl

-- an operand that is a child, with values where they are read
pub one_found : (p : Program) (C : Cells) (phases : Phases) (n : ℕ) (k : Contents) (S : JobState) (o : Operand (List ℕ)) → IsTrusted p → HasCells p C → AreLaid C → HaveRoots p C phases n k S → IsClosed phases S C o → is_direct o.mode ≡ true → has_child S o ≡ true → (not (needs_value o.mode) || has_child_values S o) ≡ true → found p first_worker (held_in p k) (access_of S C o) ≡ operand_array S o
one_found p C phases n k S o trust cells laid has closed h placed valued =
    let t = child_there S o placed in
    let b = has o.name t.root t.is_root in
    let cell = active_cell-is S C o.name o.place t.root t.is_root in
    ap (λ (c : Cell). let a : Access = record { mode = o.mode; cell = c } in found p first_worker (held_in p k) a) cell
    ∙ by_mode p k o.mode (cell_of C o.name t.root.parts o.place) t.root o.place h (cell-dims p C o.name t.root.dims t.root.parts b.first o.place cells laid b.taken t.placed)
    (λ needs. sym (denoted-closed p phases k (cell_of C o.name t.root.parts o.place) (ap phases (sym cell) ∙ closed (data_needs o.mode needs))) ∙ (b.held o.place t.placed (sym (child_values-are S o t.root t.is_root) ∙ implied (needs_value o.mode) (has_child_values S o) valued needs)).value trust)
    ∙ sym (seen_there S o t.root t.is_root)

pub all_found : (p : Program) (C : Cells) (phases : Phases) (n : ℕ) (k : Contents) (S : JobState) (os : List (Operand (List ℕ))) → IsTrusted p → HasCells p C → AreLaid C → HaveRoots p C phases n k S → AllByRecursion (IsClosed phases S C) os → list_all (λ o. is_direct o.mode) os ≡ true → list_all (has_child S) os ≡ true → list_all (λ o. not (needs_value o.mode) || has_child_values S o) os ≡ true → each_of (found p first_worker (held_in p k)) (each_of (access_of S C) os) ≡ each_of (operand_array S) os
all_found p C phases n k S [] trust cells laid has closed h placed valued = refl
all_found p C phases n k S (o ∷ os) trust cells laid has closed h placed valued =
    let a = and_parts (is_direct o.mode) (list_all (λ o. is_direct o.mode) os) h in
    let b = and_parts (has_child S o) (list_all (has_child S) os) placed in
    let c = and_parts (not (needs_value o.mode) || has_child_values S o) (list_all (λ o. not (needs_value o.mode) || has_child_values S o) os) valued in
    ap (λ (x : Array). x ∷ each_of (found p first_worker (held_in p k)) (each_of (access_of S C) os)) (one_found p C phases n k S o trust cells laid has closed.0 a.0 b.0 c.0)
    ∙ ap (λ (xs : List Array). operand_array S o ∷ xs) (all_found p C phases n k S os trust cells laid has closed.1 a.1 b.1 c.1)

-- ---- what a task writes

worked_plain : (p : Program) (m : Mode) (c : Cell) → is_direct m ≡ true → let a : Access = record { mode = m; cell = c } in worked_on p first_worker a ≡ c
worked_plain p R c h = refl
worked_plain p W c h = refl
worked_plain p RW c h = refl
worked_plain p Scratch c h = refl
worked_plain p Redux c h = absurd (false≢true h)
worked_plain p Commute c h = refl

cells_written : (p : Program) (S : JobState) (C : Cells) (os : List (Operand (List ℕ))) → list_all (λ o. is_direct o.mode) os ≡ true → each_of (worked_on p first_worker) (filter (λ a. is_written a.mode) (each_of (access_of S C) os)) ≡ each_of (operand_cell S C) (written_operands os)
cells_written p S C [] h = refl
cells_written p S C (o ∷ os) h =
    let a = and_parts (is_direct o.mode) (list_all (λ o. is_direct o.mode) os) h in
    by_cases (is_written o.mode) a.0 (cells_written p S C os a.1)
  where
    by_cases : (b : Bool) → is_direct o.mode ≡ true → each_of (worked_on p first_worker) (filter (λ a. is_written a.mode) (each_of (access_of S C) os)) ≡ each_of (operand_cell S C) (written_operands os)
        → each_of (worked_on p first_worker) (cond b (access_of S C o ∷ filter (λ a. is_written a.mode) (each_of (access_of S C) os)) (filter (λ a. is_written a.mode) (each_of (access_of S C) os)))
        ≡ each_of (operand_cell S C) (cond b (o ∷ written_operands os) (written_operands os))
    by_cases true h rest = ap (λ (c : Cell). c ∷ each_of (worked_on p first_worker) (filter (λ a. is_written a.mode) (each_of (access_of S C) os))) (worked_plain p o.mode (operand_cell S C o) h) ∙ ap (λ (cs : List Cell). operand_cell S C o ∷ cs) rest
    by_cases false h rest = rest

-- no child that is written stands in another operand
pub other_written : (o : Operand (List ℕ)) (os : List (Operand (List ℕ))) → is_written o.mode ≡ true → list_any (clashes o) os ≡ false → IsOther o (written_operands os)
other_written o [] w h = tt
other_written o (p ∷ os) w h =
    let a = or_parts (clashes o p) (list_any (clashes o) os) h in
    by_cases (is_written p.mode) (other_written o os w a.1) (clash o.mode p.mode (bytes_eq o.name p.name) (same_child_place o.place p.place) w a.0)
  where
    clash : (m k : Mode) (b c : Bool) → is_written m ≡ true → (b && c && not (is_read_only m && is_read_only k)) ≡ false → (b && c) ≡ false
    clash m k false c w e = refl
    clash m k true false w e = refl
    clash R k true true w e = absurd (false≢true w)
    clash W k true true w e = e
    clash RW k true true w e = e
    clash Scratch k true true w e = absurd (false≢true w)
    clash Redux k true true w e = e
    clash Commute k true true w e = e

    by_cases : (b : Bool) → IsOther o (written_operands os) → same_child o p ≡ false → IsOther o (cond b (p ∷ written_operands os) (written_operands os))
    by_cases true rest e = (e, rest)
    by_cases false rest e = rest

-- each written child's cell is one to which the accesses give a value
abbrev Written : JobState → Cells → List Access → List (Operand (List ℕ)) → Type 0
Written S C accesses [] = Unit {0}
Written S C accesses (o ∷ os) = (list_any (λ (a : Access). is_written a.mode && not (is_redux a.mode) && same_cell a.cell (operand_cell S C o)) accesses ≡ true) × Written S C accesses os

written-more : (S : JobState) (C : Cells) (a : Access) (accesses : List Access) (os : List (Operand (List ℕ))) → Written S C accesses os → Written S C (a ∷ accesses) os
written-more S C a accesses [] w = tt
written-more S C a accesses (o ∷ os) w =
    (or_right (is_written a.mode && not (is_redux a.mode) && same_cell a.cell (operand_cell S C o)) (list_any (λ (a : Access). is_written a.mode && not (is_redux a.mode) && same_cell a.cell (operand_cell S C o)) accesses) w.0, written-more S C a accesses os w.1)

all_true : (a b c : Bool) → a ≡ true → b ≡ false → c ≡ true → (a && not b && c) ≡ true
all_true true false c x y z = z
all_true true true c x y z = absurd (false≢true (sym y))
all_true false b c x y z = absurd (false≢true x)

all_written : (S : JobState) (C : Cells) (os : List (Operand (List ℕ))) → list_all (λ o. is_direct o.mode) os ≡ true → Written S C (each_of (access_of S C) os) (written_operands os)
all_written S C [] h = tt
all_written S C (o ∷ os) h =
    let a = and_parts (is_direct o.mode) (list_all (λ o. is_direct o.mode) os) h in
    by_cases (is_written o.mode) refl a.0 (written-more S C (access_of S C o) (each_of (access_of S C) os) (written_operands os) (all_written S C os a.1))
  where
    by_cases : (b : Bool) → is_written o.mode ≡ b → is_direct o.mode ≡ true → Written S C (each_of (access_of S C) (o ∷ os)) (written_operands os) → Written S C (each_of (access_of S C) (o ∷ os)) (cond b (o ∷ written_operands os) (written_operands os))
    by_cases true w h rest = (
      or_left (is_written o.mode && not (is_redux o.mode) && same_cell (operand_cell S C o) (operand_cell S C o)) (list_any (λ (a : Access). is_written a.mode && not (is_redux a.mode) && same_cell a.cell (operand_cell S C o)) (each_of (access_of S C) os))
          (all_true (is_written o.mode) (is_redux o.mode) (same_cell (operand_cell S C o) (operand_cell S C o)) w (direct_isn't_redux o.mode h) (same_cell-itself (operand_cell S C o))),
      rest,
    )
    by_cases false w h rest = rest

abbrev Placed : JobState → List (Operand (List ℕ)) → Type 0
Placed S os = AllByRecursion (λ o. has_child S o ≡ true) os

pub all_placed : (S : JobState) (os : List (Operand (List ℕ))) → list_all (has_child S) os ≡ true → Placed S (written_operands os)
all_placed S [] h = tt
all_placed S (o ∷ os) h =
    let b = and_parts (has_child S o) (list_all (has_child S) os) h in
    by_cases (is_written o.mode) b.0 (all_placed S os b.1)
  where
    by_cases : (b : Bool) → has_child S o ≡ true → Placed S (written_operands os) → Placed S (cond b (o ∷ written_operands os) (written_operands os))
    by_cases true h rest = (h, rest)
    by_cases false h rest = rest

abbrev AllOther : List (Operand (List ℕ)) → Type 0
AllOther [] = Unit {0}
AllOther (o ∷ os) = IsOther o os × AllOther os

all_other : (os : List (Operand (List ℕ))) → is_aliased os ≡ false → AllOther (written_operands os)
all_other [] h = tt
all_other (o ∷ os) h =
    let a = or_parts (list_any (clashes o) os) (is_aliased os) h in
    by_cases (is_written o.mode) refl a.0 (all_other os a.1)
  where
    by_cases : (b : Bool) → is_written o.mode ≡ b → list_any (clashes o) os ≡ false → AllOther (written_operands os) → AllOther (cond b (o ∷ written_operands os) (written_operands os))
    by_cases true w h rest = (other_written o os w h, rest)
    by_cases false w h rest = rest

pub head_of : (d e : Dims) (ds es : List Dims) → (d ∷ ds) ≡ (e ∷ es) → d ≡ e
head_of d e ds es h = cc

tail_of : (d e : Dims) (ds es : List Dims) → (d ∷ ds) ≡ (e ∷ es) → ds ≡ es
tail_of d e ds es h = cc

-- the phases of what is written are closed
abbrev AllClosed : Phases → JobState → Cells → List (Operand (List ℕ)) → Type 0
AllClosed phases S C os = AllByRecursion (λ o. phases (operand_cell S C o) ≡ None) os

all_closed : (phases : Phases) (S : JobState) (C : Cells) (os : List (Operand (List ℕ))) → AllByRecursion (IsClosed phases S C) os → AllClosed phases S C (written_operands os)
all_closed phases S C [] h = tt
all_closed phases S C (o ∷ os) h = by_cases (is_written o.mode) refl h.0 (all_closed phases S C os h.1)
  where
    by_cases : (b : Bool) → is_written o.mode ≡ b → IsClosed phases S C o → AllClosed phases S C (written_operands os) → AllClosed phases S C (cond b (o ∷ written_operands os) (written_operands os))
    by_cases true w h rest = (h (data_written o.mode w), rest)
    by_cases false w h rest = rest

gives_all : (p : Program) (C : Cells) (phases : Phases) (n : ℕ) (S : JobState) (accesses : List Access) (os : List (Operand (List ℕ))) (xs : List Array) → (task_of p (task n)).accesses ≡ accesses → Written S C accesses os → Placed S os → AllOther os → AllClosed phases S C os → each_dims xs ≡ each_of (child_dims S) os → AreWhole xs → GivesAll p C phases (n + 1) S (operand_cell S C) os xs
gives_all p C phases n S accesses [] xs t w r o z d whole = tt
gives_all p C phases n S accesses (u ∷ us) [] t w r o z d whole = absurd (cc)
gives_all p C phases n S accesses (u ∷ us) (a ∷ xs) t w r o z d whole =
    let there = child_there S u r.0 in (
      record {
        root = there.root;
        is_root = there.is_root;
        placed = there.placed;
        dims = head_of a.dims (child_dims S u) (each_dims xs) (each_of (child_dims S) us) d ∙ child_dims-are S u there.root there.is_root;
        whole = whole.0;
        cell_is = active_cell-is S C u.name u.place there.root there.is_root;
        given = (task n, omega arith, ap (λ (as' : List Access). list_any (λ (a : Access). is_written a.mode && not (is_redux a.mode) && same_cell a.cell (operand_cell S C u)) as') t ∙ w.0);
        closed = z.0;
      },
      o.0,
      gives_all p C phases n S accesses us xs t w.1 r.1 o.1 z.1 (tail_of a.dims (child_dims S u) (each_dims xs) (each_of (child_dims S) us) d) whole.1,
    )

-- ---- the task as a whole

seen_dims : (S : JobState) (o : Operand (List ℕ)) (x : Option RootState) → root_of S o.name ≡ x → (elim x as (λ _. Array) [ None ↦ array (record { rows = 0; cols = 0 }) [] | Some r ↦ seen_by o.mode r o.place ]).dims ≡ (elim x as (λ _. Dims) [ None ↦ record { rows = 0; cols = 0 } | Some r ↦ rect_dims (child_rect r o.place) ])
seen_dims S o None e = refl
seen_dims S o (Some r) e = by o.mode
  where
    unit : (x : Option Reduction) → (elim x as (λ _. Array) [ None ↦ zeros (rect_dims (child_rect r o.place)) | Some by ↦ unit_of out by (rect_dims (child_rect r o.place)) ]).dims ≡ rect_dims (child_rect r o.place)
    unit None = refl
    unit (Some by) = (unit-fills out by (out-makes_tiles (init_of by)) (rect_dims (child_rect r o.place))).1

    contributed : (b : Bool) → (cond b (child_array r o.place) (child_unit r o.place)).dims ≡ rect_dims (child_rect r o.place)
    contributed true = refl
    contributed false = unit r.reduction

    by : (m : Mode) → (seen_by m r o.place).dims ≡ rect_dims (child_rect r o.place)
    by R = refl
    by W = refl
    by RW = refl
    by Scratch = refl
    by Redux = contributed (is_valued_child r o.place)
    by Commute = refl

all_seen_dims : (S : JobState) (os : List (Operand (List ℕ))) → each_dims (each_of (operand_array S) os) ≡ each_of (child_dims S) os
all_seen_dims S [] = refl
all_seen_dims S (o ∷ os) = ap (λ (d : Dims). d ∷ each_dims (each_of (operand_array S) os)) (seen_dims S o (root_of S o.name) refl) ∙ ap (λ (ds : List Dims). child_dims S o ∷ ds) (all_seen_dims S os)

seen_whole : (S : JobState) (o : Operand (List ℕ)) (x : Option RootState) → IsWhole (elim x as (λ _. Array) [ None ↦ array (record { rows = 0; cols = 0 }) [] | Some r ↦ seen_by o.mode r o.place ])
seen_whole S o None = refl
seen_whole S o (Some r) = by o.mode
  where
    none : IsWhole (zeros (rect_dims (child_rect r o.place)))
    none = length-replicate (area (rect_dims (child_rect r o.place))) _

    unit : (x : Option Reduction) → IsWhole (elim x as (λ _. Array) [ None ↦ zeros (rect_dims (child_rect r o.place)) | Some by ↦ unit_of out by (rect_dims (child_rect r o.place)) ])
    unit None = none
    unit (Some by) = (unit-fills out by (out-makes_tiles (init_of by)) (rect_dims (child_rect r o.place))).0.whole

    contributed : (b : Bool) → IsWhole (cond b (child_array r o.place) (child_unit r o.place))
    contributed true = child-whole r o.place
    contributed false = unit r.reduction

    by : (m : Mode) → IsWhole (seen_by m r o.place)
    by R = child-whole r o.place
    by W = none
    by RW = child-whole r o.place
    by Scratch = none
    by Redux = contributed (is_valued_child r o.place)
    by Commute = child-whole r o.place

all_seen_whole : (S : JobState) (os : List (Operand (List ℕ))) → AreWhole (each_of (operand_array S) os)
all_seen_whole S [] = tt
all_seen_whole S (o ∷ os) = (seen_whole S o (root_of S o.name), all_seen_whole S os)

-- the codelet of a task, with its operands in its modes
pub record HasKernel (t : TaskLine (List ℕ)) (S : JobState) : Type 0 where
  pub call : IsCall t.codelet t.args (each_of (child_dims S) t.operands)
  pub modes : modes_fit (formals_of call.kernel) t.operands ≡ true
  pub count : length t.operands ≡ length (formals_of call.kernel)

pub kernel_there : (has : Kernel → Bool) (S : JobState) (t : TaskLine (List ℕ)) → IsSoundTask has S t → HasKernel t S
kernel_there has S t s =
    let c = call_of has t.codelet t.args (each_of (child_dims S) t.operands) s.fits in
    let f = fit_from_fits c.kernel t.args (each_of (child_dims S) t.operands) c.fits in
    record { call = c; modes = ap (λ (fs : List Formal). modes_fit fs t.operands) (sym c.formals) ∙ s.modes; count = sym (length-map t.operands (child_dims S)) ∙ f.count }

pub new_dims : (has : Kernel → Bool) (S : JobState) (t : TaskLine (List ℕ)) → IsSoundTask has S t → each_dims (out t.codelet t.args (each_of (operand_array S) t.operands)) ≡ each_of (child_dims S) (written_operands t.operands)
new_dims has S t s =
    let k = kernel_there has S t s in
    let ins = each_of (operand_array S) t.operands in
    let dims = all_seen_dims S t.operands in
    out_dims k.call.kernel t.codelet t.args ins k.call.is (ap (fits k.call.kernel t.args) dims ∙ k.call.fits)
    ∙ ap (λ (ds : List Dims). outputs_among (formals_of k.call.kernel) ds) dims
    ∙ outputs-written (child_dims S) (formals_of k.call.kernel) t.operands k.modes k.count

pub new_whole : (has : Kernel → Bool) (S : JobState) (t : TaskLine (List ℕ)) → IsSoundTask has S t → AreWhole (out t.codelet t.args (each_of (operand_array S) t.operands))
new_whole has S t s =
    let k = kernel_there has S t s in
    out_whole k.call.kernel t.codelet t.args (each_of (operand_array S) t.operands) k.call.is (ap (fits k.call.kernel t.args) (all_seen_dims S t.operands) ∙ k.call.fits) (all_seen_whole S t.operands)

-- a lowered task without contributions leaves in its cells what the task line leaves in its children
pub holds-task : (has : Kernel → Bool) (p : Program) (C : Cells) (phases : Phases) (n : ℕ) (k : Contents) (S : JobState) (t : TaskLine (List ℕ)) (l : Lowered)
    → HasCells p C → AreLaid C → HaveTheirs p.workers C phases → HaveRoots p C phases n k S → IsSoundTask has S t → list_all (λ o. is_direct o.mode) t.operands ≡ true → AllByRecursion (IsClosed phases S C) t.operands
    → task_of p (task n) ≡ l → l.codelet ≡ t.codelet → l.args ≡ t.args → l.accesses ≡ each_of (access_of S C) t.operands
    → HaveRoots p C phases (n + 1) (after_task out p first_worker (task n) k) (run_task t S)
holds-task has p C phases n k S t l cells laid theirs roots s direct closed is ec ea eo =
    let accesses : (task_of p (task n)).accesses ≡ each_of (access_of S C) t.operands = ap (λ (k : Lowered). k.accesses) is ∙ eo in
    let outs = out t.codelet t.args (each_of (operand_array S) t.operands) in
    let g = gives_all p C phases n S (each_of (access_of S C) t.operands) (written_operands t.operands) outs accesses (all_written S C t.operands direct) (all_placed S t.operands s.placed) (all_other t.operands s.apart) (all_closed phases S C t.operands closed) (new_dims has S t s) (new_whole has S t s) in
    let meant = holds-put_all p C phases (n + 1) (operand_cell S C) (written_operands t.operands) outs k S laid theirs (holds-later p C phases n (n + 1) k S (omega arith) roots) g in
    let written : written_cells p (task n) first_worker ≡ each_of (operand_cell S C) (written_operands t.operands) = ap (λ (as' : List Access). each_of (worked_on p first_worker) (filter (λ a. is_written a.mode) as')) accesses ∙ cells_written p S C t.operands direct in
    let made : IsTrusted p → results out p (task n) first_worker (held_in p k) ≡ outs = λ trust.
    ap (λ (l : Lowered). out l.codelet l.args (each_of (found p first_worker (held_in p k)) l.accesses)) is
    ∙ (λ i. out (ec i) (ea i) (each_of (found p first_worker (held_in p k)) (eo i)))
    ∙ ap (out t.codelet t.args) (all_found p C phases n k S t.operands trust cells laid roots closed direct s.placed s.valued) in
    holds-same p C phases (n + 1) (zip (each_of (operand_cell S C) (written_operands t.operands)) outs ++ k) (after_task out p first_worker (task n) k) (run_task t S)
    (λ trust c. ap (λ (new : Contents). held_in p new c) (λ i. zip (written i) (made trust i) ++ k)) meant
