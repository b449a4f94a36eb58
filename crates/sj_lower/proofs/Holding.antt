-- A program's cells hold what the children of the job's roots hold.
use Rattle.sj_lower.proofs.Words.{[], ap, area, arith, Array, Bool, bytes_eq, Cell, cell_of, Cells, child, child_array, child_rect, cond, Contents, copy_at, Dims, dims_of, each_of, false, Fits, HasValueBefore, held_in, info_at, integers_of, is_child, is_some, is_valued_child, IsPlace, IsWhole, JobState, length, List, list_all, None, OpenPhase, Operand, Option, Parts, Program, put, put_all, rect_dims, refl, root_of, RootState, same_cell, same_child_place, Some, subst, sym, task, true, with_child, zip, ℕ, ℤ, ◌&&◌, ◌++◌, ◌<◌, ◌∙◌, ◌∷◌, ◌≡◌, ◌≤◌}
use Rattle.std.proofs.lemmas.{Bool.and_from, Bool.false≢true, Option.same_Some}
use Rattle.sj_base.proofs.{SameIds.cell_of_number, SameIds.same_cell-is, Texts.other_text, Texts.same_text}
use Rattle.sj_plan.proofs.Repartitioning.{same_child_place-law, same_child_place-refl}
use Rattle.sj_meaning.proofs.Finding.{root-change}
use Rattle.sj_lower.proofs.{Combined.denoted, Combined.denoted-closed, Combined.denoted-same, Combined.IsTrusted, Combined.Phases, Combined.SameCopies, Contents.held-moved, Contents.held-other, Contents.held-same, Contents.NotAmong, Copies.HaveCopies, Elements.written-array, Elements.written-other, Elements.written-whole, Folding.later, Growing.Grows, Laid.AreLaid, Laid.bytes_eq-itself, Laid.cell-inside, Laid.cell-is, Laid.cell-row, Laid.cells-apart, Laid.IsTaken, Laid.none_isn't}

-- ---- what agrees

-- the cell, with the partial copies of its phase, if one is open, holds the array; tasks gave them their values
pub record IsHeld (p : Program) (phases : Phases) (n : ℕ) (k : Contents) (c : Cell) (x : Array) : Type 0 where
  pub value : IsTrusted p → denoted p phases k c ≡ x
  pub given : HasValueBefore p (task n) c
  pub copies : (f : OpenPhase) → phases c ≡ Some f → (w : ℕ) → w < p.workers → HasValueBefore p (task n) (copy_at f.copies w)

-- a name's root is whole, its active plan is taken, the cells of its children hold their arrays, and a child whose phase is open
-- has a value
pub record HasRoot (p : Program) (C : Cells) (phases : Phases) (n : ℕ) (k : Contents) (q : List ℕ) (r : RootState) : Type 0 where
  pub fits : Fits r.parts r.dims
  pub whole : length r.elements ≡ area r.dims
  pub first : ℕ
  pub taken : IsTaken C q r.dims r.parts first
  pub held : (place : ℕ × ℕ) → IsPlace r.parts place → is_valued_child r place ≡ true → IsHeld p phases n k (cell_of C q r.parts place) (child_array r place)
  pub blank : (place : ℕ × ℕ) → IsPlace r.parts place → is_valued_child r place ≡ false → phases (cell_of C q r.parts place) ≡ None
  pub reduced : (place : ℕ × ℕ) (f : OpenPhase) → IsPlace r.parts place → phases (cell_of C q r.parts place) ≡ Some f → r.reduction ≡ Some f.by

abbrev pub HaveRoots : Program → Cells → Phases → ℕ → Contents → JobState → Type 0
HaveRoots p C phases n k S = (q : List ℕ) (r : RootState) → root_of S q ≡ Some r → HasRoot p C phases n k q r

-- the partial copies of the open phases are those of their cells
pub record HaveTheirs (workers : ℕ) (C : Cells) (phases : Phases) : Type 0 where
  pub copies : HaveCopies workers C
  pub theirs : (c : Cell) (f : OpenPhase) → phases c ≡ Some f → (info_at C c).partials ≡ Some f.copies

-- the program's cells go on from these
abbrev pub HasCells : Program → Cells → Type 0
HasCells p C = Grows C.rows p.cells

pub cell-dims : (p : Program) (C : Cells) (q : List ℕ) (d : Dims) (s : Parts) (f : ℕ) (place : ℕ × ℕ) → HasCells p C → AreLaid C → IsTaken C q d s f → IsPlace s place → dims_of p (cell_of C q s place) ≡ rect_dims (child d s place)
cell-dims p C q d s f place has laid k h = has.dims (cell_of C q s place).0 (cell-inside C q d s f place laid k h) ∙ cell-row C q d s f place laid k h

pub differs : (c d : Cell) → (c ≡ d → ⊥) → same_cell c d ≡ false
differs c d h = by_test (same_cell c d) refl
  where
    by_test : (b : Bool) → same_cell c d ≡ b → b ≡ false
    by_test false e = refl
    by_test true e = absurd (h (same_cell-is c d e))

-- a child's cell is no partial copy of an open phase
pub not_copy : (workers : ℕ) (C : Cells) (phases : Phases) (q : List ℕ) (d : Dims) (s : Parts) (g : ℕ) (place : ℕ × ℕ) (e : Cell) (f : OpenPhase) (w : ℕ) → HaveTheirs workers C phases → IsTaken C q d s g → IsPlace s place → phases e ≡ Some f → w < workers → same_cell (cell_of C q s place) (copy_at f.copies w) ≡ false
not_copy workers C phases q d s g place e f w h t at is below =
    differs (cell_of C q s place) (copy_at f.copies w) (λ same. h.copies.beside e f.copies w q d s g place (h.theirs e f is) below t at (sym (ap (λ (c : Cell). c.0) same) ∙ cell-is C q d s g place t))

-- a cell that holds what it held, with its partial copies
pub held-kept : (p : Program) (phases after : Phases) (m n : ℕ) (k new : Contents) (c : Cell) (x : Array) → m ≤ n → after c ≡ phases c → (IsTrusted p → held_in p new c ≡ held_in p k c) → (IsTrusted p → (f : OpenPhase) → phases c ≡ Some f → SameCopies p k new f) → IsHeld p phases m k c x → IsHeld p after n new c x
held-kept p phases after m n k new c x more e same copies h = record {
  value = λ t. denoted-same p phases after k new c e (same t) (copies t) ∙ h.value t;
  given = later p m n c more h.given;
  copies = λ f g w below. later p m n (copy_at f.copies w) more (h.copies f (sym e ∙ g) w below);
}

-- a root whose cells hold what they held
pub root-kept : (p : Program) (C D : Cells) (phases after : Phases) (m n : ℕ) (k new : Contents) (q : List ℕ) (r : RootState) → (b : HasRoot p C phases m k q r) → IsTaken D q r.dims r.parts b.first → m ≤ n
    → (IsTrusted p → (place : ℕ × ℕ) → IsPlace r.parts place → held_in p new (cell_of D q r.parts place) ≡ held_in p k (cell_of D q r.parts place))
    → ((place : ℕ × ℕ) → IsPlace r.parts place → after (cell_of D q r.parts place) ≡ phases (cell_of D q r.parts place))
    → (IsTrusted p → (place : ℕ × ℕ) (f : OpenPhase) → IsPlace r.parts place → phases (cell_of D q r.parts place) ≡ Some f → SameCopies p k new f) → HasRoot p D after n new q r
root-kept p C D phases after m n k new q r b t more same phase copies = record {
  fits = b.fits;
  whole = b.whole;
  first = b.first;
  taken = t;
  held = λ place inside v. held-kept p phases after m n k new (cell_of D q r.parts place) (child_array r place) more (phase place inside) (λ t. same t place inside) (λ t f e. copies t place f inside e)
      (subst (λ (c : Cell). IsHeld p phases m k c (child_array r place)) (cell place) (b.held place inside v));
  blank = λ place inside v. phase place inside ∙ ap phases (sym (cell place)) ∙ b.blank place inside v;
  reduced = λ place f inside e. b.reduced place f inside (ap phases (cell place) ∙ sym (phase place inside) ∙ e);
}
  where
    cell : (place : ℕ × ℕ) → cell_of C q r.parts place ≡ cell_of D q r.parts place
    cell place = cell_of_number (cell_of C q r.parts place) (cell_of D q r.parts place) (cell-is C q r.dims r.parts b.first place b.taken ∙ sym (cell-is D q r.dims r.parts b.first place t))

pub holds-later : (p : Program) (C : Cells) (phases : Phases) (m n : ℕ) (k : Contents) (S : JobState) → m ≤ n → HaveRoots p C phases m k S → HaveRoots p C phases n k S
holds-later p C phases m n k S h has q r e = let b = has q r e in root-kept p C C phases phases m n k k q r b b.taken h (λ trust place inside. refl) (λ place inside. refl) (λ trust place f inside g w below. refl)

-- contents that hold the same
pub holds-same : (p : Program) (C : Cells) (phases : Phases) (n : ℕ) (k new : Contents) (S : JobState) → (IsTrusted p → (c : Cell) → held_in p new c ≡ held_in p k c) → HaveRoots p C phases n k S → HaveRoots p C phases n new S
holds-same p C phases n k new S same has q r e = let b = has q r e in root-kept p C C phases phases n n k new q r b b.taken (omega arith) (λ trust place inside. same trust (cell_of C q r.parts place)) (λ place inside. refl) (λ trust place f inside g w below. same trust (copy_at f.copies w))

-- ---- one array put

-- both are one child
abbrev pub same_child : Operand (List ℕ) → Operand (List ℕ) → Bool
same_child o u = bytes_eq o.name u.name && same_child_place o.place u.place

-- an operand is a child, which gets this array in this cell
pub record Gives (p : Program) (C : Cells) (phases : Phases) (n : ℕ) (S : JobState) (c : Cell) (o : Operand (List ℕ)) (a : Array) : Type 0 where
  pub root : RootState
  pub is_root : root_of S o.name ≡ Some root
  pub placed : IsPlace root.parts o.place
  pub dims : a.dims ≡ rect_dims (child_rect root o.place)
  pub whole : IsWhole a
  pub cell_is : c ≡ cell_of C o.name root.parts o.place
  pub given : HasValueBefore p (task n) c
  pub closed : phases c ≡ None

other_place : (x y : ℕ × ℕ) → same_child_place x y ≡ false → x ≡ y → ⊥
other_place x y e same = false≢true (sym e ∙ ap (same_child_place x) (sym same) ∙ same_child_place-refl x)

-- the root itself, after a child of it was put
put_child : (p : Program) (C : Cells) (phases : Phases) (n : ℕ) (k : Contents) (S : JobState) (c : Cell) (o : Operand (List ℕ)) (a : Array) → AreLaid C → HaveTheirs p.workers C phases → (g : Gives p C phases n S c o a) → HasRoot p C phases n k o.name g.root → HasRoot p C phases n ((c, a) ∷ k) o.name (with_child o.place a g.root)
put_child p C phases n k S c o a laid theirs g b = record {
  fits = b.fits;
  whole = written-whole g.root o.place a;
  first = b.first;
  taken = b.taken;
  held = λ place inside v. by_place place inside v (same_child_place o.place place) refl;
  blank = λ place inside v. by_blank place inside v (same_child_place o.place place) refl;
  reduced = λ place f inside e. b.reduced place f inside e;
}
  where
    by_place : (place : ℕ × ℕ) → IsPlace g.root.parts place → is_valued_child (with_child o.place a g.root) place ≡ true → (t : Bool) → same_child_place o.place place ≡ t → IsHeld p phases n ((c, a) ∷ k) (cell_of C o.name g.root.parts place) (child_array (with_child o.place a g.root) place)
    by_place place inside v true t =
        let here = same_child_place-law o.place place t in
        subst (λ (x : ℕ × ℕ). IsHeld p phases n ((c, a) ∷ k) (cell_of C o.name g.root.parts x) (child_array (with_child o.place a g.root) x)) here
        (subst (λ (d : Cell). IsHeld p phases n ((c, a) ∷ k) d (child_array (with_child o.place a g.root) o.place)) g.cell_is
        (record {
          value = λ trust. denoted-closed p phases ((c, a) ∷ k) c g.closed ∙ held-same p c a k ∙ sym (written-array g.root o.place a g.placed g.dims g.whole);
          given = g.given;
          copies = λ f e. absurd (no f e);
        }))
      where
        no : (f : OpenPhase) → phases c ≡ Some f → ⊥
        no f e = none_isn't f (sym g.closed ∙ e)
    by_place place inside v false t =
        let apart = other_place o.place place t in
        let stays = written-other g.root o.place place a g.placed inside apart in
        let old = b.held place inside (ap (λ es. is_child g.root.parts place && list_all (λ (e : Option ℤ). is_some e) es) (sym stays) ∙ v) in
        subst (λ (x : Array). IsHeld p phases n ((c, a) ∷ k) (cell_of C o.name g.root.parts place) x) (ap (λ es. record { dims = rect_dims (child_rect g.root place); elements = integers_of es }) (sym stays))
        (held-kept p phases phases n n k ((c, a) ∷ k) (cell_of C o.name g.root.parts place) (child_array g.root place) (omega arith) refl
        (λ trust. held-other p c a k (cell_of C o.name g.root.parts place) (differs c (cell_of C o.name g.root.parts place) (λ e. apart (cells-apart C o.name o.name g.root.dims g.root.dims g.root.parts g.root.parts b.first b.first o.place place laid b.taken b.taken g.placed inside (sym g.cell_is ∙ e)).2)))
        (λ trust f e w below. held-other p c a k (copy_at f.copies w) (ap (λ (d : Cell). same_cell d (copy_at f.copies w)) g.cell_is ∙ not_copy p.workers C phases o.name g.root.dims g.root.parts b.first o.place (cell_of C o.name g.root.parts place) f w theirs b.taken g.placed e below)) old)

    by_blank : (place : ℕ × ℕ) → IsPlace g.root.parts place → is_valued_child (with_child o.place a g.root) place ≡ false → (t : Bool) → same_child_place o.place place ≡ t → phases (cell_of C o.name g.root.parts place) ≡ None
    by_blank place inside v true t = ap (λ (x : ℕ × ℕ). phases (cell_of C o.name g.root.parts x)) (sym (same_child_place-law o.place place t)) ∙ ap phases (sym g.cell_is) ∙ g.closed
    by_blank place inside v false t =
        b.blank place inside (ap (λ es. is_child g.root.parts place && list_all (λ (e : Option ℤ). is_some e) es) (sym (written-other g.root o.place place a g.placed inside (other_place o.place place t))) ∙ v)

-- another name's root
put_beside : (p : Program) (C : Cells) (phases : Phases) (n : ℕ) (k : Contents) (S : JobState) (c : Cell) (o : Operand (List ℕ)) (a : Array) (q : List ℕ) (r : RootState) → AreLaid C → HaveTheirs p.workers C phases → (g : Gives p C phases n S c o a) → HasRoot p C phases n k o.name g.root → (o.name ≡ q → ⊥) → HasRoot p C phases n k q r → HasRoot p C phases n ((c, a) ∷ k) q r
put_beside p C phases n k S c o a q r laid theirs g b apart h =
    root-kept p C C phases phases n n k ((c, a) ∷ k) q r h h.taken (omega arith)
    (λ trust place inside. held-other p c a k (cell_of C q r.parts place) (differs c (cell_of C q r.parts place) (λ e. apart (cells-apart C o.name q g.root.dims r.dims g.root.parts r.parts b.first h.first o.place place laid b.taken h.taken g.placed inside (sym g.cell_is ∙ e)).0)))
    (λ place inside. refl)
    (λ trust place f inside e w below. held-other p c a k (copy_at f.copies w) (ap (λ (d : Cell). same_cell d (copy_at f.copies w)) g.cell_is ∙ not_copy p.workers C phases o.name g.root.dims g.root.parts b.first o.place (cell_of C q r.parts place) f w theirs b.taken g.placed e below))

pub holds-put : (p : Program) (C : Cells) (phases : Phases) (n : ℕ) (k : Contents) (S : JobState) (c : Cell) (o : Operand (List ℕ)) (a : Array) → AreLaid C → HaveTheirs p.workers C phases → HaveRoots p C phases n k S → Gives p C phases n S c o a → HaveRoots p C phases n ((c, a) ∷ k) (put o a S)
holds-put p C phases n k S c o a laid theirs has g q r e = by_test (bytes_eq o.name q) refl (sym (root-change (with_child o.place a) o.name S g.root q g.is_root) ∙ e)
  where
    by_test : (t : Bool) → bytes_eq o.name q ≡ t → cond t (Some (with_child o.place a g.root)) (root_of S q) ≡ Some r → HasRoot p C phases n ((c, a) ∷ k) q r
    by_test true t e =
        subst (λ (x : RootState). HasRoot p C phases n ((c, a) ∷ k) q x) (same_Some (with_child o.place a g.root) r e)
        (subst (λ (u : List ℕ). HasRoot p C phases n ((c, a) ∷ k) u (with_child o.place a g.root)) (same_text o.name q t) (put_child p C phases n k S c o a laid theirs g (has o.name g.root g.is_root)))
    by_test false t e = put_beside p C phases n k S c o a q r laid theirs g (has o.name g.root g.is_root) (other_text o.name q t) (has q r e)

-- ---- the arrays of a task

-- the operand is none of these children
abbrev pub IsOther : Operand (List ℕ) → List (Operand (List ℕ)) → Type 0
IsOther o [] = Unit {0}
IsOther o (u ∷ us) = (same_child o u ≡ false) × IsOther o us

-- arrays for operands, each another child
abbrev pub GivesAll : Program → Cells → Phases → ℕ → JobState → ((Operand (List ℕ)) → Cell) → List (Operand (List ℕ)) → List Array → Type 0
GivesAll p C phases n S cell [] xs = Unit {0}
GivesAll p C phases n S cell (o ∷ os) [] = ⊥
GivesAll p C phases n S cell (o ∷ os) (a ∷ xs) = Gives p C phases n S (cell o) o a × IsOther o os × GivesAll p C phases n S cell os xs

gives-after : (p : Program) (C : Cells) (phases : Phases) (n : ℕ) (S : JobState) (c d : Cell) (o u : Operand (List ℕ)) (a x : Array) → Gives p C phases n S c o a → Gives p C phases n S d u x → Gives p C phases n (put o a S) d u x
gives-after p C phases n S c d o u a x g h = by_test (bytes_eq o.name u.name) refl
  where
    by_test : (t : Bool) → bytes_eq o.name u.name ≡ t → Gives p C phases n (put o a S) d u x
    by_test true t =
        let same : g.root ≡ h.root = same_Some g.root h.root (sym g.is_root ∙ ap (root_of S) (same_text o.name u.name t) ∙ h.is_root) in
        record {
          root = with_child o.place a h.root;
          is_root = root-change (with_child o.place a) o.name S g.root u.name g.is_root ∙ ap (λ b. cond b (Some (with_child o.place a g.root)) (root_of S u.name)) t ∙ ap (λ (r : RootState). Some (with_child o.place a r)) same;
          placed = h.placed;
          dims = h.dims;
          whole = h.whole;
          cell_is = h.cell_is;
          given = h.given;
          closed = h.closed;
        }
    by_test false t = record {
      root = h.root;
      is_root = root-change (with_child o.place a) o.name S g.root u.name g.is_root ∙ ap (λ b. cond b (Some (with_child o.place a g.root)) (root_of S u.name)) t ∙ h.is_root;
      placed = h.placed;
      dims = h.dims;
      whole = h.whole;
      cell_is = h.cell_is;
      given = h.given;
      closed = h.closed;
    }

all-after : (p : Program) (C : Cells) (phases : Phases) (n : ℕ) (S : JobState) (cell : Operand (List ℕ) → Cell) (c : Cell) (o : Operand (List ℕ)) (a : Array) (us : List (Operand (List ℕ))) (xs : List Array) → Gives p C phases n S c o a → GivesAll p C phases n S cell us xs → GivesAll p C phases n (put o a S) cell us xs
all-after p C phases n S cell c o a [] xs g all = tt
all-after p C phases n S cell c o a (u ∷ us) [] g all = absurd all
all-after p C phases n S cell c o a (u ∷ us) (x ∷ xs) g all = (gives-after p C phases n S c (cell u) o u a x g all.0, all.1, all-after p C phases n S cell c o a us xs g all.2)

cell_apart : (p : Program) (C : Cells) (phases : Phases) (n : ℕ) (k : Contents) (S : JobState) (c d : Cell) (o u : Operand (List ℕ)) (a x : Array) → AreLaid C → HaveTheirs p.workers C phases → HaveRoots p C phases n k S → Gives p C phases n S c o a → Gives p C phases n S d u x → same_child o u ≡ false → same_cell c d ≡ false
cell_apart p C phases n k S c d o u a x laid theirs has g h other =
    let b = has o.name g.root g.is_root in
    let i = has u.name h.root h.is_root in
    differs c d (λ e.
    let same = cells-apart C o.name u.name g.root.dims h.root.dims g.root.parts h.root.parts b.first i.first o.place u.place laid b.taken i.taken g.placed h.placed (sym g.cell_is ∙ e ∙ h.cell_is) in
    false≢true (sym other ∙ and_from (bytes_eq o.name u.name) (same_child_place o.place u.place) (ap (bytes_eq o.name) (sym same.0) ∙ bytes_eq-itself o.name) (ap (same_child_place o.place) (sym same.2) ∙ same_child_place-refl o.place)))

not_among : (p : Program) (C : Cells) (phases : Phases) (n : ℕ) (k : Contents) (S : JobState) (cell : Operand (List ℕ) → Cell) (o : Operand (List ℕ)) (a : Array) (us : List (Operand (List ℕ))) (xs : List Array) → AreLaid C → HaveTheirs p.workers C phases → HaveRoots p C phases n k S → Gives p C phases n S (cell o) o a → IsOther o us → GivesAll p C phases n S cell us xs → NotAmong (cell o) (each_of cell us)
not_among p C phases n k S cell o a [] xs laid theirs has g other all = tt
not_among p C phases n k S cell o a (u ∷ us) [] laid theirs has g other all = absurd all
not_among p C phases n k S cell o a (u ∷ us) (x ∷ xs) laid theirs has g other all =
    (cell_apart p C phases n k S (cell o) (cell u) o u a x laid theirs has g all.0 other.0, not_among p C phases n k S cell o a us xs laid theirs has g other.1 all.2)

pub holds-put_all : (p : Program) (C : Cells) (phases : Phases) (n : ℕ) (cell : Operand (List ℕ) → Cell) (os : List (Operand (List ℕ))) (xs : List Array) (k : Contents) (S : JobState) → AreLaid C → HaveTheirs p.workers C phases → HaveRoots p C phases n k S → GivesAll p C phases n S cell os xs → HaveRoots p C phases n (zip (each_of cell os) xs ++ k) (put_all os xs S)
holds-put_all p C phases n cell [] xs k S laid theirs has all = has
holds-put_all p C phases n cell (o ∷ os) [] k S laid theirs has all = absurd all
holds-put_all p C phases n cell (o ∷ os) (a ∷ xs) k S laid theirs has all =
    let here = holds-put p C phases n k S (cell o) o a laid theirs has all.0 in
    let rest = holds-put_all p C phases n cell os xs ((cell o, a) ∷ k) (put o a S) laid theirs here (all-after p C phases n S cell (cell o) o a os xs all.0 all.2) in
    let away = not_among p C phases n k S cell o a os xs laid theirs has all.0 all.1 all.2 in
    holds-same p C phases n (zip (each_of cell os) xs ++ (cell o, a) ∷ k) (zip (each_of cell (o ∷ os)) (a ∷ xs) ++ k) (put_all (o ∷ os) (a ∷ xs) S)
    (λ trust d. sym (held-moved p (cell o) a (each_of cell os) xs k d away)) rest
