-- Two tasks that work on one cell, of which one writes it: they conflict, or commute, or contribute by one worker.
use Rattle.sj_core.proofs.Words.{[], Access, access, ap, arith, Bool, Cell, cell_info, CellInfo, cells_of, Codelet, Commute, CommuteMode, commuting_cells, Conflict, Contains, Contribute, copies_of, copy_of, filter, flat_map, has_cell, HasDependencies, inl, inr, is_commute, is_redux, is_scratch, is_some, is_written, IsShared, IsTrue, length, List, Lowered, Manner, map, Mode, NamesCells, no_cell, no_task, None, not, Option, option_and_then, Program, R, range_with_len, Read, Redux, refl, RW, same_cell, SameGroup, Scratch, slice_get, Some, subst, suc, sym, Task, task_of, true, Usage, usage, usages, usages_of, Uses, W, worked_on, Worker, Write, written_cells, zero, ℕ, ◌+◌, ◌<◌, ◌∙◌, ◌∷◌, ◌≡◌, ◌≢◌, ◌⊎◌}
use Rattle.std.proofs.lemmas.{Bool.cases_eq, Bool.false≢true, Bool.Decides.Decides-eqb, List.Elements.Contains-append_left, List.Elements.Contains-append_right, List.Folds.list_any_at, List.FromFn.get_or-range_with_len, List.FromFn.length-range_with_len, Option.slice_get-get_or}
use Rattle.sj_base.proofs.{Lists.list_any-map, SameIds.same_cell-is}
use Rattle.sj_core.proofs.{Modes.written_isn't_scratch, Readiness.Contains-filter, Readiness.Contains-from_filter, Readiness.Contains-map, Readiness.filter-Contains, Readiness.list_any-some}

-- ---- an operand behind a cell

-- a cell that a list of operands gives is given by one of them
pub operand_for : (g : Access → Cell) (f : Access → Bool) (xs : List Access) (c : Cell) → has_cell (map g (filter f xs)) c ≡ true → (a : Access) × Contains xs a × (f a ≡ true) × (g a ≡ c)
operand_for g f xs c h =
    let found = list_any-some (λ a. same_cell (g a) c) (filter f xs) (sym (list_any-map (λ d. same_cell d c) g (filter f xs)) ∙ h) in
    (found.0, Contains-from_filter f xs found.0 found.1, filter-Contains f xs found.0 found.1, same_cell-is (g found.0) c found.2)

-- and an operand of the list gives its cell
pub operand-has_cell : (g : Access → Cell) (f : Access → Bool) (xs : List Access) (a : Access) (c : Cell) → Contains xs a → f a ≡ true → same_cell (g a) c ≡ true → has_cell (map g (filter f xs)) c ≡ true
operand-has_cell g f xs a c h passes same =
    let (k, within, is) = Contains-filter f xs a passes h in
    list_any-map (λ d. same_cell d c) g (filter f xs) ∙ list_any_at (λ b. same_cell (g b) c) (filter f xs) k a within (ap (λ (b : Access). same_cell (g b) c) is ∙ same)

-- ---- how a task uses the cell of an operand

Contains-flat_map : {X Y : Type 0} (f : X → List Y) (xs : List X) (x : X) (y : Y) → Contains xs x → Contains (f x) y → Contains (flat_map f xs) y
Contains-flat_map f [] x y (k, l, e) h = absurd (omega arith)
Contains-flat_map f (z ∷ xs) x y (zero, l, e) h = Contains-append_left (f z) (flat_map f xs) y (subst (λ v. Contains (f v) y) (sym e) h)
Contains-flat_map f (z ∷ xs) x y (suc k, l, e) h = Contains-append_right (f z) (flat_map f xs) y (Contains-flat_map f xs x y (k, omega arith, e) h)

-- the manner of an operand of a codelet, scratch aside
abbrev pub manner_of : Codelet → Mode → Manner
manner_of k R = Read
manner_of k W = Write
manner_of k RW = Write
manner_of k Scratch = Read
manner_of k Redux = Contribute
manner_of k CommuteMode = Commute k

pub one : {X : Type 0} (x : X) → Contains (x ∷ []) x
one x = (0, omega arith, refl)

-- the usage of an operand stands among the task's
pub used_by_operand : (p : Program) (t : Task) (a : Access) (u : Usage) → t.0 < length p.tasks → Contains (task_of p t).accesses a → Contains (usages_of p (task_of p t).codelet a) u → Contains (usages p t.0) u
used_by_operand p t a u inside h k =
    let got : slice_get p.tasks t.0 ≡ Some (task_of p t) = slice_get-get_or p.tasks t.0 no_task inside in
    let P : Option Lowered → Type 0 = λ o. Contains (elim o as (λ _. List Usage) [ None ↦ [] | Some task ↦ flat_map (usages_of p task.codelet) task.accesses ]) u in
    subst P (sym got) (Contains-flat_map (usages_of p (task_of p t).codelet) (task_of p t).accesses a u h k)

-- the worker's copy is one of the cell's copies
copy-among : (p : Program) (d first : Cell) (v : Worker) → d.0 < length p.cells → (cell_info p d).partials ≡ Some first → v.0 < p.workers → Contains (copies_of p d.0) (copy_of p d v).0
copy-among p d first v inside has h =
    let got : slice_get p.cells d.0 ≡ Some (cell_info p d) = slice_get-get_or p.cells d.0 no_cell inside in
    let copies : Option Cell → List ℕ = λ o. elim o as (λ _. List ℕ) [ None ↦ [] | Some f ↦ range_with_len f.0 p.workers ] in
    let copy : Option Cell → Cell = λ o. elim o as (λ _. Cell) [ None ↦ d | Some f ↦ record { 0 = f.0 + v.0 } ] in
    let P : Option CellInfo → Type 0 = λ o. Contains (copies (option_and_then (λ (info : CellInfo). info.partials) o)) (copy_of p d v).0 in
    let Q : Option Cell → Type 0 = λ o. Contains (copies o) (copy o).0 in
    subst P (sym got) (subst Q (sym has) (v.0, omega (arith, length-range_with_len first.0 p.workers), get_or-range_with_len first.0 p.workers v.0 (first.0 + v.0) h))

pub operand-uses : (p : Program) (t : Task) (v : Worker) (x : Mode) (d : Cell) → t.0 < length p.tasks → Contains (task_of p t).accesses (access x d) → not (is_scratch x) ≡ true → (is_redux x ≡ true → (v.0 < p.workers) × (d.0 < length p.cells) × ((first : Cell) × ((cell_info p d).partials ≡ Some first))) → Uses p t.0 (worked_on p v (access x d)).0 (manner_of (task_of p t).codelet x)
operand-uses p t v Redux d inside h accessed copies =
    let c = copies refl in
    used_by_operand p t (access Redux d) (usage Contribute (copy_of p d v).0) inside h (Contains-map (usage Contribute) (copies_of p d.0) (copy_of p d v).0 (copy-among p d c.2.0 v c.1 c.2.1 c.0))
operand-uses p t v x d inside h accessed copies = search (arith, used_by_operand, one, false≢true)

-- ---- two tasks and one cell

-- how two tasks share a cell that one of them writes
pub data Sharing (p : Program) (u t : Task) (v w : Worker) (c : Cell) : Type 0 where
  Conflicting : Conflict p u.0 t.0 → Conflict p t.0 u.0 → Sharing p u t v w c
  Commuting : IsTrue (has_cell (commuting_cells p u) c) → IsTrue (has_cell (commuting_cells p t) c) → Sharing p u t v w c
  Contributing : v ≡ w → Sharing p u t v w c

has-some : (o : Option Cell) → is_some o ≡ true → (first : Cell) × (o ≡ Some first)
has-some o h = search (arith, false≢true)

-- the operands of a REDUX access are cells of the program that have partial copies
pub redux-has_copies : (p : Program) → NamesCells p → (t : Task) → t.0 < length p.tasks → (x : Mode) (d : Cell) → Contains (task_of p t).accesses (access x d) → is_redux x ≡ true → (d.0 < length p.cells) × ((first : Cell) × ((cell_info p d).partials ≡ Some first))
redux-has_copies p names t inside x d (k, l, e) redux =
    let here = names.named t.0 no_task inside k (access x d) l in
    let copies = names.reduced t.0 no_task inside k (access x d) l (ap (λ (a : Access). is_redux a.mode) e ∙ redux) in
    (subst (λ (a : Access). a.cell.0 < length p.cells) e here, has-some (cell_info p d).partials (sym (ap (λ (a : Access). is_some (cell_info p a.cell).partials) e) ∙ copies))

pub write_isn't_read : Write ≡ Read → ⊥
write_isn't_read e = cc

pub contribute_isn't_read : Contribute ≡ Read → ⊥
contribute_isn't_read e = cc

-- a written operand isn't only read
pub written-isn't_read : (k : Codelet) (x : Mode) → is_written x ≡ true → manner_of k x ≢ Read
written-isn't_read k x h e = search (arith, false≢true)

-- two manners are one that tasks share, or not
pub data Meets (m n : Manner) : Type 0 where
  BothCommute : (k : Codelet) → m ≡ Commute k → n ≡ Commute k → Meets m n
  BothContribute : m ≡ Contribute → n ≡ Contribute → Meets m n
  Differ : ((IsShared n → ⊥) ⊎ ((IsShared m → ⊥) ⊎ (m ≢ n))) → Meets m n

pub meeting : (m n : Manner) → Meets m n
meeting m Read = Differ (inl (λ h. h))
meeting m Write = Differ (inl (λ h. h))
meeting Read n = Differ (inr (inl (λ h. h)))
meeting Write n = Differ (inr (inl (λ h. h)))
meeting Contribute Contribute = BothContribute refl refl
meeting Contribute (Commute k) = Differ (inr (inr (λ e. cc)))
meeting (Commute k) Contribute = Differ (inr (inr (λ e. cc)))
meeting (Commute j) (Commute k) = elim (cases_eq j.0 k.0) [
  | inl e ↦ BothCommute k (ap (λ (i : ℕ). Commute (record { 0 = i })) e) refl
  | inr d ↦ Differ (inr (inr (λ e. d (let f : j ≡ k = cc in ap (λ (c : Codelet). c.0) f))))
]

-- the operands that commute, or contribute, by their manners
pub commuting-is : (k j : Codelet) (x : Mode) → manner_of k x ≡ Commute j → (x ≡ CommuteMode) × (k ≡ j)
commuting-is k j x e = search arith

pub contributing-is : (k : Codelet) (x : Mode) → manner_of k x ≡ Contribute → x ≡ Redux
contributing-is k x e = search arith

-- two tasks use a cell that not both only read, by no one shared manner
pub conflict-by : (p : Program) → HasDependencies p → (u t c : ℕ) (m n : Manner) → Uses p u c m → Uses p t c n → ¬ ((m ≡ Read) × (n ≡ Read)) → ((IsShared n → ⊥) ⊎ ((IsShared m → ⊥) ⊎ (m ≢ n))) → Conflict p u t
conflict-by p deps u t c m n um tn written either = record { cell = c; manner_of_t = m; manner_of_u = n; first = um; second = tn; written = written; apart = apart either }
  where
    apart : ((IsShared n → ⊥) ⊎ ((IsShared m → ⊥) ⊎ (m ≢ n))) → (k : Manner) → ¬ SameGroup p u t c k
    apart (inl alone) k g = alone (subst IsShared (sym (deps.manners t c n k tn g.second)) g.shared)
    apart (inr (inl alone)) k g = alone (subst IsShared (sym (deps.manners u c m k um g.first)) g.shared)
    apart (inr (inr differ)) k g = differ (deps.manners u c m k um g.first ∙ sym (deps.manners t c n k tn g.second))

-- a conflict has no direction
pub Conflict-sym : (p : Program) (u t : ℕ) → Conflict p u t → Conflict p t u
Conflict-sym p u t h = record {
  cell = h.cell;
  manner_of_t = h.manner_of_u;
  manner_of_u = h.manner_of_t;
  first = h.second;
  second = h.first;
  written = λ both. h.written (both.1, both.0);
  apart = λ k g. h.apart k (record { shared = g.shared; first = g.second; second = g.first; alike = λ v n between. g.alike v n (elim between [ inl b ↦ inr b | inr b ↦ inl b ]) });
}

module _ (p : Program) (names : NamesCells p) (deps : HasDependencies p) (u t : Task) (v w : Worker) (c : Cell) (u_in : u.0 < length p.tasks) (t_in : t.0 < length p.tasks) (v_in : v.0 < p.workers) (w_in : w.0 < p.workers) where
  -- the copies of two REDUX operands are one only where the worker is
  one_copy : (d e : Cell) → is_some (cell_info p d).partials ≡ true → is_some (cell_info p e).partials ≡ true → copy_of p d v ≡ c → copy_of p e w ≡ c → v ≡ w
  one_copy d e hd he cd ce =
      let same = names.apart c d e v w (record { has_copies = hd; of_worker = v_in; is = sym cd }) (record { has_copies = he; of_worker = w_in; is = sym ce }) in
      let first = has-some (cell_info p d).partials hd in
      let n : v.0 ≡ w.0 = grind (arith, same, cd, ce, first.1) in
      ap (λ (i : ℕ). let j : Worker = record { 0 = i } in j) n

  -- two tasks that share a cell that t writes conflict, or both commute there, or contribute by one worker
  pub sharing : has_cell (cells_of p u v) c ≡ true → has_cell (written_cells p t w) c ≡ true → Sharing p u t v w c
  sharing hu ht =
      let a = operand_for (worked_on p v) (λ a. not (is_scratch a.mode)) (task_of p u).accesses c hu in
      let b = operand_for (worked_on p w) (λ a. is_written a.mode) (task_of p t).accesses c ht in
      let ua = operand-uses p u v a.0.mode a.0.cell u_in a.1 a.2 (λ redux. (let c = redux-has_copies p names u u_in a.0.mode a.0.cell a.1 redux in (v_in, c.0, c.1))) in
      let tb = operand-uses p t w b.0.mode b.0.cell t_in b.1 (written_isn't_scratch b.0.mode b.2) (λ redux. (let c = redux-has_copies p names t t_in b.0.mode b.0.cell b.1 redux in (w_in, c.0, c.1))) in
      let un = subst (λ (q : Cell). Uses p u.0 q.0 (manner_of (task_of p u).codelet a.0.mode)) a.3 ua in
      let tn = subst (λ (q : Cell). Uses p t.0 q.0 (manner_of (task_of p t).codelet b.0.mode)) b.3 tb in
      elim (meeting (manner_of (task_of p u).codelet a.0.mode) (manner_of (task_of p t).codelet b.0.mode)) [
        | BothCommute k eu et ↦ Commuting (commutes u v k a.0 a.1 eu a.3) (commutes t w k b.0 b.1 et b.3)
        | BothContribute eu et ↦ search (arith, contributing-is, redux-has_copies, one_copy)
        | Differ apart ↦
            let forward = conflict-by p deps u.0 t.0 c.0 _ _ un tn (λ both. written-isn't_read (task_of p t).codelet b.0.mode b.2 both.1) apart in
            Conflicting forward (Conflict-sym p u.0 t.0 forward)
      ]
    where
      commutes : (x : Task) (y : Worker) (k : Codelet) (a : Access) → Contains (task_of p x).accesses a → manner_of (task_of p x).codelet a.mode ≡ Commute k → worked_on p y a ≡ c → has_cell (commuting_cells p x) c ≡ true
      commutes x y k a among e is =
          let mode = (commuting-is (task_of p x).codelet k a.mode e).0 in
          operand-has_cell (λ a. a.cell) (λ a. is_commute a.mode) (task_of p x).accesses a c among (ap is_commute mode)
          ((Decides-eqb a.cell.0 c.0).1 (ap (λ (q : Cell). q.0) (subst (λ (m : Mode). worked_on p y (access m a.cell) ≡ c → a.cell ≡ c) (sym mode) (λ e. e) is)))
