-- Each child of each plan that a root has taken has a cell of its own.
use Rattle.sj_lower.proofs.Words.{[], ap, area, arith, Bool, bytes_eq, Cell, cell_of, CellInfo, Cells, child, child_cell, cond, Dims, each_of, false, Fits, get_or, Handle, is_some, IsPlace, length, length-append, List, next_handle, no_cell, no_cells, None, number, Option, Parts, places, rect_dims, refl, same_parts, Some, subst, sym, take, take_by, taking_plan, true, unwrap_or, with_handle, with_new_root, ℕ, ◌*◌, ◌++◌, ◌+◌, ◌-◌, ◌<◌, ◌^◌, ◌∙◌, ◌≡◌, ◌≤◌}
use Rattle.std.specs.List.{All}
use Rattle.std.proofs.lemmas.{List.get_or-append_right, List.get_or_append_left, List.Elements.All-append, List.Elements.All-from_recursion, Option.same_Some, Slice.Eq.bytes_eq-Decides}
use Rattle.sj_base.proofs.Texts.{same_text}
use Rattle.sj_plan.proofs.{Lists.each-map, Lists.each-places, Splitting.part_end}
use Rattle.sj_job.proofs.Children.{number-alone}
use Rattle.sj_lower.proofs.Places.{parts-are, parts-itself, number-below, length-places, places-at}

pub bytes_eq-itself : (a : List ℕ) → bytes_eq a a ≡ true
bytes_eq-itself a = (bytes_eq-Decides a a).1 refl

pub none_isn't : {X : Type 0} (x : X) → None ≡ Some x → ⊥
none_isn't x e = absurd (cc)

-- ---- what is laid

-- a name has taken the plan, for a root of these dimensions, and its first cell is that
pub record IsTaken (C : Cells) (q : List ℕ) (d : Dims) (s : Parts) (f : ℕ) : Type 0 where
  pub handle : Handle
  pub is : C.handles q ≡ Some handle
  pub dims : handle.dims ≡ d
  pub first : handle.first s ≡ Some f

pub record AreLaid (C : Cells) : Type 0 where
  pub fits : (q : List ℕ) (d : Dims) (s : Parts) (f : ℕ) → IsTaken C q d s f → Fits s d
  pub inside : (q : List ℕ) (d : Dims) (s : Parts) (f : ℕ) → IsTaken C q d s f → f + s.r * s.c ≤ length C.rows
  pub row : (q : List ℕ) (d : Dims) (s : Parts) (f : ℕ) (place : ℕ × ℕ) → IsTaken C q d s f → IsPlace s place → (get_or C.rows (f + number s place) no_cell).dims ≡ rect_dims (child d s place)
  pub apart : (q u : List ℕ) (d e : Dims) (s t : Parts) (f g : ℕ) (place other : ℕ × ℕ) → IsTaken C q d s f → IsTaken C u e t g → IsPlace s place → IsPlace t other → f + number s place ≡ g + number t other → (q ≡ u) × (s ≡ t) × (place ≡ other)
  pub sized : (q : List ℕ) (h : Handle) → C.handles q ≡ Some h → area h.dims ≤ 16777216
  pub small : All (λ (i : CellInfo). area i.dims ≤ 2 ^ 24) C.rows

-- the same of the cell of a child
pub cell-is : (C : Cells) (q : List ℕ) (d : Dims) (s : Parts) (f : ℕ) (place : ℕ × ℕ) → IsTaken C q d s f → (cell_of C q s place).0 ≡ f + number s place
cell-is C q d s f place k =
    ap (λ n. n + number s place) (ap (λ (o : Option Handle). elim o as (λ _. ℕ) [ None ↦ 0 | Some h ↦ unwrap_or (h.first s) 0 ]) k.is ∙ ap (λ o. unwrap_or o 0) k.first)

pub cell-inside : (C : Cells) (q : List ℕ) (d : Dims) (s : Parts) (f : ℕ) (place : ℕ × ℕ) → AreLaid C → IsTaken C q d s f → IsPlace s place → (cell_of C q s place).0 < length C.rows
cell-inside C q d s f place a k h = omega (arith, cell-is C q d s f place k, a.inside q d s f k, number-below s place h)

pub cell-row : (C : Cells) (q : List ℕ) (d : Dims) (s : Parts) (f : ℕ) (place : ℕ × ℕ) → AreLaid C → IsTaken C q d s f → IsPlace s place → (get_or C.rows (cell_of C q s place).0 no_cell).dims ≡ rect_dims (child d s place)
cell-row C q d s f place a k h = ap (λ n. (get_or C.rows n no_cell).dims) (cell-is C q d s f place k) ∙ a.row q d s f place k h

pub cells-apart : (C : Cells) (q u : List ℕ) (d e : Dims) (s t : Parts) (f g : ℕ) (place other : ℕ × ℕ) → AreLaid C → IsTaken C q d s f → IsTaken C u e t g → IsPlace s place → IsPlace t other → cell_of C q s place ≡ cell_of C u t other → (q ≡ u) × (s ≡ t) × (place ≡ other)
cells-apart C q u d e s t f g place other a k l hp ho same =
    a.apart q u d e s t f g place other k l hp ho (sym (cell-is C q d s f place k) ∙ ap (λ (c : Cell). c.0) same ∙ cell-is C u e t g other l)

-- two first cells of one plan are one
pub taken-once : (C : Cells) (q : List ℕ) (d e : Dims) (s : Parts) (f g : ℕ) → IsTaken C q d s f → IsTaken C q e s g → (d ≡ e) × (f ≡ g)
taken-once C q d e s f g k l =
    let same : k.handle ≡ l.handle = same_Some k.handle l.handle (sym k.is ∙ l.is) in
    (sym k.dims ∙ ap (λ (h : Handle). h.dims) same ∙ l.dims, same_Some f g (sym k.first ∙ ap (λ (h : Handle). h.first s) same ∙ l.first))

-- ---- no cells

pub laid-none : AreLaid no_cells
laid-none = record {
  fits = λ q d s f k. absurd (none_isn't k.handle k.is);
  inside = λ q d s f k. absurd (none_isn't k.handle k.is);
  row = λ q d s f place k h. absurd (none_isn't k.handle k.is);
  apart = λ q u d e s t f g place other k l hp ho same. absurd (none_isn't k.handle k.is);
  sized = λ q h e. absurd (none_isn't h e);
  small = All-from_recursion (λ (i : CellInfo). area i.dims ≤ 2 ^ 24) [] tt;
}

-- ---- a root more

-- a plan that is taken with the root was taken before, by another name
pub taken-root : (C : Cells) (name : List ℕ) (n : Dims) (q : List ℕ) (d : Dims) (s : Parts) (f : ℕ) → IsTaken (with_new_root name n C) q d s f → IsTaken C q d s f
taken-root C name n q d s f k = by_test (bytes_eq name q) k.is
  where
    by_test : (b : Bool) → cond b (Some (next_handle n C)) (C.handles q) ≡ Some k.handle → IsTaken C q d s f
    by_test true e = absurd (none_isn't f (ap (λ (h : Handle). h.first s) (same_Some (next_handle n C) k.handle e) ∙ k.first))
    by_test false e = record { handle = k.handle; is = e; dims = k.dims; first = k.first }

pub root-keeps : (C : Cells) (name : List ℕ) (n : Dims) (q : List ℕ) (d : Dims) (s : Parts) (f : ℕ) → bytes_eq name q ≡ false → IsTaken C q d s f → IsTaken (with_new_root name n C) q d s f
root-keeps C name n q d s f other k = record { handle = k.handle; is = ap (λ b. cond b (Some (next_handle n C)) (C.handles q)) other ∙ k.is; dims = k.dims; first = k.first }

pub root-there : (C : Cells) (name : List ℕ) (n : Dims) → (with_new_root name n C).handles name ≡ Some (next_handle n C)
root-there C name n = ap (λ b. cond b (Some (next_handle n C)) (C.handles name)) (bytes_eq-itself name)

pub laid-root : (C : Cells) (name : List ℕ) (n : Dims) → AreLaid C → area n ≤ 16777216 → AreLaid (with_new_root name n C)
laid-root C name n a few = record {
  fits = λ q d s f k. a.fits q d s f (taken-root C name n q d s f k);
  inside = λ q d s f k. a.inside q d s f (taken-root C name n q d s f k);
  row = λ q d s f place k h. a.row q d s f place (taken-root C name n q d s f k) h;
  apart = λ q u d e s t f g place other k l hp ho same. a.apart q u d e s t f g place other (taken-root C name n q d s f k) (taken-root C name n u e t g l) hp ho same;
  sized = λ q h e. by_test q h (bytes_eq name q) e;
  small = a.small;
}
  where
    by_test : (q : List ℕ) (h : Handle) (b : Bool) → cond b (Some (next_handle n C)) (C.handles q) ≡ Some h → area h.dims ≤ 16777216
    by_test q h true e = subst (λ (i : Handle). area i.dims ≤ 16777216) (same_Some (next_handle n C) h e) few
    by_test q h false e = a.sized q h e

-- ---- a plan more

pub take-by : (C : Cells) (name : List ℕ) (p : Parts) (h : Handle) → C.handles name ≡ Some h → take name p C ≡ take_by name p h C
take-by C name p h e = ap (λ (o : Option Handle). elim o as (λ _. Cells) [ None ↦ C | Some h ↦ take_by name p h C ]) e

-- the children of a plan that is new to its root
abbrev pub News : List ℕ → Parts → Handle → Cells → Cells
News name p h C = record {
  rows = C.rows ++ each_of (child_cell h.root h.dims p) (places p);
  handles = with_handle name (taking_plan p (length C.rows) h) C.handles;
  roots = C.roots;
}

-- a plan that is taken now is the new one, or was taken before
pub data IsOldOrNew (C : Cells) (name : List ℕ) (p : Parts) (h : Handle) (q : List ℕ) (d : Dims) (s : Parts) (f : ℕ) : Type 0 where
  Old : IsTaken C q d s f → IsOldOrNew C name p h q d s f
  New : name ≡ q → p ≡ s → h.dims ≡ d → f ≡ length C.rows → IsOldOrNew C name p h q d s f

pub old_or_new : (C : Cells) (name : List ℕ) (p : Parts) (h : Handle) → C.handles name ≡ Some h → (q : List ℕ) (d : Dims) (s : Parts) (f : ℕ) (k : IsTaken (News name p h C) q d s f) → IsOldOrNew C name p h q d s f
old_or_new C name p h there q d s f k = by_name (bytes_eq name q) refl k.is
  where
    by_plan : (b : Bool) → same_parts p s ≡ b → name ≡ q → taking_plan p (length C.rows) h ≡ k.handle → cond b (Some (length C.rows)) (h.first s) ≡ Some f → IsOldOrNew C name p h q d s f
    by_plan true t named is e = New named (parts-are p s t) (ap (λ (h : Handle). h.dims) is ∙ k.dims) (sym (same_Some (length C.rows) f e))
    by_plan false t named is e = Old (record { handle = h; is = ap C.handles (sym named) ∙ there; dims = ap (λ (h : Handle). h.dims) is ∙ k.dims; first = e })

    by_name : (b : Bool) → bytes_eq name q ≡ b → cond b (Some (taking_plan p (length C.rows) h)) (C.handles q) ≡ Some k.handle → IsOldOrNew C name p h q d s f
    by_name true t e =
        let is = same_Some (taking_plan p (length C.rows) h) k.handle e in
        by_plan (same_parts p s) refl (same_text name q t) is (ap (λ (h : Handle). h.first s) is ∙ k.first)
    by_name false t e = Old (record { handle = k.handle; is = e; dims = k.dims; first = k.first })

longer : (C : Cells) (p : Parts) (h : Handle) → length (C.rows ++ each_of (child_cell h.root h.dims p) (places p)) ≡ length C.rows + p.r * p.c
longer C p h = length-append C.rows (each_of (child_cell h.root h.dims p) (places p)) ∙ ap (λ n. length C.rows + n) (length-places (child_cell h.root h.dims p) p)

child_area : (d : Dims) (p : Parts) (place : ℕ × ℕ) → IsPlace p place → area (rect_dims (child d p place)) ≤ area d
child_area d p place h = product (rect_dims (child d p place)).rows d.rows (rect_dims (child d p place)).cols d.cols (omega (arith, part_end d.rows p.r place.0 h.0)) (omega (arith, part_end d.cols p.c place.1 h.1))
  where
    product : (a b c d : ℕ) → a ≤ b → c ≤ d → a * c ≤ b * d
    product a b c d h k = grind arith

laid_new : (C : Cells) (name : List ℕ) (p : Parts) (h : Handle) → C.handles name ≡ Some h → h.first p ≡ None → Fits p h.dims → AreLaid C → AreLaid (News name p h C)
laid_new C name p h there none fit a = record {
  fits = λ q d s f k. elim (old_or_new C name p h there q d s f k) as (λ _. Fits s d) [
    | Old o ↦ a.fits q d s f o
    | New eq ep ed ef ↦ subst (λ (x : Dims). Fits s x) ed (subst (λ (x : Parts). Fits x h.dims) ep fit)
  ];
  inside = λ q d s f k. elim (old_or_new C name p h there q d s f k) as (λ _. f + s.r * s.c ≤ length (News name p h C).rows) [
    | Old o ↦ omega (arith, a.inside q d s f o, longer C p h)
    | New eq ep ed ef ↦ subst (λ (x : Parts). f + x.r * x.c ≤ length (News name p h C).rows) ep (omega (arith, ef, longer C p h))
  ];
  row = λ q d s f place k hp. elim (old_or_new C name p h there q d s f k) as (λ _. (get_or (News name p h C).rows (f + number s place) no_cell).dims ≡ rect_dims (child d s place)) [
    | Old o ↦ ap (λ (i : CellInfo). i.dims) (get_or_append_left C.rows (each_of (child_cell h.root h.dims p) (places p)) no_cell (f + number s place) (omega (arith, a.inside q d s f o, number-below s place hp)))
        ∙ a.row q d s f place o hp
    | New eq ep ed ef ↦ ap (λ (i : CellInfo). i.dims) (get_or-append_right C.rows (each_of (child_cell h.root h.dims p) (places p)) (length C.rows) (f + number s place) no_cell refl (omega (arith, ef))
        ∙ ap (λ n. get_or (each_of (child_cell h.root h.dims p) (places p)) n no_cell) (past f (length C.rows) (number s place) ef)
        ∙ ap (λ (x : Parts). get_or (each_of (child_cell h.root h.dims p) (places p)) (number x place) no_cell) (sym ep)
        ∙ places-at (child_cell h.root h.dims p) p place no_cell (subst (λ (x : Parts). IsPlace x place) (sym ep) hp))
        ∙ (λ i. rect_dims (child (ed i) (ep i) place))
  ];
  apart = λ q u d e s t f g place other k l hp ho same. elim (old_or_new C name p h there q d s f k) as (λ _. (q ≡ u) × (s ≡ t) × (place ≡ other)) [
    | Old o ↦ elim (old_or_new C name p h there u e t g l) as (λ _. (q ≡ u) × (s ≡ t) × (place ≡ other)) [
      | Old n ↦ a.apart q u d e s t f g place other o n hp ho same
      | New eq ep ed ef ↦ absurd (omega (arith, ef, same, a.inside q d s f o, number-below s place hp))
    ]
    | New eq ep ed ef ↦ elim (old_or_new C name p h there u e t g l) as (λ _. (q ≡ u) × (s ≡ t) × (place ≡ other)) [
      | Old n ↦ absurd (omega (arith, ef, same, a.inside u e t g n, number-below t other ho))
      | New eq2 ep2 ed2 ef2 ↦ (let st : s ≡ t = sym ep ∙ ep2 in
          (sym eq ∙ eq2, st, number-alone s place other hp (subst (λ (x : Parts). IsPlace x other) (sym st) ho) (equal f g (length C.rows) (number s place) (number t other) ef ef2 same ∙ ap (λ (x : Parts). number x other) (sym st))))
    ]
  ];
  sized = λ q i e. by_test q i (bytes_eq name q) e;
  small = All-append (λ (i : CellInfo). area i.dims ≤ 2 ^ 24) C.rows (each_of (child_cell h.root h.dims p) (places p)) a.small
      (All-from_recursion (λ (i : CellInfo). area i.dims ≤ 2 ^ 24) (each_of (child_cell h.root h.dims p) (places p))
      (each-map (λ (i : CellInfo). area i.dims ≤ 2 ^ 24) (child_cell h.root h.dims p) (places p)
      (each-places (λ place. area (rect_dims (child h.dims p place)) ≤ 2 ^ 24) p (λ place hp. omega (arith, child_area h.dims p place hp, a.sized name h there)))));
}
  where
    past : (f n m : ℕ) → f ≡ n → (f + m) - n ≡ m
    past f n m e = omega arith

    equal : (f g n x y : ℕ) → f ≡ n → g ≡ n → f + x ≡ g + y → x ≡ y
    equal f g n x y ef eg e = omega arith

    by_test : (q : List ℕ) (i : Handle) (b : Bool) → cond b (Some (taking_plan p (length C.rows) h)) (C.handles q) ≡ Some i → area i.dims ≤ 16777216
    by_test q i true e = subst (λ (x : Handle). area x.dims ≤ 16777216) (same_Some (taking_plan p (length C.rows) h) i e) (a.sized name h there)
    by_test q i false e = a.sized q i e

-- by whether the plan was taken before
by_first : (C : Cells) (name : List ℕ) (p : Parts) (h : Handle) (P : Cells → Type 0) → ((f : ℕ) → h.first p ≡ Some f → P C) → (h.first p ≡ None → P (News name p h C)) → P (take_by name p h C)
by_first C name p h P old new = by_test (h.first p) refl
  where
    by_test : (o : Option ℕ) → h.first p ≡ o → P (cond (is_some o) C (News name p h C))
    by_test None e = new e
    by_test (Some f) e = old f e

pub laid-take : (C : Cells) (name : List ℕ) (p : Parts) (h : Handle) → C.handles name ≡ Some h → Fits p h.dims → AreLaid C → AreLaid (take name p C)
laid-take C name p h there fit a =
    subst AreLaid (sym (take-by C name p h there)) (by_first C name p h AreLaid (λ f e. a) (λ e. laid_new C name p h there e fit a))

-- a plan that was taken stays so
keeps_new : (C : Cells) (name : List ℕ) (p : Parts) (h : Handle) → C.handles name ≡ Some h → h.first p ≡ None → (q : List ℕ) (d : Dims) (s : Parts) (f : ℕ) → IsTaken C q d s f → IsTaken (News name p h C) q d s f
keeps_new C name p h there none q d s f k = by_name (bytes_eq name q) refl
  where
    by_plan : (b : Bool) → same_parts p s ≡ b → h.first s ≡ Some f → cond b (Some (length C.rows)) (h.first s) ≡ Some f
    by_plan true t e = absurd (none_isn't f (sym none ∙ ap h.first (parts-are p s t) ∙ e))
    by_plan false t e = e

    by_name : (b : Bool) → bytes_eq name q ≡ b → IsTaken (News name p h C) q d s f
    by_name true t =
        let same : h ≡ k.handle = same_Some h k.handle (sym there ∙ ap C.handles (same_text name q t) ∙ k.is) in
        record {
          handle = taking_plan p (length C.rows) h;
          is = ap (λ b. cond b (Some (taking_plan p (length C.rows) h)) (C.handles q)) t;
          dims = ap (λ (i : Handle). i.dims) same ∙ k.dims;
          first = by_plan (same_parts p s) refl (ap (λ (i : Handle). i.first s) same ∙ k.first);
        }
    by_name false t = record { handle = k.handle; is = ap (λ b. cond b (Some (taking_plan p (length C.rows) h)) (C.handles q)) t ∙ k.is; dims = k.dims; first = k.first }

pub take-keeps : (C : Cells) (name : List ℕ) (p : Parts) (h : Handle) → C.handles name ≡ Some h → (q : List ℕ) (d : Dims) (s : Parts) (f : ℕ) → IsTaken C q d s f → IsTaken (take name p C) q d s f
take-keeps C name p h there q d s f k =
    subst (λ (D : Cells). IsTaken D q d s f) (sym (take-by C name p h there)) (by_first C name p h (λ (D : Cells). IsTaken D q d s f) (λ g e. k) (λ e. keeps_new C name p h there e q d s f k))

-- the plan is taken afterwards
pub take-takes : (C : Cells) (name : List ℕ) (p : Parts) (h : Handle) → C.handles name ≡ Some h → (f : ℕ) × IsTaken (take name p C) name h.dims p f
take-takes C name p h there =
    subst (λ (D : Cells). (f : ℕ) × IsTaken D name h.dims p f) (sym (take-by C name p h there)) (by_first C name p h (λ (D : Cells). (f : ℕ) × IsTaken D name h.dims p f)
    (λ f e. (f, record { handle = h; is = there; dims = refl; first = e }))
    (λ e. (
      length C.rows,
      record {
        handle = taking_plan p (length C.rows) h;
        is = ap (λ b. cond b (Some (taking_plan p (length C.rows) h)) (C.handles name)) (bytes_eq-itself name);
        dims = refl;
        first = ap (λ b. cond b (Some (length C.rows)) (h.first p)) (parts-itself p);
      },
    )))

pub take-roots : (C : Cells) (name : List ℕ) (p : Parts) → (take name p C).roots ≡ C.roots
take-roots C name p = by_handle (C.handles name)
  where
    by_handle : (o : Option Handle) → (elim o as (λ _. Cells) [ None ↦ C | Some h ↦ take_by name p h C ]).roots ≡ C.roots
    by_handle None = refl
    by_handle (Some h) = by_first C name p h (λ (D : Cells). D.roots ≡ C.roots) (λ f e. refl) (λ e. refl)
