-- Rectangles that tile an array, and the copies from those of one list to those of another. Each rectangle has a name, as a
-- plan's children have their places.
use Rattle.std.specs.Prelude.{◌≡◌, ℕ, ◌+◌, ◌-◌, ◌<◌, ◌≤◌, ◌⊎◌, Bool, true, false, ◌&&◌, nat_eq, nat_lt, All, AllPairs, List, [], ◌∷◌, map, if◌then◌else◌}
use Rattle.std.specs.List.{count_by, filter, flat_map, fold}
use Rattle.sj_base.specs.declared.tile.Dims.{Dims}
use Rattle.sj_base.specs.Array.{Array, zeros}
use Rattle.sj_base.specs.Window.{pasted}
use Rattle.sj_plan.specs.declared.rect.Rect.{Rect}
use Rattle.sj_plan.specs.Interval.{overlap}
use Rattle.sj_plan.specs.Rect.{Within, holds, row_interval, col_interval}

-- the rectangles tile an array of these dimensions: all lie in it, and each element lies in exactly one
pub record IsTiling (d : Dims) (rects : List Rect) : Type 0 where
  pub within : All (λ r. Within r d) rects
  pub once : (row col : ℕ) → row < d.rows → col < d.cols → count_by (λ r. holds r row col) rects ≡ 1

-- the first rectangle ends above the second one, or left of it
abbrev pub Precedes : Rect → Rect → Type 0
Precedes r s = (r.row + r.rows ≤ s.row) ⊎ (r.col + r.cols ≤ s.col)

-- the rectangles stand in an order from the top left: each precedes all later ones
abbrev pub AreInOrder : List Rect → Type 0
AreInOrder rects = AllPairs Precedes rects

-- names in order, and the rectangle of each
pub record NamedRects (C : Type 0) : Type 0 where
  pub names : List C
  pub rect : C → Rect

abbrev pub rects_of : {C : Type 0} → NamedRects C → List Rect
rects_of ps = map ps.rect ps.names

-- a copy of an old rectangle's elements to a new one: from a place in the one to a place in the other
pub record Copy (C : Type 0) : Type 0 where
  pub from : C
  pub to : C
  pub at_from : ℕ × ℕ
  pub at_to : ℕ × ℕ
  pub dims : Dims

-- what an old and a new rectangle share, in the coordinates of each
abbrev pub copy_between : {C : Type 0} → NamedRects C → NamedRects C → C → C → Copy C
copy_between olds news from to =
    let o = olds.rect from in
    let n = news.rect to in
    let rows = overlap (row_interval o) (row_interval n) in
    let cols = overlap (col_interval o) (col_interval n) in
    record {
      from = from;
      to = to;
      at_from = (rows.first - o.row, cols.first - o.col);
      at_to = (rows.first - n.row, cols.first - n.col);
      dims = record { rows = rows.len; cols = cols.len };
    }

-- there is something to copy
abbrev pub has_elements : {C : Type 0} → Copy C → Bool
has_elements c = nat_lt 0 c.dims.rows && nat_lt 0 c.dims.cols

-- the copies to one new rectangle, by old rectangle: those of the pairs that overlap
abbrev pub copies_to : {C : Type 0} → NamedRects C → NamedRects C → C → List (Copy C)
copies_to olds news to = filter has_elements (map (λ from. copy_between olds news from to) olds.names)

-- all copies, by new rectangle, then old rectangle
abbrev pub copies : {C : Type 0} → NamedRects C → NamedRects C → List (Copy C)
copies olds news = flat_map (copies_to olds news) news.names

-- the copy begins its new rectangle: it holds the first element of it
abbrev pub begins : {C : Type 0} → Copy C → Bool
begins c = nat_eq c.at_to.0 0 && nat_eq c.at_to.1 0

-- what a copy makes of the new array, from the old arrays by name: one that begins its rectangle finds zeros
abbrev pub copied : {C : Type 0} → (C → Array) → Array → Copy C → Array
copied old new c = pasted (old c.from) c.at_from c.dims (if begins c then zeros new.dims else new) c.at_to

-- what copies to one rectangle make of it, in order
abbrev pub all_copied : {C : Type 0} → (C → Array) → Array → List (Copy C) → Array
all_copied old new cs = fold (copied old) new cs

-- of the copies to one rectangle, the first begins it, and no other
abbrev pub BeginOnce : {C : Type 0} → List (Copy C) → Type 0
BeginOnce [] = ⊥
BeginOnce (c ∷ cs) = (begins c ≡ true) × All (λ e. begins e ≡ false) cs

-- the arrays by name after a copy, and after a list of them, in order; `same` tells names apart
abbrev pub after_copy : {C : Type 0} → (C → C → Bool) → (C → Array) → (C → Array) → Copy C → C → Array
after_copy same old new c name = if same name c.to then copied old (new name) c else new name

abbrev pub after_copies : {C : Type 0} → (C → C → Bool) → (C → Array) → (C → Array) → List (Copy C) → C → Array
after_copies same old new cs = fold (after_copy same old) new cs
