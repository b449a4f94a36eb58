-- Pastes: the copies that turn the children of one plan into those of another.
use Rattle.std.specs.Prelude.{◌≡◌, ℕ, ◌<◌, Bool, ◌&&◌, nat_eq, List, map}
use Rattle.std.specs.List.{flat_map, filter}
use Rattle.sj_base.specs.declared.tile.Dims.{Dims}
use Rattle.sj_base.specs.Array.{Array}
use Rattle.sj_plan.specs.declared.parts.Parts.{Parts}
use Rattle.sj_plan.specs.declared.paste.Paste.{Paste}
use Rattle.sj_plan.specs.declared.rect.Rect.{Rect}
use Rattle.sj_plan.specs.Parts.{IsPlace, places}
use Rattle.sj_plan.specs.Pieces.{NamedRects, Copy, copy_between, has_elements, begins, BeginOnce, after_copies}
use Rattle.sj_plan.specs.Rect.{Within, child, rect_dims}
use Rattle.sj_plan.specs.Window.{window, IsWhole}

-- a plan's children, each by its place
abbrev pub pieces : Dims → Parts → NamedRects (ℕ × ℕ)
pieces d p = record { names = places p; rect = child d p }

-- a paste as a copy from a child to a child
abbrev pub paste_copy : Paste → Copy (ℕ × ℕ)
paste_copy p = record { from = p.from; to = p.to; at_from = p.at_from; at_to = p.at_to; dims = record { rows = p.rows; cols = p.cols } }

-- what an old and a new child share
abbrev pub paste_at : Dims → Parts → Parts → ℕ × ℕ → ℕ × ℕ → Paste
paste_at d old new from to =
    let c = copy_between (pieces d old) (pieces d new) from to in
    record { from = from; to = to; at_from = c.at_from; at_to = c.at_to; rows = c.dims.rows; cols = c.dims.cols }

-- the two children overlap
abbrev pub overlaps : Paste → Bool
overlaps p = has_elements (paste_copy p)

-- the paste begins its new child: it is the first one to it
abbrev pub is_first : Paste → Bool
is_first p = begins (paste_copy p)

-- of the pairs with a new child those that overlap, by old child, row by row
abbrev pub pastes_to : Dims → Parts → Parts → ℕ × ℕ → List Paste
pastes_to d old new to = filter overlaps (map (λ from. paste_at d old new from to) (places old))

-- of all pairs, by new child and then old child, row by row, those that overlap
abbrev pub pastes_of : Dims → Parts → Parts → List Paste
pastes_of d old new = flat_map (pastes_to d old new) (places new)

-- the paste is from that old child to that new child
abbrev pub Joins : ℕ × ℕ → ℕ × ℕ → Paste → Type 0
Joins from to p = (p.from ≡ from) × (p.to ≡ to)

abbrev pub same_child_place : ℕ × ℕ → ℕ × ℕ → Bool
same_child_place x y = nat_eq x.0 y.0 && nat_eq x.1 y.1

-- the pastes to one new child, in order
abbrev pub going_to : ℕ × ℕ → List Paste → List Paste
going_to to ps = filter (λ p. same_child_place to p.to) ps

-- of the pastes to each new child the first begins it, and no other
abbrev pub BeginEachOnce : Parts → List Paste → Type 0
BeginEachOnce new ps = (to : ℕ × ℕ) → IsPlace new to → BeginOnce (map paste_copy (going_to to ps))

-- the rectangle of a paste in its old child, and in its new one
abbrev pub from_rect : Paste → Rect
from_rect p = record { row = p.at_from.0; col = p.at_from.1; rows = p.rows; cols = p.cols }

abbrev pub to_rect : Paste → Rect
to_rect p = record { row = p.at_to.0; col = p.at_to.1; rows = p.rows; cols = p.cols }

-- a plan's children, by their place
abbrev pub Children : Type 0
Children = ℕ × ℕ → Array

-- each child has the dimensions of its rectangle
abbrev pub AreChildren : Dims → Parts → Children → Type 0
AreChildren d p children =
    (place : ℕ × ℕ) → IsPlace p place → IsWhole (children place) × ((children place).dims ≡ rect_dims (child d p place))

-- each child has the array's elements of its rectangle
abbrev pub AreWindows : Dims → Parts → Array → Children → Type 0
AreWindows d p a children = (place : ℕ × ℕ) → IsPlace p place → children place ≡ window a (child d p place)

-- the new plan's children after pastes from the old plan's, in order: the first to each finds zeros, the others what is there
abbrev pub after_pastes : Children → Children → List Paste → Children
after_pastes old new ps = after_copies same_child_place old new (map paste_copy ps)

-- pastes, applied to the old plan's children of any array, make the new plan's children of it, whatever was in these before
abbrev pub Repartition : Dims → Parts → Parts → List Paste → Type 0
Repartition d old new ps =
    (a : Array) (before after : Children) → AreWindows d old a before → AreChildren d new after → AreWindows d new a (after_pastes before after ps)

-- the paste joins two children, and its rectangle has elements and lies in both
pub record IsPasteBetween (d : Dims) (old new : Parts) (p : Paste) : Type 0 where
  pub from : IsPlace old p.from
  pub to : IsPlace new p.to
  pub rows : 0 < p.rows
  pub cols : 0 < p.cols
  pub in_old : Within (from_rect p) (rect_dims (child d old p.from))
  pub in_new : Within (to_rect p) (rect_dims (child d new p.to))
