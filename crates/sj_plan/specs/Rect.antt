-- Rectangles of an array, and a plan's children.
use Rattle.std.specs.Prelude.{ℕ, ◌≡◌, ◌+◌, ◌≤◌, Bool, List, map}
use Rattle.sj_base.specs.declared.tile.Dims.{Dims}
use Rattle.sj_base.specs.Window.{in_rect}
use Rattle.sj_plan.specs.declared.interval.Interval.{Interval}
use Rattle.sj_plan.specs.declared.parts.Parts.{Parts}
use Rattle.sj_plan.specs.declared.rect.Rect.{Rect}
use Rattle.sj_plan.specs.Interval.{Lies, part}
use Rattle.sj_plan.specs.Parts.{IsPlace, places}

-- the rectangle of an interval of rows and an interval of columns
abbrev pub across : Interval → Interval → Rect
across rows cols = record { row = rows.first; col = cols.first; rows = rows.len; cols = cols.len }

abbrev pub row_interval : Rect → Interval
row_interval r = record { first = r.row; len = r.rows }

abbrev pub col_interval : Rect → Interval
col_interval r = record { first = r.col; len = r.cols }

-- element (row, col) is one of the rectangle's
abbrev pub HasElement : Rect → ℕ → ℕ → Type 0
HasElement r row col = Lies row (row_interval r) × Lies col (col_interval r)

-- the place of its first row and column
abbrev pub place_of : Rect → ℕ × ℕ
place_of r = (r.row, r.col)

abbrev pub rect_dims : Rect → Dims
rect_dims r = record { rows = r.rows; cols = r.cols }

-- the same as a test
abbrev pub holds : Rect → ℕ → ℕ → Bool
holds r row col = in_rect (place_of r) (rect_dims r) row col

-- two rectangles have an element in common
abbrev pub Overlap : Rect → Rect → Type 0
Overlap r s = (row : ℕ) × (col : ℕ) × (HasElement r row col × HasElement s row col)

-- the rectangle lies in an array of these dimensions
abbrev pub Within : Rect → Dims → Type 0
Within r d = (r.row + r.rows ≤ d.rows) × (r.col + r.cols ≤ d.cols)

-- child [i, j] of a plan: row part i and column part j
abbrev pub child : Dims → Parts → ℕ × ℕ → Rect
child d p place = across (part d.rows p.r place.0) (part d.cols p.c place.1)

-- the children, row by row
abbrev pub children_of : Dims → Parts → List Rect
children_of d p = map (child d p) (places p)

-- the element lies in that child and in no other
pub record IsOnlyChild (d : Dims) (p : Parts) (row col : ℕ) (place : ℕ × ℕ) : Type 0 where
  pub is_place : IsPlace p place
  pub holds : HasElement (child d p place) row col
  pub only : (other : ℕ × ℕ) → IsPlace p other → HasElement (child d p other) row col → other ≡ place
