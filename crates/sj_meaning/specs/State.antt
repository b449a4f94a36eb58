-- What a job's names hold: the state that its statements change, one after another.
use Rattle.std.specs.FinMap as map
use Rattle.std.specs.FinMap.{FinMap}
use Rattle.std.specs.Prelude.{ℕ, Bool, ◌&&◌, nat_lt, Option, None, List, [], ℤ, is_some, is_none}
use Rattle.std.specs.List.{list_all}
use Rattle.std.specs.Ordering.{nat_cmp}
use Rattle.std.specs.Cmp.Lexicographic.{slice_cmp}
use Rattle.sj_base.specs.declared.mode.Reduction.{Reduction}
use Rattle.sj_base.specs.declared.tile.Dims.{Dims}
use Rattle.sj_base.specs.Window.{read_rect}
use Rattle.sj_plan.specs.declared.parts.Parts.{Parts}
use Rattle.sj_plan.specs.declared.rect.Rect.{Rect}
use Rattle.sj_plan.specs.Rect.{child, place_of, rect_dims}
use Rattle.sj_meaning.specs.declared.job.Kind.{Kind}

-- a root handle with its active plan and its reduction, if it has one: an element is an i64 or no value
pub record RootState : Type 0 where
  pub kind : Kind
  pub dims : Dims
  pub parts : Parts
  pub reduction : Option Reduction
  pub elements : List (Option ℤ)

-- a finite map from names to roots
abbrev pub Roots : Type 0
Roots = FinMap (slice_cmp nat_cmp) RootState

-- how many names were registered, the names that were ended, and the roots of the others
pub record JobState : Type 0 where
  pub registered : ℕ
  pub ended : List (List ℕ)
  pub roots : Roots

-- nothing is registered
abbrev pub start : JobState
start = record { registered = 0; ended = []; roots = map.empty }

-- the root of a name
abbrev pub root_of : JobState → List ℕ → Option RootState
root_of S name = map.get S.roots name

-- the root has a value at each element, or at none
abbrev pub is_valued : RootState → Bool
is_valued r = list_all is_some r.elements

abbrev pub has_no_value : RootState → Bool
has_no_value r = list_all is_none r.elements

-- ---- children

abbrev pub dims_with : ℕ → ℕ → Dims
dims_with rows cols = record { rows = rows; cols = cols }

-- the plan of r by c parts
abbrev pub plan_of_parts : ℕ → ℕ → Parts
plan_of_parts r c = record { r = r; c = c }

-- [i, j] is a child of the plan
abbrev pub is_child : Parts → ℕ × ℕ → Bool
is_child p place = nat_lt place.0 p.r && nat_lt place.1 p.c

-- the rectangle of a child of the active plan
abbrev pub child_rect : RootState → ℕ × ℕ → Rect
child_rect r place = child r.dims r.parts place

-- the elements of a child
abbrev pub child_elements : RootState → ℕ × ℕ → List (Option ℤ)
child_elements r place =
    let rect = child_rect r place in
    read_rect None r.dims.cols r.elements (place_of rect) (rect_dims rect)

-- a child of the active plan with a value at each element
abbrev pub is_valued_child : RootState → ℕ × ℕ → Bool
is_valued_child r place = is_child r.parts place && list_all is_some (child_elements r place)
