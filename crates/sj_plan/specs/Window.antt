-- A rectangle of an array, read and written.
use Rattle.std.specs.Prelude.{◌≡◌, All, IsPermutation, List, length, map}
use Rattle.std.specs.List.{fold}
use Rattle.sj_base.specs.declared.tile.Dims.{Dims}
use Rattle.sj_base.specs.Array.{Array, area}
use Rattle.sj_base.specs.Window.{window_at, pasted}
use Rattle.sj_plan.specs.declared.rect.Rect.{Rect}
use Rattle.sj_plan.specs.Rect.{place_of, rect_dims}

-- the array of a rectangle's elements
abbrev pub window : Array → Rect → Array
window a r = window_at a (place_of r) (rect_dims r)

-- a with the elements of b in the rectangle, and its own elsewhere
abbrev pub with_window : Array → Rect → Array → Array
with_window a r b = pasted b (0, 0) (rect_dims r) a (place_of r)

-- a with arrays put into their rectangles, one after another
abbrev pub gathered : Array → List (Rect × Array) → Array
gathered a parts = fold (λ b part. with_window b part.0 part.1) a parts

-- the array has as many elements as its dimensions say
abbrev pub IsWhole : Array → Type 0
IsWhole a = length a.elements ≡ area a.dims

-- the windows of these rectangles, put back in any order over any array of the dimensions, make the array that they were
-- taken from
abbrev pub Reassemble : Dims → List Rect → Type 0
Reassemble d rects =
    (a blank : Array) (parts : List (Rect × Array)) → a.dims ≡ d → IsWhole a → blank.dims ≡ d → IsWhole blank → IsPermutation rects (map (λ part. part.0) parts) → All (λ part. part.1 ≡ window a part.0) parts → gathered blank parts ≡ a
