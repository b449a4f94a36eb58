use Rattle.std.proofs.Common.{◌≡◌, map}
use Rattle.std.specs.List.{flat_map, range_with_len}
use Rattle.sj_plan.specs.Rect.{child}
use Rattle.sj_plan.proofs.children.children.Given as goal

-- the children of the first i row parts
abbrev pub invariant-loop-i : goal.invariant-loop-i
invariant-loop-i l =
    l.rects.items ≡ map (child l.dims l.parts) (flat_map (λ i. map (λ j. (i, j)) (range_with_len 0 l.parts.c)) (range_with_len 0 l.i))
