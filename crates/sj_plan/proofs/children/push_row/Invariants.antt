use Rattle.std.proofs.Common.{◌≡◌, ◌++◌, map}
use Rattle.std.specs.List.{range_with_len}
use Rattle.sj_plan.specs.Rect.{child}
use Rattle.sj_plan.proofs.children.push_row.Given as goal

abbrev pub invariant-loop-j : goal.invariant-loop-j
invariant-loop-j l =
    l.rects.items ≡ l.fn.rects.items ++ map (λ j. child l.dims l.parts (l.i, j)) (range_with_len 0 l.j)
