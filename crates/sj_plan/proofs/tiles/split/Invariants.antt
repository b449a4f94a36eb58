use Rattle.std.proofs.Common.{◌≡◌, ◌+◌}
use Rattle.std.specs.List.{flat_map, range_with_len}
use Rattle.sj_base.specs.Array.{element}
use Rattle.sj_plan.proofs.Windows.{table_row}
use Rattle.sj_plan.proofs.tiles.split.Given as goal

-- the first i rows of the rectangle
abbrev pub invariant-loop-i : goal.invariant-loop-i
invariant-loop-i l =
    l.taken.items ≡ flat_map (table_row (λ i j. element l.fn.tile (l.rect.row + i) (l.rect.col + j)) l.rect.cols) (range_with_len 0 l.i)
