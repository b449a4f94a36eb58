use Rattle.sj_lower.proofs.Words.{map, rect_cell, ◌++◌, ◌≡◌}
use Rattle.std.proofs.Common.{take}
use Rattle.sj_lower.proofs.layout.push_cells.Given as goal

abbrev pub invariant-loop-rect : goal.invariant-loop-rect
invariant-loop-rect l = l.infos.items ≡ l.fn.infos.items ++ map (rect_cell l.root) (take l.rect-index l.rects)
