use Rattle.std.proofs.Common.{◌≡◌, ◌++◌}
use Rattle.std.specs.List.{flat_map, range_with_len}
use Rattle.sj_plan.specs.Paste.{pastes_to}
use Rattle.sj_plan.proofs.paste.push_to_row.Given as goal

-- the pastes to the children before column part j
abbrev pub invariant-loop-j : goal.invariant-loop-j
invariant-loop-j l =
    l.found.items ≡ l.fn.found.items ++ flat_map (λ j. pastes_to l.dims l.old l.new (l.i, j)) (range_with_len 0 l.j)
