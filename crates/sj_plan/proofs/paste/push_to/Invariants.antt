use Rattle.std.proofs.Common.{◌≡◌, ◌++◌, map}
use Rattle.std.specs.List.{filter, flat_map, range_with_len}
use Rattle.sj_plan.specs.Paste.{overlaps, paste_at}
use Rattle.sj_plan.proofs.Lists.{grid_row}
use Rattle.sj_plan.proofs.paste.push_to.Given as goal

-- the pastes from the children before row part k
abbrev pub invariant-loop-k : goal.invariant-loop-k
invariant-loop-k l =
    l.found.items ≡ l.fn.found.items ++ filter overlaps (map (λ from. paste_at l.dims l.old l.new from l.to) (flat_map (grid_row l.old.c) (range_with_len 0 l.k)))
