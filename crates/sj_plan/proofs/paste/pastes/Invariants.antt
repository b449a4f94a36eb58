use Rattle.std.proofs.Common.{◌≡◌}
use Rattle.std.specs.List.{flat_map, range_with_len}
use Rattle.sj_plan.specs.Paste.{pastes_to}
use Rattle.sj_plan.proofs.Lists.{grid_row}
use Rattle.sj_plan.proofs.paste.pastes.Given as goal

-- the pastes to the children before row part i
abbrev pub invariant-loop-i : goal.invariant-loop-i
invariant-loop-i l =
    l.found.items ≡ flat_map (pastes_to l.dims l.old l.new) (flat_map (grid_row l.new.c) (range_with_len 0 l.i))
