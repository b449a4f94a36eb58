use Rattle.std.proofs.Common.{◌≡◌}
use Rattle.std.specs.List.{range_with_len, flat_map}
use Rattle.sj_plan.proofs.Windows.{table_row}
use Rattle.sj_apps.specs.Generated.{weight}
use Rattle.sj_apps.proofs.paths.weights.Given as goal

-- the rows so far
abbrev pub invariant-loop-i : goal.invariant-loop-i
invariant-loop-i l = l.values.items ≡ flat_map (table_row (weight l.n l.seed) l.n) (range_with_len 0 l.i)
