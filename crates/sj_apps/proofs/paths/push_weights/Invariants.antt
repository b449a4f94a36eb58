use Rattle.std.proofs.Common.{◌≡◌, ℕ, ◌+◌, ◌%◌, ◌++◌, pos, map}
use Rattle.std.specs.List.{range_with_len}
use Rattle.sj_apps.specs.Generated.{weight}
use Rattle.sj_apps.proofs.paths.push_weights.Given as goal

-- the weights so far
abbrev pub invariant-loop-j : goal.invariant-loop-j
invariant-loop-j l =
    (seed : ℕ) → l.chord ≡ pos (5 + seed % 5) → l.values.items ≡ l.initial.values.items ++ map (weight l.n seed l.i) (range_with_len 0 l.j)
