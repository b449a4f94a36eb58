use Rattle.std.proofs.Common.{◌≡◌, ◌++◌, map}
use Rattle.std.specs.List.{range_with_len}
use Rattle.sj_deps.specs.declared.manner.Manner.TheVariants.{Contribute}
use Rattle.sj_deps.specs.Conflict.{usage}
use Rattle.low_tests.proofs.usages.add_range.Given as goal

abbrev pub invariant-loop-n : goal.invariant-loop-n
invariant-loop-n l = l.usages.items ≡ l.initial.usages.items ++ map (usage Contribute) (range_with_len l.first l.n)
