use Rattle.std.proofs.Common.{◌≡◌, take}
use Rattle.std.specs.List.{flat_map}
use Rattle.sj_deps.specs.Conflict.{usages_of}
use Rattle.low_tests.proofs.usages.usages_of_task.Given as goal

abbrev pub invariant-loop-access : goal.invariant-loop-access
invariant-loop-access l = l.usages.items ≡ flat_map (usages_of l.program l.task.codelet) (take l.access-index l.access-items)
