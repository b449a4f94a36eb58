use Rattle.std.proofs.Common.{take}
use Rattle.std.specs.List.{flat_map}
use Rattle.sj_deps.specs.Conflict.{usages_of}
use Rattle.sj_deps.specs.Counts.{Begun, Entering}
use Rattle.sj_deps.proofs.entry.enter_task.Given as goal

abbrev pub invariant-loop-access : goal.invariant-loop-access
invariant-loop-access l = Begun l.entered × Entering l.program l.t (flat_map (usages_of l.program l.task.codelet) (take l.access-index l.access-items)) l.entered
