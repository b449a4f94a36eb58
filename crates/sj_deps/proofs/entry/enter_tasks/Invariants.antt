use Rattle.std.proofs.Common.{[]}
use Rattle.sj_deps.specs.Counts.{Begun, Entering}
use Rattle.sj_deps.proofs.entry.enter_tasks.Given as goal

abbrev pub invariant-loop-t : goal.invariant-loop-t
invariant-loop-t l = Begun l.entered × Entering l.program l.t [] l.entered
