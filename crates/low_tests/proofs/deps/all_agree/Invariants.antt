use Rattle.std.proofs.Common.{All, take}
use Rattle.low_tests.specs.Countable.{Agrees}
use Rattle.low_tests.proofs.deps.all_agree.Given as goal

abbrev pub invariant-loop-u : goal.invariant-loop-u
invariant-loop-u l = All (Agrees l.usages) (take l.u-index l.usages)
