use Rattle.sj_deps.specs.Counts.{Begun, Appends}
use Rattle.sj_deps.proofs.entry.append.Given as goal

abbrev pub invariant-loop-n : goal.invariant-loop-n
invariant-loop-n l = Begun l.entered × Appends l.initial.entered l.entered l.member l.first l.n
