use Rattle.std.proofs.Common.{◌≡◌, map, take, length}
use Rattle.sj_deps.proofs.counters.count_tasks.Given as goal

abbrev pub invariant-loop-list : goal.invariant-loop-list
invariant-loop-list l = l.left.items ≡ map (λ ts. length ts) (take l.list-index l.tasks)
