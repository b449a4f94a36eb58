use Rattle.std.proofs.Common.{◌≡◌, ◌∷◌, [], map}
use Rattle.std.specs.List.{range_with_len}
use Rattle.sj_base.specs.Ids.{task}
use Rattle.sj_deps.proofs.entry.single_tasks.Given as goal

abbrev pub invariant-loop-t : goal.invariant-loop-t
invariant-loop-t l = l.lists.items ≡ map (λ t. task t ∷ []) (range_with_len 0 l.t)
