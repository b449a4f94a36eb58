use Rattle.std.proofs.Common.{◌≤◌, take, vec_capacity, count_by}
use Rattle.sj_deps.specs.Counts.{Frees, is_task}
use Rattle.sj_deps.proofs.counters.free_party.Given as goal

abbrev pub invariant-loop-task : goal.invariant-loop-task
invariant-loop-task l =
    Frees l.initial.held.items l.held.items l.initial.ready.items l.ready.items (λ t. count_by (is_task t) (take l.task-index l.tasks)) × (vec_capacity l.initial.ready ≤ vec_capacity l.ready)
