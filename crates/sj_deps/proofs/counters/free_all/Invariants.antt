use Rattle.std.proofs.Common.{◌≤◌, take, vec_capacity}
use Rattle.sj_deps.specs.Counts.{Frees, owed}
use Rattle.sj_deps.proofs.counters.free_all.Given as goal

abbrev pub invariant-loop-party : goal.invariant-loop-party
invariant-loop-party l =
    Frees l.initial.held.items l.held.items l.initial.ready.items l.ready.items (owed l.tasks (take l.party-index l.opened)) × (vec_capacity l.initial.ready ≤ vec_capacity l.ready)
