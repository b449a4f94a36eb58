use Rattle.std.proofs.Common.{◌≤◌, vec_capacity}
use Rattle.sj_deps.specs.Chains.{TakesWaits}
use Rattle.sj_deps.proofs.chain.release.Given as goal

-- the accesses at places first to p - 1 have taken their waits
abbrev pub invariant-loop-p : goal.invariant-loop-p
invariant-loop-p l =
    TakesWaits l.initial.waits.items l.waits.items l.initial.opened.items l.opened.items l.members l.first l.p × (vec_capacity l.initial.opened ≤ vec_capacity l.opened)
