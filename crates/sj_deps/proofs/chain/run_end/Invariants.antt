use Rattle.std.proofs.Common.{length, ◌-◌, ◌≡◌, ◌+◌, ◌<◌, ◌≤◌, ℕ, true}
use Rattle.sj_deps.specs.Chains.{joined}
use Rattle.sj_deps.proofs.chain.run_end.Given as goal

-- one run so far
abbrev pub invariant-loop-last : goal.invariant-loop-last
invariant-loop-last l =
    (l.first < l.last) × (l.last ≤ length l.members) × ((p : ℕ) → l.first ≤ p → p + 1 < l.last → joined l.members p ≡ true)

abbrev pub decreases-loop-last : goal.decreases-loop-last
decreases-loop-last l = length l.members - l.last
