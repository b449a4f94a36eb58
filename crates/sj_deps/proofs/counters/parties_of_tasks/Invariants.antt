use Rattle.std.proofs.Common.{◌≡◌, ℕ, length, count_by, nat_lt, cond}
use Rattle.sj_deps.specs.Chains.{is_party}
use Rattle.sj_deps.specs.Counts.{is_task, parties_at, tasks_at}
use Rattle.sj_deps.proofs.counters.parties_of_tasks.Given as goal

-- the parties below n are listed
abbrev pub invariant-loop-n : goal.invariant-loop-n
invariant-loop-n l =
    (length l.parties.items ≡ l.count) × ((t k : ℕ) → count_by (is_party k) (parties_at l.parties.items t) ≡ cond (nat_lt k l.n) (count_by (is_task t) (tasks_at l.tasks k)) 0)
