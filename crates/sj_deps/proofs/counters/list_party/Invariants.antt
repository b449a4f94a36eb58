use Rattle.std.proofs.Common.{◌≡◌, ◌+◌, ℕ, length, take, count_by, nat_eq, cond}
use Rattle.sj_deps.specs.Chains.{is_party}
use Rattle.sj_deps.specs.Counts.{is_task, parties_at}
use Rattle.sj_deps.proofs.counters.list_party.Given as goal

abbrev pub invariant-loop-task : goal.invariant-loop-task
invariant-loop-task l =
    (length l.parties.items ≡ length l.initial.parties.items) × ((t k : ℕ) → count_by (is_party k) (parties_at l.parties.items t) ≡ count_by (is_party k) (parties_at l.initial.parties.items t) + cond (nat_eq l.n k) (count_by (is_task t) (take l.task-index l.tasks)) 0)
