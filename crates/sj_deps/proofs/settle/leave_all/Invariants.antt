use Rattle.std.proofs.Common.{◌≡◌, ◌≤◌, ◌+◌, ℕ, length, take, vec_capacity, count_by}
use Rattle.sj_deps.specs.Chains.{is_party, left_of}
use Rattle.sj_deps.specs.Counts.{CountsFit, SameMembers, ListsReady}
use Rattle.sj_deps.proofs.settle.leave_all.Given as goal

abbrev pub invariant-loop-party : goal.invariant-loop-party
invariant-loop-party l =
    CountsFit l.left.items l.chains.items l.cells l.waits.items × ((n : ℕ) → left_of l.left.items n + count_by (is_party n) (take l.party-index l.parties) ≡ left_of l.initial.left.items n) × (length l.left.items ≡ length l.initial.left.items) × SameMembers l.initial.chains.items l.chains.items × ListsReady l.initial.waits.items l.waits.items l.initial.opened.items l.opened.items × (vec_capacity l.initial.opened ≤ vec_capacity l.opened)
