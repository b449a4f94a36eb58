use Rattle.std.proofs.Common.{◌≡◌, ◌<◌, ◌≤◌, ℕ, List, length, arith, rules, sym, subst, slice_index_or, count_by}
use Rattle.std.specs.Prelude.{All}
use Rattle.std.proofs.lemmas.Grind.{common_steps}
use Rattle.sj_base.specs.declared.ids.Task.{Task}
use Rattle.sj_deps.specs.Chains.{waits_of}
use Rattle.sj_deps.specs.Counts.{tasks_at, is_task}
use Rattle.sj_deps.proofs.Freeing.{party_enough}
use Rattle.sj_deps.proofs.counters.free_all.Goals as goal

pub free_party-requires-clause-known : goal.free_party-requires-clause-known
free_party-requires-clause-known c =
    let n : ℕ = slice_index_or c.args.opened.now c.loop-party.party-index 0 in
    let row : c.tasks.result.now ≡ tasks_at c.args.tasks.now n = first_of (search rules, grind (arith, common_steps)) in
    let len : length c.loop-party.held.items ≡ length c.args.held.now.items = c.loop-party.invariant.0.len in
    subst (λ (ts : List Task). All (λ (x : Task). x.0 < length c.loop-party.held.items) ts) (sym row) (subst (λ k. All (λ (x : Task). x.0 < k) (tasks_at c.args.tasks.now n)) (sym len) (c.requires.known n))

pub free_party-requires-clause-enough : goal.free_party-requires-clause-enough
free_party-requires-clause-enough c =
    let n : ℕ = slice_index_or c.args.opened.now c.loop-party.party-index 0 in
    let row : c.tasks.result.now ≡ tasks_at c.args.tasks.now n = first_of (search rules, grind (arith, common_steps)) in
    let enough = party_enough c.args.tasks.now c.args.opened.now c.loop-party.party-index (omega arith) c.args.held.now.items c.loop-party.held.items c.args.ready.now.items c.loop-party.ready.items c.loop-party.invariant.0 c.requires.enough in
    λ t. subst (λ (ts : List Task). count_by (is_task t) ts ≤ waits_of c.loop-party.held.items t) (sym row) (enough t)
