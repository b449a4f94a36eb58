use Rattle.std.proofs.Common.{◌≡◌, ◌<◌, ℕ, List, arith, rules, sym, subst, length, map, replicate, false}
use Rattle.std.specs.Prelude.{All}
use Rattle.std.proofs.lemmas.Grind.{common_steps}
use Rattle.sj_base.specs.declared.ids.Task.{Task}
use Rattle.sj_deps.specs.Counts.{Mutual, blocked, tasks_at}
use Rattle.sj_deps.proofs.Starting.{Keeps-start, built_tasks, built_parties}
use Rattle.sj_deps.proofs.counters.Counters.of.Goals as goal

pub parties_of_tasks-requires : goal.parties_of_tasks-requires
parties_of_tasks-requires c =
    let P = c.args.program.now in
    let len : c.len-count.result ≡ length P.tasks = first_of (search rules, grind (arith, common_steps)) in
    subst (λ k. (n : ℕ) → All (λ (x : Task). x.0 < k) (tasks_at c.deref.result.now n)) (sym len) (subst (λ (ts : List (List Task)). (n : ℕ) → All (λ (x : Task). x.0 < length P.tasks) (tasks_at ts n)) (sym c.deref.ensures.value) (built_tasks P c.in_ok-entered.entered c.in_ok-entered.ensures))

pub count_blocked-requires : goal.count_blocked-requires
count_blocked-requires c =
    let P = c.args.program.now in
    let e = c.in_ok-entered.entered in
    let matching : Mutual c.in_ok-parties.parties.items e.tasks.items = subst (Mutual c.in_ok-parties.parties.items) c.deref.ensures.value c.in_ok-parties.ensures.matching in
    let all = built_parties P e c.in_ok-entered.ensures c.in_ok-parties.parties.items matching in
    subst (λ (ns : List (List ℕ)). All (All (λ n. n < length c.deref-3.result.now)) ns) (sym c.deref-2.ensures.value) (subst (λ (w : List ℕ). All (All (λ n. n < length w)) c.in_ok-parties.parties.items) (sym c.deref-3.ensures.value) all)

pub returns-clause-keeps : goal.returns-clause-keeps
returns-clause-keeps c =
    let P = c.args.program.now in
    let e = c.in_ok-entered.entered in
    let built = c.in_ok-entered.ensures in
    let matching : Mutual c.in_ok-parties.parties.items e.tasks.items = subst (Mutual c.in_ok-parties.parties.items) c.deref.ensures.value c.in_ok-parties.ensures.matching in
    let left_are : c.in_ok-left.left.items ≡ map (λ ts. length ts) e.tasks.items = first_of (search rules, grind (arith, common_steps)) in
    let held_are : c.in_ok-held.held.items ≡ map (blocked e.waits.items) c.in_ok-parties.parties.items = first_of (search rules, grind (arith, common_steps)) in
    let parties_len : length c.in_ok-parties.parties.items ≡ length P.tasks = first_of (search rules, grind (arith, common_steps)) in
    let unmarked : c.in_ok-vec.field-0.items ≡ replicate (length P.tasks) false = first_of (search rules, grind (arith, common_steps)) in
    Keeps-start P _ c.requires built.holds built.all built.begun.tracks built.begun.waits built.begun.every_wait left_are parties_len matching held_are unmarked c.in_ok-with_capacity-2.ensures.items (grind (arith, common_steps, c.in_ok-with_capacity-2.ensures.exact)) (grind (arith, common_steps, c.in_ok-with_capacity.ensures.exact)) (grind (arith, common_steps, c.in_ok-with_capacity-3.ensures.exact))
