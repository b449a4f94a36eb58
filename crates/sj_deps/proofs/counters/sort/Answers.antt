use Rattle.std.proofs.Common.{◌≡◌, sym, subst, rules, arith, length}
use Rattle.std.specs.List.Sorted.{IsNonDecreasingBy}
use Rattle.std.proofs.lemmas.Grind.{common_steps}
use Rattle.std.proofs.lemmas.List.{with_items_is}
use Rattle.std.proofs.lemmas.List.Sorted.{IsNonDecreasingBy-from_sort_by_key}
use Rattle.sj_base.specs.declared.ids.Task.{Task}
use Rattle.sj_deps.proofs.counters.sort.Goals as goal

pub returns-clause-sorted : goal.returns-clause-sorted
returns-clause-sorted c =
    let len : length c.sort_unstable_by_key.new.self ≡ c.args.tasks.now.len = grind (arith, common_steps) in
    subst (IsNonDecreasingBy (λ (x : Task). x.0)) (sym (with_items_is c.args.tasks.now c.sort_unstable_by_key.new.self len)) (IsNonDecreasingBy-from_sort_by_key (λ (x : Task). x.0) _ c.sort_unstable_by_key.ensures.sorted (λ a r q k. search rules))
