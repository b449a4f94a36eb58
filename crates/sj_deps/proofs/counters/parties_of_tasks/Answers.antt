use Rattle.std.proofs.Common.{◌≡◌, ◌<◌, ◌+◌, ◌∙◌, List, length, arith, rules, sym, ap, subst, count_by, cond, nat_eq}
use Rattle.std.specs.Prelude.{All}
use Rattle.std.proofs.lemmas.Grind.{common_steps}
use Rattle.sj_base.specs.declared.ids.Task.{Task}
use Rattle.sj_deps.specs.Chains.{is_party}
use Rattle.sj_deps.specs.Counts.{tasks_at, is_task, parties_at}
use Rattle.sj_deps.proofs.Listing.{listed_next, listed_all}
use Rattle.sj_deps.proofs.counters.parties_of_tasks.Goals as goal

pub list_party-requires : goal.list_party-requires
list_party-requires c =
    let row : c.tasks.result.now ≡ tasks_at c.args.tasks.now c.loop-n.n = first_of (search rules, grind (arith, common_steps)) in
    let len : length c.loop-n.parties.items ≡ c.args.count = c.loop-n.invariant.0 in
    subst (λ (ts : List Task). All (λ (x : Task). x.0 < length c.loop-n.parties.items) ts) (sym row) (subst (λ k. All (λ (x : Task). x.0 < k) (tasks_at c.args.tasks.now c.loop-n.n)) (sym len) (c.requires c.loop-n.n))

pub loop-n-preserved : goal.loop-n-preserved
loop-n-preserved c =
    let row : c.tasks.result.now ≡ tasks_at c.args.tasks.now c.loop-n.n = first_of (search rules, grind (arith, common_steps)) in
    (c.in_ok-list_party.ensures.len ∙ c.loop-n.invariant.0, λ t k. listed_next c.args.tasks.now c.loop-n.n t k _ _ (c.loop-n.invariant.1 t k) (c.in_ok-list_party.ensures.listed t k ∙ ap (λ (ts : List Task). count_by (is_party k) (parties_at c.loop-n.parties.items t) + cond (nat_eq c.loop-n.n k) (count_by (is_task t) ts) 0) row))

pub returns-clause-matching : goal.returns-clause-matching
returns-clause-matching c = λ t k. listed_all c.args.tasks.now c.loop-n.n t k _ (omega arith) (c.loop-n.invariant.1 t k)
