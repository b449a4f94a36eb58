use Rattle.std.proofs.Common.{◌≡◌, ◌+◌, List, subst, arith, cond, count_by, nat_eq}
use Rattle.std.proofs.lemmas.List.{take_all}
use Rattle.sj_base.specs.declared.ids.Task.{Task}
use Rattle.sj_deps.specs.Chains.{is_party}
use Rattle.sj_deps.specs.Counts.{is_task, parties_at}
use Rattle.sj_deps.proofs.counters.list_party.Goals as goal

pub returns-clause-listed : goal.returns-clause-listed
returns-clause-listed c = λ t k. subst (λ (ts : List Task). count_by (is_party k) (parties_at c.loop-task.parties.items t) ≡ count_by (is_party k) (parties_at c.args.parties.now.items t) + cond (nat_eq c.args.n k) (count_by (is_task t) ts) 0) (take_all c.loop-task.task-index c.args.tasks.now (omega arith)) (c.loop-task.invariant.1 t k)
