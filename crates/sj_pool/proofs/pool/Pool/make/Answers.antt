use Rattle.std.proofs.Common.{◌≡◌, [], List, replicate, sym, subst, arith}
use Rattle.std.proofs.lemmas.Grind.{common_steps}
use Rattle.sj_pool.specs.Queue.{Queued, queued}
use Rattle.sj_pool.specs.Pool.{queue_count, IsPool}
use Rattle.sj_pool.proofs.Keeping.{made}
use Rattle.sj_pool.proofs.pool.Pool.make.Goals as goal

pub invariant_of-result : goal.invariant_of-result
invariant_of-result c =
    let same : c.in_ok-queues.queues.items ≡ replicate (queue_count c.args.policy c.args.workers) (queued [] c.args.tasks) = grind (arith, common_steps) in
    subst (λ (qs : List Queued). IsPool c.args.policy c.args.workers c.args.tasks qs) (sym same) (made c.args.policy c.args.workers c.args.tasks c.requires)
