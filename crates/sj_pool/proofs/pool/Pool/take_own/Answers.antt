use Rattle.std.proofs.Common.{◌<◌, List, length, sym, subst}
use Rattle.sj_pool.specs.Queue.{Queued}
use Rattle.sj_pool.specs.Pool.{Pooled, IsPool}
use Rattle.sj_pool.proofs.Keeping.{has-queue, keeps-taken}
use Rattle.sj_pool.proofs.pool.Pool.take_own.Goals as goal

pub invariant_of-self : goal.invariant_of-self
invariant_of-self c =
    let p = c.self.inside in
    let known = subst (λ (v : Pooled). c.args.w.0 < v.workers) (sym c.self.view_is) c.requires in
    let at = subst (λ n. n < length p.queues.items) (sym c.home-i.ensures) (has-queue p.policy p.workers p.tasks p.queues.items c.args.w.0 c.self.invariant known) in
    subst (λ (qs : List Queued). IsPool p.policy p.workers p.tasks qs) (sym c.take_first.ensures.rest)
    (keeps-taken p.policy p.workers p.tasks p.queues.items c.home-i.result c.args.room c.self.invariant at)
