use Rattle.std.proofs.Common.{◌<◌, List, length, sym, subst}
use Rattle.sj_pool.specs.Queue.{Queued}
use Rattle.sj_pool.specs.Pool.{Pooled, IsPool}
use Rattle.sj_pool.proofs.Keeping.{keeps-taken}
use Rattle.sj_pool.proofs.Lists.{length-lists}
use Rattle.sj_pool.proofs.pool.Pool.take_at.Goals as goal

pub invariant_of-self : goal.invariant_of-self
invariant_of-self c =
    let p = c.self.inside in
    let within = subst (λ (v : Pooled). c.args.i < length v.queues) (sym c.self.view_is) c.requires in
    let at : c.args.i < length p.queues.items = subst (λ n. c.args.i < n) (length-lists p.queues.items) within in
    subst (λ (qs : List Queued). IsPool p.policy p.workers p.tasks qs) (sym c.take_first.ensures.rest)
    (keeps-taken p.policy p.workers p.tasks p.queues.items c.args.i c.args.room c.self.invariant at)
