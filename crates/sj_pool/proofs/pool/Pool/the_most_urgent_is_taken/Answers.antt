use Rattle.std.proofs.Common.{◌≡◌, ◌∙◌, IfSome, ap, sym, subst, length}
use Rattle.std.proofs.lemmas.List.{length-map}
use Rattle.sj_base.specs.declared.mode.Policy.TheVariants.{Prio}
use Rattle.sj_pool.specs.Pool.{Pooled, pooled, queue_count, entry_for, lists, IsMostUrgent}
use Rattle.sj_pool.proofs.Urgency.{most-urgent}
use Rattle.sj_pool.proofs.pool.Pool.the_most_urgent_is_taken.Goals as goal

pub returns : goal.returns
returns c =
    let p = c.self.inside in
    let keeps = c.self.invariant in
    let is : p.policy ≡ Prio = ap (λ (v : Pooled). v.policy) c.self.view_is ∙ c.requires in
    let count : length (lists p.queues.items) ≡ 1 = length-map p.queues.items (λ q. q.entries) ∙ keeps.count ∙ ap (λ z. queue_count z p.workers) is in
    let law = most-urgent p.workers p.tasks (lists p.queues.items) c.args.w.0 c.args.room count (keeps.by_urgency is) in
    subst (λ (v : Pooled). IfSome (entry_for v c.args.w.0 c.args.room) (λ e. IsMostUrgent e c.args.room v.queues)) c.self.view_is
    (subst (λ z. IfSome (entry_for (pooled z p.workers p.tasks (lists p.queues.items)) c.args.w.0 c.args.room) (λ e. IsMostUrgent e c.args.room (lists p.queues.items))) (sym is) law)
