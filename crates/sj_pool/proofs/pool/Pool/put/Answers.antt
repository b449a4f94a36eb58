use Rattle.std.proofs.Common.{◌≡◌, ◌<◌, false, List, length, sym, subst, to_z, of_z, w32}
use Rattle.sj_pool.specs.declared.entry.Entry.{Entry}
use Rattle.sj_pool.specs.Queue.{Queued}
use Rattle.sj_pool.specs.Pool.{Pooled, contains, IsPool}
use Rattle.sj_pool.proofs.Keeping.{has-queue, has-room, in-order, keeps-put}
use Rattle.sj_pool.proofs.pool.Pool.put.Goals as goal

pub put_at-requires-clause-within : goal.put_at-requires-clause-within
put_at-requires-clause-within c =
    let p = c.self.inside in
    let known = subst (λ (v : Pooled). c.args.by.0 < v.workers) (sym c.self.view_is) c.requires.known_worker in
    let at = subst (λ n. n < length p.queues.items) (sym c.home-i.ensures) (has-queue p.policy p.workers p.tasks p.queues.items c.args.by.0 c.self.invariant known) in
    at

pub put_at-requires-clause-room : goal.put_at-requires-clause-room
put_at-requires-clause-room c =
    let p = c.self.inside in
    let known = subst (λ (v : Pooled). c.args.by.0 < v.workers) (sym c.self.view_is) c.requires.known_worker in
    let at = subst (λ n. n < length p.queues.items) (sym c.home-i.ensures) (has-queue p.policy p.workers p.tasks p.queues.items c.args.by.0 c.self.invariant known) in
    let task = subst (λ (v : Pooled). c.args.t.0 < v.limit) (sym c.self.view_is) c.requires.known_task in
    let absent = subst (λ (v : Pooled). contains v.queues c.args.t.0 ≡ false) (sym c.self.view_is) c.requires.absent in
    has-room p.policy p.workers p.tasks p.queues.items c.home-i.result c.args.t.0 c.self.invariant at task absent

pub put_at-requires-clause-in_order : goal.put_at-requires-clause-in_order
put_at-requires-clause-in_order c =
    let p = c.self.inside in
    let known = subst (λ (v : Pooled). c.args.by.0 < v.workers) (sym c.self.view_is) c.requires.known_worker in
    let at = subst (λ n. n < length p.queues.items) (sym c.home-i.ensures) (has-queue p.policy p.workers p.tasks p.queues.items c.args.by.0 c.self.invariant known) in
    in-order p.policy p.workers p.tasks p.queues.items c.home-i.result c.self.invariant at

pub invariant_of-self : goal.invariant_of-self
invariant_of-self c =
    let p = c.self.inside in
    let known = subst (λ (v : Pooled). c.args.by.0 < v.workers) (sym c.self.view_is) c.requires.known_worker in
    let at = subst (λ n. n < length p.queues.items) (sym c.home-i.ensures) (has-queue p.policy p.workers p.tasks p.queues.items c.args.by.0 c.self.invariant known) in
    let task = subst (λ (v : Pooled). c.args.t.0 < v.limit) (sym c.self.view_is) c.requires.known_task in
    let absent = subst (λ (v : Pooled). contains v.queues c.args.t.0 ≡ false) (sym c.self.view_is) c.requires.absent in
    let e : Entry = record { task = c.args.t; priority = to_z w32 (of_z w32 c.args.priority); bytes = c.args.bytes } in
    subst (λ (qs : List Queued). IsPool p.policy p.workers p.tasks qs) (sym c.put_at.ensures)
    (keeps-put p.policy p.workers p.tasks p.queues.items c.home-i.result e c.self.invariant at task absent)
