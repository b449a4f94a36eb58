use Rattle.std.proofs.Common.{◌≡◌, ◌<◌, ◌≤◌, [], true, false, is_some, All, length, sym, subst, ◌∙◌, refl, arith}
use Rattle.sj_pool.specs.Queue.{has_fitting}
use Rattle.sj_pool.specs.Pool.{Pooled, queue, turns, lists}
use Rattle.sj_pool.proofs.Keeping.{has-queue}
use Rattle.sj_pool.proofs.Lists.{length-lists}
use Rattle.sj_pool.proofs.Serving.{serving-fits, none-of-all, task-there}
use Rattle.sj_pool.proofs.pool.Pool.take.Goals as goal

pub returns-in-None-clause-none : goal.returns-in-None-clause-none
returns-in-None-clause-none c =
    let qs = c.deref.result.now in
    let same : lists qs ≡ c.args.self.now.queues = grind arith in
    let p = c.self.inside in
    let known : c.args.w.0 < p.workers = subst (λ (v : Pooled). c.args.w.0 < v.workers) (sym c.self.view_is) c.requires in
    let at = has-queue p.policy p.workers p.tasks p.queues.items c.args.w.0 c.self.invariant known in
    let within : c.home.result ≤ length (lists qs) = grind (arith, length-lists qs) in
    let none = none-of-all (lists qs) c.args.room c.home.result within (sym c.in-None.ensures.first) in
    ((λ _. subst (λ ls. All (λ q. has_fitting c.args.room q ≡ false) ls) same none), (λ _. refl))

pub returns-in-Some-clause-none : goal.returns-in-Some-clause-none
returns-in-Some-clause-none c =
    let qs = c.deref.result.now in
    let same : lists qs ≡ c.args.self.now.queues = grind arith in
    let fits = subst (λ ls. has_fitting c.args.room (queue ls c.in-Some.i) ≡ true) same (serving-fits (lists qs) c.args.room (turns (length (lists qs)) c.home.result) c.in-Some.i (sym c.in-Some.ensures.first)) in
    let there = subst (λ o. is_some o ≡ true) (sym c.take_at.ensures.task) (task-there c.args.room (queue c.args.self.now.queues c.in-Some.i) fits) in
    let within : c.in-Some.i < length c.args.self.now.queues = grind (arith, length-lists qs) in
    ((λ e. let both : false ≡ true = sym e ∙ there in absurd (cc)), (λ all. there ∙ sym fits ∙ all c.in-Some.i [] within))
