use Rattle.sj_lower.proofs.Words.{[], access_by, Active, actives_after_writes, All, ap, AreIn, List, Lowered, lowered_task, map, refl, subst, sym, ◌++◌, ◌∙◌, ◌∷◌}
use Rattle.sj_meaning.specs.declared.job.Act.TheVariants as kept
use Rattle.sj_meaning.specs.declared.job.Operand.{Operand}
use Rattle.sj_lower.proofs.{Following.can-pass, Tracking.are-in, Tracking.does-task}
use Rattle.sj_lower.proofs.lowerer.Lowerer.task.Goals as goal

pub accesses-requires : goal.accesses-requires
accesses-requires c =
    let r = c.requires.next in
    let old = c.args.self.now in
    subst (λ (as' : List Active). All (AreIn as') c.items-operands.result.now) (sym c.deref.ensures.value)
    (subst (λ (os : List Operand). All (AreIn old.actives.items) os) (sym c.items-operands.ensures) (are-in c.args.roots.now old c.args.task r.state r.lowering (can-pass c.args.roots.now old (kept.Task c.args.task) r.state r.lowering r.next)))

pub write_all-requires : goal.write_all-requires
write_all-requires c =
    let r = c.requires.next in
    let old = c.args.self.now in
    subst (λ (os : List Operand). All (AreIn old.actives.items) os) (sym c.items-operands.ensures) (are-in c.args.roots.now old c.args.task r.state r.lowering (can-pass c.args.roots.now old (kept.Task c.args.task) r.state r.lowering r.next))

pub returns-clause-does : goal.returns-clause-does
returns-clause-does c =
    let T = c.args.roots.now in
    let old = c.args.self.now in
    let task = c.args.task in
    let accesses = c.in_ok-accesses.ensures ∙ (λ i. map (access_by (c.deref.ensures.value i)) (c.items-operands.ensures i)) in
    does-task T old _ task c.args.line
    (c.in_ok-push.ensures.items ∙ ap (λ (l : Lowered). old.tasks.items ++ l ∷ []) (c.lowered_task.ensures ∙ ap (lowered_task task c.args.line) accesses))
    refl refl refl
    (c.in_ok-write_all.ensures ∙ ap (λ (os : List Operand). actives_after_writes os old.actives.items) c.items-operands.ensures)
