use Rattle.sj_lower.proofs.Words.{act_seen, Does, Kept, length, MayComeNext, most, refl, rows_added, subst, sym, ◌+◌, ◌≤◌}
use Rattle.std.specs.Prelude.{vec_len}
use Rattle.sj_lower.proofs.Following.{does-unregister}
use Rattle.sj_lower.proofs.lowerer.Lowerer.add.Goals as goal

pub print-requires-clause-few : goal.print-requires-clause-few
print-requires-clause-few c = λ S L C next.
    subst (λ (a : Kept). vec_len c.args.self.now.tasks + length (rows_added S C c.args.line (act_seen c.args.roots.now (vec_len c.args.self.now.actives) a)) ≤ most) c.in-Print.is
    (c.requires.few S L C (subst (λ (a : Kept). MayComeNext c.args.roots.now c.args.self.now a S L) (sym c.in-Print.is) next))

pub returns-in_ok-register-in-Register-clause-does : goal.returns-in_ok-register-in-Register-clause-does
returns-in_ok-register-in-Register-clause-does c =
    subst (λ (a : Kept). Does c.args.roots.now c.args.self.now c.register.new.self a c.args.first c.args.line) (sym c.in-Register.is) c.in_ok-register-in-Register.ensures.does

pub returns-in_ok-plan-in-Plan-clause-does : goal.returns-in_ok-plan-in-Plan-clause-does
returns-in_ok-plan-in-Plan-clause-does c =
    subst (λ (a : Kept). Does c.args.roots.now c.args.self.now c.plan.new.self a c.args.first c.args.line) (sym c.in-Plan.is) c.in_ok-plan-in-Plan.ensures.does

pub returns-in-Redux-clause-does : goal.returns-in-Redux-clause-does
returns-in-Redux-clause-does c =
    subst (λ (a : Kept). Does c.args.roots.now c.args.self.now c.reduce.new.self a c.args.first c.args.line) (sym c.in-Redux.is) (λ S L next place. c.reduce.ensures.does S L next refl)

pub returns-in_ok-task-in-Task-clause-does : goal.returns-in_ok-task-in-Task-clause-does
returns-in_ok-task-in-Task-clause-does c =
    subst (λ (a : Kept). Does c.args.roots.now c.args.self.now c.task.new.self a c.args.first c.args.line) (sym c.in-Task.is) (λ S L next place. c.in_ok-task-in-Task.ensures.does S L next refl)

pub returns-in_ok-print-in-Print-clause-does : goal.returns-in_ok-print-in-Print-clause-does
returns-in_ok-print-in-Print-clause-does c =
    subst (λ (a : Kept). Does c.args.roots.now c.args.self.now c.print.new.self a c.args.first c.args.line) (sym c.in-Print.is) (λ S L next place. c.in_ok-print-in-Print.ensures.does S L next refl)

pub returns-in-Invalidate-clause-does : goal.returns-in-Invalidate-clause-does
returns-in-Invalidate-clause-does c =
    subst (λ (a : Kept). Does c.args.roots.now c.args.self.now c.invalidate.new.self a c.args.first c.args.line) (sym c.in-Invalidate.is) (λ S L next place. c.invalidate.ensures.does S L next refl)

pub returns-in-Unregister-clause-does : goal.returns-in-Unregister-clause-does
returns-in-Unregister-clause-does c =
    subst (λ (a : Kept). Does c.args.roots.now c.args.self.now c.args.self.now a c.args.first c.args.line) (sym c.in-Unregister.is) (λ S L next place. does-unregister c.args.roots.now c.args.self.now c.in-Unregister.field-0 c.args.line S L next refl)
