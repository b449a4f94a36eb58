use Rattle.std.proofs.Common.{sym, subst}
use Rattle.std.specs.Prelude.{IfOk, IfErr}
use Rattle.sj_job.specs.declared.form.Form.{Form}
use Rattle.sj_job.specs.Names.{scope_in}
use Rattle.sj_job.specs.Reason.{Objects}
use Rattle.sj_job.specs.Submits.{act_of_form, Submits}
use Rattle.std.proofs.lemmas.Result.{IfErr-weaker}
use Rattle.sj_job.proofs.Submitting.{weaker_ok}
use Rattle.sj_job.proofs.submit.submit.Goals as goal

pub returns-in-Print-clause-ok : goal.returns-in-Print-clause-ok
returns-in-Print-clause-ok g c =
    subst (λ (f : Form). IfOk c.submit_print.result (λ a. Submits g.C.Codelets.has c.args.names.now f c.submit_print.new.names a)) (sym c.in-Print.is)
    (weaker_ok c.submit_print.result (λ a h. h g.C.Codelets.has) c.submit_print.ensures.ok)

pub returns-in-Print-clause-err : goal.returns-in-Print-clause-err
returns-in-Print-clause-err g c =
    subst (λ (f : Form). IfErr c.submit_print.result (λ e. Objects e (act_of_form g.C.Codelets.has (scope_in c.args.names.now) f))) (sym c.in-Print.is)
    (IfErr-weaker c.submit_print.result _ _ (λ e h. h g.C.Codelets.has) c.submit_print.ensures.err)

pub returns-in-Invalidate-clause-ok : goal.returns-in-Invalidate-clause-ok
returns-in-Invalidate-clause-ok g c =
    subst (λ (f : Form). IfOk c.submit_invalidation.result (λ a. Submits g.C.Codelets.has c.args.names.now f c.submit_invalidation.new.names a)) (sym c.in-Invalidate.is)
    (weaker_ok c.submit_invalidation.result (λ a h. h g.C.Codelets.has) c.submit_invalidation.ensures.ok)

pub returns-in-Invalidate-clause-err : goal.returns-in-Invalidate-clause-err
returns-in-Invalidate-clause-err g c =
    subst (λ (f : Form). IfErr c.submit_invalidation.result (λ e. Objects e (act_of_form g.C.Codelets.has (scope_in c.args.names.now) f))) (sym c.in-Invalidate.is)
    (IfErr-weaker c.submit_invalidation.result _ _ (λ e h. h g.C.Codelets.has) c.submit_invalidation.ensures.err)

pub returns-in-Unregister-clause-ok : goal.returns-in-Unregister-clause-ok
returns-in-Unregister-clause-ok g c =
    subst (λ (f : Form). IfOk c.submit_ending.result (λ a. Submits g.C.Codelets.has c.args.names.now f c.submit_ending.new.names a)) (sym c.in-Unregister.is)
    (weaker_ok c.submit_ending.result (λ a h. h g.C.Codelets.has) c.submit_ending.ensures.ok)

pub returns-in-Unregister-clause-err : goal.returns-in-Unregister-clause-err
returns-in-Unregister-clause-err g c =
    subst (λ (f : Form). IfErr c.submit_ending.result (λ e. Objects e (act_of_form g.C.Codelets.has (scope_in c.args.names.now) f))) (sym c.in-Unregister.is)
    (IfErr-weaker c.submit_ending.result _ _ (λ e h. h g.C.Codelets.has) c.submit_ending.ensures.err)

pub returns-in-Plan-clause-ok : goal.returns-in-Plan-clause-ok
returns-in-Plan-clause-ok g c =
    subst (λ (f : Form). IfOk c.submit_plan.result (λ a. Submits g.C.Codelets.has c.args.names.now f c.submit_plan.new.names a)) (sym c.in-Plan.is)
    (weaker_ok c.submit_plan.result (λ a h. h g.C.Codelets.has) c.submit_plan.ensures.ok)

pub returns-in-Plan-clause-err : goal.returns-in-Plan-clause-err
returns-in-Plan-clause-err g c =
    subst (λ (f : Form). IfErr c.submit_plan.result (λ e. Objects e (act_of_form g.C.Codelets.has (scope_in c.args.names.now) f))) (sym c.in-Plan.is)
    (IfErr-weaker c.submit_plan.result _ _ (λ e h. h g.C.Codelets.has) c.submit_plan.ensures.err)

pub returns-in-Redux-clause-ok : goal.returns-in-Redux-clause-ok
returns-in-Redux-clause-ok g c =
    subst (λ (f : Form). IfOk c.submit_reduction.result (λ a. Submits g.C.Codelets.has c.args.names.now f c.submit_reduction.new.names a)) (sym c.in-Redux.is)
    (weaker_ok c.submit_reduction.result (λ a h. h g.C.Codelets.has) c.submit_reduction.ensures.ok)

pub returns-in-Redux-clause-err : goal.returns-in-Redux-clause-err
returns-in-Redux-clause-err g c =
    subst (λ (f : Form). IfErr c.submit_reduction.result (λ e. Objects e (act_of_form g.C.Codelets.has (scope_in c.args.names.now) f))) (sym c.in-Redux.is)
    (IfErr-weaker c.submit_reduction.result _ _ (λ e h. h g.C.Codelets.has) c.submit_reduction.ensures.err)
